-- Each return of `scan` is one step of the reader.
use Rattle.std.proofs.lemmas.Result.{err_from_is_err_and}
use Rattle.file_scan.proofs.Scanning.{scan_ends, scan_kind, scan_count-ends, scan_blocks, scan_nodes, scan_all}
use Rattle.file_scan.proofs.scan.Goals as goal

pub returns-in_err-code : goal.returns-in_err-code
returns-in_err-code c =
    let p = err_from_is_err_and c.from_residual.result c.from_residual.ensures.1 in
    rw (p.1, p.2) (scan_ends _ c.byte.ensures.given c.in_err-code.ensures.value)

pub returns-in_default : goal.returns-in_default
returns-in_default c = scan_kind _ c.byte.ensures.given c.in_ok-code.ensures.ok_part c.in_default.ensures

pub returns-in_err-count : goal.returns-in_err-count
returns-in_err-count c =
    let p = err_from_is_err_and c.from_residual-in_err-count.result c.from_residual-in_err-count.ensures.1 in
    rw (p.1, p.2) (scan_count-ends _ c.byte.ensures.given c.in_ok-code.ensures.ok_part c.in-Ok.ensures.1 _ c.number.ensures.given c.in_err-count.ensures.value)

pub returns-in_err-bytes : goal.returns-in_err-bytes
returns-in_err-bytes c =
    let p = err_from_is_err_and c.from_residual-in_err-bytes.result c.from_residual-in_err-bytes.ensures.1 in
    rw (p.1, p.2)
    (scan_blocks _ c.byte.ensures.given c.in_ok-code.ensures.ok_part c.in-Ok.ensures.1 _ c.number.ensures.given c.in_ok-count.ensures.ok_part _ c.in_err-bytes.ensures)

pub returns-in_err-nodes : goal.returns-in_err-nodes
returns-in_err-nodes c =
    let p = err_from_is_err_and c.from_residual-in_err-nodes.result c.from_residual-in_err-nodes.ensures.1 in
    rw (p.1, p.2)
    (scan_nodes _ c.byte.ensures.given c.in_ok-code.ensures.ok_part c.in-Ok.ensures.1 _ c.number.ensures.given c.in_ok-count.ensures.ok_part c.in_ok-bytes.ensures
    _ c.in_err-nodes.ensures)

pub returns : goal.returns
returns c =
    rw c.in-Ok.ensures.0
    (scan_all _ c.byte.ensures.given c.in_ok-code.ensures.ok_part c.in-Ok.ensures.1 _ c.number.ensures.given c.in_ok-count.ensures.ok_part c.in_ok-bytes.ensures
    c.in_ok-nodes.ensures)
