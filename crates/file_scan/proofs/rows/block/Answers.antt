-- Each return of `rows::block` is one step of the reader.
use Rattle.std.proofs.Common.{arith}
use Rattle.std.proofs.lemmas.Result.{err_from_is_err_and}
use Rattle.file_scan.proofs.RowReads.{block_ends, block_kind, block_four_ends, block_short, block_all}
use Rattle.file_scan.proofs.rows.block.Goals as goal

pub returns-in_err-own-clause-read : goal.returns-in_err-own-clause-read
returns-in_err-own-clause-read c =
    let p = err_from_is_err_and c.from_residual.result c.from_residual.ensures.1 in
    rw (p.1, p.2) (block_ends _ _ c.byte.ensures.given c.in_err-own.ensures.value)

pub returns-then-own-kind-clause-read : goal.returns-then-own-kind-clause-read
returns-then-own-kind-clause-read c = block_kind _ _ c.byte.ensures.given c.in_ok-own.ensures.ok_part (λ e. omega arith)

pub returns-in_err-first-clause-read : goal.returns-in_err-first-clause-read
returns-in_err-first-clause-read c =
    let p = err_from_is_err_and c.from_residual-in_err-first.result c.from_residual-in_err-first.ensures.1 in
    rw (p.1, p.2) (block_four_ends _ _ c.byte.ensures.given c.in_ok-own.ensures.ok_part c.if-own-kind.false _ c.four.ensures c.in_err-first.ensures.value)

pub returns-in_err-bytes-clause-read : goal.returns-in_err-bytes-clause-read
returns-in_err-bytes-clause-read c =
    let p = err_from_is_err_and c.from_residual-in_err-bytes.result c.from_residual-in_err-bytes.ensures.1 in
    rw (p.1, p.2)
    (block_short _ _ c.byte.ensures.given c.in_ok-own.ensures.ok_part c.if-own-kind.false _ c.four.ensures c.in_ok-first.ensures.ok_part _ c.bytes.ensures.given
    c.in_err-bytes.ensures.value)

pub returns-clause-read : goal.returns-clause-read
returns-clause-read c =
    block_all _ _ c.byte.ensures.given c.in_ok-own.ensures.ok_part c.if-own-kind.false _ c.four.ensures c.in_ok-first.ensures.ok_part _ c.bytes.ensures.given
    c.in_ok-bytes.ensures.ok_part
