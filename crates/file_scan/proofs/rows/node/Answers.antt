-- Each return of `rows::node` is one step of the reader.
use Rattle.std.proofs.lemmas.Result.{err_from_is_err_and}
use Rattle.file_scan.proofs.RowReads.{node_ends, node_presence, node_absent, node_four_ends, node_short, node_all}
use Rattle.file_scan.proofs.rows.node.Goals as goal

pub returns-in_err-presence-clause-read : goal.returns-in_err-presence-clause-read
returns-in_err-presence-clause-read c =
    let p = err_from_is_err_and c.from_residual.result c.from_residual.ensures.1 in
    rw (p.1, p.2) (node_ends _ c.byte.ensures.given c.in_err-presence.ensures.value)

pub returns-then-presence-gt-PRESENT-clause-read : goal.returns-then-presence-gt-PRESENT-clause-read
returns-then-presence-gt-PRESENT-clause-read c = node_presence _ c.byte.ensures.given c.in_ok-presence.ensures.ok_part c.if-presence-gt-PRESENT.true

pub returns-then-presence-eq-ABSENT-clause-read : goal.returns-then-presence-eq-ABSENT-clause-read
returns-then-presence-eq-ABSENT-clause-read c = node_absent _ c.byte.ensures.given c.in_ok-presence.ensures.ok_part c.if-presence-eq-ABSENT.true

pub returns-in_err-min-clause-read : goal.returns-in_err-min-clause-read
returns-in_err-min-clause-read c =
    let p = err_from_is_err_and c.from_residual-in_err-min.result c.from_residual-in_err-min.ensures.1 in
    rw (p.1, p.2)
    (node_four_ends _ c.byte.ensures.given c.in_ok-presence.ensures.ok_part c.if-presence-gt-PRESENT.false c.if-presence-eq-ABSENT.false _ c.four.ensures
    c.in_err-min.ensures.value)

pub returns-in_err-ok_or-clause-read : goal.returns-in_err-ok_or-clause-read
returns-in_err-ok_or-clause-read c =
    let p = err_from_is_err_and c.from_residual-in_err-ok_or.result c.from_residual-in_err-ok_or.ensures.1 in
    rw (p.1, p.2)
    (node_short _ c.byte.ensures.given c.in_ok-presence.ensures.ok_part c.if-presence-gt-PRESENT.false c.if-presence-eq-ABSENT.false _ c.four.ensures
    c.in_ok-min.ensures.ok_part c.saturating_mul-size.ensures _ c.bytes.ensures.given c.in_err-ok_or.ensures.value)

pub returns-clause-read : goal.returns-clause-read
returns-clause-read c =
    node_all _ c.byte.ensures.given c.in_ok-presence.ensures.ok_part c.if-presence-gt-PRESENT.false c.if-presence-eq-ABSENT.false _ c.four.ensures
    c.in_ok-min.ensures.ok_part c.saturating_mul-size.ensures _ c.bytes.ensures.given c.in_ok-ok_or.ensures.ok_part c.bytes.ensures.within
