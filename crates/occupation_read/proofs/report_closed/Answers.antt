-- `occupation_read::report_closed`: 25, 14, 15 and 37, and the report.
use Rattle.std.proofs.Common.{arith}
use Rattle.history.proofs.OccupationLaws.{reported}
use Rattle.occupation_read.proofs.Answering.{report_25, report_14, report_15, report_37, report_told}
use Rattle.occupation_read.proofs.report_closed.Goals as goal

pub returns-then-not-has : goal.returns-then-not-has
returns-then-not-has c = report_25 c.kinds.ensures c.has.ensures c.if-not-has.true

pub returns-then-end-tick : goal.returns-then-end-tick
returns-then-end-tick c = report_14 c.kinds.ensures c.has.ensures c.if-not-has.false c.end.ensures c.if-end-tick.true

pub returns-then-not-are_forward : goal.returns-then-not-are_forward
returns-then-not-are_forward c =
    report_15 c.kinds.ensures c.has.ensures c.if-not-has.false c.end.ensures c.if-end-tick.false c.are_forward.ensures c.if-not-are_forward.true

pub returns-in_default : goal.returns-in_default
returns-in_default c =
    report_37 c.kinds.ensures c.has.ensures c.if-not-has.false c.end.ensures c.if-end-tick.false c.are_forward.ensures c.if-not-are_forward.false c.in_default.ensures

pub report_on-requires-clause-some : goal.report_on-requires-clause-some
report_on-requires-clause-some c = let r = reported _ c.in-Some.ensures.0 in omega (arith, r.0, c.in-Some.ensures.1)

pub report_on-requires-clause-most : goal.report_on-requires-clause-most
report_on-requires-clause-most c = let r = reported _ c.in-Some.ensures.0 in omega (arith, r.1, c.in-Some.ensures.1)

pub returns : goal.returns
returns c =
    report_told c.kinds.ensures c.has.ensures c.if-not-has.false c.end.ensures c.if-end-tick.false c.are_forward.ensures c.if-not-are_forward.false
    c.in-Some.ensures.0 c.in-Some.ensures.1 c.occupied_cells-occupied.ensures.of_ledger c.report_on.ensures
