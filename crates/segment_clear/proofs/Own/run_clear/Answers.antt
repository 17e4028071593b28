use Rattle.segment_clear.proofs.Clearing.{run_last, run_own, run_other}
use Rattle.segment_clear.proofs.Own.run_clear.Goals as goal

pub returns-then-last-self : goal.returns-then-last-self
returns-then-last-self c = run_last c.lower-row.ensures c.if-row-rows.false c.get-last.ensures c.if-last-self.true c.ends_by.ensures

pub returns-then-row-rows-2 : goal.returns-then-row-rows-2
returns-then-row-rows-2 c = run_own c.lower-row.ensures c.if-row-rows.false c.get-last.ensures c.if-last-self.false c.if-row-rows-2.true

pub returns : goal.returns
returns c =
    run_other c.lower-row.ensures c.if-row-rows.false c.get-last.ensures c.if-last-self.false c.if-row-rows-2.false c.get-other.ensures
    c.ends_by-2.ensures
