-- `occupation_read::occupied_cells`: no window, one more, and all of them.
use Rattle.std.proofs.Common.{arith}
use Rattle.occupation_read.proofs.Counting.{counting_start, counting_fits, counting_more, counting_done}
use Rattle.occupation_read.proofs.occupied_cells.Goals as goal

pub loop-k-init : goal.loop-k-init
loop-k-init c = counting_start c.requires

pub overflow_add-occupied : goal.overflow_add-occupied
overflow_add-occupied c =
    omega (arith, counting_fits c.loop-k.invariant c.count-k-end.ensures c.loop-k-test.true c.at-start.ensures.start c.at-start.ensures.end c.saturating_sub.ensures _ _ c.min-occupied.ensures)

pub loop-k-preserved : goal.loop-k-preserved
loop-k-preserved c =
    counting_more c.loop-k.invariant c.count-k-end.ensures c.loop-k-test.true c.at-start.ensures.start c.at-start.ensures.end c.saturating_sub.ensures c.min-occupied.ensures
    c.busy_sum-busy.ensures.of_ledger

pub returns-clause-of_ledger : goal.returns-clause-of_ledger
returns-clause-of_ledger c = counting_done c.loop-k.invariant c.count-k-end.ensures c.loop-k-test.false
