use Rattle.segment_test.proofs.Totalling.{tiled_none, tiled_over}
use Rattle.segment_test.proofs.total.test_runs.Goals as goal

pub loop-k-init : goal.loop-k-init
loop-k-init c = tiled_none

pub returns-then-total-begin : goal.returns-then-total-begin
returns-then-total-begin c =
    tiled_over c.used-k-end.ensures c.get-total.ensures c.loop-k.invariant c.loop-k-test.true c.node-many.ensures c.if-total-begin.true
