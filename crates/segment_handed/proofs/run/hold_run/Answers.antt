use native.Mathlib.Omega.{arith}
use Rattle.segment_test.proofs.Running.{run_more}
use Rattle.segment_handed.proofs.Holding.{rows_none, run_starts, run_holds}
use Rattle.segment_handed.proofs.run.hold_run.Goals as goal

pub loop-j-init : goal.loop-j-init
loop-j-init c = (rows_none, run_starts)

pub loop-j-preserved : goal.loop-j-preserved
loop-j-preserved c = (
  run_more c.loop-j.invariant.0 c.test_entry.ensures c.if-not-test_entry.false c.follows.ensures c.if-not-follows.false,
  run_holds c.loop-j-test.true c.loop-j.invariant.1 c.entry-k.ensures c.read-row.ensures (omega arith) c.end-place.ensures c.hold_block.ensures c.if-not-hold_block.false,
)
