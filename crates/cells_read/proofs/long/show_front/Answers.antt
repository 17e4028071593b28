use Rattle.cells_read.proofs.Running.{reached_more}
use Rattle.cells_read.proofs.long.show_front.Goals as goal

pub loop-paid-preserved : goal.loop-paid-preserved
loop-paid-preserved c = reached_more c.loop-paid.invariant c.if-place-end.true c.show_run-past.ensures
