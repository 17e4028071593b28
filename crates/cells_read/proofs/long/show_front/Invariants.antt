use Rattle.std.proofs.Common.{◌+◌, ◌-◌}
use Rattle.cells_read.specs.Long.{Reached}
use Rattle.cells_read.proofs.long.show_front.Given as goal

abbrev pub invariant-loop-paid : goal.invariant-loop-paid
invariant-loop-paid l = Reached l.closed.blocks.now l.store l.closed.nodes.now l.closed.entries.now l.kind l.tick l.start l.end l.place l.bytes l.held

abbrev pub decreases-loop-paid : goal.decreases-loop-paid
decreases-loop-paid l = l.end - l.place + l.paid
