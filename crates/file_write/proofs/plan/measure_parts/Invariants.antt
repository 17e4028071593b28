-- The parts of the first `kind` kinds go into the room.
use Rattle.file_write.proofs.Planning.{PartsTo}
use Rattle.file_write.proofs.plan.measure_parts.Given as goal

abbrev pub invariant-loop-kind : goal.invariant-loop-kind
invariant-loop-kind l = PartsTo l.closed.blocks.now l.closed.nodes.now l.room l.kind l.used
