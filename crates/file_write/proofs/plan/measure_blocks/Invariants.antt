-- Those of the first `number` blocks go into the room.
use Rattle.file_write.proofs.Planning.{Measured}
use Rattle.file_write.proofs.plan.measure_blocks.Given as goal

abbrev pub invariant-loop-number : goal.invariant-loop-number
invariant-loop-number l = Measured l.blocks l.kind l.room l.number l.living l.left
