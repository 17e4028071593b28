-- The parts of the first `kind` kinds are written.
use Rattle.file_write.proofs.Answering.{WrittenTo}
use Rattle.file_write.proofs.write_parts.Given as goal

abbrev pub invariant-loop-kind : goal.invariant-loop-kind
invariant-loop-kind l = WrittenTo l.closed.blocks.now l.store l.closed.nodes.now l.closed.entries.now l.fn.out l.kind l.out l.at
