-- Of the first k blocks those that have a life are put.
use Rattle.file_put.proofs.Laying.{BlocksTo}
use Rattle.file_put.proofs.blocks.put_blocks.Given as goal

abbrev pub invariant-loop-k : goal.invariant-loop-k
invariant-loop-k l = BlocksTo l.store l.blocks l.kind l.fn.out l.at l.k l.out l.next
