-- Of the first k blocks the numbers of those that have a life are put.
use Rattle.file_put.proofs.Laying.{ListedTo}
use Rattle.file_nodes.proofs.numbers.put_living.Given as goal

abbrev pub invariant-loop-k : goal.invariant-loop-k
invariant-loop-k l = ListedTo l.blocks l.kind l.fn.out l.at l.k l.out l.next
