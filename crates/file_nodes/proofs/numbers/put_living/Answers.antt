-- After the last turn all are put.
use Rattle.std.proofs.Common.{arith}
use Rattle.file_put.proofs.Laying.{list_all}
use Rattle.file_nodes.proofs.numbers.put_living.Goals as goal

pub returns : goal.returns
returns c = list_all _ _ _ _ _ _ _ _ c.loop-k.invariant (omega arith) (omega arith)
