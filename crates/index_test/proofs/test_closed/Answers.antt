-- The trees are not those of the blocks.
use native.Mathlib.Omega.{arith}
use Rattle.index_test.proofs.Tested.{closing}
use Rattle.index_test.proofs.test_closed.Goals as goal

pub returns-else-found : goal.returns-else-found
returns-else-found c = search (closing, arith)
