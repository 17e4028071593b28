-- Tables that say closed and have no tree of a closed index are not well formed.
use native.Mathlib.Omega.{arith}
use Rattle.index_test.proofs.Tested.{testing}
use Rattle.index_test.proofs.test.Goals as goal

pub returns : goal.returns
returns c = search (testing, arith)
