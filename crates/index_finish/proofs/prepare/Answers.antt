use native.Mathlib.Omega.{arith}
use Rattle.index_finish.proofs.Finishing.{preparing}
use Rattle.index_finish.proofs.prepare.Goals as goal

pub returns : goal.returns
returns c = grind (arith, preparing)
