use native.Mathlib.Omega.{arith}
use Rattle.index_finish.proofs.Trying.{trying}
use Rattle.index_finish.proofs.trial.blocks_apart.Goals as goal

pub returns : goal.returns
returns c = grind (arith, trying)
