use native.Mathlib.Omega.{arith}
use Rattle.recording.proofs.Placing.{clearing_after}
use Rattle.recording.proofs.clear_after.Goals as goal

pub returns : goal.returns
returns c = grind (arith, clearing_after)
