use native.Mathlib.Omega.{arith}
use Rattle.recording.proofs.Updating.{splitting}
use Rattle.recording.proofs.split.Goals as goal

pub returns : goal.returns
returns c = grind (arith, splitting)
