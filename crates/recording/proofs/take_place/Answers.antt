use native.Mathlib.Omega.{arith}
use Rattle.recording.proofs.Placing.{placing}
use Rattle.recording.proofs.take_place.Goals as goal

pub returns : goal.returns
returns c = grind (arith, placing)
