use native.Mathlib.Omega.{arith}
use Rattle.recording.proofs.Updating.{updating}
use Rattle.recording.proofs.apply_update.Goals as goal

pub returns-then-cut_first : goal.returns-then-cut_first
returns-then-cut_first c = grind (arith, updating)

pub returns : goal.returns
returns c = grind (arith, updating)
