-- The right half of a wide interval starts in its middle.
use Rattle.std.proofs.Common.{arith}
use Rattle.std.proofs.Common.{◌∙◌}
use Rattle.file_fill.proofs.Places.{start_narrow, start_middle}
use Rattle.file_fill.proofs.nodes.right_start.Goals as goal

pub returns-then-saturating_sub-le1 : goal.returns-then-saturating_sub-le1
returns-then-saturating_sub-le1 c = start_narrow _ _ (omega arith)

pub returns-else-saturating_sub-le1 : goal.returns-else-saturating_sub-le1
returns-else-saturating_sub-le1 c = λ k. c.middle_of.ensures k ∙ start_middle _ _ (omega arith)
