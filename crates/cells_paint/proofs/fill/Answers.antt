use Rattle.std.proofs.Common.{arith}
use Rattle.cells_paint.proofs.Drawing.{filled_part}
use Rattle.cells_paint.proofs.fill.Goals as goal

pub returns : goal.returns
returns c = filled_part _ _ _ _ _ _ c.requires (omega arith) (c.fill.ensures.after (λ y e. e))
