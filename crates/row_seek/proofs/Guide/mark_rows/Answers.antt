use native.Mathlib.Omega.{arith}
use Rattle.row_seek.proofs.Marking.{guided}
use Rattle.row_seek.proofs.Guide.mark_rows.Goals as goal

pub returns : goal.returns
returns c =
    guided c.mark.ensures.marked c.fill.ensures c.read-last.ensures.destroyed c.slot_of.ensures c.saturating_add.ensures c.min-used.ensures (omega (arith, c.mark.ensures.long))
