use Rattle.cells_paint.proofs.Drawing.{painted_whole}
use Rattle.cells_paint.proofs.Ways.{shown_none, shown_before}
use Rattle.cells_paint.proofs.show.Goals as goal

pub returns-in-Some : goal.returns-in-Some
returns-in-Some c = shown_before _ _ (c.fill.ensures.after (λ y e. e)) (c.fill-2.ensures.after (λ y e. e)) c.end.ensures c.root-root.ensures c.paint_way-before.ensures c.in-Some.is (painted_whole c.paint.ensures)

pub returns-in_default : goal.returns-in_default
returns-in_default c = shown_none _ _ (c.fill.ensures.after (λ y e. e)) (c.fill-2.ensures.after (λ y e. e)) c.end.ensures c.root-root.ensures c.paint_way-before.ensures c.in_default.is
