use Rattle.cells_paint.proofs.Rows.{Rowing}
use Rattle.cells_paint.proofs.paint_rows.Given as goal

abbrev pub invariant-loop-row : goal.invariant-loop-row
invariant-loop-row l = Rowing l.closed.entries.now l.closed.blocks.now l.store l.fn.rows l.start l.end l.fn.bytes l.bytes l.fn.held l.held l.row l.place
