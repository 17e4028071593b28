use Rattle.std.proofs.Common.{arith}
use Rattle.cells_paint.proofs.Rows.{rowing_none, rowing_all, rowing_past, rowing_more}
use Rattle.cells_paint.proofs.paint_rows.Goals as goal

pub loop-row-init : goal.loop-row-init
loop-row-init c = rowing_none c.requires.window

pub loop-row-preserved : goal.loop-row-preserved
loop-row-preserved c =
    rowing_more c.loop-row.invariant (omega arith) (omega arith) c.block_in-own.ensures c.if-end-own.false c.paint-place.auto.bytes c.paint-place.auto.held c.paint-place.ensures

pub returns-then-end-own : goal.returns-then-end-own
returns-then-end-own c = rowing_past c.loop-row.invariant (omega arith) (omega arith) c.block_in-own.ensures c.if-end-own.true

pub returns : goal.returns
returns c = rowing_all c.loop-row.invariant (omega arith) (omega arith) (omega arith)
