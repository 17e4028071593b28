use Rattle.std.proofs.Common.{arith, ◌∙◌}
use Rattle.segment_walk.proofs.Halving.{present, half_falls}
use Rattle.live_rows.proofs.Latest.{rows_in_table, row_in_table}
use Rattle.cells_paint.proofs.Ways.{way_none, way_both}
use Rattle.cells_paint.proofs.+paint_way.Goals as goal

pub returns-then-absent : goal.returns-then-absent
returns-then-absent t c = way_none c.absent.ensures c.if-absent.true

pub later-near-requires : goal.later-near-requires
later-near-requires t c = row_in_table _ _ _ c.rows_of-rows.ensures c.lower-from.ensures

pub paint_rows-requires-clause-in_table : goal.paint_rows-requires-clause-in_table
paint_rows-requires-clause-in_table t c = rows_in_table _ _ _ c.rows_of-rows.ensures

pub paint_way-requires : goal.paint_way-requires
paint_way-requires t c = (
  omega (arith, c.decreases, half_falls _ _ _ _ (present c.absent.ensures c.if-absent.false) c.half-half.ensures),
  record { bytes_long = c.paint_rows.auto.bytes ∙ c.requires.bytes_long; held_long = c.paint_rows.auto.held ∙ c.requires.held_long },
)

pub returns : goal.returns
returns t c =
    way_both (present c.absent.ensures c.if-absent.false) c.rows_of-rows.ensures c.lower-from.ensures c.later-near.ensures c.paint_rows.ensures c.half-half.ensures c.paint_way.ensures
