use Rattle.std.proofs.Common.{arith}
use Rattle.cells_paint.proofs.Drawing.{no_row, not_reached, not_stored, part_painted}
use Rattle.cells_paint.proofs.paint.Goals as goal
use Rattle.cells_paint.proofs.paint.Goals.{then-past-from-via-then-past-from, then-past-from-via-else-past-from+then-room-length, then-past-from-via-else-past-from+else-room-length+then-room-length-2}

pub returns-in_default : goal.returns-in_default
returns-in_default c = no_row c.in_default.ensures

pub returns-then-past-from : goal.returns-then-past-from
returns-then-past-from c =
    elim c.then-past-from.branch [
      | then-past-from-via-then-past-from w ↦ not_reached c.in-Some.ensures c.max-from.ensures (omega (arith, c.min-past.ensures, c.saturating_add.ensures)) c.ranges.end.fits w.if-past-from.true
      | then-past-from-via-else-past-from+then-room-length w ↦ not_stored c.in-Some.ensures (omega arith)
      | then-past-from-via-else-past-from+else-room-length+then-room-length-2 w ↦ not_stored c.in-Some.ensures (omega arith)
    ]

pub returns : goal.returns
returns c =
    part_painted c.in-Some.ensures c.max-from.ensures (omega (arith, c.min-past.ensures, c.saturating_add.ensures)) c.ranges.end.fits c.requires.window c.requires.inside
    (omega arith) c.if-past-from.false (omega arith) c.copy_in.ensures c.fill.ensures
