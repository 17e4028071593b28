use Rattle.std.proofs.Common.{arith}
use Rattle.cells_read.proofs.Reading.{reading, read_filled}
use Rattle.cells_read.proofs.read_closed.Goals as goal
use Rattle.cells_read.proofs.read_closed.Goals.{then-bytes-many-via-then-bytes-many, then-bytes-many-via-else-bytes-many+then-held-many}

pub returns-then-not-has : goal.returns-then-not-has
returns-then-not-has c = search reading

pub returns-then-end-tick : goal.returns-then-end-tick
returns-then-end-tick c = search reading

pub returns-then-end-start : goal.returns-then-end-start
returns-then-end-start c = search reading

pub returns-then-bytes-many : goal.returns-then-bytes-many
returns-then-bytes-many c =
    elim c.then-bytes-many.branch [
      | then-bytes-many-via-then-bytes-many w ↦ search reading
      | then-bytes-many-via-else-bytes-many+then-held-many w ↦ search reading
    ]

pub returns : goal.returns
returns c =
    read_filled c.kinds.ensures c.has.ensures c.if-not-has.false c.end.ensures c.if-end-tick.false c.if-end-start.false c.ranges.end.fits (omega arith) c.if-bytes-many.false
    c.if-held-many.false c.show_front-place.auto.bytes c.show_front-place.auto.held c.show_front-place.ensures (omega arith) c.show.auto.bytes c.show.auto.held c.show.ensures
