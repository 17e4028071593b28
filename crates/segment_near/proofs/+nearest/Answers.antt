use Rattle.std.proofs.Common.{arith}
use Rattle.segment_walk.proofs.Halving.{present, half_falls}
use Rattle.segment_near.proofs.Neighbouring.{nearest_none, nearest_both}
use Rattle.segment_near.proofs.+nearest.Goals as goal

pub returns-then-absent : goal.returns-then-absent
returns-then-absent t c = nearest_none c.absent.ensures c.if-absent.true

pub nearest-requires : goal.nearest-requires
nearest-requires t c = (omega (arith, c.decreases, half_falls _ _ _ _ (present c.absent.ensures c.if-absent.false) c.half-half.ensures), tt)

pub returns : goal.returns
returns t c =
    nearest_both (present c.absent.ensures c.if-absent.false) c.rows_of-rows.ensures c.own_neighbour-own.ensures c.half-half.ensures c.nearer-near.ensures c.nearest.ensures
