-- a piece that meets is an answer; past one that does not, those behind it are left
use Rattle.index_finish.proofs.Clearing.{ahead_turn, ahead_end, clear_met, clear_stuck}
use Rattle.index_finish.proofs.rule.pieces_clear.Goals as goal

pub returns-then-piece-destroyed : goal.returns-then-piece-destroyed
returns-then-piece-destroyed c =
    ahead_end c.loop-place.invariant
    (clear_met c.seek.ensures c.in-Some.is c.starts_below.ensures c.if-not-starts_below.false c.read-piece.ensures c.if-piece-destroyed.true)

pub returns-then-next-place : goal.returns-then-next-place
returns-then-next-place c =
    ahead_end c.loop-place.invariant
    (clear_stuck c.seek.ensures c.in-Some.is c.starts_below.ensures c.if-not-starts_below.false c.ranges.end.fits c.read-piece.ensures c.end-next.ensures c.if-next-place.true)

pub loop-place-preserved : goal.loop-place-preserved
loop-place-preserved c =
    ahead_turn c.loop-place.invariant c.seek.ensures c.in-Some.is c.starts_below.ensures c.if-not-starts_below.false c.ranges.end.fits c.read-piece.ensures
    c.end-next.ensures c.if-piece-destroyed.false
