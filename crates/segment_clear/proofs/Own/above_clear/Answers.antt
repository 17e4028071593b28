use Rattle.segment_walk.proofs.Halving.{present, half_falls}
use Rattle.segment_clear.proofs.Own.above_clear.Goals as goal

pub loop-node-smaller : goal.loop-node-smaller
loop-node-smaller c = half_falls _ _ _ _ (present c.absent.ensures c.if-absent.false) c.half-node.ensures
