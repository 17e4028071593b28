use Rattle.segment_walk.proofs.Halving.{present, half_falls}
use Rattle.segment_clear.proofs.Own.way_clear.Goals as goal

pub loop-self-smaller : goal.loop-self-smaller
loop-self-smaller c = half_falls _ _ _ _ (present c.absent.ensures c.loop-self-test.true) c.half-node.ensures
