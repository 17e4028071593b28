use Rattle.segment_near.proofs.Neighbouring.{nearest_live}
use Rattle.segment_near.proofs.nearest_live.Goals as goal

pub returns : goal.returns
returns c = nearest_live c.root-root.ensures c.nearest.ensures
