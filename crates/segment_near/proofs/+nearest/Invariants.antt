use Rattle.std.proofs.Common.{◌-◌}
use Rattle.segment_near.proofs.+nearest.Given as goal

abbrev pub decreases-nearest : goal.decreases-nearest
decreases-nearest l = l.max - l.min
