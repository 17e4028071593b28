use Rattle.std.proofs.Common.{◌-◌}
use Rattle.segment_find.proofs.+search.Given as goal

abbrev pub decreases-search : goal.decreases-search
decreases-search l = l.max - l.min
