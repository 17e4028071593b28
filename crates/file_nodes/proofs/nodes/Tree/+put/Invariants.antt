-- The node's width falls.
use Rattle.std.proofs.Common.{◌-◌}
use Rattle.file_nodes.proofs.nodes.Tree.+put.Given as goal

abbrev pub decreases-put : goal.decreases-put
decreases-put l = l.place.max - l.place.min
