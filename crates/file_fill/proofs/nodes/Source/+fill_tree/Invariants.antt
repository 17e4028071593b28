-- The width falls.
use Rattle.std.proofs.Common.{◌-◌}
use Rattle.file_fill.proofs.nodes.Source.+fill_tree.Given as goal

abbrev pub decreases-fill_tree : goal.decreases-fill_tree
decreases-fill_tree l = l.max - l.min
