-- The node's width falls.
use Prim.Native.Nat.{◌-◌}
use Rattle.segment_handed.proofs.+hold_tree.Given as goal

abbrev pub decreases-hold_tree : goal.decreases-hold_tree
decreases-hold_tree l = l.node.max - l.node.min
