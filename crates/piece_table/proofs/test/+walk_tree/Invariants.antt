-- each call goes down with less fuel
use Rattle.piece_table.proofs.test.+walk_tree.Given as goal

abbrev pub decreases-walk_tree : goal.decreases-walk_tree
decreases-walk_tree l = l.fuel
