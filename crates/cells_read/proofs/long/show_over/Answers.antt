use Rattle.cells_read.proofs.Running.{over_none, over_block}
use Rattle.cells_read.proofs.long.show_over.Goals as goal

pub returns-in_default : goal.returns-in_default
returns-in_default c = over_none c.tree-tree.ensures c.nearest_live-before.ensures c.requires.inside c.in_default.is

pub returns : goal.returns
returns c = over_block c.tree-tree.ensures c.nearest_live-before.ensures c.requires.inside c.in-Some.is c.paint.ensures
