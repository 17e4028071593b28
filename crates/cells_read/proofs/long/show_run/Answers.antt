use Rattle.std.proofs.Common.{◌∙◌}
use Rattle.cells_read.proofs.Running.{run_none, run_block}
use Rattle.cells_read.proofs.long.show_run.Goals as goal

pub returns-in_default : goal.returns-in_default
returns-in_default c =
    run_none c.tree-tree.ensures c.nearest_live-next.ensures c.requires.begun c.requires.inside c.ranges.end.fits c.requires.window c.in_default.is c.free.ensures

pub returns : goal.returns
returns c =
    run_block c.tree-tree.ensures c.nearest_live-next.ensures c.requires.begun c.requires.inside c.ranges.end.fits c.requires.window c.in-Some.is
    (c.min-until.ensures ∙ rw c.max.ensures) c.free-2.ensures c.paint.ensures
