-- `touching_read::near_closed` meets its contract: the returns that `nearing` does not find by itself. Assumes nothing.
use Rattle.layout.proofs.ReadLaws.{mask_opens}
use Rattle.touching_read.proofs.Nearing.{near_25, near_14, near_last}
use Rattle.touching_read.proofs.near_closed.Goals as goal

pub returns-then-not-has : goal.returns-then-not-has
returns-then-not-has c = near_25 _ _ _ _ _ _ c.args.side (mask_opens c.kinds.ensures c.has.ensures c.if-not-has.true)

pub returns-then-tree-tick : goal.returns-then-tree-tick
returns-then-tree-tick c = near_14 (mask_opens c.kinds.ensures c.has.ensures c.if-not-has.false) c.tree-tree.ensures _ _ c.if-tree-tick.true

pub returns-in-Before : goal.returns-in-Before
returns-in-Before c =
    near_last (mask_opens c.kinds.ensures c.has.ensures c.if-not-has.false) c.tree-tree.ensures c.if-tree-tick.false c.nearest_live-near.ensures c.in-Some.is c.in-Before.is c.end_of.ensures c.if-end_of-cell.true
