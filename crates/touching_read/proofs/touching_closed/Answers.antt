use Rattle.std.proofs.Common.{rules}
use Rattle.layout.proofs.ReadLaws.{mask_opens}
use Rattle.touching_read.proofs.Listing.{touching_25, touching_14, touching_15, touching_empty, touching_listed, touching_over, touching_short}
use Rattle.touching_read.proofs.touching_closed.Goals as goal

pub returns-then-not-has : goal.returns-then-not-has
returns-then-not-has c = touching_25 (mask_opens c.kinds.ensures c.has.ensures c.if-not-has.true)

pub returns-then-tree-tick : goal.returns-then-tree-tick
returns-then-tree-tick c = touching_14 (mask_opens c.kinds.ensures c.has.ensures c.if-not-has.false) c.tree-tree.ensures c.if-tree-tick.true

pub returns-then-end-start : goal.returns-then-end-start
returns-then-end-start c = touching_15 (mask_opens c.kinds.ensures c.has.ensures c.if-not-has.false) c.tree-tree.ensures c.if-tree-tick.false c.if-end-start.true

pub returns-then-start-end : goal.returns-then-start-end
returns-then-start-end c = touching_empty (mask_opens c.kinds.ensures c.has.ensures c.if-not-has.false) c.tree-tree.ensures c.if-tree-tick.false c.if-end-start.false c.if-start-end.true

pub returns-in_default : goal.returns-in_default
returns-in_default c =
    touching_short (mask_opens c.kinds.ensures c.has.ensures c.if-not-has.false) c.tree-tree.ensures c.if-tree-tick.false c.if-end-start.false c.over-before.ensures c.starting-listed.ensures c.is_some.ensures c.from-at.ensures
    (search rules) c.in_default.is

pub returns-in-Some-before : goal.returns-in-Some-before
returns-in-Some-before c =
    touching_over (mask_opens c.kinds.ensures c.has.ensures c.if-not-has.false) c.tree-tree.ensures c.if-tree-tick.false c.if-end-start.false c.over-before.ensures c.starting-listed.ensures c.in-Some-before.is
    (rw (c.is_some.ensures, c.in-Some-before.is) at c.from-at.ensures) (search rules) c.in-Some.is c.put.ensures

pub returns-in_default-before : goal.returns-in_default-before
returns-in_default-before c =
    touching_listed (mask_opens c.kinds.ensures c.has.ensures c.if-not-has.false) c.tree-tree.ensures c.if-tree-tick.false c.if-end-start.false c.over-before.ensures c.starting-listed.ensures c.in_default-before.is
    (rw (c.is_some.ensures, c.in_default-before.is) at c.from-at.ensures) c.in-Some.is
