use Rattle.std.proofs.Common.{arith}
use Rattle.touching_read.proofs.Reaching.{over_none, over_ended, over_block}
use Rattle.touching_read.proofs.over.Goals as goal

pub returns-in_err-before : goal.returns-in_err-before
returns-in_err-before c = rw c.from_residual.ensures (over_none c.tree-tree.ensures c.nearest_live.ensures c.in_err-before.was)

pub returns-then-end_of-place : goal.returns-then-end_of-place
returns-then-end_of-place c = over_ended c.tree-tree.ensures c.nearest_live.ensures c.in_ok-before.was c.end_of.ensures (omega arith)

pub returns : goal.returns
returns c = over_block c.tree-tree.ensures c.nearest_live.ensures c.in_ok-before.was c.end_of.ensures (omega arith)
