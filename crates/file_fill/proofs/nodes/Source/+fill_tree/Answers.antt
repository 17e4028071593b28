-- Each return is a step of `proofs/FillingTrees`, and the width falls.
use Rattle.std.proofs.Common.{arith}
use Rattle.file_fill.proofs.FillingTrees.{tree_room, half_narrower, tree_wrong, tree_absent, tree_left_wrong, tree_right_wrong, tree_both}
use Rattle.file_fill.proofs.nodes.Source.+fill_tree.Goals as goal

pub returns-in_err-half : goal.returns-in_err-half
returns-in_err-half t c = rw c.from_residual.ensures (tree_wrong _ _ _ _ _ _ _ _ c.in_err-half.ensures)

pub overflow_add-link : goal.overflow_add-link
overflow_add-link t c = omega (arith, tree_room c.args.self.now.blocks.now c.args.self.now.file.now c.args.self.now.kind c.args.min c.args.max c.args.from.at c.args.from.rows c.args.from.runs (rw c.in-Present.is at c.in_ok-half.ensures) c.requires.rows_le_at c.requires.runs_le_at)

pub overflow_add-more : goal.overflow_add-more
overflow_add-more t c = omega (arith, tree_room c.args.self.now.blocks.now c.args.self.now.file.now c.args.self.now.kind c.args.min c.args.max c.args.from.at c.args.from.rows c.args.from.runs (rw c.in-Present.is at c.in_ok-half.ensures) c.requires.rows_le_at c.requires.runs_le_at)

pub fill_entries-requires : goal.fill_entries-requires
fill_entries-requires t c = omega (arith, tree_room c.args.self.now.blocks.now c.args.self.now.file.now c.args.self.now.kind c.args.min c.args.max c.args.from.at c.args.from.rows c.args.from.runs (rw c.in-Present.is at c.in_ok-half.ensures) c.requires.rows_le_at c.requires.runs_le_at)

pub fill_tree-requires : goal.fill_tree-requires
fill_tree-requires t c =
    let r = tree_room c.args.self.now.blocks.now c.args.self.now.file.now c.args.self.now.kind c.args.min c.args.max c.args.from.at c.args.from.rows c.args.from.runs (rw c.in-Present.is at c.in_ok-half.ensures) c.requires.rows_le_at c.requires.runs_le_at in
    (omega (arith, c.middle_of-mid.ensures r.4), (r.0, r.1))

pub returns-in_err-left-in-Present : goal.returns-in_err-left-in-Present
returns-in_err-left-in-Present t c =
    rw c.from_residual-in_err-left-in-Present.ensures
    (tree_left_wrong _ _ _ _ _ _ _ _ (rw c.in-Present.is at c.in_ok-half.ensures) c.middle_of-mid.ensures c.right_start-start.ensures c.fill_entries.ensures c.fill_tree.ensures c.in_err-left-in-Present.was)

pub fill_tree-requires-in-Present : goal.fill_tree-requires-in-Present
fill_tree-requires-in-Present t c =
    let r = tree_room c.args.self.now.blocks.now c.args.self.now.file.now c.args.self.now.kind c.args.min c.args.max c.args.from.at c.args.from.rows c.args.from.runs (rw c.in-Present.is at c.in_ok-half.ensures) c.requires.rows_le_at c.requires.runs_le_at in
    let b = c.fill_tree.ensures.bound c.in_ok-left-in-Present.was in
    (omega (arith, c.right_start-start.ensures r.4, (half_narrower c.args.min c.args.max r.4).1), (b.0, b.1))

pub returns-in_err-right-in-Present : goal.returns-in_err-right-in-Present
returns-in_err-right-in-Present t c =
    rw c.from_residual-in_err-right-in-Present.ensures
    (tree_right_wrong _ _ _ _ _ _ _ _ (rw c.in-Present.is at c.in_ok-half.ensures) c.middle_of-mid.ensures c.right_start-start.ensures c.fill_entries.ensures c.fill_tree.ensures c.in_ok-left-in-Present.was c.fill_tree-in-Present.ensures c.in_err-right-in-Present.was)

pub returns-in-Absent : goal.returns-in-Absent
returns-in-Absent t c = tree_absent _ _ _ _ _ _ _ _ (rw c.in-Absent.is at c.in_ok-half.ensures) c.requires.rows_le_at c.requires.runs_le_at

pub returns-in_ok-right-in-Present : goal.returns-in_ok-right-in-Present
returns-in_ok-right-in-Present t c =
    tree_both _ _ _ _ _ _ _ _ (rw c.in-Present.is at c.in_ok-half.ensures) c.middle_of-mid.ensures c.right_start-start.ensures c.fill_entries.ensures c.fill_tree.ensures c.in_ok-left-in-Present.was c.fill_tree-in-Present.ensures
    c.in_ok-right-in-Present.was c.put_row.ensures
