use Rattle.std.proofs.Common.{rules}
use Rattle.segment_tree.proofs.Counting.{count_spent_entries, count_all}
use Rattle.segment_tree.proofs.build.count_trees.Goals as goal

pub returns-then-rows-total : goal.returns-then-rows-total
returns-then-rows-total c =
    count_spent_entries c.add_blocks.ensures c.add_blocks.auto.nodes c.if-not-add_blocks.false c.add_pieces.ensures c.add_pieces.auto.nodes c.if-not-add_pieces.false c.get-used.ensures c.assign_runs-total.ensures (search rules) c.rows.ensures c.if-rows-total.true c.zero-then-rows-total.ensures

pub returns : goal.returns
returns c =
    count_all c.add_blocks.ensures c.add_blocks.auto.nodes c.if-not-add_blocks.false c.add_pieces.ensures c.add_pieces.auto.nodes c.if-not-add_pieces.false c.get-used.ensures c.assign_runs-total.ensures (search rules) c.rows.ensures c.if-rows-total.false
