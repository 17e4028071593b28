-- Each return is a step of a test of the tables, which is a test of the index.
use Rattle.segment_test.proofs.Testing.{tested, tree_heads, tree_frame, tree_rest}
use Rattle.segment_test.proofs.test_trees.Goals as goal

pub returns-then-not-test_heads : goal.returns-then-not-test_heads
returns-then-not-test_heads c = tested (tree_heads c.test_heads.ensures c.if-not-test_heads.true)

pub returns-then-test_frame : goal.returns-then-test_frame
returns-then-test_frame c =
    tested (tree_rest c.test_heads.ensures c.if-not-test_heads.false c.test_frame.ensures c.if-test_frame.true c.test_nodes.ensures)

pub returns-else-test_frame : goal.returns-else-test_frame
returns-else-test_frame c = tested (tree_frame c.test_frame.ensures c.if-test_frame.false)
