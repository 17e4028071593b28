-- Each return is a step of a test of the tables, which is a test of the index.
use Rattle.segment_test.proofs.Testing.{tested, tree_heads}
use Rattle.segment_apart.proofs.Deciding.{apart_wrong, apart_handed, trees_unframed, trees_seen, trees_told}
use Rattle.segment_apart.proofs.test.Goals as goal

pub returns-then-not-test_heads-clause-trees : goal.returns-then-not-test_heads-clause-trees
returns-then-not-test_heads-clause-trees c = tested (tree_heads c.test_heads.ensures c.if-not-test_heads.true)

pub returns-then-not-test_heads-clause-apart : goal.returns-then-not-test_heads-clause-apart
returns-then-not-test_heads-clause-apart c = apart_wrong (tested (tree_heads c.test_heads.ensures c.if-not-test_heads.true))

pub returns-then-not-test_frame-clause-trees : goal.returns-then-not-test_frame-clause-trees
returns-then-not-test_frame-clause-trees c =
    tested (trees_unframed c.test_heads.ensures c.if-not-test_heads.false c.test_frame.ensures c.if-not-test_frame.true)

pub returns-then-not-test_frame-clause-apart : goal.returns-then-not-test_frame-clause-apart
returns-then-not-test_frame-clause-apart c =
    apart_wrong (tested (trees_unframed c.test_heads.ensures c.if-not-test_heads.false c.test_frame.ensures c.if-not-test_frame.true))

pub returns-then-seen-clause-trees : goal.returns-then-seen-clause-trees
returns-then-seen-clause-trees c =
    tested
    (trees_seen c.test_heads.ensures c.if-not-test_heads.false c.test_frame.ensures c.if-not-test_frame.false c.seen.ensures c.if-seen.true)

pub returns-then-seen-clause-apart : goal.returns-then-seen-clause-apart
returns-then-seen-clause-apart c = apart_handed c.seen.ensures c.if-seen.true

pub returns-then-not-test_nodes-clause-trees : goal.returns-then-not-test_nodes-clause-trees
returns-then-not-test_nodes-clause-trees c =
    tested
    (trees_told c.test_heads.ensures c.if-not-test_heads.false c.test_frame.ensures c.if-not-test_frame.false c.test_nodes.ensures c.if-not-test_nodes.true)

pub returns-then-not-test_nodes-clause-apart : goal.returns-then-not-test_nodes-clause-apart
returns-then-not-test_nodes-clause-apart c =
    apart_wrong
    (tested
    (trees_told c.test_heads.ensures c.if-not-test_heads.false c.test_frame.ensures c.if-not-test_frame.false c.test_nodes.ensures c.if-not-test_nodes.true))

pub returns-clause-trees : goal.returns-clause-trees
returns-clause-trees c =
    tested
    (trees_told c.test_heads.ensures c.if-not-test_heads.false c.test_frame.ensures c.if-not-test_frame.false c.test_nodes.ensures c.if-not-test_nodes.false)
