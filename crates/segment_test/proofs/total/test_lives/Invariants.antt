-- The first k blocks are of kinds with roots, and their lives are added.
use Rattle.segment_test.proofs.Totalling.{LivesTo}
use Rattle.segment_test.proofs.total.test_lives.Given as goal

abbrev pub invariant-loop-k : goal.invariant-loop-k
invariant-loop-k l = LivesTo l.t.blocks.now l.t.nodes.now l.sum l.k
