-- The first k runs follow one another.
use Rattle.segment_test.proofs.Totalling.{TiledTo}
use Rattle.segment_test.proofs.total.test_runs.Given as goal

abbrev pub invariant-loop-k : goal.invariant-loop-k
invariant-loop-k l = TiledTo l.t.nodes.now l.total l.begin l.k
