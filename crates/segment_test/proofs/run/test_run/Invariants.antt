-- The first j rows are right.
use Rattle.segment_test.specs.Parts.{RunRows}
use Rattle.segment_test.proofs.run.test_run.Given as goal

abbrev pub invariant-loop-j : goal.invariant-loop-j
invariant-loop-j l = RunRows l.t.blocks.now l.t.entries.now l.t.n l.at.kind l.first l.j l.at.min l.at.max l.at.from l.at.to
