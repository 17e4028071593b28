-- The first j entries are right, and their blocks are held.
use Rattle.segment_test.specs.Parts.{RunRows}
use Rattle.segment_handed.proofs.Holding.{HeldTo}
use Rattle.segment_handed.proofs.run.hold_run.Given as goal

abbrev pub invariant-loop-j : goal.invariant-loop-j
invariant-loop-j l =
    RunRows l.t.blocks.now l.t.entries.now l.t.n l.at.kind l.first l.j l.at.min l.at.max l.at.from l.at.to
    × HeldTo l.t.blocks.now l.t.nodes.now l.t.entries.now l.spine.root l.spine.top l.first l.many l.at.min l.at.max l.after l.fn.born l.j l.place l.born
