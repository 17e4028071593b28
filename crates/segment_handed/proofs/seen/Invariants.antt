-- The trees of the first kinds are seen so.
use Rattle.segment_table.specs.Closed.{nodes_used}
use Rattle.segment_test.specs.Test.{lent}
use Rattle.segment_handed.proofs.Seeing.{SeenTo}
use Rattle.segment_handed.proofs.seen.Given as goal

abbrev pub invariant-loop-kind : goal.invariant-loop-kind
invariant-loop-kind l = SeenTo (lent l.t.blocks.now l.t.nodes.now l.t.entries.now) l.t.n l.end (nodes_used l.t.nodes.now) l.kind l.rows
