-- The walks from the roots of the first kinds are done.
use Rattle.segment_table.specs.Closed.{nodes_used}
use Rattle.segment_test.specs.Test.{lent}
use Rattle.segment_test.proofs.Walking.{WalkedTo}
use Rattle.segment_test.proofs.walk.test_nodes.Given as goal

abbrev pub invariant-loop-kind : goal.invariant-loop-kind
invariant-loop-kind l = WalkedTo (lent l.t.blocks.now l.t.nodes.now l.t.entries.now) l.t.n l.end (nodes_used l.t.nodes.now) l.kind l.rest
