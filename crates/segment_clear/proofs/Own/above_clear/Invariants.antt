-- What is said of the nodes from here on is said of those from the top on; the node's width falls.
use Prim.Native.Nat.{◌-◌}
use Rattle.segment_clear.proofs.Rising.{Rises}
use Rattle.segment_clear.proofs.Own.above_clear.Given as goal

abbrev pub invariant-loop-node : goal.invariant-loop-node
invariant-loop-node l = Rises l.lent.blocks.now l.lent.nodes.now l.lent.entries.now l.fn.top l.node l.min l.tick l.self

abbrev pub decreases-loop-node : goal.decreases-loop-node
decreases-loop-node l = l.node.max - l.node.min
