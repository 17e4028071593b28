-- What is said of the way from here on is said of the whole; the node's width falls.
use Prim.Native.Nat.{◌-◌}
use Rattle.segment_clear.proofs.Clearing.{Leads}
use Rattle.segment_clear.proofs.Own.way_clear.Given as goal

abbrev pub invariant-loop-self : goal.invariant-loop-self
invariant-loop-self l = Leads l.lent.blocks.now l.lent.nodes.now l.lent.entries.now l.fn.root l.node l.tick l.self

abbrev pub decreases-loop-self : goal.decreases-loop-self
decreases-loop-self l = l.node.max - l.node.min
