use Rattle.std.proofs.Common.{◌-◌}
use Rattle.segment_tree.proofs.WritingWays.{Onto}
use Rattle.segment_tree.proofs.close.write_location.Given as goal

abbrev pub invariant-loop-link : goal.invariant-loop-link
invariant-loop-link l = Onto l.fn.nodes l.fn.entries l.nodes l.entries l.root 0 l.end l.link l.span.lo l.span.hi l.life l.entry.block l.entry.key

abbrev pub decreases-loop-link : goal.decreases-loop-link
decreases-loop-link l = l.span.hi - l.span.lo
