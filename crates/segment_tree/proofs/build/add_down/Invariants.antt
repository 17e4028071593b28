use Rattle.std.proofs.Common.{◌-◌}
use Rattle.segment_tree.proofs.Ways.{Down}
use Rattle.segment_tree.proofs.build.add_down.Given as goal

abbrev pub invariant-loop-link : goal.invariant-loop-link
invariant-loop-link l = Down l.fn.nodes l.nodes l.kind l.root l.fn.whole.lo l.fn.whole.hi l.link l.span.lo l.span.hi l.life

abbrev pub decreases-loop-link : goal.decreases-loop-link
decreases-loop-link l = l.span.hi - l.span.lo
