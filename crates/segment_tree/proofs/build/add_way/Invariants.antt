use mathlib.Core.Bool.{not}
use lib.Dec.{eqb}
use Rattle.std.proofs.Common.{◌-◌}
use Rattle.segment_tree.proofs.Ways.{OneWay}
use Rattle.segment_tree.proofs.build.add_way.Given as goal

abbrev pub invariant-loop-link : goal.invariant-loop-link
invariant-loop-link g l = OneWay (not (eqb g.row.TO_END 0)) l.fn.nodes l.nodes l.kind l.from l.fn.whole l.link l.span l.life

abbrev pub decreases-loop-link : goal.decreases-loop-link
decreases-loop-link g l = l.span.hi - l.span.lo
