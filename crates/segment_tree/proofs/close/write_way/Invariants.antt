use mathlib.Core.Bool.{not}
use lib.Dec.{eqb}
use Rattle.std.proofs.Common.{◌-◌}
use Rattle.segment_tree.proofs.WritingWays.{OntoWay}
use Rattle.segment_tree.proofs.close.write_way.Given as goal

abbrev pub invariant-loop-link : goal.invariant-loop-link
invariant-loop-link g l = OntoWay (not (eqb g.row.TO_END 0)) l.fn.nodes l.fn.entries l.nodes l.entries l.from l.fn.whole l.link l.span l.life l.entry.block l.entry.key

abbrev pub decreases-loop-link : goal.decreases-loop-link
decreases-loop-link g l = l.span.hi - l.span.lo
