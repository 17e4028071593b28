-- The rows that are left enclose the answer, and become fewer.
use Prim.Native.Nat.{◌+◌}
use Rattle.segment_walk.specs.Rowing.{Between}
use Rattle.segment_walk.proofs.rows.halved.Given as goal

abbrev pub invariant-loop-left : goal.invariant-loop-left
invariant-loop-left l = Between l.entries l.fn.rows l.key l.from (l.from + l.left)

abbrev pub decreases-loop-left : goal.decreases-loop-left
decreases-loop-left l = l.left
