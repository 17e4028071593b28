-- up to row i each has grown as it may
use Rattle.std.proofs.Common.{◌-◌}
use Rattle.history.specs.Words.{cell_place}
use Rattle.handed_rows.proofs.Along.{Along}
use Rattle.handed_rows.proofs.hand_on.Given as goal

abbrev pub invariant-loop-i : goal.invariant-loop-i
invariant-loop-i l = Along l.fn.blocks l.blocks l.n (cell_place l.stretch.kind l.stretch.first) l.stretch.length l.stretch.tick l.i

abbrev pub decreases-loop-i : goal.decreases-loop-i
decreases-loop-i l = l.n - l.i
