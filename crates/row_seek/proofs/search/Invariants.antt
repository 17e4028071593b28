-- the place lies in [lo, hi]
use Rattle.std.proofs.Common.{◌-◌, ◌≤◌, max}
use Rattle.row_seek.proofs.search.Given as goal

abbrev pub invariant-loop-mid : goal.invariant-loop-mid
invariant-loop-mid l = (l.fn.from ≤ l.lo) × (l.lo ≤ max l.fn.from l.to) × (l.hi ≤ l.to)

abbrev pub decreases-loop-mid : goal.decreases-loop-mid
decreases-loop-mid l = l.hi - l.lo
