-- `hours::closed_cell`: the bytes from `i` on decide, and each turn passes one of them at least.
use Prim.Native.Nat.{◌-◌}
use lib.ListN.{length}
use Rattle.history.specs.Days.{days_of}
use Rattle.history.specs.Hours.{calendar_of}
use Rattle.hours.proofs.Opening.{ClosedRest}
use Rattle.hours.proofs.closed_cell.Given as goal

abbrev pub invariant-loop-i : goal.invariant-loop-i
invariant-loop-i l = ClosedRest (days_of l.days) (calendar_of l.calendar) l.first l.bytes l.i

abbrev pub decreases-loop-i : goal.decreases-loop-i
decreases-loop-i l = length l.bytes - l.i
