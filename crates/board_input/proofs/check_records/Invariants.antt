-- The records passed are good, and each takes some bytes.
use Rattle.std.proofs.Common.{◌-◌, length}
use Rattle.board_input.proofs.Checking.{Checking}
use Rattle.board_input.proofs.check_records.Given as goal

abbrev pub invariant-loop-item : goal.invariant-loop-item
invariant-loop-item l = Checking l.input l.at l.k

abbrev pub decreases-loop-item : goal.decreases-loop-item
decreases-loop-item l = length l.input - l.at
