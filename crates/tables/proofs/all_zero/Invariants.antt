-- the numbers before `from` are zeros
use Rattle.std.proofs.Common.{◌-◌, length}
use Rattle.tables.proofs.Zeros.{ZerosTo}
use Rattle.tables.proofs.all_zero.Given as goal

abbrev pub invariant-loop-from : goal.invariant-loop-from
invariant-loop-from l = ZerosTo l.table l.from

abbrev pub decreases-loop-from : goal.decreases-loop-from
decreases-loop-from l = length l.table - l.from
