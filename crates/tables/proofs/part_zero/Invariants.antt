-- the bits of the first i numbers
use Rattle.tables.proofs.Zeros.{BitsTo}
use Rattle.tables.proofs.part_zero.Given as goal

abbrev pub invariant-loop-i : goal.invariant-loop-i
invariant-loop-i l = BitsTo l.part l.bits l.i
