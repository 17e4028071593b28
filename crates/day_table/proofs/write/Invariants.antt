-- `day_table::write`: with the numbers from `i` on written too, the table is as it is left.
use Rattle.day_table.proofs.Writing.{WriteRest}
use Rattle.day_table.proofs.write.Given as goal

abbrev pub invariant-loop-i : goal.invariant-loop-i
invariant-loop-i l = WriteRest l.fn.table l.numbers l.table l.at l.width l.i
