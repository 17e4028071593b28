use Rattle.fields.proofs.Writing.{WrittenTo}
use Rattle.fields.proofs.write.put_number.Given as goal

abbrev pub invariant-loop-i : goal.invariant-loop-i
invariant-loop-i l = WrittenTo l.fn.out l.out l.at l.bytes l.i
