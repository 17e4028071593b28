use Rattle.segment_find.proofs.Extending.{Extended}
use Rattle.segment_find.proofs.extend_from_self.Given as goal

abbrev pub invariant-loop-i : goal.invariant-loop-i
invariant-loop-i l = Extended l.entries l.fn.answer l.at l.from l.answer l.i
