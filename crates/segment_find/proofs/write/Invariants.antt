use Rattle.segment_find.proofs.Extending.{Writing}
use Rattle.segment_find.proofs.write.Given as goal

abbrev pub invariant-loop-k : goal.invariant-loop-k
invariant-loop-k l = Writing l.entries l.notes l.fn.answer l.count l.answer l.k l.at
