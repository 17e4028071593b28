-- after k nodes their rows are noted
use Rattle.segment_find.proofs.Windowing.{Windows}
use Rattle.segment_find.proofs.windows.Given as goal

abbrev pub invariant-loop-k : goal.invariant-loop-k
invariant-loop-k l =
    Windows l.nodes l.entries l.fn.notes l.depth l.start l.stop l.places l.notes l.k l.count l.room
