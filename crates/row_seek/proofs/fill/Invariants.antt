-- the slots from this one on are filled
use Rattle.row_seek.proofs.Marking.{FilledTo}
use Rattle.row_seek.proofs.fill.Given as goal

abbrev pub invariant-loop-slot : goal.invariant-loop-slot
invariant-loop-slot l = FilledTo l.fn.slots l.slots l.next l.slot
