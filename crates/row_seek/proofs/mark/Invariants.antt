-- the rows behind k are marked
use Rattle.row_seek.proofs.Marking.{MarkedTo}
use Rattle.row_seek.proofs.mark.Given as goal

abbrev pub invariant-loop-k : goal.invariant-loop-k
invariant-loop-k l = MarkedTo l.fn.slots l.slots l.blocks l.shift l.k l.n
