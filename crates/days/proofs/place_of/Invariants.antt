-- `days::place_of`: the minute's place is that of `left`, counted from the start of day `from`, with the pairs from `k` on.
use Rattle.days.proofs.Places.{Walks}
use Rattle.days.proofs.place_of.Given as goal

abbrev pub invariant-loop-k : goal.invariant-loop-k
invariant-loop-k l = Walks l.list l.minute l.k l.from l.left
