-- `occupation::total_cells`: the cells so far, and those of the windows from `k` on.
use Rattle.occupation.proofs.Totals.{Adding}
use Rattle.occupation.proofs.total_cells.Given as goal

abbrev pub invariant-loop-k : goal.invariant-loop-k
invariant-loop-k l = Adding l.windows l.k l.cells
