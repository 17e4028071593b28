-- `occupation::are_forward`: the windows from `k` on decide.
use Rattle.occupation.proofs.Totals.{Turning}
use Rattle.occupation.proofs.are_forward.Given as goal

abbrev pub invariant-loop-k : goal.invariant-loop-k
invariant-loop-k l = Turning l.windows l.k
