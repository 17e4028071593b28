-- H1 holds of the rows 1 to k, and the run is that of the last tick
use Rattle.ends_apart.proofs.Turning.{Turns}
use Rattle.ends_apart.proofs.ends_apart.Given as goal

abbrev pub invariant-loop-k : goal.invariant-loop-k
invariant-loop-k l = Turns l.blocks l.n l.k l.run
