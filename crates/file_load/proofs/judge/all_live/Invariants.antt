-- The blocks up to `k` live.
use Rattle.file_load.proofs.Judging.{SoFar}
use Rattle.file_load.proofs.judge.all_live.Given as goal

abbrev pub invariant-loop-k : goal.invariant-loop-k
invariant-loop-k l = SoFar l.blocks l.end l.k
