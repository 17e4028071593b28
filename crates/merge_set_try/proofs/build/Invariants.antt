-- the number stays below the number of pieces
use Rattle.std.proofs.Common.{◌<◌}
use Rattle.merge_set_try.proofs.build.Given as goal

abbrev pub invariant-loop-piece : goal.invariant-loop-piece
invariant-loop-piece l = l.n < 4096
