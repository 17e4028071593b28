-- the columns below `i` are copied
use Rattle.merge_set.proofs.Relinking.{Copying}
use Rattle.merge_set.proofs.copy_row.Given as goal

abbrev pub invariant-loop-i : goal.invariant-loop-i
invariant-loop-i l = Copying l.fn.table l.table l.old l.new l.i
