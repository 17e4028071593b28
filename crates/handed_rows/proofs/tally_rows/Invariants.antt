-- the first k rows are counted
use Rattle.handed_rows.proofs.Tallying.{RowsTo}
use Rattle.handed_rows.proofs.tally_rows.Given as goal

abbrev pub invariant-loop-k : goal.invariant-loop-k
invariant-loop-k l = RowsTo l.fn.blocks l.blocks l.n l.k
