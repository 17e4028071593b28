-- the rows above those that are left are sound
use Rattle.block_table.specs.Rows.{RowsSound}
use Rattle.block_table.proofs.rows.test_rows.Given as goal

abbrev pub invariant-loop-k : goal.invariant-loop-k
invariant-loop-k l = RowsSound l.blocks l.bounds l.k l.n
