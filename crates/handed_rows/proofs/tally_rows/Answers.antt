-- a row that has no life is passed over, any other is counted
use Rattle.handed_rows.proofs.Tallying.{rows_start, rows_pass, rows_count}
use Rattle.handed_rows.proofs.tally_rows.Goals as goal
use Rattle.handed_rows.proofs.tally_rows.Goals.{then-lives, else-lives}

pub loop-k-init : goal.loop-k-init
loop-k-init c = rows_start

pub loop-k-preserved : goal.loop-k-preserved
loop-k-preserved c =
    elim c.if-lives.branch [
      | then-lives w ↦ rw w.blocks-is (rows_count c.loop-k.invariant c.loop-k-test.true c.read-row.ensures c.lives.ensures w.if-lives.true w.hand_on.ensures)
      | else-lives w ↦ rw w.blocks-is (rows_pass c.loop-k.invariant c.loop-k-test.true c.read-row.ensures)
    ]
