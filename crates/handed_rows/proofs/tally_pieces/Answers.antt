-- one piece more is counted
use Rattle.handed_rows.proofs.Tallying.{pieces_count_lem}
use Rattle.handed_rows.proofs.tally_pieces.Goals as goal

pub loop-k-preserved : goal.loop-k-preserved
loop-k-preserved c =
    pieces_count_lem c.loop-k.invariant c.loop-k-test.true c.get.ensures c.get-in-loop-k.ensures c.get-in-loop-k-2.ensures c.get-in-loop-k-3.ensures c.hand_on.ensures
