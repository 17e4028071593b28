-- what is counted for a row, grows it as it may
use Rattle.handed_rows.proofs.Along.{along_count}
use Rattle.handed_rows.proofs.hand_on.Goals as goal

pub loop-i-preserved : goal.loop-i-preserved
loop-i-preserved c =
    along_count c.loop-i.invariant c.loop-i-test.true c.read-row.ensures c.if-row-stretch.false c.common-part.ensures c.saturating_add.ensures c.set_next.ensures
