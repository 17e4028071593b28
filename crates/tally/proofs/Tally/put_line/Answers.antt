use Rattle.tally.proofs.Putting.{line_put}
use Rattle.tally.proofs.Tally.put_line.Goals as goal

pub returns : goal.returns
returns c = line_put _ _ c.put_count.ensures c.put_count-2.ensures c.put_count-3.ensures c.put.ensures
