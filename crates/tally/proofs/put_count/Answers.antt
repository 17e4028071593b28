use Rattle.tally.proofs.Putting.{count_put}
use Rattle.tally.proofs.put_count.Goals as goal

pub returns : goal.returns
returns c = search count_put
