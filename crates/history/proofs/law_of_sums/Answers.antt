use Rattle.history.proofs.BlockSums.{law_of_sums}
use Rattle.history.proofs.law_of_sums.Goals as goal

pub returns : goal.returns
returns c = law_of_sums
