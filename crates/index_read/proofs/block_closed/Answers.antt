-- `index_read::block_closed` meets its contract: each return is a step of `giving`. Assumes nothing.
use Rattle.index_read.proofs.Giving.{giving}
use Rattle.index_read.proofs.block_closed.Goals as goal

pub returns-then-count-number : goal.returns-then-count-number
returns-then-count-number c = search giving

pub returns : goal.returns
returns c = search giving
