-- `servercape_tested::servercape_last_tested` meets its contract: what the call behind answers, by its number. Assumes nothing.
use Rattle.servercape_tested.proofs.Numbering.{last_by}
use Rattle.servercape_tested.proofs.servercape_last_tested.Goals as goal

pub returns : goal.returns
returns c = last_by c.from.ensures c.near_tested-block.ensures c.maybe.ensures
