-- `servercape_tested::servercape_block_tested` meets its contract: what the call behind answers, by its number. Assumes nothing.
use Rattle.servercape_tested.proofs.Numbering.{block_by}
use Rattle.servercape_tested.proofs.servercape_block_tested.Goals as goal

pub returns : goal.returns
returns c = block_by c.from.ensures c.block_tested-given.ensures c.block.ensures
