-- `servercape::reads::servercape_last` meets its contract: what the call behind answers, by its number. Assumes nothing.
use Rattle.servercape.proofs.Answering.{by_near}
use Rattle.servercape.proofs.reads.servercape_last.Goals as goal

pub returns : goal.returns
returns c = by_near c.near-block.result c.near-block.ensures c.maybe.ensures
