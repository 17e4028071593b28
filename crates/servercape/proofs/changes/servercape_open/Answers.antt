-- `servercape::changes::servercape_open` meets its contract: what the call behind answers, by its number. Assumes nothing.
use Rattle.servercape.proofs.Answering.{by_done}
use Rattle.servercape.proofs.changes.servercape_open.Goals as goal

pub returns : goal.returns
returns c = by_done c.open.result c.open.ensures c.done.ensures
