-- `servercape::changes::servercape_finish` meets its contract: what the call behind answers, by its number. Assumes nothing.
use Rattle.servercape.proofs.Answering.{by_done}
use Rattle.servercape.proofs.changes.servercape_finish.Goals as goal

pub returns : goal.returns
returns c = by_done c.finalize.result c.finalize.ensures c.done.ensures
