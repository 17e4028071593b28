-- `servercape::changes::servercape_install_days` meets its contract: what the call behind answers, by its number. Assumes nothing.
use Rattle.servercape.proofs.Answering.{by_done}
use Rattle.servercape.proofs.changes.servercape_install_days.Goals as goal

pub returns : goal.returns
returns c = by_done c.install_days.result c.install_days.ensures c.done.ensures
