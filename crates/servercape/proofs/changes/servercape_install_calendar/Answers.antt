-- `servercape::changes::servercape_install_calendar` meets its contract: what the call behind answers, by its number. Assumes nothing.
use Rattle.servercape.proofs.Answering.{by_done}
use Rattle.servercape.proofs.changes.servercape_install_calendar.Goals as goal

pub returns : goal.returns
returns c = by_done c.install_calendar.result c.install_calendar.ensures c.done.ensures
