-- `servercape_tested::servercape_info_tested` meets its contract: what the call behind answers, by its number. Assumes nothing.
use Rattle.servercape_tested.proofs.Numbering.{info_by}
use Rattle.servercape_tested.proofs.servercape_info_tested.Goals as goal

pub returns : goal.returns
returns c = info_by c.from.ensures c.info_tested-told.ensures c.standing.ensures
