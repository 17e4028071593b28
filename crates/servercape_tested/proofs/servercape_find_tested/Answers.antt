-- `servercape_tested::servercape_find_tested` meets its contract: what the call behind answers, by its number. Assumes nothing.
use Rattle.servercape_tested.proofs.Numbering.{find_by}
use Rattle.servercape_tested.proofs.servercape_find_tested.Goals as goal

pub returns : goal.returns
returns c = find_by c.from.ensures c.find_tested-asked.ensures c.found.ensures
