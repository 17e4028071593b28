-- `servercape_tested::servercape_touching_tested` meets its contract: what the call behind answers, by its number. Assumes nothing.
use Rattle.servercape_tested.proofs.Numbering.{touching_by}
use Rattle.servercape_tested.proofs.servercape_touching_tested.Goals as goal

pub returns : goal.returns
returns c = touching_by c.from.ensures c.touching_tested-touched.ensures c.number.ensures
