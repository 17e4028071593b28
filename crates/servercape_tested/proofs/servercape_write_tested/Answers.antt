-- `servercape_tested::servercape_write_tested` meets its contract: what the call behind answers, by its number. Assumes nothing.
use Rattle.servercape_tested.proofs.Numbering.{write_by}
use Rattle.servercape_tested.proofs.servercape_write_tested.Goals as goal

pub returns : goal.returns
returns c = write_by c.from.ensures c.write_tested-count.ensures c.number.ensures
