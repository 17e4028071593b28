-- `servercape_tested::servercape_read_cells_tested` meets its contract: what the call behind answers, by its number. Assumes nothing.
use Rattle.servercape_tested.proofs.Numbering.{cells_by}
use Rattle.servercape_tested.proofs.servercape_read_cells_tested.Goals as goal

pub returns : goal.returns
returns c = cells_by c.from.ensures c.cells_tested-read.result c.cells_tested-read.ensures c.done.ensures
