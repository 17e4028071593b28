-- `servercape::reads::servercape_read_cells` meets its contract: what the call behind answers, by its number. Assumes nothing.
use Rattle.servercape.proofs.Answering.{by_done}
use Rattle.servercape.proofs.reads.servercape_read_cells.Goals as goal

pub returns : goal.returns
returns c = by_done c.read_cells-read.result c.read_cells-read.ensures c.done.ensures
