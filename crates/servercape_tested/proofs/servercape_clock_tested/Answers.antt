-- `servercape_tested::servercape_clock_tested` meets its contract: what the call behind answers, by its number. Assumes nothing.
use Rattle.servercape_tested.proofs.Numbering.{clock_by}
use Rattle.servercape_tested.proofs.servercape_clock_tested.Goals as goal

pub returns : goal.returns
returns c = clock_by c.from.ensures c.clock_tested-shown.ensures c.number.ensures
