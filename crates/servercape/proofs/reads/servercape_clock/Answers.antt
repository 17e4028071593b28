-- `servercape::reads::servercape_clock` meets its contract: what the call behind answers, by its number. Assumes nothing.
use Rattle.servercape.proofs.Answering.{by_number}
use Rattle.servercape.proofs.reads.servercape_clock.Goals as goal

pub returns : goal.returns
returns c = by_number (λ n. n) c.clock-shown.result c.clock-shown.ensures c.number.ensures
