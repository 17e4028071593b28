-- `servercape::reads::servercape_touching` meets its contract: what the call behind answers, by its number. Assumes nothing.
use Rattle.servercape.proofs.Answering.{by_number}
use Rattle.servercape.proofs.reads.servercape_touching.Goals as goal

pub returns : goal.returns
returns c = by_number (λ n. n) c.touching-touched.result c.touching-touched.ensures c.number.ensures
