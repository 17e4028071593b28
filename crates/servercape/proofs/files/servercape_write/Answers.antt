-- `servercape::files::servercape_write` meets its contract: what the call behind answers, by its number. Assumes nothing.
use Rattle.servercape.proofs.Answering.{by_number}
use Rattle.servercape.proofs.files.servercape_write.Goals as goal

pub returns : goal.returns
returns c = by_number (λ n. n) c.serialize_to-count.result c.serialize_to-count.ensures c.number.ensures
