-- `servercape::reads::servercape_find` meets its contract: what the call behind answers, by its number. Assumes nothing.
use Rattle.index_read.specs.Answers.{counts_given}
use Rattle.servercape.proofs.Answering.{by_number}
use Rattle.servercape.proofs.reads.servercape_find.Goals as goal

pub returns : goal.returns
returns c = by_number counts_given c.find-asked.result c.find-asked.ensures c.found.ensures
