-- `servercape::reads::servercape_info` meets its contract: what the call behind answers, by its number. Assumes nothing.
use Rattle.info.specs.Answers.{summary_given}
use Rattle.servercape.proofs.Answering.{by_number}
use Rattle.servercape.proofs.reads.servercape_info.Goals as goal

pub returns : goal.returns
returns c = by_number summary_given c.info.result c.info.ensures c.standing.ensures
