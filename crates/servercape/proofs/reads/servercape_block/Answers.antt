-- `servercape::reads::servercape_block` meets its contract: what the call behind answers, by its number. Assumes nothing.
use Rattle.index_read.specs.Answers.{fields_given}
use Rattle.servercape.proofs.Answering.{by_number}
use Rattle.servercape.proofs.reads.servercape_block.Goals as goal

pub returns : goal.returns
returns c = by_number fields_given c.block-given.result c.block-given.ensures c.block.ensures
