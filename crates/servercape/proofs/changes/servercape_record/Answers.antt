-- `servercape::changes::servercape_record` meets its contract: what the call behind answers, by its number. Assumes nothing.
use Rattle.servercape.proofs.Answering.{by_change}
use Rattle.servercape.proofs.changes.servercape_record.Goals as goal

pub returns : goal.returns
returns c = by_change c.record_op-recorded.result (rw c.from.ensures at c.record_op-recorded.ensures) c.maybe.ensures
