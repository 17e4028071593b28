-- `servercape_tested::servercape_record_tested` meets its contract: what the call behind answers, by its number. Assumes nothing.
use Rattle.servercape_tested.proofs.Numbering.{record_by}
use Rattle.servercape_tested.proofs.servercape_record_tested.Goals as goal

pub returns : goal.returns
returns c = record_by c.from-2.ensures (rw c.from.ensures at c.record_tested-recorded.ensures) c.maybe.ensures
