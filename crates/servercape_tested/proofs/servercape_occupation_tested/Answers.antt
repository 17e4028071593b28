-- `servercape_tested::servercape_occupation_tested` meets its contract: what the call behind answers, by its number.
use Rattle.servercape_tested.proofs.Numbering.{occupation_by}
use Rattle.servercape_tested.proofs.servercape_occupation_tested.Goals as goal

pub returns : goal.returns
returns c = occupation_by c.from.ensures c.occupation_tested-reported.ensures c.report.ensures
