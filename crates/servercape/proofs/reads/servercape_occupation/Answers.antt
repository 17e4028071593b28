-- `servercape::reads::servercape_occupation` meets its contract: what the call behind answers, by its number.
use Rattle.occupation.specs.Windows.{report_given}
use Rattle.servercape.proofs.Answering.{by_number}
use Rattle.servercape.proofs.reads.servercape_occupation.Goals as goal

pub returns : goal.returns
returns c = by_number report_given c.occupation-reported.result c.occupation-reported.ensures c.report.ensures
