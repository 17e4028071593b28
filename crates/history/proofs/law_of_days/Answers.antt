use Rattle.history.proofs.DaysLaws.{law_of_days}
use Rattle.history.proofs.law_of_days.Goals as goal

pub returns : goal.returns
returns c = law_of_days
