use Rattle.history.proofs.Installing.{law_of_hours}
use Rattle.history.proofs.law_of_hours.Goals as goal

pub returns : goal.returns
returns c = law_of_hours
