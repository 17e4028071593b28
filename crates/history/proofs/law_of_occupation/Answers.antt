use Rattle.history.proofs.OccupationLaws.{law_of_occupation}
use Rattle.history.proofs.law_of_occupation.Goals as goal

pub returns : goal.returns
returns c = law_of_occupation
