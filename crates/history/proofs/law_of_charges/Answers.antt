use Rattle.history.proofs.ChargesLaws.{law_of_charges}
use Rattle.history.proofs.law_of_charges.Goals as goal

pub returns : goal.returns
returns c = law_of_charges
