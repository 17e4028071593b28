use Rattle.history.proofs.Touching.{touching_law}
use Rattle.history.proofs.law_of_touching.Goals as goal

pub returns : goal.returns
returns c = touching_law
