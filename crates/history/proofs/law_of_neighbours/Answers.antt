use Rattle.history.proofs.Touching.{neighbours_law}
use Rattle.history.proofs.law_of_neighbours.Goals as goal

pub returns : goal.returns
returns c = neighbours_law
