use Rattle.demand.proofs.Touched.{touching_shown}
use Rattle.demand.proofs.touching_shows_history.Goals as goal

pub returns : goal.returns
returns c = touching_shown
