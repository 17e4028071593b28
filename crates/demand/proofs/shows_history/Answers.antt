use Rattle.demand.proofs.Shown.{cells_shown}
use Rattle.demand.proofs.shows_history.Goals as goal

pub returns : goal.returns
returns c = cells_shown
