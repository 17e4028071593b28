use Rattle.history.proofs.Changing.{change_law}
use Rattle.history.proofs.law_of_change.Goals as goal

pub returns : goal.returns
returns c = change_law
