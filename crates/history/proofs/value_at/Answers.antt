use Rattle.history.proofs.Value.{value_law}
use Rattle.history.proofs.value_at.Goals as goal

pub returns : goal.returns
returns c = value_law
