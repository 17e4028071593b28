use Rattle.history.proofs.Boards.{requested_right}
use Rattle.history.proofs.requested_boards.Goals as goal

pub returns : goal.returns
returns c = requested_right
