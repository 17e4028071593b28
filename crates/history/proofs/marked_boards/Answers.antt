use Rattle.history.proofs.Boards.{boards_right}
use Rattle.history.proofs.marked_boards.Goals as goal

pub returns : goal.returns
returns c = boards_right
