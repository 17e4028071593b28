use Rattle.growth.proofs.Steps.{grown_boards}
use Rattle.growth.proofs.grown_boards.Goals as goal

pub returns : goal.returns
returns c = grown_boards
