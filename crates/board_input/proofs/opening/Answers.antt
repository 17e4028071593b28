use Rattle.std.proofs.Common.{arith}
use Rattle.board_input.proofs.Records.{start_open}
use Rattle.board_input.proofs.opening.Goals as goal

pub returns : goal.returns
returns c = start_open _ (omega arith) c.number_at-end.ensures
