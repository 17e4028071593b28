use Rattle.board_run.proofs.Running.{open_lines_lem}
use Rattle.board_run.proofs.play_open.Goals as goal

pub returns : goal.returns
returns c = search open_lines_lem
