-- `board_run::play` meets its contract: refused, or played. Assumes nothing.
use Rattle.board_run.proofs.Running.{play_refused, play_opened}
use Rattle.board_run.proofs.play.Goals as goal

pub returns-in-Ok : goal.returns-in-Ok
returns-in-Ok c = play_opened c.open_one.ensures c.in-Ok.is (rw c.from-kind.ensures at c.play_open.ensures)

pub returns-in-Err : goal.returns-in-Err
returns-in-Err c = play_refused c.open_one.ensures c.in-Err.is c.from.ensures c.open_refused.ensures
