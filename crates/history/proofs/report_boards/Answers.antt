use Rattle.history.proofs.ReportsBoards.{reports_right}
use Rattle.history.proofs.report_boards.Goals as goal

pub returns : goal.returns
returns c = reports_right
