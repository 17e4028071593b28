use Rattle.std.proofs.Common.{rules}
use Rattle.board_run.proofs.Running.{run_lines}
use Rattle.board_run.proofs.run.Goals as goal

pub returns : goal.returns
returns c = run_lines _ _ c.min.ensures (search rules)
