use Rattle.board_run.proofs.Running.{first_short, first_bad, first_good}
use Rattle.board_run.proofs.run_first.Goals as goal

pub returns-in_default : goal.returns-in_default
returns-in_default c = first_short _ c.in_default.ensures c.bad_record.ensures

pub returns-in-Ok : goal.returns-in-Ok
returns-in-Ok c = first_good _ c.in-Some.ensures c.in-Ok.ensures c.lend.ensures

pub returns-in-Err : goal.returns-in-Err
returns-in-Err c = first_bad _ c.in-Err.ensures c.bad_record-in-Err.ensures
