use Rattle.board_lines.proofs.Recording.{one_taken, one_refused}
use Rattle.board_lines.proofs.records.record_one.Goals as goal

pub returns-in-Ok : goal.returns-in-Ok
returns-in-Ok c = one_taken c.record_open.ensures c.in-Ok.is

pub returns-in-Err : goal.returns-in-Err
returns-in-Err c = one_refused c.record_open.ensures c.in-Err.is c.from.ensures c.op_refused.ensures
