-- `record_all::put_answer` meets its contract: each arm puts its three numbers. Assumes nothing.
use Rattle.record_all.proofs.Playing.{answer_read, answer_update, answer_refused}
use Rattle.record_all.proofs.put_answer.Goals as goal

pub returns-in-Ok-None : goal.returns-in-Ok-None
returns-in-Ok-None c = answer_read c.in-Ok-None.is (rw c.in-Ok-None.is at c.in-Ok-None.field-0-is) c.put_three.ensures

pub returns-in-Ok-Some : goal.returns-in-Ok-Some
returns-in-Ok-Some c = answer_update c.in-Ok-Some.is (rw c.in-Ok-Some.is at c.in-Ok-Some.field-0-is) c.put_three-in-Ok-Some.ensures

pub returns-in-Err : goal.returns-in-Err
returns-in-Err c = search (answer_refused)
