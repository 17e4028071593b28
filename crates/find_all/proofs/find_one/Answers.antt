-- `find_all::find_one` meets its contract: each arm is a step of `ones`. Assumes nothing.
use borrow.Author.Rules.{rules}
use Rattle.find_all.proofs.Asking.{ones}
use Rattle.find_all.proofs.find_one.Goals as goal

pub returns-in-Ok : goal.returns-in-Ok
returns-in-Ok c = search (ones, rules)

pub returns-in-Err : goal.returns-in-Err
returns-in-Err c = search (ones, rules)
