use Rattle.history.proofs.EveryList.{every_list}
use Rattle.history.proofs.law_of_calls.Goals as goal

pub returns : goal.returns
returns c = every_list
