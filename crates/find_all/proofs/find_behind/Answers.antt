-- The answer is that of the query, lent what is behind.
use Rattle.std.proofs.Common.{rules}
use Rattle.find_all.proofs.Asking.{found_behind}
use Rattle.find_all.proofs.find_behind.Goals as goal

pub returns : goal.returns
returns c = search (found_behind, rules)
