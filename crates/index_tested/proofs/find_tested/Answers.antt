-- `index_tested::find_tested` meets its contract: refused by the state, or found. Assumes nothing.
use Rattle.std.proofs.lemmas.Result.{err_from_is_err_and}
use Rattle.index_tested.proofs.Reading.{found_not_closed, found_closed}
use Rattle.index_tested.proofs.find_tested.Goals as goal

pub returns-in_err-closed : goal.returns-in_err-closed
returns-in_err-closed c =
    let p = err_from_is_err_and c.from_residual.result c.from_residual.ensures.1 in
    rw (p.1, p.2) (found_not_closed c.args.state c.closed.ensures c.in_err-closed.was)

pub returns : goal.returns
returns c = found_closed c.args.state c.closed.ensures c.in_ok-closed.was (rw c.from.ensures at c.find_closed.ensures)
