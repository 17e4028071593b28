-- `reads_tested::near_tested` meets its contract: refused by the state, or what the inner call hands out. Assumes nothing.
use Rattle.std.proofs.lemmas.Result.{err_from_is_err_and}
use Rattle.reads_tested.proofs.Answering.{near_refused, near_taken}
use Rattle.reads_tested.proofs.near_tested.Goals as goal

pub returns-in_err-closed : goal.returns-in_err-closed
returns-in_err-closed c =
    let p = err_from_is_err_and c.from_residual.result c.from_residual.ensures.1 in
    rw (p.1, p.2) (near_refused c.args.state c.closed.ensures _ _ _ _ _ _ c.args.side c.in_err-closed.was)

pub returns : goal.returns
returns c = near_taken c.args.state c.closed.ensures _ _ _ _ _ _ _ c.args.side c.in_ok-closed.was (rw c.from.ensures at c.near_closed.ensures)
