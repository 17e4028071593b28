-- `touching::touching` meets its contract: refused by the state, or what the inner call hands out. Assumes nothing.
use Rattle.std.proofs.lemmas.Result.{err_from_is_err_and}
use Rattle.touching.proofs.Answering.{touching_refused, touching_taken}
use Rattle.touching.proofs.touching.Goals as goal

pub returns-in_err-closed : goal.returns-in_err-closed
returns-in_err-closed c =
    let p = err_from_is_err_and c.from_residual.result c.from_residual.ensures.1 in
    rw (p.1, p.2) (touching_refused c.test.result c.test.ensures c.closed.ensures c.in_err-closed.was)

pub returns : goal.returns
returns c = touching_taken c.test.result c.test.ensures c.closed.ensures c.in_ok-closed.was (rw c.from.ensures at c.touching_closed.ensures)
