-- `spacetime_file::serialize_to` meets its contract: refused by the state, or written. Assumes nothing.
use Rattle.std.proofs.lemmas.Result.{err_from_is_err_and}
use Rattle.spacetime_file.proofs.Answering.{write_refused, write_taken}
use Rattle.spacetime_file.proofs.serialize_to.Goals as goal

pub returns-in_err-closed : goal.returns-in_err-closed
returns-in_err-closed c =
    let p = err_from_is_err_and c.from_residual.result c.from_residual.ensures.1 in
    rw (p.1, p.2) (write_refused c.test.result c.test.ensures c.closed.ensures c.in_err-closed.was)

pub returns : goal.returns
returns c = write_taken c.test.result c.test.ensures c.closed.ensures c.in_ok-closed.was c.write_closed.ensures
