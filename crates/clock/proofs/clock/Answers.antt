-- `clock::clock` meets its contract: refused by the state, or told. Assumes nothing.
use Rattle.std.proofs.lemmas.Result.{err_from_is_err_and}
use Rattle.clock.proofs.Telling.{clock_refused, clock_told}
use Rattle.clock.proofs.clock.Goals as goal

pub returns-in_err-formed : goal.returns-in_err-formed
returns-in_err-formed c =
    let p = err_from_is_err_and c.from_residual.result c.from_residual.ensures.1 in
    rw (p.1, p.2) (clock_refused c.test.result c.test.ensures c.formed.ensures c.in_err-formed.was)

pub returns : goal.returns
returns c = clock_told c.test.result c.test.ensures c.formed.ensures c.in_ok-formed.was c.clock_formed.ensures
