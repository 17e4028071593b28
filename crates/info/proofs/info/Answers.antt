-- `info::info` meets its contract: refused by the state, or told. Assumes nothing.
use Rattle.std.proofs.lemmas.Result.{err_from_is_err_and}
use Rattle.info.proofs.Telling.{info_refused, info_taken, formed_told}
use Rattle.info.proofs.info.Goals as goal

pub returns-in_err-formed : goal.returns-in_err-formed
returns-in_err-formed c =
    let p = err_from_is_err_and c.from_residual.result c.from_residual.ensures.1 in
    rw (p.1, p.2) (info_refused c.test.result c.test.ensures c.formed.ensures c.in_err-formed.was)

pub returns : goal.returns
returns c = formed_told (info_taken c.test.result c.test.ensures c.formed.ensures c.in_ok-formed.was) c.info_formed.ensures
