-- `reads_tested::info_tested` meets its contract: refused by the state, or told. Assumes nothing.
use Rattle.std.proofs.lemmas.Result.{err_from_is_err_and}
use Rattle.reads_tested.proofs.Answering.{info_refused, info_told}
use Rattle.reads_tested.proofs.info_tested.Goals as goal

pub returns-in_err-formed : goal.returns-in_err-formed
returns-in_err-formed c =
    let p = err_from_is_err_and c.from_residual.result c.from_residual.ensures.1 in
    rw (p.1, p.2) (info_refused c.args.state c.formed.ensures c.in_err-formed.was)

pub returns : goal.returns
returns c = info_told c.args.state c.formed.ensures c.in_ok-formed.was c.info_formed.ensures
