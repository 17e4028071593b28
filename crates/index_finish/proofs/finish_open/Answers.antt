-- `index_finish::finish_open` meets its contract: refused, or settled. Assumes nothing.
use Rattle.std.proofs.lemmas.Result.{err_from_is_err_and}
use Rattle.index_finish.proofs.Public.{open_refused, open_done}
use Rattle.index_finish.proofs.finish_open.Goals as goal

pub returns-in_err-prepare : goal.returns-in_err-prepare
returns-in_err-prepare c =
    let p = err_from_is_err_and c.from_residual.result c.from_residual.ensures.1 in
    rw (p.1, p.2) (open_refused c.prepare.ensures c.in_err-prepare.was)

pub returns : goal.returns
returns c = open_done c.prepare.ensures c.in_ok-prepare.was c.settle.ensures
