-- `index::block` meets its contract: refused by the state, or what the inner call hands out. Assumes nothing.
use Rattle.std.proofs.lemmas.Result.{err_from_is_err_and}
use Rattle.index.proofs.Answering.{block_not_closed, block_given}
use Rattle.index.proofs.block.Goals as goal

pub returns-in_err-closed : goal.returns-in_err-closed
returns-in_err-closed c =
    let p = err_from_is_err_and c.from_residual.result c.from_residual.ensures.1 in
    rw (p.1, p.2) (block_not_closed c.test.result c.test.ensures c.closed.ensures c.in_err-closed.was)

pub returns : goal.returns
returns c = block_given c.test.result c.test.ensures c.closed.ensures c.in_ok-closed.was c.block_closed.ensures
