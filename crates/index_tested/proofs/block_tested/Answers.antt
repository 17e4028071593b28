-- `index_tested::block_tested` meets its contract: refused by the state, no block, or what is held to the store. Assumes nothing.
use Rattle.std.proofs.lemmas.Result.{err_from_is_err_and}
use Rattle.index_tested.proofs.Reading.{block_not_closed, block_none, block_there}
use Rattle.index_tested.proofs.block_tested.Goals as goal

pub returns-in_err-closed : goal.returns-in_err-closed
returns-in_err-closed c =
    let p = err_from_is_err_and c.from_residual.result c.from_residual.ensures.1 in
    rw (p.1, p.2) (block_not_closed c.args.state c.closed.ensures c.in_err-closed.was)

pub returns-in_err-given : goal.returns-in_err-given
returns-in_err-given c =
    let p = err_from_is_err_and c.from_residual-in_err-given.result c.from_residual-in_err-given.ensures.1 in
    rw (p.1, p.2) (block_none c.args.state c.closed.ensures c.in_ok-closed.was c.block_closed.ensures c.in_err-given.was)

pub returns : goal.returns
returns c = block_there c.args.state c.closed.ensures c.in_ok-closed.was c.block_closed.ensures c.in_ok-given.was c.in_store.ensures
