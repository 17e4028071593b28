-- `reads_tested::write_tested` meets its contract: refused by the state or the count, or written. Assumes nothing.
use Rattle.std.proofs.lemmas.Result.{err_from_is_err_and}
use Rattle.reads_tested.proofs.Answering.{write_refused, write_unfit, write_closed}
use Rattle.reads_tested.proofs.write_tested.Goals as goal

pub returns-in_err-closed : goal.returns-in_err-closed
returns-in_err-closed c =
    let p = err_from_is_err_and c.from_residual.result c.from_residual.ensures.1 in
    rw (p.1, p.2) (write_refused c.args.state c.closed.ensures c.in_err-closed.was)

pub returns-then-not-blocks_fit : goal.returns-then-not-blocks_fit
returns-then-not-blocks_fit c = write_unfit c.args.state c.closed.ensures c.in_ok-closed.was c.blocks_fit.ensures c.if-not-blocks_fit.true

pub returns : goal.returns
returns c = write_closed c.args.state c.closed.ensures c.in_ok-closed.was c.write_closed.ensures
