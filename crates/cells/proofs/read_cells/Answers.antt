-- `cells::read_cells` meets its contract: refused by the state, or what the inner call hands out. Assumes nothing.
use Rattle.std.proofs.lemmas.Result.{err_from_is_err_and}
use Rattle.cells.proofs.Answering.{cells_not_closed, cells_read}
use Rattle.cells.proofs.read_cells.Goals as goal

pub returns-in_err-closed : goal.returns-in_err-closed
returns-in_err-closed c =
    let p = err_from_is_err_and c.from_residual.result c.from_residual.ensures.1 in
    rw (p.1, p.2) (cells_not_closed c.test.result c.test.ensures c.closed.ensures c.in_err-closed.was)

pub returns : goal.returns
returns c = rw c.from.ensures at (cells_read c.test.result c.test.ensures c.closed.ensures c.in_ok-closed.was c.read_closed.ensures)
