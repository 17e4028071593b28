-- `index::finalize` meets its contract: refused by the state, or finished. Assumes nothing.
use borrow.Author.Rules.{rules}
use Rattle.std.proofs.lemmas.Result.{err_from_is_err_and}
use Rattle.index.proofs.Finishing.{finalize_refused, finalize_open}
use Rattle.index.proofs.finalize.Goals as goal

pub returns-in_err-open : goal.returns-in_err-open
returns-in_err-open c =
    let p = err_from_is_err_and c.from_residual.result c.from_residual.ensures.1 in
    rw (p.1, p.2) (finalize_refused c.test.result c.test.ensures c.open.ensures c.in_err-open.was)

pub returns : goal.returns
returns c = finalize_open c.test.result c.test.ensures c.open.ensures (search rules) c.in_ok-open.was c.finish_open.ensures
