-- `reports_tested::occupation_tested` meets its contract: refused by the state, or what the inner call answers.
use Rattle.std.proofs.lemmas.Result.{err_from_is_err_and}
use Rattle.reports_tested.proofs.Answering.{occupation_refused, occupation_given}
use Rattle.reports_tested.proofs.occupation_tested.Goals as goal

pub returns-in_err-closed : goal.returns-in_err-closed
returns-in_err-closed c =
    let p = err_from_is_err_and c.from_residual.result c.from_residual.ensures.1 in
    rw (p.1, p.2) (occupation_refused c.args.state c.closed.ensures c.in_err-closed.was)

pub returns : goal.returns
returns c = occupation_given c.args.state c.closed.ensures c.in_ok-closed.was (rw c.from.ensures at c.report_closed.ensures)
