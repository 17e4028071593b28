-- `install::install_days` meets its contract: refused by the state, or installed. Assumes nothing.
use Rattle.std.proofs.lemmas.Result.{err_from_is_err_and}
use Rattle.install.proofs.InstallingDays.{days_refused, days_formed}
use Rattle.install.proofs.install_days.Goals as goal

pub returns-in_err-formed : goal.returns-in_err-formed
returns-in_err-formed c =
    let p = err_from_is_err_and c.from_residual.result c.from_residual.ensures.1 in
    rw (p.1, p.2) (days_refused c.test.result c.test.ensures c.formed.ensures c.in_err-formed.was)

pub returns : goal.returns
returns c = days_formed c.test.result c.test.ensures c.formed.ensures c.in_ok-formed.was c.install_days_formed.ensures
