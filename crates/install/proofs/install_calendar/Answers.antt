-- `install::install_calendar` meets its contract: refused by the state, or installed. Assumes nothing.
use Rattle.std.proofs.lemmas.Result.{err_from_is_err_and}
use Rattle.install.proofs.Installing.{install_refused, install_opened}
use Rattle.install.proofs.install_calendar.Goals as goal

pub returns-in_err-open : goal.returns-in_err-open
returns-in_err-open c =
    let p = err_from_is_err_and c.from_residual.result c.from_residual.ensures.1 in
    rw (p.1, p.2) (install_refused c.test.result c.test.ensures c.open.ensures c.in_err-open.was)

pub returns : goal.returns
returns c = install_opened c.test.result c.test.ensures c.open.ensures c.in_ok-open.was c.install_open.ensures
