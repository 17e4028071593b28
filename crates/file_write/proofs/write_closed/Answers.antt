-- Each return is a step of the answer.
use Rattle.std.proofs.lemmas.Result.{err_from_is_err_and}
use Rattle.file_write.proofs.Answering.{closed_long, closed_fits}
use Rattle.file_write.proofs.write_closed.Goals as goal

pub returns-in_err-size : goal.returns-in_err-size
returns-in_err-size c =
    let p = err_from_is_err_and c.from_residual.result c.from_residual.ensures.1 in
    rw (p.1, p.2) (closed_long _ _ _ _ _ _ c.measure.ensures c.in_err-size.ensures.value)

pub returns : goal.returns
returns c = closed_fits _ _ _ _ _ _ c.measure.ensures _ _ c.in_ok-size.ensures.ok_part c.write_parts.ensures
