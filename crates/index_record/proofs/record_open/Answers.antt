-- `index_record::record_open` meets its contract: refused, a read, or an update. Assumes nothing.
use Rattle.std.proofs.lemmas.Result.{err_from_is_err_and}
use Rattle.index_record.proofs.Recording.{open_refused}
use Rattle.index_record.proofs.record_open.Goals as goal

pub returns-in_err-refusal : goal.returns-in_err-refusal
returns-in_err-refusal c =
    let p = err_from_is_err_and c.from_residual.result c.from_residual.ensures.1 in
    rw (p.1, p.2) (open_refused c.refusal.ensures c.in_err-refusal.was)
