-- `index::record_op` meets its contract: refused by the scratch or the state, or recorded. Assumes nothing.
use Rattle.std.proofs.lemmas.Result.{err_from_is_err_and}
use Rattle.index.proofs.Recording.{record_short, record_refused, record_opened}
use Rattle.index.proofs.record_op.Goals as goal

pub returns-then-scratch-lt-LEAST_SCRATCH : goal.returns-then-scratch-lt-LEAST_SCRATCH
returns-then-scratch-lt-LEAST_SCRATCH c = record_short c.if-scratch-lt-LEAST_SCRATCH.true

pub returns-in_err-open : goal.returns-in_err-open
returns-in_err-open c =
    let p = err_from_is_err_and c.from_residual.result c.from_residual.ensures.1 in
    rw (p.1, p.2) (record_refused c.test-state.result c.if-scratch-lt-LEAST_SCRATCH.false c.test-state.ensures c.open.ensures c.in_err-open.was)

pub returns : goal.returns
returns c = record_opened c.test-state.result c.if-scratch-lt-LEAST_SCRATCH.false c.test-state.ensures c.open.ensures c.in_ok-open.was c.record_open.ensures
