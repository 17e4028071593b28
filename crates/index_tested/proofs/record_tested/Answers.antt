-- `index_tested::record_tested` meets its contract: refused by the scratch, the state or the counts, or recorded. Assumes nothing.
use Rattle.std.proofs.lemmas.Result.{err_from_is_err_and}
use Rattle.index_tested.proofs.Recording.{tested_short, state_refused, counts_unfit, recorded_open}
use Rattle.index_tested.proofs.record_tested.Goals as goal

pub returns-then-scratch-lt-LEAST_SCRATCH : goal.returns-then-scratch-lt-LEAST_SCRATCH
returns-then-scratch-lt-LEAST_SCRATCH c = tested_short c.if-scratch-lt-LEAST_SCRATCH.true

pub returns-in_err-open : goal.returns-in_err-open
returns-in_err-open c =
    let p = err_from_is_err_and c.from_residual.result c.from_residual.ensures.1 in
    rw (p.1, p.2) (state_refused c.args.state c.if-scratch-lt-LEAST_SCRATCH.false c.open.ensures c.in_err-open.was)

pub returns-then-not-counts_fit : goal.returns-then-not-counts_fit
returns-then-not-counts_fit c =
    counts_unfit c.args.state c.if-scratch-lt-LEAST_SCRATCH.false c.open.ensures c.in_ok-open.was c.counts_fit.ensures c.if-not-counts_fit.true

pub returns : goal.returns
returns c = recorded_open c.args.state c.if-scratch-lt-LEAST_SCRATCH.false c.open.ensures c.in_ok-open.was c.record_open.ensures
