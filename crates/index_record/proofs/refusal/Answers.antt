-- `index_record::refusal` meets its contract: each return is one step of Judging. Assumes nothing.
use mathlib.Core.Path.{refl}
use borrow.Author.Rules.{rules}
use native.Mathlib.Omega.{arith}
use Rattle.std.proofs.lemmas.Result.{err_from_is_err_and}
use Rattle.index_record.proofs.Judging.{judge_call, judge_closed, judge_read, judge_space, judge_update, cell_fits}
use Rattle.index_record.proofs.refusal.Goals as goal

pub returns-in_err-call_refusal : goal.returns-in_err-call_refusal
returns-in_err-call_refusal c =
    let p = err_from_is_err_and c.from_residual.result c.from_residual.ensures.1 in
    rw (p.1, p.2) (judge_call c.call_refusal.ensures c.in_err-call_refusal.was)

pub returns-then-closed : goal.returns-then-closed
returns-then-closed c = judge_closed c.call_refusal.ensures c.in_ok-call_refusal.was c.closed.ensures c.if-closed.true

pub returns-then-size-same : goal.returns-then-size-same
returns-then-size-same c =
    judge_read c.call_refusal.ensures c.in_ok-call_refusal.was (search rules) (search rules) c.closed.ensures c.if-closed.false c.survey-after.ensures c.if-size-same.true

pub returns-in_err-space_refusal : goal.returns-in_err-space_refusal
returns-in_err-space_refusal c =
    let p = err_from_is_err_and c.from_residual-in_err-space_refusal.result c.from_residual-in_err-space_refusal.ensures.1 in
    rw (p.1, p.2)
    (judge_space c.call_refusal.ensures c.in_ok-call_refusal.was (search rules) (search rules) c.closed.ensures c.if-closed.false c.survey-after.ensures c.if-size-same.false
    c.space_refusal.ensures c.in_err-space_refusal.was)

pub overflow_add-cell : goal.overflow_add-cell
overflow_add-cell c = omega (arith, cell_fits c.call_refusal.ensures c.in_ok-call_refusal.was c.if-size-same.false)

pub returns : goal.returns
returns c =
    judge_update c.call_refusal.ensures c.in_ok-call_refusal.was (search rules) (search rules) c.closed.ensures c.if-closed.false c.survey-after.ensures c.if-size-same.false
    c.space_refusal.ensures c.in_ok-space_refusal.was refl
