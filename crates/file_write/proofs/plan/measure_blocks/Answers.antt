-- Each turn measures one block.
use Rattle.std.proofs.Common.{arith}
use Rattle.file_write.proofs.Planning.{share_start, share_one, share_none, share_over}
use Rattle.file_write.proofs.plan.measure_blocks.Goals.{then-lives+in_ok-checked_sub+in_ok-left-2, else-lives}
use Rattle.file_write.proofs.plan.measure_blocks.Goals as goal

pub loop-number-init : goal.loop-number-init
loop-number-init c = share_start _ _ _ _ (omega (arith, c.in_ok-left.ensures))

pub returns-in_err-checked_sub : goal.returns-in_err-checked_sub
returns-in_err-checked_sub c =
    rw c.from_residual-in_err-checked_sub.ensures
    (share_over _ _ _ _ _ _ _ c.loop-number.invariant c.lives.ensures _ c.get-length.result c.if-lives.true c.loop-number-test.true c.get-length.ensures (omega (arith, c.in_err-checked_sub.ensures)))

pub returns-in_err-left-2 : goal.returns-in_err-left-2
returns-in_err-left-2 c =
    rw c.from_residual-in_err-left-2.ensures
    (share_over _ _ _ _ _ _ _ c.loop-number.invariant c.lives.ensures _ c.get-length.result c.if-lives.true c.loop-number-test.true c.get-length.ensures
    (omega (arith, c.in_ok-checked_sub.ensures, c.in_err-left-2.ensures)))

pub loop-number-preserved : goal.loop-number-preserved
loop-number-preserved c = elim c.if-lives.branch [
  | then-lives+in_ok-checked_sub+in_ok-left-2 w ↦
      rw (w.living-is, w.left-is)
      (share_one _ _ _ _ _ _ _ c.loop-number.invariant c.lives.ensures w.get-length.result _ w.if-lives.true w.get-length.ensures (omega (arith, w.in_ok-checked_sub.ensures, w.in_ok-left-2.ensures)))
  | else-lives w ↦ rw (w.living-is, w.left-is) (share_none _ _ _ _ _ _ _ c.loop-number.invariant c.lives.ensures w.if-lives.false)
]
