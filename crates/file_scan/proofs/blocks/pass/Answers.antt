-- Each turn of `blocks::pass` is one block, and what is left says the same as all of them.
use Rattle.std.proofs.Common.{arith, ◌≡◌, ◌-◌}
use Rattle.std.proofs.lemmas.Result.{err_from_is_err_and}
use Rattle.file_scan.proofs.BlockCounts.{pass_start, pass_room, pass_turn, pass_fault, pass_done}
use Rattle.file_scan.proofs.blocks.pass.Goals as goal

pub loop-init : goal.loop-init
loop-init c =
    let all : c.args.count - 0 ≡ c.args.count = omega arith in
    rw all (pass_start _ _ _)

pub returns-in_err-row : goal.returns-in_err-row
returns-in_err-row c =
    let p = err_from_is_err_and c.from_residual.result c.from_residual.ensures.1 in
    rw (p.1, p.2) (pass_fault c.loop.invariant _ c.in_err-row.ensures.read (omega arith))

pub overflow_add-bytes : goal.overflow_add-bytes
overflow_add-bytes c = omega (arith, c.in_ok-row.ensures.within, pass_room c.loop.invariant c.in_ok-row.ensures.read)

pub loop-preserved : goal.loop-preserved
loop-preserved c = pass_turn c.loop.invariant c.in_ok-row.ensures.read (omega arith)

pub returns : goal.returns
returns c = pass_done c.loop.invariant (omega arith)
