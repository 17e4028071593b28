-- Each turn of `nodes::pass` is one node or absent child, and what is awaited says the same as the whole tree.
use Rattle.std.proofs.Common.{arith}
use Rattle.std.proofs.lemmas.Result.{err_from_is_err_and}
use Rattle.file_scan.proofs.NodeCounts.{pass_start, present_room, pass_present, absent_room, pass_absent, pass_fault, pass_done}
use Rattle.file_scan.proofs.nodes.pass.Goals as goal

pub loop-awaited-init : goal.loop-awaited-init
loop-awaited-init c = pass_start _

pub returns-in_err-count : goal.returns-in_err-count
returns-in_err-count c = let p = err_from_is_err_and c.from_residual.result c.from_residual.ensures.1 in rw (p.1, p.2) (pass_fault c.loop-awaited.invariant _ c.in_err-count.ensures.read c.loop-awaited-test.true)

pub overflow_add-nodes : goal.overflow_add-nodes
overflow_add-nodes c = omega (arith, c.in_ok-count.ensures.within, present_room c.loop-awaited.invariant (rw c.in-Present.is at c.in_ok-count.ensures.read))

pub overflow_add-entries : goal.overflow_add-entries
overflow_add-entries c = omega (arith, c.in_ok-count.ensures.within, present_room c.loop-awaited.invariant (rw c.in-Present.is at c.in_ok-count.ensures.read))

pub overflow_add-awaited : goal.overflow_add-awaited
overflow_add-awaited c = omega (arith, c.in_ok-count.ensures.within, present_room c.loop-awaited.invariant (rw c.in-Present.is at c.in_ok-count.ensures.read))

pub loop-awaited-smaller-in-Present : goal.loop-awaited-smaller-in-Present
loop-awaited-smaller-in-Present c = omega (arith, present_room c.loop-awaited.invariant (rw c.in-Present.is at c.in_ok-count.ensures.read))

pub loop-awaited-smaller : goal.loop-awaited-smaller
loop-awaited-smaller c = omega (arith, absent_room c.loop-awaited.invariant (rw c.in-Absent.is at c.in_ok-count.ensures.read))

pub loop-awaited-preserved-in-Present : goal.loop-awaited-preserved-in-Present
loop-awaited-preserved-in-Present c = pass_present c.loop-awaited.invariant (rw c.in-Present.is at c.in_ok-count.ensures.read) c.loop-awaited-test.true

pub loop-awaited-preserved : goal.loop-awaited-preserved
loop-awaited-preserved c = pass_absent c.loop-awaited.invariant (rw c.in-Absent.is at c.in_ok-count.ensures.read) c.loop-awaited-test.true

pub returns : goal.returns
returns c = pass_done c.loop-awaited.invariant c.loop-awaited-test.false
