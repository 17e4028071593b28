-- Each turn measures one kind.
use Rattle.std.proofs.Common.{arith}
use Rattle.file_write.proofs.Planning.{parts_start, parts_turn}
use Rattle.file_write.proofs.plan.measure_parts.Goals as goal

pub loop-kind-init : goal.loop-kind-init
loop-kind-init c = parts_start _ _ _

pub overflow_add-used : goal.overflow_add-used
overflow_add-used c = omega (arith, (parts_turn _ _ _ _ _ c.loop-kind.invariant _ c.measure_part.ensures _ c.in_ok-more.was).fits, c.ranges.room.fits)

pub loop-kind-preserved : goal.loop-kind-preserved
loop-kind-preserved c = parts_turn _ _ _ _ _ c.loop-kind.invariant _ c.measure_part.ensures _ c.in_ok-more.was
