-- The parts fit, and nodes and entries behind them.
use Rattle.std.proofs.Common.{arith}
use Rattle.file_write.proofs.Planning.{fits_told, plan_fits}
use Rattle.file_write.proofs.plan.measure.Goals as goal

pub overflow_sub-left : goal.overflow_sub-left
overflow_sub-left c = let p = fits_told _ _ _ _ c.measure_parts.ensures c.in_ok-used.was in omega (arith, p.0, p.1)

pub returns : goal.returns
returns c =
    plan_fits c.args.closed.now.blocks.now c.args.closed.now.nodes.now c.args.closed.now.entries.now c.args.room _ c.measure_parts.ensures _ c.in_ok-used.was _ c.get-rows.ensures _ c.get-numbers.ensures _
    (let p = fits_told _ _ _ _ c.measure_parts.ensures c.in_ok-used.was in
    omega (arith, p.0, p.1, c.in_ok-checked_mul.ensures, c.in_ok-rest.ensures, c.in_ok-checked_mul-2.ensures, c.in_ok-spare.ensures))
