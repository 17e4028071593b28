-- `index_record::space_refusal` meets its contract: each return is one step of `spacing`. Assumes nothing.
use native.Mathlib.Omega.{arith}
use Rattle.index_record.proofs.Judging.{sum_fits}
use Rattle.index_record.proofs.space_refusal.Goals as goal

pub overflow_add-count : goal.overflow_add-count
overflow_add-count c = omega (arith, sum_fits c.rows-space.result c.count-count.result c.args.made c.exceeds.ensures c.if-exceeds.false)
