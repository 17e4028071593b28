use native.Mathlib.Omega.{arith}
use Rattle.lists.proofs.Numbers.{confirm}
use Rattle.tables.proofs.Zeros.{zeros_more, zeros_all}
use Rattle.tables.proofs.all_zero.Goals as goal

pub loop-from-preserved : goal.loop-from-preserved
loop-from-preserved c = zeros_more c.args.table.now c.loop-from.from _ c.loop-from.invariant (c.part_zero.ensures.yes c.if-not-part_zero.false) (omega arith) (omega arith)

pub returns : goal.returns
returns c = confirm (zeros_all c.loop-from.invariant (omega arith))
