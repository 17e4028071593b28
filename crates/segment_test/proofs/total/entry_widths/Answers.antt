use mathlib.Core.Path.{◌∙◌}
use native.Mathlib.Omega.{arith}
use Rattle.segment_test.proofs.Totalling.{widths_none, widths_fit, widths_more}
use Rattle.segment_test.proofs.total.entry_widths.Goals as goal

pub loop-row-init : goal.loop-row-init
loop-row-init c = widths_none

pub overflow_add-sum : goal.overflow_add-sum
overflow_add-sum c =
    omega (arith, widths_fit {width = c.from-in-loop-row.result} c.loop-row.invariant (c.from.ensures ∙ c.node-many.ensures) (omega arith) (omega arith) c.requires)

pub loop-row-preserved : goal.loop-row-preserved
loop-row-preserved c =
    widths_more c.loop-row.invariant (c.from.ensures ∙ c.node-many.ensures) (omega arith) c.node-min.ensures c.node-max.ensures (omega arith)
