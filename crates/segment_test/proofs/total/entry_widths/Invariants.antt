-- The widths of the first rows' entries are added.
use Rattle.segment_test.proofs.Totalling.{WidthsTo}
use Rattle.segment_test.proofs.total.entry_widths.Given as goal

abbrev pub invariant-loop-row : goal.invariant-loop-row
invariant-loop-row l = WidthsTo l.t.nodes.now l.sum l.row
