-- `occupation::total_cells`: lengths that are too many together, one length more, and the sum at the end.
use Rattle.std.proofs.Common.{rules}
use Rattle.occupation.proofs.Totals.{adding_over, adding_more, adding_some}
use Rattle.occupation.proofs.total_cells.Goals as goal

pub returns-in_default : goal.returns-in_default
returns-in_default c =
    adding_over _ _ _ _ _ _ _ c.loop-k.invariant c.count-count.ensures c.loop-k-test.true c.at-window.ensures.start c.at-window.ensures.end (search rules)
    c.in_default.ensures

pub loop-k-preserved : goal.loop-k-preserved
loop-k-preserved c =
    adding_more _ _ _ _ _ _ _ c.loop-k.invariant c.count-count.ensures c.loop-k-test.true c.at-window.ensures.start c.at-window.ensures.end (search rules) _
    c.in-Some.ensures.0 c.in-Some.ensures.1

pub returns : goal.returns
returns c = adding_some _ _ _ _ c.loop-k.invariant c.count-count.ensures c.loop-k-test.false c.if-cells-eq0.false
