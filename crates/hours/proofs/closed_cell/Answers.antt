-- `hours::closed_cell`: a byte that is refused, and as many as pass.
use Rattle.hours.proofs.Opening.{closed_found, closed_more}
use Rattle.hours.proofs.closed_cell.Goals as goal
use Rattle.std.proofs.Common.{rules, arith}

pub returns-in_default : goal.returns-in_default
returns-in_default c = closed_found _ _ _ _ _ _ _ c.loop-i.invariant (omega arith) (search rules) (search rules) c.in_default.ensures

pub loop-i-preserved : goal.loop-i-preserved
loop-i-preserved c = closed_more _ _ _ _ _ _ _ c.loop-i.invariant (omega arith) (search rules) (search rules) _ _ c.in-Some.ensures c.min.ensures
