-- `i` queries have been answered, and whatever is found from there on completes them.
use Rattle.layout.specs.Tables.{held}
use Rattle.find_all.proofs.Asking.{Turning}
use Rattle.find_all.proofs.find_all.Given as goal

abbrev pub invariant-loop-i : goal.invariant-loop-i
invariant-loop-i l =
    Turning l.state (held l.lent) l.kind l.queries l.fn.answers l.answers l.fn.numbers l.numbers l.most l.i l.used
