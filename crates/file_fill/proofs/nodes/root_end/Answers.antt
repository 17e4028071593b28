-- Each return is what the row says.
use Rattle.file_fill.proofs.Places.{end_fault, end_absent, end_out_of_range, end_there}
use Rattle.file_fill.proofs.nodes.root_end.Goals as goal

pub returns-in_err-ok : goal.returns-in_err-ok
returns-in_err-ok c = rw c.from_residual.ensures (end_fault _ _ _ c.node.result c.in_err-ok.ensures.value c.node.ensures.read.is)

pub returns-in-Absent : goal.returns-in-Absent
returns-in-Absent c = end_absent _ _ _ c.node.result (rw c.in-Absent.is at c.in_ok-ok.ensures.value) c.node.ensures.read.is

pub returns-then-max-eq0 : goal.returns-then-max-eq0
returns-then-max-eq0 c = end_out_of_range _ _ _ c.node.result (rw c.in-Present.is at c.in_ok-ok.ensures.value) c.node.ensures.read.is c.then-max-eq0.either

pub returns-else-max-gt-MAX_END_TICK : goal.returns-else-max-gt-MAX_END_TICK
returns-else-max-gt-MAX_END_TICK c = end_there _ _ _ c.node.result (rw c.in-Present.is at c.in_ok-ok.ensures.value) c.node.ensures.read.is c.if-max-eq0.false c.if-max-gt-MAX_END_TICK.false
