-- Each return is what the row says.
use Rattle.file_fill.proofs.Places.{half_fault, half_absent, half_wrong, half_present}
use Rattle.file_fill.proofs.nodes.half_at.Goals as goal

pub returns-in_err-row : goal.returns-in_err-row
returns-in_err-row c = rw c.from_residual.ensures (half_fault _ _ _ _ _ c.node.result c.in_err-row.ensures.value c.node.ensures.read.is)

pub returns-in-Absent : goal.returns-in-Absent
returns-in-Absent c = half_absent _ _ _ _ _ c.node.result (rw c.in-Absent.is at c.in_ok-row.ensures.value) c.node.ensures.read.is

pub returns-then-not-is_place : goal.returns-then-not-is_place
returns-then-not-is_place c = half_wrong _ _ _ _ _ c.node.result (rw c.in-Present.is at c.in_ok-row.ensures.value) c.node.ensures.read.is c.if-not-is_place.ensures

pub returns-else-not-is_place : goal.returns-else-not-is_place
returns-else-not-is_place c = half_present _ _ _ _ _ c.node.result (rw c.in-Present.is at c.in_ok-row.ensures.value) c.node.ensures.read.is c.if-not-is_place.ensures
