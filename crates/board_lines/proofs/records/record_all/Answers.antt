use Rattle.std.proofs.Common.{◌≡◌, ◌∙◌, sym, Some, None, Ok, arith, rules}
use Rattle.board_lines.proofs.Recording.{turn_first, turn_inside, turn_forward, turn_less, turn_count, turn_on, turn_end}
use Rattle.board_lines.proofs.records.record_all.Goals as goal

pub loop-record-init : goal.loop-record-init
loop-record-init c = turn_first _ _ _ _ _ _

pub slice_bounds-op-count : goal.slice_bounds-op-count
slice_bounds-op-count c = turn_forward c.loop-record.invariant (rw c.in-Some-Ok.field-0-is at c.in-Some-Ok.ensures)

pub slice_bounds-op-start : goal.slice_bounds-op-start
slice_bounds-op-start c = turn_forward c.loop-record.invariant (rw c.in-Some-Ok.field-0-is at c.in-Some-Ok.ensures)

pub slice_bounds-op-end : goal.slice_bounds-op-end
slice_bounds-op-end c = turn_inside c.loop-record.invariant (rw c.in-Some-Ok.field-0-is at c.in-Some-Ok.ensures)

pub overflow_add-k : goal.overflow_add-k
overflow_add-k c =
    let room = turn_count c.loop-record.invariant (rw c.in-Some-Ok.field-0-is at c.in-Some-Ok.ensures) (search rules) in
    search rules

pub loop-record-smaller : goal.loop-record-smaller
loop-record-smaller c =
    let e = rw c.in-Some-Ok.field-0-is at c.in-Some-Ok.ensures in
    omega (arith, turn_less c.loop-record.invariant e, turn_inside c.loop-record.invariant e)

pub loop-record-preserved : goal.loop-record-preserved
loop-record-preserved c = turn_on c.loop-record.invariant (rw c.in-Some-Ok.field-0-is at c.in-Some-Ok.ensures) c.record_one.ensures

pub returns-in_default : goal.returns-in_default
returns-in_default c =
    turn_end c.loop-record.invariant (λ r e. let both : Some (Ok r) ≡ Some c.in_default.field-0 = e ∙ sym c.record_at.ensures ∙ c.in_default.is in cc)

pub returns-in_default-2 : goal.returns-in_default-2
returns-in_default-2 c = turn_end c.loop-record.invariant (λ r e. let both : Some (Ok r) ≡ None = e ∙ sym c.record_at.ensures ∙ c.in_default.is in cc)
