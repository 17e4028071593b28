-- Each turn plays one operation.
use Rattle.std.proofs.Common.{rules}
use Rattle.record_all.proofs.Playing.{turn_first, turn_start, turn_room, turn_full, turn_end, item_forward, item_inside, turn_on}
use Rattle.record_all.proofs.record_all.Goals as goal

pub loop-count-init : goal.loop-count-init
loop-count-init c = search (turn_start, turn_first, rules)

pub returns-in_default : goal.returns-in_default
returns-in_default c = turn_end c.loop-count.invariant c.in_default.ensures

pub slice_bounds-op-count : goal.slice_bounds-op-count
slice_bounds-op-count c = item_forward c.in-Some.ensures

pub slice_bounds-op-start : goal.slice_bounds-op-start
slice_bounds-op-start c = search (rules, item_forward)

pub slice_bounds-op-end : goal.slice_bounds-op-end
slice_bounds-op-end c = search (rules, item_inside)

pub record_one-requires : goal.record_one-requires
record_one-requires c = turn_room c.loop-count.invariant c.loop-count-test.true

pub loop-count-preserved : goal.loop-count-preserved
loop-count-preserved c = turn_on c.loop-count.invariant c.in-Some.ensures c.loop-count-test.true (rw c.from.ensures at c.record_one.ensures)

pub returns : goal.returns
returns c = turn_full c.loop-count.invariant c.loop-count-test.false
