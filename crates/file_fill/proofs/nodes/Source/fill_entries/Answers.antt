-- Each turn is one entry.
use Rattle.std.proofs.Common.{arith}
use Rattle.std.proofs.Common.{◌≡◌, ◌+◌, ◌-◌}
use Rattle.file_fill.proofs.FillingEntries.{entries_start, entries_room, entries_turn, entries_end, entries_done}
use Rattle.file_fill.proofs.nodes.Source.fill_entries.Goals as goal

pub loop-more-init : goal.loop-more-init
loop-more-init c =
    let all : c.args.count - 0 ≡ c.args.count = omega arith in
    let none : c.args.first + 0 ≡ c.args.first = omega arith in
    rw (all, none) (entries_start _ _ _ _ _ c.requires)

pub returns-in_default : goal.returns-in_default
returns-in_default c = entries_end c.loop-more.invariant c.in_default.ensures.given (omega arith)

pub overflow_add-first : goal.overflow_add-first
overflow_add-first c = omega (arith, entries_room c.loop-more.invariant c.in-Some.ensures.given)

pub loop-more-preserved : goal.loop-more-preserved
loop-more-preserved c = entries_turn c.loop-more.invariant c.in-Some.ensures.given c.first_cell.ensures c.put_entry.ensures (omega arith) (omega arith)

pub returns : goal.returns
returns c = entries_done c.loop-more.invariant (omega arith)
