-- Each turn is one block.
use Rattle.std.proofs.Common.{arith}
use Rattle.std.proofs.Common.{◌≡◌, ◌-◌}
use Rattle.file_fill.proofs.FillingBlocks.{fill_start, fill_room, fill_turn, fill_fault, fill_done}
use Rattle.file_fill.proofs.blocks.fill_blocks.Goals as goal

pub loop-rows-init : goal.loop-rows-init
loop-rows-init c =
    let all : c.args.count - 0 ≡ c.args.count = omega arith in
    rw all (fill_start _ _ _ _ _)

pub returns-in_default : goal.returns-in_default
returns-in_default c = fill_fault c.loop-rows.invariant _ c.in_default.ensures.read (omega arith)

pub overflow_add-used : goal.overflow_add-used
overflow_add-used c = omega (arith, fill_room c.loop-rows.invariant c.in-Ok.field-0 c.in-Ok.ensures.read)

pub loop-rows-preserved : goal.loop-rows-preserved
loop-rows-preserved c = fill_turn c.loop-rows.invariant c.in-Ok.field-0 c.in-Ok.ensures.read c.put_row.ensures c.copy_in.ensures (omega arith)

pub returns : goal.returns
returns c = fill_done c.loop-rows.invariant (omega arith)
