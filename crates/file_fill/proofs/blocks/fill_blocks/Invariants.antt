-- What the blocks that are left leave, all leave from the start.
use Rattle.std.proofs.Common.{◌-◌}
use Rattle.file_fill.proofs.FillingBlocks.{Onward}
use Rattle.file_fill.proofs.blocks.fill_blocks.Given as goal

abbrev pub invariant-loop-rows : goal.invariant-loop-rows
invariant-loop-rows l =
    Onward l.file l.kind l.count l.at l.fn.blocks l.fn.store l.blocks l.store (l.count - l.rows) l.rows l.used l.reader
