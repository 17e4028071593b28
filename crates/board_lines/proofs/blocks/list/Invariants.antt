-- The lines of the first blocks are put.
use Rattle.board_lines.proofs.Listing.{Listing}
use Rattle.board_lines.proofs.blocks.list.Given as goal

abbrev pub invariant-loop-number : goal.invariant-loop-number
invariant-loop-number l = Listing l.blocks l.store l.initial.out l.number l.out
