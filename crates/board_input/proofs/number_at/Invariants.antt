-- The bytes from `i` on are read.
use Rattle.board_input.proofs.Numbers.{Reached}
use Rattle.board_input.proofs.number_at.Given as goal

abbrev pub invariant-loop-i : goal.invariant-loop-i
invariant-loop-i l = Reached l.input l.at l.width l.value l.i
