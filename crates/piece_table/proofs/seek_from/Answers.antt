-- a turn goes below the row or above it
use borrow.Author.Rules.{rules}
use native.Mathlib.Omega.{arith}
use Rattle.piece_table.proofs.Seeking.{sinking}
use Rattle.piece_table.proofs.seek_from.Goals as goal
use Rattle.piece_table.proofs.seek_from.Goals.{then-ends_past, else-ends_past}

pub loop-turn-preserved : goal.loop-turn-preserved
loop-turn-preserved c =
    elim c.if-ends_past.branch [
      | then-ends_past w ↦ rw (w.at-is, w.found-is) (search (sinking, rules, arith))
      | else-ends_past w ↦ rw (w.at-is, w.found-is) (search (sinking, rules, arith))
    ]
