-- The tables have the lengths that the program lends.
use Rattle.std.proofs.Common.{◌≡◌, ℕ, length, replicate}
use Rattle.std.proofs.lemmas.List.{length-replicate}
use Rattle.history.specs.Printed.{board_lent}
use Rattle.board_run.proofs.Running.{lend_lines}
use Rattle.board_run.proofs.lend.Goals as goal

-- an array of zeros is as long as it is declared
zeroed : (n : ℕ) → length (replicate {A = ℕ} n 0) ≡ n
zeroed n = length-replicate n 0

pub returns : goal.returns
returns c =
    lend_lines (zeroed board_lent.pieces) (zeroed board_lent.blocks) (zeroed board_lent.store) (zeroed board_lent.nodes) (zeroed board_lent.entries)
    c.play.ensures
