use Rattle.std.proofs.Common.{ℕ}
use mathlib.Core.Path.{sym}
use lib.ListN.{length-replicate}
use Rattle.board_try.proofs.buffer.Goals as goal

pub returns : goal.returns
returns c = sym (length-replicate {A = ℕ} 1000000 0)
