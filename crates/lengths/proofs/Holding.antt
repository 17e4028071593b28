-- A slice as long as `length_for` says has the rows asked for. Assumes nothing.
use mathlib.Core.Path.{◌≡◌}
use mathlib.Core.Bool.{Bool, true, false, cond}
use Prim.Native.Nat.{ℕ, ◌+◌, ◌*◌, ◌^◌, ◌<◌}
use native.Mathlib.Omega.{arith}
use lib.Dec.{ltb}
use Rattle.history.specs.Lent.{row_width, entry_width, piece_head, block_head, node_head, entry_head}
use Rattle.lengths.specs.Lengths.{whole, length_for, LengthsHold}

-- a length that is not 0 was not cut
uncut : (m n : ℕ) → m ≡ whole n → 0 < m → m ≡ n
unfolding whole
uncut m n e h = go (ltb n (2 ^ 64)) e
  where
    go : (b : Bool) → m ≡ cond b n 0 → m ≡ n
    go true q = q
    go false q = absurd (omega arith)

pub rows-held : LengthsHold
unfolding length_for
rows-held rows n scratch =
    record {
      pieces = λ e h. let long = uncut n.pieces (piece_head + row_width * rows) e h in omega arith;
      blocks = λ e h. let long = uncut n.blocks (block_head + row_width * rows) e h in omega arith;
      store = λ e h. let long = uncut n.store (0 + 1 * rows) e h in omega arith;
      nodes = λ e h. let long = uncut n.nodes (node_head + row_width * rows) e h in omega arith;
      entries = λ e h. let long = uncut n.entries (entry_head + entry_width * rows) e h in omega arith;
      scratch_long = λ e h. let long = uncut scratch (0 + row_width * rows) e h in omega arith;
    }
