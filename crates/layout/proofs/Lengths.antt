-- Lengths of tables: equal lengths are equal as what is lent; heads that fit. Assumes nothing.
use mathlib.Core.Path.{◌≡◌}
use mathlib.Core.Bool.{false, ◌||◌}
use Prim.Native.Nat.{◌≤◌}
use lib.Dec.{ltb}
use borrow.Author.Tests.{ltb-false, le-ltb}
use Rattle.lists.proofs.Numbers.{or_left, or_right}
use Rattle.history.specs.Lent.{Lent, too_short, piece_head, block_head, node_head, entry_head}

pub lent_same : (m n : Lent) → m.pieces ≡ n.pieces → m.blocks ≡ n.blocks → m.store ≡ n.store → m.nodes ≡ n.nodes → m.entries ≡ n.entries → m ≡ n
lent_same m n p b s d e = λ i. record { pieces = p i; blocks = b i; store = s i; nodes = d i; entries = e i }

-- the heads are there
pub record Heads (n : Lent) : Type 0 where
  pub pieces : piece_head ≤ n.pieces
  pub blocks : block_head ≤ n.blocks
  pub nodes : node_head ≤ n.nodes
  pub entries : entry_head ≤ n.entries

pub heads_fit : (n : Lent) → too_short n ≡ false → Heads n
unfolding too_short
heads_fit n e =
    let p = ltb n.pieces piece_head in
    let b = ltb n.blocks block_head in
    let d = ltb n.nodes node_head in
    let x = ltb n.entries entry_head in
    let one = or_left (p || b || d) x e in
    let two = or_left (p || b) d one in
    record {
      pieces = ltb-false _ _ (or_left p b two);
      blocks = ltb-false _ _ (or_right p b two);
      nodes = ltb-false _ _ (or_right (p || b) d one);
      entries = ltb-false _ _ (or_right (p || b || d) x e);
    }

pub fit_heads : (n : Lent) → Heads n → too_short n ≡ false
unfolding too_short
fit_heads n h = rw (le-ltb n.pieces piece_head h.pieces, le-ltb n.blocks block_head h.blocks, le-ltb n.nodes node_head h.nodes, le-ltb n.entries entry_head h.entries)
