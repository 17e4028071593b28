-- Which byte a row's piece has for a cell: the store's at the cell's place behind the offset, or none. Assumes nothing.
use mathlib.Core.Path.{◌≡◌, ap, ◌∙◌}
use mathlib.Core.Logic.{◌⊎◌, inl, inr}
use mathlib.Core.Bool.{and-false}
use mathlib.Core.Option.{Option, none, some}
use mathlib.Core.List.{List}
use Prim.Native.Nat.{ℕ, ◌+◌, ◌-◌, ◌≤◌, ◌<◌}
use native.Mathlib.Omega.{arith}
use lib.Dec.{leb}
use lib.ListN.{get_or, drop}
use lib.Seq.{get_or-take, get_or-drop}
use borrow.Author.Tests.{le-leb, lt-leb, lt-ltb, le-ltb}
use Rattle.history.specs.Words.{byte_at}
use Rattle.piece_table.specs.Piece.{PieceRow, row_end}
use Rattle.piece_table.specs.Shown.{shown, Stored}
use Rattle.piece_table.proofs.Showing.{shown-size}

-- the piece does not have the cell
abbrev pub Misses : (cell : ℕ) → PieceRow → Type 0
Misses cell p = (row_end p ≤ cell) ⊎ (cell < p.first)

module _ (store : List ℕ) (c : ℕ) (p : PieceRow) (s : Stored store p) where
  pub byte_none : Misses c p → byte_at c (shown store p).stretch ≡ none
  unfolding byte_at
  byte_none (inl h) = rw (shown-size store p s, le-ltb c (row_end p) h, and-false (leb p.first c))
  byte_none (inr h) = rw (shown-size store p s, lt-leb p.first c h)

  pub byte_some : p.first ≤ c → c < row_end p → byte_at c (shown store p).stretch ≡ some (get_or store (p.offset + (c - p.first)) 0)
  unfolding byte_at
  byte_some lo hi =
      rw (shown-size store p s, le-leb p.first c lo, lt-ltb c (row_end p) hi)
      (ap {B = Option ℕ} some (get_or-take p.size (drop p.offset store) (c - p.first) 0 (omega arith) ∙ get_or-drop p.offset store (c - p.first) 0))
