-- The comparison of an operation with a piece (02, Item 2). Definitions alone.
use Rattle.std.specs.Prelude.{◌≡◌, List, ℕ, ◌+◌, ◌≤◌, ◌<◌, ◌^◌, length, get_or, Option, Some, None}
use Rattle.std.proofs.Math.Option.{Option as HistoryOption, none, some}
use Rattle.history.specs.Words.{cell_place, first_difference}
use Rattle.piece_table.specs.Piece.{row_of, Filled}
use Rattle.piece_table.specs.Shown.{shown, Stored}
use Rattle.piece_table.specs.declared.Piece.{Piece}

-- `matching`: how many of the bytes, up to `run`, are the store's from `at` on
pub record Matching (store : List ℕ) (at : ℕ) (bytes : List ℕ) (from run out : ℕ) : Type 0 where
  pub most : out ≤ run
  pub same : (k : ℕ) → k < out → get_or bytes (from + k) 0 ≡ get_or store (at + k) 0
  pub differs : out < run → get_or bytes (from + out) 0 ≡ get_or store (at + out) 0 → ⊥

-- a cell of the operation's kind, as a place
abbrev pub difference_of : (kind : ℕ) → Option ℕ → HistoryOption ℕ
difference_of kind (Some c) = some (cell_place kind c)
difference_of kind None = none

-- `first_difference`
pub record Compared (store : List ℕ) (p : Piece) (kind first : ℕ) (bytes : List ℕ) (d : Option ℕ) : Type 0 where
  pub is : Filled (row_of p) → Stored store (row_of p) → first + length bytes < 2 ^ 64
      → difference_of kind d ≡ first_difference (record { first = cell_place kind first; bytes = bytes }) (shown store (row_of p)).stretch
