-- What record asks before it changes anything: the ledger's first change, and how many pieces and blocks there would be. Where a kind stands beside them,
-- `first`, `place` and `next` are its cells; else they are places. Definitions alone.
use Rattle.std.specs.Prelude.{◌≡◌, ◌⊎◌, cond, ◌&&◌, List, ◌∷◌, ◌++◌, map, ℕ, suc, ◌+◌, ◌≤◌, ◌<◌, ◌^◌, length, drop, ltb}
use Rattle.std.proofs.Math.Option.{Option, none, some}
use Rattle.lists.specs.Lists.{All}
use Rattle.history.specs.Words.{Piece, cell_place}
use Rattle.history.specs.Ledger.{first_change}
use Rattle.tables.specs.Columns.{column, piece_owner}
use Rattle.piece_table.specs.Piece.{PieceRow, row_end, read_at, piece_at, rows_below, rows_inside, rows_above}
use Rattle.piece_table.specs.Rep.{Linked, Rep}
use Rattle.piece_table.specs.Calls.{end_at}
use Rattle.piece_table.specs.Shown.{shown, Stored}
use Rattle.piece_table.specs.declared.Piece.{Piece as CodePiece}
use Rattle.survey.specs.declared.Report.{Report}

-- ── the first change ──

-- the first change of an operation of so many cells, told by how many leading cells are held with their bytes
abbrev pub change_at : (first size same : ℕ) → Option ℕ
change_at first size same = cond (ltb same size) (some (first + same)) none

-- ── the bytes held ──

-- Every cell below `place` is looked at: all of them, or all cells of the operation, are held with their bytes; or `same` of them, and the next one is a
-- change.
pub record Matched (ps : List Piece) (first : ℕ) (bytes : List ℕ) (place same : ℕ) : Type 0 where
  pub small : same ≤ length bytes
  pub rest : first_change ps first bytes ≡ first_change ps (first + same) (drop same bytes)
  pub stops : (first + same ≡ place) ⊎ ((same ≡ length bytes) ⊎ (first_change ps (first + same) (drop same bytes) ≡ some (first + same)))

-- the lowest piece that ends past the place: none in front of it does, and where the place is not the first cell, a piece or a gap ends there
pub record Lowest (t store : List ℕ) (bytes : List ℕ) (link first place next : ℕ) (xs ys : List ℕ) : Type 0 where
  pub linked : Linked t (xs ++ link ∷ ys)
  pub left : All (λ (p : PieceRow). row_end p ≤ place) (map (piece_at t) xs)
  pub past : place < end_at t link
  pub clean : (place ≡ first) ⊎ (place ≤ (piece_at t link).first)
  pub ends : next ≡ end_at t link
  pub stored : All (Stored store) (map (piece_at t) (xs ++ link ∷ ys))
  pub within : place < first + length bytes

-- `held_bytes`: the lowest piece, of the operation's kind, is looked at too
pub record HeldBytes (store bytes : List ℕ) (p : CodePiece) (kind first place same out : ℕ) : Type 0 where
  pub says : (t : List ℕ) (link next : ℕ) (xs ys : List ℕ) → p ≡ read_at t link → column t link piece_owner ≡ kind → first + length bytes < 2 ^ 64
      → Lowest t store bytes link (cell_place kind first) (cell_place kind place) (cell_place kind next) xs ys
      → Matched (map (shown store) (map (piece_at t) (xs ++ link ∷ ys))) (cell_place kind first) bytes (cell_place kind place) same
      → Matched (map (shown store) (map (piece_at t) (xs ++ link ∷ ys))) (cell_place kind first) bytes (cell_place kind next) out

-- ── counting ──

-- 1 if a piece [was, next) reaches over the cell
abbrev pub crosses : (was next cell : ℕ) → ℕ
crosses was next cell = cond (ltb was cell && ltb cell next) 1 0

-- how many rests it leaves, left and right of [first, end)
abbrev pub rests_of : (was next first end : ℕ) → ℕ
rests_of was next first end = crosses was next first + crosses was next end

-- `rests_of`
pub record RestsOf (was next first end out : ℕ) : Type 0 where
  pub is : first < next → was < end → out ≡ rests_of was next first end

-- `report`: the numbers of a survey, of how many pieces there are, how many are met, and how many rests they leave
pub record Made (count met rests same : ℕ) (s : Report) : Type 0 where
  pub is_same : s.same ≡ same
  pub is_blocks : s.blocks ≡ met
  pub is_pieces : met ≤ count → count + rests + 1 < 2 ^ 64 → s.pieces + met ≡ count + rests + 1

-- ── the survey ──

-- Of an operation over [first, first + size): where it first changes the board, how many blocks it records, how many pieces there are after it.
pub record Counts (store : List ℕ) (ps : List PieceRow) (first : ℕ) (bytes : List ℕ) (s : Report) : Type 0 where
  pub change : first_change (map (shown store) ps) first bytes ≡ change_at first (length bytes) s.same
  pub blocks : s.blocks ≡ length (rows_inside first (first + length bytes) ps)
  pub pieces : s.pieces ≡ length (rows_below first ps) + suc (length (rows_above (first + length bytes) ps))

-- `survey`
pub record Surveyed (t store : List ℕ) (kind first : ℕ) (bytes : List ℕ) (s : Report) : Type 0 where
  pub says : (ps : List PieceRow) → Rep t ps → All (Stored store) ps → 0 < length bytes → first + length bytes < 2 ^ 64 → Counts store ps (cell_place kind first) bytes s
