-- A piece as a row of the table says it, on the line of places, and the part of it in a range. Its bytes are named by their offset in the store: clipping
-- moves the first place and the offset together. Ranges are half-open. Definitions alone: their laws stand in proofs/Parts.antt and proofs/Order.antt.
use Rattle.std.specs.Prelude.{cond, ℕ, ◌+◌, ◌-◌, ◌≤◌, ◌<◌, ◌^◌, min, max, ltb}
use Rattle.std.proofs.Math.Option.{Option, none, some}
use mathlib.Core.List.{List, [], ◌∷◌, filter_map}
use Rattle.history.specs.Words.{line_of, cell_place}
use Rattle.tables.specs.Columns.{column, piece_first, piece_length, piece_written, piece_offset, piece_owner}
use Rattle.piece_table.specs.declared.Piece.{Piece}

-- ── a piece ──

-- A row's piece, by the place that it starts at. The code's own, `Piece`, has the first cell, a number of its kind.
pub record PieceRow : Type 0 where
  pub first : ℕ
  pub size : ℕ
  pub written : ℕ
  pub offset : ℕ
  pub owner : ℕ

-- the code's piece on the line of places
abbrev pub row_of : Piece → PieceRow
row_of p = record { first = cell_place p.owner p.first; size = p.size; written = p.written; offset = p.offset; owner = p.owner }

-- the place after the last one
abbrev pub row_end : PieceRow → ℕ
row_end p = p.first + p.size

-- what the row of a link says, in cells, ..
abbrev pub read_at : (t : List ℕ) (link : ℕ) → Piece
read_at t link =
    record {
      first = column t link piece_first;
      size = column t link piece_length;
      written = column t link piece_written;
      offset = column t link piece_offset;
      owner = column t link piece_owner;
    }

-- .. and in places
abbrev pub piece_at : (t : List ℕ) (link : ℕ) → PieceRow
piece_at t link = row_of (read_at t link)

-- ── parts ──

-- the places [from, to) of a piece that has them
abbrev pub part : (from to : ℕ) → PieceRow → PieceRow
part from to p = record { first = from; size = to - from; written = p.written; offset = p.offset + (from - p.first); owner = p.owner }

-- the same of the code's piece, by the cells of its kind
abbrev pub cell_part : (from to : ℕ) → Piece → Piece
cell_part from to p = record { first = from; size = to - from; written = p.written; offset = p.offset + (from - p.first); owner = p.owner }

-- the part of a piece that lies in [from, to), if there is any
unfoldable pub clip_row : (from to : ℕ) → PieceRow → Option PieceRow
clip_row from to p =
    cond (ltb (max from p.first) (min to (row_end p))) (some (part (max from p.first) (min to (row_end p)) p)) none

-- what of the pieces lies below a place, in a range, and from a place on
unfoldable pub rows_below : (place : ℕ) → List PieceRow → List PieceRow
rows_below f ps = filter_map (clip_row 0 f) ps

unfoldable pub rows_inside : (from to : ℕ) → List PieceRow → List PieceRow
rows_inside f e ps = filter_map (clip_row f e) ps

unfoldable pub rows_above : (place : ℕ) → List PieceRow → List PieceRow
rows_above e ps = filter_map (λ p. clip_row e (row_end p) p) ps

-- ── order ──

-- a piece is not empty, its places are those of its kind, and neither its cells nor its bytes reach 2^64
pub record Filled (p : PieceRow) : Type 0 where
  pub some : 0 < p.size
  pub line : line_of p.owner ≤ p.first
  pub near : row_end p < line_of p.owner + 2 ^ 64
  pub stored : p.offset + p.size < 2 ^ 64

-- The pieces follow one another from low on: ascending, none empty, and no two share a cell.
abbrev pub Follow : (low : ℕ) → List PieceRow → Type 0
Follow low [] = Unit {0}
Follow low (p ∷ ps) = (low ≤ p.first) × Filled p × Follow (row_end p) ps

-- a piece put in order
abbrev pub placed : PieceRow → List PieceRow → List PieceRow
placed p [] = p ∷ []
placed p (q ∷ qs) = cond (ltb p.first q.first) (p ∷ q ∷ qs) (q ∷ placed p qs)
