-- Rule 24 between blocks and pieces, where each piece is counted as live up to the end: its life meets a block's exactly when it was written before the
-- block was destroyed. Definitions alone.
use Rattle.std.specs.Prelude.{Bool, List, ℕ, ◌+◌, ◌≤◌, ◌<◌}
use Rattle.lists.specs.Lists.{All}
use Rattle.lists.specs.Tests.{Decides}
use Rattle.history.specs.Words.{cell_place}
use Rattle.tables.specs.Sums.{most}
use Rattle.block_table.specs.Blocks.{first_cell_at, place_at, length_at, created_at, destroyed_at}
use Rattle.piece_table.specs.Piece.{PieceRow, row_end}
use Rattle.piece_table.specs.Rep.{Rep}
use Rattle.ordering.specs.Apart.{Unshared}
use Rattle.ends_apart.specs.Rows.{NoWrap}

-- ── a block and a piece ──

-- the piece ends after the place `first`, starts before `end`, and was written before the tick `destroyed`
pub record Meets (first end destroyed : ℕ) (p : PieceRow) : Type 0 where
  pub after : first < row_end p
  pub before : p.first < end
  pub early : p.written < destroyed

-- the block of a link, which has a life, shares a cell at a tick with the piece
pub record Crosses (blocks : List ℕ) (link : ℕ) (p : PieceRow) : Type 0 where
  pub lives : created_at blocks link < destroyed_at blocks link
  pub meets : Meets (place_at blocks link) (place_at blocks link + length_at blocks link) (destroyed_at blocks link) p

-- none of the blocks 1 to n does, with any of the pieces
pub record Uncrossed (blocks : List ℕ) (n : ℕ) (ps : List PieceRow) : Type 0 where
  pub clear : (link : ℕ) → 0 < link → link ≤ n → All (λ (p : PieceRow). Crosses blocks link p → ⊥) ps

-- ── what the tests decide, of a table that stands for pieces ──

-- `pieces_clear`, of a kind's cells
pub record PiecesClear (pieces : List ℕ) (kind first end destroyed : ℕ) (r : Bool) : Type 0 where
  pub decides : (ps : List PieceRow) → Rep pieces ps → Decides r (All (λ (p : PieceRow). Meets (cell_place kind first) (cell_place kind end) destroyed p → ⊥) ps)

-- `block_clear`, of a block that does not wrap
pub record BlockClear (pieces blocks : List ℕ) (link : ℕ) (r : Bool) : Type 0 where
  pub decides : (ps : List PieceRow) → Rep pieces ps → first_cell_at blocks link + length_at blocks link ≤ most → Decides r (All (λ (p : PieceRow). Crosses blocks link p → ⊥) ps)

-- `blocks_clear`
pub record BlocksClear (pieces blocks : List ℕ) (n : ℕ) (r : Bool) : Type 0 where
  pub decides : (ps : List PieceRow) → Rep pieces ps → NoWrap blocks n → Decides r (Uncrossed blocks n ps)

-- no two of the blocks 1 to n share a cell at a tick, nor does one with a piece
pub record NoneShared (blocks : List ℕ) (n : ℕ) (ps : List PieceRow) : Type 0 where
  pub blocks_apart : Unshared blocks n
  pub pieces_apart : Uncrossed blocks n ps
