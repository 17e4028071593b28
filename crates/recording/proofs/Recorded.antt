-- Laws of recording pieces as blocks: none, one list after the other, the count; and what stands in the table afterwards. Assumes nothing.
use mathlib.Core.Path.{◌≡◌, ap, ◌∙◌}
use mathlib.Core.Logic.{◌⊎◌}
use mathlib.Core.List.{List, ◌++◌, map, map-map}
use Prim.Native.Nat.{ℕ, ◌+◌, ◌≤◌, ◌<◌}
use native.Mathlib.Omega.{arith}
use lib.ListN.{length, get_or, length-append, take, drop}
use Rattle.lists.specs.Lists.{All}
use Rattle.lists.proofs.Lists.{all_map}
use Rattle.lists.proofs.Maps.{map-append, length_of_map, get_d_of_map, map_all}
use Rattle.history.specs.Lent.{row_width, block_head}
use Rattle.history.specs.Words.{Block, block_of, cell_place, cell_of}
use Rattle.tables.specs.Columns.{block_column, head_count}
use Rattle.block_table.specs.Blocks.{BlockRow, shown_block, blocks_of, block_at, head_place, block_count}
use Rattle.block_table.specs.Appended.{block_row, Countable}
use Rattle.block_table.proofs.Appending.{appended-length, appended-count, appended-append, appended_row, appended_out, appended_blocks}
use Rattle.piece_table.specs.Piece.{PieceRow, row_of, Filled}
use Rattle.piece_table.specs.declared.Piece.{Piece}
use Rattle.piece_table.specs.Shown.{shown}
use Rattle.recording.specs.Recorded.{block_row_of, recorded}

module _ (d : ℕ) (ps : List PieceRow) (b : List ℕ) where
  many : length (map (block_row_of d) ps) ≡ length ps
  many = length_of_map (block_row_of d) ps

  pub recorded-count : block_head ≤ length b → block_count (recorded d ps b) ≡ block_count b + length ps
  recorded-count h = rw many at (appended-count (map (block_row_of d) ps) b h)

  -- nothing changes but the rows behind the count and the count
  pub recorded_out : (i : ℕ) → (i ≡ head_place head_count → ⊥) → (i < block_at (block_count b + 1)) ⊎ (block_at (block_count b + 1 + length ps) ≤ i)
      → get_or (recorded d ps b) i 0 ≡ get_or b i 0
  recorded_out i n h = appended_out (map (block_row_of d) ps) b i n (rw many h)

  module _ (room : block_at (block_count b + 1 + length ps) ≤ length b) where
    -- the row of the i-th new block holds its piece
    pub recorded_row : (q : PieceRow) (i c : ℕ) → i < length ps → c < row_width
        → block_column (recorded d ps b) (block_count b + 1 + i) c ≡ get_or (block_row (block_row_of d (get_or ps i q))) c 0
    recorded_row q i c h k =
        appended_row (map (block_row_of d) ps) (block_row_of d q) b i c (rw many room) (rw many h) k
        ∙ ap (λ (r : BlockRow). get_or (block_row r) c 0) (get_d_of_map (block_row_of d) ps i q (block_row_of d q) h)

    -- the rows stand for the blocks that the pieces become
    pub recorded_blocks : (store : List ℕ) → All Filled ps
        → blocks_of store (recorded d ps b) (block_count b + length ps) ≡ blocks_of store b (block_count b) ++ map (λ p. block_of d (shown store p)) ps
    recorded_blocks store filled =
        rw many at (appended_blocks store (map (block_row_of d) ps) b (rw many room))
        ∙ ap (λ (l : List Block). blocks_of store b (block_count b) ++ l) (map-map (shown_block store) (block_row_of d) ps ∙ map_all (λ p. shown_block store (block_row_of d p)) (λ p. block_of d (shown store p)) (all_map one filled))
      where
        one : (p : PieceRow) → Filled p → shown_block store (block_row_of d p) ≡ block_of d (shown store p)
        one p f =
            let e : cell_place p.owner (cell_of p.owner p.first) ≡ p.first = omega (arith, f.line) in
            ap {B = Block} (λ (x : ℕ). record { kind = p.owner; stretch = record { first = x; bytes = take p.size (drop p.offset store) }; created = p.written; destroyed = d }) e

-- some, and then more
pub recorded-append : (d : ℕ) (ps qs : List PieceRow) (b : List ℕ) → block_head ≤ length b → recorded d qs (recorded d ps b) ≡ recorded d (ps ++ qs) b
recorded-append d ps qs b h = rw (map-append (block_row_of d) ps qs) (appended-append (map (block_row_of d) ps) (map (block_row_of d) qs) b h)

-- what is recorded counts
pub recorded_more : (d : ℕ) (ps qs : List PieceRow) (b : List ℕ) → Countable b (length (ps ++ qs)) → Countable (recorded d ps b) (length qs)
recorded_more d ps qs b c =
    record {
      head = rw (appended-length (map (block_row_of d) ps) b) c.head;
      fits = rw (recorded-count d ps b c.head) (omega (arith, c.fits, length-append ps qs));
    }

-- the block of the code's own piece
pub block_is : (d : ℕ) (p : Piece)
    → ◌≡◌ {A = BlockRow} (record { first = p.first; size = p.size; created = p.written; destroyed = d; offset = p.offset; owner = p.owner }) (block_row_of d (row_of p))
block_is d p =
    let e : p.first ≡ cell_of p.owner (cell_place p.owner p.first) = omega arith in
    ap {B = BlockRow} (λ (x : ℕ). record { first = x; size = p.size; created = p.written; destroyed = d; offset = p.offset; owner = p.owner }) e
