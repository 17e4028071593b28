-- The block rows that were written are the file's blocks, with their bytes in the store. Assumes nothing.
use mathlib.Core.Path.{◌≡◌, refl, ◌∙◌, ap₂}
use mathlib.Core.Logic.{inl, inr}
use mathlib.Core.List.{List, [], ◌∷◌, map, flat_map}
use Prim.Native.Nat.{ℕ, suc, ◌+◌, ◌*◌, ◌≤◌, ◌<◌}
use native.Mathlib.Omega.{arith}
use lib.ListN.{length, get_or, take, drop, length-append}
use Rattle.lists.specs.Lists.{All, all_nil, all_cons, count_from, sum_of}
use Rattle.lists.proofs.Numbers.{eq_or_ne}
use Rattle.history.specs.Lent.{row_width}
use Rattle.history.specs.Words.{Block, line_of, cell_place, size}
use Rattle.tables.specs.Columns.{block_column, block_base, block_first, block_length, block_created, block_destroyed, block_offset, block_owner}
use Rattle.block_table.specs.Blocks.{row_at, owner_at, first_cell_at, length_at, offset_at, block_of_row, blocks_of, Stored}
use Rattle.block_table.proofs.Blocks.{shown_is}
use Rattle.file_scan.specs.Counts.{bytes_in}
use Rattle.layout.specs.Rows.{block_numbers, blocks_numbers}
use Rattle.file_fill.specs.Fill.{bytes_of_all}
use Rattle.file_load.proofs.Holding.{HoldsAt, holds_left, holds_right, holds_moved, holds_part}

-- ── sizes ──

-- eight numbers for a block
pub numbers_length : (offset : ℕ) (bs : List Block) → length (blocks_numbers offset bs) ≡ row_width * length bs
unfolding blocks_numbers block_numbers
numbers_length offset [] = refl
numbers_length offset (b ∷ bs) = omega (arith, numbers_length (offset + size b.stretch) bs)

-- all bytes
pub bytes_length : (bs : List Block) → length (bytes_of_all bs) ≡ bytes_in bs
unfolding flat_map sum_of
bytes_length [] = refl
bytes_length (b ∷ bs) = omega (arith, length-append b.stretch.bytes (bytes_of_all bs), bytes_length bs)

-- ── one row ──

module _ (t store : List ℕ) (rows used : ℕ) (b : Block) (row : HoldsAt t (row_width * suc rows + block_base) (block_numbers used b)) where
  -- a column of the row
  at : (c : ℕ) → c < row_width → block_column t (suc rows) c ≡ get_or (block_numbers used b) c 0
  unfolding block_numbers
  at c h =
      let z : row_width * suc rows + (block_base + c) ≡ row_width * suc rows + block_base + c = omega arith in
      rw z (row.says c h)

  pub row_offset : offset_at t (suc rows) ≡ used
  unfolding block_numbers
  row_offset = at block_offset (omega arith)

  pub row_length : length_at t (suc rows) ≡ size b.stretch
  unfolding block_numbers
  row_length = at block_length (omega arith)

  -- the row is the block, which is on its line
  pub row_is : line_of b.kind ≤ b.stretch.first → used + size b.stretch ≤ length store → HoldsAt store used b.stretch.bytes → block_of_row store t (suc rows) ≡ b
  unfolding block_of_row block_numbers
  row_is line room bytes =
      let part : take (length_at t (suc rows)) (drop (offset_at t (suc rows)) store) ≡ b.stretch.bytes =
      ap₂ (λ (n m : ℕ). take n (drop m store)) row_length row_offset ∙ holds_part store used b.stretch.bytes room bytes in
      let own : owner_at t (suc rows) ≡ b.kind = at block_owner (omega arith) in
      let place : cell_place (owner_at t (suc rows)) (first_cell_at t (suc rows)) ≡ b.stretch.first =
      ap₂ (λ (k c : ℕ). cell_place k c) own (at block_first (omega arith)) ∙ omega (arith, line) in
      shown_is store (row_at t (suc rows)) b own place part (at block_created (omega arith)) (at block_destroyed (omega arith))

-- ── all rows ──

row_long : (rows used : ℕ) (b : Block) → row_width * suc rows + block_base + length (block_numbers used b) ≡ row_width * suc (suc rows) + block_base
unfolding block_numbers
row_long rows used b = omega arith

module _ (t store : List ℕ) where
  -- the rows behind so many rows, with bytes behind the used ones
  rows_are : (rows used : ℕ) (bs : List Block) → All (λ (b : Block). line_of b.kind ≤ b.stretch.first) bs → used + bytes_in bs ≤ length store → HoldsAt t (row_width * suc rows + block_base) (blocks_numbers used bs)
      → HoldsAt store used (bytes_of_all bs) → map (block_of_row store t) (count_from (suc rows) (length bs)) ≡ bs
  unfolding blocks_numbers flat_map count_from sum_of
  rows_are rows used [] all_nil room h s = refl
  rows_are rows used (b ∷ bs) (all_cons l ls) room h s =
      let own = holds_left (block_numbers used b) (blocks_numbers (used + size b.stretch) bs) h in
      let rest = holds_moved (row_long rows used b) (holds_right (block_numbers used b) (blocks_numbers (used + size b.stretch) bs) h) in
      ap₂ (λ (x : Block) (xs : List Block). x ∷ xs)
      (row_is t store rows used b own l (omega arith) (holds_left b.stretch.bytes (bytes_of_all bs) s))
      (rows_are (suc rows) (used + size b.stretch) bs ls (omega arith) rest (holds_right b.stretch.bytes (bytes_of_all bs) s))

  -- their bytes are inside
  rows_stored : (rows used : ℕ) (bs : List Block) → HoldsAt t (row_width * suc rows + block_base) (blocks_numbers used bs)
      → (link : ℕ) → rows < link → link ≤ rows + length bs → offset_at t link + length_at t link ≤ used + bytes_in bs
  unfolding blocks_numbers sum_of
  rows_stored rows used [] h link a b = absurd (omega arith)
  rows_stored rows used (b ∷ bs) h link p q =
      elim (eq_or_ne link (suc rows)) [
        | inl e ↦
            let own = holds_left (block_numbers used b) (blocks_numbers (used + size b.stretch) bs) h in
            rw e (omega (arith, row_offset t store rows used b own, row_length t store rows used b own))
        | inr ne ↦
            let rest = holds_moved (row_long rows used b) (holds_right (block_numbers used b) (blocks_numbers (used + size b.stretch) bs) h) in
            omega (arith, rows_stored (suc rows) (used + size b.stretch) bs rest link (omega arith) (omega arith))
      ]

  module _ (bs : List Block) (h : HoldsAt t (row_width * 1 + block_base) (blocks_numbers 0 bs)) where
    pub filled_blocks : All (λ (b : Block). line_of b.kind ≤ b.stretch.first) bs → bytes_in bs ≤ length store → HoldsAt store 0 (bytes_of_all bs) → blocks_of store t (length bs) ≡ bs
    unfolding blocks_of
    filled_blocks lines room s = rows_are 0 0 bs lines (omega arith) h s

    pub filled_stored : Stored (bytes_in bs) t (length bs)
    filled_stored = record { inside = λ link p q. omega (arith, rows_stored 0 0 bs h link p (omega arith)) }
