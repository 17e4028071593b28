-- Blocks appended to a block table. Definitions alone: their laws stand in proofs/Appending.antt.
use Rattle.std.specs.Prelude.{◌≡◌, List, [], ◌∷◌, ◌++◌, ℕ, suc, ◌+◌, ◌*◌, ◌≤◌, ◌<◌, ◌^◌, length, get_or, set}
use Rattle.std.proofs.lemmas.List.Edits.{sets}
use Rattle.history.specs.Lent.{row_width, block_head}
use Rattle.tables.specs.Columns.{block_base, head_count, head_used, head_last}
use Rattle.block_table.specs.Blocks.{BlockRow, block_at, head_place, block_count}

-- ── rows ──

-- the numbers of a new row: first cell, length, created, destroyed, offset, owner, no next one, and 0
abbrev pub block_row : BlockRow → List ℕ
block_row r = r.first ∷ r.size ∷ r.created ∷ r.destroyed ∷ r.offset ∷ r.owner ∷ 0 ∷ 0 ∷ []

unfoldable pub block_rows : List BlockRow → List ℕ
block_rows [] = []
block_rows (r ∷ rs) = block_row r ++ block_rows rs

-- ── appending ──

-- the table with rows behind those that it has: rows and count set, and all else as it was
unfoldable pub appended : (rows : List BlockRow) (blocks : List ℕ) → List ℕ
appended rs blocks = set (sets blocks (block_at (block_count blocks + 1)) (block_rows rs)) (head_place head_count) (block_count blocks + length rs)

-- the table has its head, and n blocks more can be counted
pub record Countable (blocks : List ℕ) (n : ℕ) : Type 0 where
  pub head : block_head ≤ length blocks
  pub fits : block_count blocks + n < 2 ^ 64

-- `write_row`
pub record WroteRow (b b' : List ℕ) (link : ℕ) (r : BlockRow) : Type 0 where
  pub is : b' ≡ sets b (block_at link) (block_row r)

-- `append`
pub record AppendedRow (b b' : List ℕ) (r : BlockRow) : Type 0 where
  pub done : Countable b 1 → b' ≡ appended (r ∷ []) b

-- ── what an update may change ──

-- The rows appended behind the first n, and the head's columns count, used and last: all else of the block table is as it was.
pub record Appended (blocks blocks' : List ℕ) (n m : ℕ) : Type 0 where
  pub len : length blocks' ≡ length blocks
  pub head : (i : ℕ) → i < block_base + row_width → (i ≡ head_place head_count → ⊥) → (i ≡ head_place head_used → ⊥) → (i ≡ head_place head_last → ⊥)
      → get_or blocks' i 0 ≡ get_or blocks i 0
  pub rows : (i : ℕ) → block_base + row_width ≤ i → i < block_base + row_width * suc n → get_or blocks' i 0 ≡ get_or blocks i 0
  pub rest : (i : ℕ) → block_base + row_width * suc m ≤ i → get_or blocks' i 0 ≡ get_or blocks i 0
