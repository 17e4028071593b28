-- The rows of a block table, and the blocks of history that they stand for: their bytes are parts of the store. Definitions alone.
use Rattle.std.specs.Prelude.{◌≡◌, List, map, ℕ, ◌+◌, ◌*◌, ◌^◌, ◌≤◌, ◌<◌, length, get_or, take, drop}
use Rattle.lists.specs.Lists.{count_from}
use Rattle.history.specs.Lent.{row_width, block_head}
use Rattle.history.specs.Words.{Block, a_block, cell_place}
use Rattle.block_table.specs.declared.Block.{Block as RowBlock}
use Rattle.tables.specs.Columns.{block_column, block_base, block_first, block_length, block_created, block_destroyed, block_offset, block_owner, head_count}

-- ── columns ──

abbrev pub first_cell_at : (blocks : List ℕ) (link : ℕ) → ℕ
first_cell_at blocks link = block_column blocks link block_first

abbrev pub length_at : (blocks : List ℕ) (link : ℕ) → ℕ
length_at blocks link = block_column blocks link block_length

abbrev pub created_at : (blocks : List ℕ) (link : ℕ) → ℕ
created_at blocks link = block_column blocks link block_created

abbrev pub destroyed_at : (blocks : List ℕ) (link : ℕ) → ℕ
destroyed_at blocks link = block_column blocks link block_destroyed

abbrev pub offset_at : (blocks : List ℕ) (link : ℕ) → ℕ
offset_at blocks link = block_column blocks link block_offset

abbrev pub owner_at : (blocks : List ℕ) (link : ℕ) → ℕ
owner_at blocks link = block_column blocks link block_owner

-- the place that the block of a link starts at
abbrev pub place_at : (blocks : List ℕ) (link : ℕ) → ℕ
place_at blocks link = cell_place (owner_at blocks link) (first_cell_at blocks link)

-- the block of `one` starts before that of `other`
pub record StartsBefore (blocks : List ℕ) (one other : ℕ) : Type 0 where
  pub is : place_at blocks one < place_at blocks other

-- ── places ──

-- where the row of a link starts
abbrev pub block_at : (link : ℕ) → ℕ
block_at link = row_width * link + block_base

-- the place of a column of the head
abbrev pub head_place : (c : ℕ) → ℕ
head_place c = block_base + c

-- how many blocks the head says there are
abbrev pub block_count : (blocks : List ℕ) → ℕ
block_count blocks = block_column blocks 0 head_count

-- the table has the rows of the links 1 to n
abbrev pub Room : (blocks : List ℕ) (n : ℕ) → Type 0
Room blocks n = block_head + row_width * n ≤ length blocks

-- ── blocks ──

-- a block as a row of the table says it, the code's own: its bytes are named by their offset in the store
abbrev pub BlockRow : Type 0
BlockRow = RowBlock

abbrev pub no_row : BlockRow
no_row = record { first = 0; size = 0; created = 0; destroyed = 0; offset = 0; owner = 0 }

-- the block that it stands for
abbrev pub shown_block : (store : List ℕ) → BlockRow → Block
shown_block store r = a_block r.owner r.first (take r.size (drop r.offset store)) r.created r.destroyed

-- what the row of a link says
abbrev pub row_at : (blocks : List ℕ) (link : ℕ) → BlockRow
row_at blocks link =
    record {
      first = first_cell_at blocks link;
      size = length_at blocks link;
      created = created_at blocks link;
      destroyed = destroyed_at blocks link;
      offset = offset_at blocks link;
      owner = owner_at blocks link;
    }

-- the part of the store that a row names
abbrev pub bytes_at : (store blocks : List ℕ) (link : ℕ) → List ℕ
bytes_at store blocks link = take (length_at blocks link) (drop (offset_at blocks link) store)

-- the block of a row
unfoldable pub block_of_row : (store blocks : List ℕ) (link : ℕ) → Block
block_of_row store blocks link = shown_block store (row_at blocks link)

-- the blocks of the rows 1 to n: block k is the row of link k + 1
unfoldable pub blocks_of : (store blocks : List ℕ) (n : ℕ) → List Block
blocks_of store blocks n = map (block_of_row store blocks) (count_from 1 n)

-- ── what holds of all rows ──

-- the rows 1 to n are as they were; the head and what stands behind them may have changed
pub record SameRows (blocks blocks' : List ℕ) (n : ℕ) : Type 0 where
  pub same : (i : ℕ) → block_head ≤ i → i < block_head + row_width * n → get_or blocks' i 0 ≡ get_or blocks i 0

-- none of the blocks 1 to n is empty, and no end wraps
pub record Filled (blocks : List ℕ) (n : ℕ) : Type 0 where
  pub filled : (link : ℕ) → 0 < link → link ≤ n → 0 < length_at blocks link
  pub no_wrap : (link : ℕ) → 0 < link → link ≤ n → first_cell_at blocks link + length_at blocks link ≤ 2 ^ 64

-- the bytes of the blocks 1 to n lie in the first `used` bytes of a store
pub record Stored (used : ℕ) (blocks : List ℕ) (n : ℕ) : Type 0 where
  pub inside : (link : ℕ) → 0 < link → link ≤ n → offset_at blocks link + length_at blocks link ≤ used
