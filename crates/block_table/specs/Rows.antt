-- What document 01 asks of the rows of a block table. Definitions alone.
use Rattle.std.specs.Prelude.{◌≡◌, true, List, ℕ, ◌+◌, ◌-◌, ◌^◌, ◌≤◌, ◌<◌}
use Rattle.tables.specs.Masks.{opens}
use Rattle.block_table.specs.declared.rows.Bounds.{Bounds as RowBounds}
use Rattle.block_table.specs.Blocks.{first_cell_at, length_at, created_at, destroyed_at, offset_at, owner_at}

-- what is the same for all rows of an index, the code's own: the mask of its kinds, end tick and store use
abbrev pub Bounds : Type 0
Bounds = RowBounds

-- not empty, no end wrapping, inside the store's used part; created ≤ destroyed ≤ E; of an opened kind
pub record RowSound (blocks : List ℕ) (b : Bounds) (link : ℕ) : Type 0 where
  pub some_cell : 0 < length_at blocks link
  pub no_wrap : first_cell_at blocks link + length_at blocks link ≤ 2 ^ 64 - 1
  pub stored : offset_at blocks link + length_at blocks link ≤ b.used
  pub forward : created_at blocks link ≤ destroyed_at blocks link
  pub by_end : destroyed_at blocks link ≤ b.end
  pub own_kind : opens b.kinds (owner_at blocks link) ≡ true

-- so are the rows above low up to n
pub record RowsSound (blocks : List ℕ) (b : Bounds) (low n : ℕ) : Type 0 where
  pub rows : (link : ℕ) → low < link → link ≤ n → RowSound blocks b link
