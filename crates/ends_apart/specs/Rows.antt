-- Which cells a row of the block table has. Definitions alone.
use Rattle.std.specs.Prelude.{◌≡◌, List, ℕ, ◌+◌, ◌≤◌, ◌<◌}
use Rattle.tables.specs.Sums.{most}
use Rattle.block_table.specs.Blocks.{first_cell_at, length_at, created_at, destroyed_at, owner_at}

-- the block of a link has a life
abbrev pub LivesAt : (blocks : List ℕ) (link : ℕ) → Type 0
LivesAt blocks link = created_at blocks link < destroyed_at blocks link

-- the block of a link has the kind's cell
pub record CellAt (blocks : List ℕ) (link kind cell : ℕ) : Type 0 where
  pub own : owner_at blocks link ≡ kind
  pub from : first_cell_at blocks link ≤ cell
  pub below : cell < first_cell_at blocks link + length_at blocks link

-- the end of none of the blocks 1 to n passes 2^64 − 1
pub record NoWrap (blocks : List ℕ) (n : ℕ) : Type 0 where
  pub each : (link : ℕ) → 0 < link → link ≤ n → first_cell_at blocks link + length_at blocks link ≤ most
