-- A row of a block table as it is read at once. Definitions alone.
use Rattle.std.specs.Prelude.{◌≡◌, List, ℕ}
use Rattle.tables.specs.Columns.{block_column, block_next}
use Rattle.block_table.specs.declared.Row.{Row}
use Rattle.block_table.specs.Blocks.{first_cell_at, length_at, created_at, destroyed_at, owner_at}

-- the row of a link is read: past the table's end its columns are 0
pub record Reads (blocks : List ℕ) (link : ℕ) (row : Row) : Type 0 where
  pub first : row.first ≡ first_cell_at blocks link
  pub length : row.length ≡ length_at blocks link
  pub created : row.created ≡ created_at blocks link
  pub destroyed : row.destroyed ≡ destroyed_at blocks link
  pub owner : row.owner ≡ owner_at blocks link
  pub next : row.next ≡ block_column blocks link block_next
