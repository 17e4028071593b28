-- What is counted for each row, and what is shown by it. Definitions alone.
use Rattle.std.specs.Prelude.{◌≡◌, Bool, true, List, ℕ, ◌+◌, ◌-◌, ◌≤◌, ◌<◌, min, max}
use Rattle.lists.specs.Lists.{count_from}
use Rattle.history.specs.Words.{cell_place}
use Rattle.tables.specs.Columns.{column, piece_first, piece_length, piece_written, piece_owner}
use Rattle.block_table.specs.Blocks.{place_at, length_at, destroyed_at}
use Rattle.ordering.specs.Order.{next_at, OnlyOrder, Unordered}
use Rattle.ordering.specs.Apart.{Unshared}
use Rattle.apart_laws.specs.Slots.{Slot, Counts}
use Rattle.block_table.specs.declared.Row.{Row}
use Rattle.ends_apart.specs.Rows.{LivesAt, NoWrap}
use Rattle.handed_rows.specs.Numbered.{Given, all_rows}

-- ── one stretch ──

-- how many cells two stretches have in common
abbrev pub in_common : (first length first' length' : ℕ) → ℕ
in_common first length first' length' = min (first + length) (first' + length') - max first first'

-- `common`, of a row and the cells of a kind: no more than they have in common
pub record Common (row : Row) (kind first length : ℕ) (r : ℕ) : Type 0 where
  pub most : r ≤ in_common (cell_place row.owner row.first) row.length (cell_place kind first) length

-- what stands in a row's column NEXT grows by the cells in common at most, and only if the row is destroyed at the tick
pub data Grows (blocks blocks' : List ℕ) (first length tick link : ℕ) : Type 0 where
  stays : next_at blocks' link ≤ next_at blocks link → Grows blocks blocks' first length tick link
  takes : destroyed_at blocks link ≡ tick → next_at blocks' link ≤ next_at blocks link + in_common (place_at blocks link) (length_at blocks link) first length
      → Grows blocks blocks' first length tick link

-- `hand_on`
pub record HandsOn (blocks blocks' : List ℕ) (n first length tick : ℕ) : Type 0 where
  pub only : OnlyOrder blocks blocks' n
  pub grows : (link : ℕ) → Grows blocks blocks' first length tick link

-- ── all of them ──

-- a row is its own slot
abbrev pub slot_at : (blocks : List ℕ) (link sum : ℕ) → Slot
slot_at blocks link sum = record { lo = place_at blocks link; hi = place_at blocks link + length_at blocks link; sum = sum }

-- when the first k of all rows are counted: what stands in NEXT counts cells of those that are created when the row is destroyed
pub record Tallied (g : Given) (blocks : List ℕ) (k : ℕ) : Type 0 where
  pub only : OnlyOrder g.blocks blocks g.n
  pub counts : (link : ℕ) → 0 < link → link ≤ g.n
      → Counts (all_rows g) (destroyed_at g.blocks link) (count_from 0 k) (slot_at g.blocks link (next_at blocks link))

-- `tally_rows`
pub record TalliedRows (blocks blocks' : List ℕ) (n : ℕ) : Type 0 where
  pub only : OnlyOrder blocks blocks' n
  pub done : (g : Given) → g.blocks ≡ blocks → g.n ≡ n → Unordered blocks n → Tallied g blocks' n

-- the pieces are written before the tick at which they are destroyed
abbrev pub Written : Given → Type 0
Written g = (link : ℕ) → 0 < link → link ≤ g.m → column g.pieces link piece_written < g.gone

-- `tally_pieces`
pub record TalliedPieces (pieces : List ℕ) (m : ℕ) (blocks blocks' : List ℕ) (n : ℕ) : Type 0 where
  pub only : OnlyOrder blocks blocks' n
  pub done : (g : Given) → g.pieces ≡ pieces → g.m ≡ m → g.n ≡ n → Written g → Tallied g blocks n → Tallied g blocks' (n + m)

-- `taken_over`, `all_taken`: yes is said only where as many cells are counted as there are
pub record TakenOver (row : Row) (r : Bool) : Type 0 where
  pub shown : r ≡ true → row.created < row.destroyed → row.length ≤ row.next

pub record AllTaken (blocks : List ℕ) (n : ℕ) (r : Bool) : Type 0 where
  pub shown : r ≡ true → (link : ℕ) → 0 < link → link ≤ n → LivesAt blocks link → length_at blocks link ≤ next_at blocks link

-- ── rule 24 ──

-- the block of a link has the place
pub record BlockCell (blocks : List ℕ) (link place : ℕ) : Type 0 where
  pub from : place_at blocks link ≤ place
  pub below : place < place_at blocks link + length_at blocks link

-- so has the piece of a link
abbrev pub piece_place : (pieces : List ℕ) (link : ℕ) → ℕ
piece_place pieces link = cell_place (column pieces link piece_owner) (column pieces link piece_first)

pub record PieceCell (pieces : List ℕ) (link place : ℕ) : Type 0 where
  pub from : piece_place pieces link ≤ place
  pub below : place < piece_place pieces link + column pieces link piece_length

-- what is known of the rows: no end wraps, none is destroyed or written after the end tick, and no two pieces share a cell
pub record Sound (pieces blocks : List ℕ) (n m end : ℕ) : Type 0 where
  pub no_wrap : NoWrap blocks n
  pub by_end : (link : ℕ) → 0 < link → link ≤ n → destroyed_at blocks link ≤ end
  pub written : (link : ℕ) → 0 < link → link ≤ m → column pieces link piece_written ≤ end
  pub parted : (i j : ℕ) → 0 < i → i < j → j ≤ m → (cell : ℕ) → PieceCell pieces i cell → PieceCell pieces j cell → ⊥

-- no two blocks share a cell at a tick, nor does one with a piece, which is live from its written tick on
pub record RowsApart (pieces blocks : List ℕ) (n m : ℕ) : Type 0 where
  pub blocks_apart : Unshared blocks n
  pub pieces_apart : (link k : ℕ) → 0 < link → link ≤ n → 0 < k → k ≤ m → LivesAt blocks link → column pieces k piece_written < destroyed_at blocks link
      → (cell : ℕ) → BlockCell blocks link cell → PieceCell pieces k cell → ⊥

-- `handed_on`: the table is as it was, and yes is said only where that is so
pub record SeenHanded (pieces blocks : List ℕ) (n m : ℕ) (blocks' : List ℕ) (r : Bool) : Type 0 where
  pub kept : Unordered blocks n → blocks' ≡ blocks
  pub shown : r ≡ true → Unordered blocks n → (end : ℕ) → Sound pieces blocks n m end → RowsApart pieces blocks n m
