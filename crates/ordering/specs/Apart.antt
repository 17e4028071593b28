-- Rule 24 over the rows of a block table: no two blocks share a cell at a tick; and what its test says of a table in order. Definitions alone.
use Rattle.std.specs.Prelude.{◌≡◌, Bool, List, ℕ, ◌+◌, ◌≤◌, ◌<◌, ◌^◌, ◌⊎◌, length}
use Rattle.lists.specs.Lists.{All, Pairs}
use Rattle.lists.specs.Tests.{Decides}
use Rattle.block_table.specs.Blocks.{first_cell_at, owner_at, place_at, length_at, created_at, destroyed_at}
use Rattle.ordering.specs.Order.{rank, Trail, InOrder}

-- ── blocks ──

-- the block of a link is live at the tick and holds the place
pub record HoldsAt (blocks : List ℕ) (tick place link : ℕ) : Type 0 where
  pub from : place_at blocks link ≤ place
  pub below : place < place_at blocks link + length_at blocks link
  pub born : created_at blocks link ≤ tick
  pub alive : tick < destroyed_at blocks link

-- two blocks share a cell at a tick
pub record Clash (blocks : List ℕ) (j k : ℕ) : Type 0 where
  pub cell : ℕ
  pub tick : ℕ
  pub one : HoldsAt blocks tick cell j
  pub other : HoldsAt blocks tick cell k

-- no two of the blocks 1 to n do: history's `Apart` (`unshared_apart`)
pub record Unshared (blocks : List ℕ) (n : ℕ) : Type 0 where
  pub apart : (j k : ℕ) → 0 < j → j ≤ n → 0 < k → k ≤ n → (j ≡ k → ⊥) → Clash blocks j k → ⊥

-- ── the tests of two blocks ──

-- the block of `link` starts in a cell of the block of `from`
pub record StartsWithin (blocks : List ℕ) (from link : ℕ) : Type 0 where
  pub after : place_at blocks from ≤ place_at blocks link
  pub below : place_at blocks link < place_at blocks from + length_at blocks from

-- the blocks of two links are of one kind, or the first one does not wrap: it cannot reach into the cells of the next kind
abbrev pub Comparable : (blocks : List ℕ) (from link : ℕ) → Type 0
Comparable blocks from link = (owner_at blocks from ≡ owner_at blocks link) ⊎ (first_cell_at blocks from + length_at blocks from ≤ 2 ^ 64)

-- `starts_within`
pub record StartsIn (blocks : List ℕ) (from link : ℕ) (r : Bool) : Type 0 where
  pub decides : Comparable blocks from link → Decides r (StartsWithin blocks from link)

-- some tick is in both lives: both have one, and each starts before the other's end
pub record LivesMeet (blocks : List ℕ) (j k : ℕ) : Type 0 where
  pub first : created_at blocks j < destroyed_at blocks j
  pub second : created_at blocks k < destroyed_at blocks k
  pub across : created_at blocks j < destroyed_at blocks k
  pub back : created_at blocks k < destroyed_at blocks j

-- ── the tests of lists of links ──

-- the block shares nothing with those of the list
abbrev pub Clear : (blocks : List ℕ) (link : ℕ) (links : List ℕ) → Type 0
Clear blocks link links = All (λ k. Clash blocks link k → ⊥) links

-- no two of the list share anything
abbrev pub AllClear : (blocks links : List ℕ) → Type 0
AllClear blocks links = Pairs (λ j k. Clash blocks j k → ⊥) links

-- no block of 1 to n is empty, and each two of them are comparable
pub record AllComparable (blocks : List ℕ) (n : ℕ) : Type 0 where
  pub filled : (link : ℕ) → 0 < link → link ≤ n → 0 < length_at blocks link
  pub two : (j k : ℕ) → 0 < j → j ≤ n → 0 < k → k ≤ n → Comparable blocks j k

pub record FollowersApart (blocks : List ℕ) (link k fuel : ℕ) (r : Bool) : Type 0 where
  pub decides : (n : ℕ) (links : List ℕ) → n < 2 ^ 64 → ((y : ℕ) → 0 < y → y ≤ n → Comparable blocks link y) → AllComparable blocks n
      → Trail blocks 0 n (rank blocks link) k links → length links ≤ fuel → Decides r (Clear blocks link links)

pub record RowsApart (blocks : List ℕ) (k fuel : ℕ) (r : Bool) : Type 0 where
  pub decides : (n low : ℕ) (links : List ℕ) → n < 2 ^ 64 → AllComparable blocks n → Trail blocks 0 n low k links → length links ≤ fuel
      → Decides r (AllClear blocks links)

-- of a table in order, without empty blocks, of one kind or without blocks that wrap, the test decides rule 24
pub record TestedApart (blocks : List ℕ) (n : ℕ) (r : Bool) : Type 0 where
  pub decides : InOrder blocks n → AllComparable blocks n → Decides r (Unshared blocks n)
