-- Rule 24 of a closed index: what is decided. Definitions alone.
use Rattle.std.specs.Prelude.{Bool, List, ℕ, ◌+◌, ◌-◌, ◌^◌, ◌≤◌, ◌<◌}
use Rattle.lists.specs.Tests.{Decides}
use Rattle.history.specs.Words.{Block}
use Rattle.block_table.specs.Blocks.{first_cell_at, length_at, destroyed_at}
use Rattle.ordering.specs.Apart.{Unshared}
use Rattle.segment_table.specs.Closed.{Tables}
use Rattle.segment_test.specs.Test.{BlockRows, ClosedTrees}

-- a row is not empty, has no end wrapping, and is destroyed by the end tick
pub record Bounded (blocks : List ℕ) (end link : ℕ) : Type 0 where
  pub some_cell : 0 < length_at blocks link
  pub no_wrap : first_cell_at blocks link + length_at blocks link ≤ 2 ^ 64 - 1
  pub by_end : destroyed_at blocks link ≤ end

-- so are the rows of the links 1 to n
pub record AllBounded (blocks : List ℕ) (end n : ℕ) : Type 0 where
  pub rows : (link : ℕ) → 0 < link → link ≤ n → Bounded blocks end link

-- Of the tables of a closed index with bounded rows it is decided whether rule 24 holds: no two blocks share a cell at a tick. `Unshared` is history's `Apart`
-- (ordering, `unshared_apart`).
pub record ClosedApart (t : Tables) (end n : ℕ) (r : Bool) : Type 0 where
  pub decides : (bs : List Block) → BlockRows t.blocks n bs → ClosedTrees t end bs → AllBounded t.blocks end n → Decides r (Unshared t.blocks n)
