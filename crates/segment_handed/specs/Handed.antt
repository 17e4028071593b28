-- What is said of the tables of a closed index. Definitions alone: laws stand in proofs/.
use Rattle.std.specs.Prelude.{◌≡◌, Bool, true, Option, Some, List, ℕ, ◌≤◌, ◌<◌}
use Rattle.history.specs.Words.{Block}
use Rattle.tables.specs.Columns.{column, nodes_count}
use Rattle.block_table.specs.Blocks.{owner_at, Filled}
use Rattle.ordering.specs.Apart.{Clash}
use Rattle.segment_table.specs.Closed.{Tables}
use Rattle.segment_test.specs.Test.{destroyed_in, BlockRows, ClosedTrees}
use Rattle.segment_test.specs.Parts.{Stood, AllRows}
use Rattle.segment_handed.specs.Rows.{Fits}

-- no block is empty, no end wraps, and each is destroyed by the end tick
pub record SoundRows (blocks : List ℕ) (end n : ℕ) : Type 0 where
  pub filled : Filled blocks n
  pub fits : Fits blocks n
  pub by_end : (k : ℕ) → k < n → destroyed_in blocks k ≤ end

-- no two of the blocks 1 to n that are of the kind share a cell at a tick
pub record KindUnshared (blocks : List ℕ) (kind n : ℕ) : Type 0 where
  pub apart : (j k : ℕ) → 0 < j → j ≤ n → 0 < k → k ≤ n → (j ≡ k → ⊥) → owner_at blocks j ≡ kind → owner_at blocks k ≡ kind → Clash blocks j k → ⊥

-- of a closed index no two blocks of the kind do
pub record HandedOn (t : Tables) (kind end : ℕ) : Type 0 where
  pub shown : (n : ℕ) (bs : List Block) → BlockRows t.blocks n bs → ClosedTrees t end bs → kind < nodes_count → SoundRows t.blocks end n → KindUnshared t.blocks kind n

-- How many of the node rows a kind's tree leaves is said only where it stands, and is one of which this holds.
pub record KindSeen (t : Tables) (n kind end rows : ℕ) (left : Option ℕ) : Type 0 where
  pub stood : (rest : ℕ) → left ≡ Some rest → Stood t n kind (column t.nodes 0 kind) 0 end 0 0 rows rest
  pub handed : (rest : ℕ) → left ≡ Some rest → HandedOn t kind end

-- yes is said only where the trees of all kinds are so, and take every row
pub record Seen (t : Tables) (n end : ℕ) (r : Bool) : Type 0 where
  pub rows : r ≡ true → AllRows t n end
  pub handed : r ≡ true → (kind : ℕ) → kind < nodes_count → HandedOn t kind end
