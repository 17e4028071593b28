-- Rule 24 of the blocks of an open index, tried in the tables that finish builds in. Definitions alone.
use Rattle.std.specs.Prelude.{◌≡◌, Bool, true, false, List, ℕ, ◌+◌, ◌^◌, ◌≤◌, ◌<◌, length, replicate}
use Rattle.lists.specs.Tests.{Decides}
use Rattle.history.specs.Lent.{node_head, entry_head}
use Rattle.history.specs.Words.{Block}
use Rattle.tables.specs.Sums.{most}
use Rattle.block_table.specs.Blocks.{Room, Filled, Stored, owner_at}
use Rattle.segment_table.specs.Closed as closed
use Rattle.ordering.specs.Order.{Unordered}
use Rattle.ordering.specs.Apart.{Unshared}
use Rattle.segment_test.specs.Test.{BlockRows, ClosedTrees}
use Rattle.segment_apart.specs.Apart.{AllBounded}

-- what is known of the blocks of an open index, and of the tables that finish builds in
pub record Tryable (store blocks nodes entries : List ℕ) (end n : ℕ) : Type 0 where
  pub node_zeros : nodes ≡ replicate (length nodes) 0
  pub entry_zeros : entries ≡ replicate (length entries) 0
  pub nodes_headed : node_head ≤ length nodes
  pub entries_headed : entry_head ≤ length entries
  pub some : 0 < end
  pub small : end ≤ 2 ^ 63
  pub few : n + 0 < most
  pub room : Room blocks n
  pub unordered : Unordered blocks n
  pub stored : Stored (length store) blocks n
  pub bounded : AllBounded blocks end n
  pub known : (link : ℕ) → 0 < link → link ≤ n → owner_at blocks link ≤ 4

-- `trees_apart`: yes is said only where no two blocks share a cell at a tick, and no only where two do, if trees of them stand in the tables
pub record StandsApart (t : closed.Tables) (end n : ℕ) (r : Bool) : Type 0 where
  pub shown : r ≡ true → (bs : List Block) → BlockRows t.blocks n bs → AllBounded t.blocks end n → Unshared t.blocks n
  pub shares : r ≡ false → (bs : List Block) → BlockRows t.blocks n bs → AllBounded t.blocks end n → ClosedTrees t end bs → Unshared t.blocks n → ⊥

-- `order_apart`: the table, which has no order, is as it was, and it is decided
pub record OrderTried (blocks : List ℕ) (n : ℕ) (blocks' : List ℕ) (r : Bool) : Type 0 where
  pub same : blocks' ≡ blocks
  pub decides : Decides r (Unshared blocks n)

pub record OrderApart (blocks : List ℕ) (n : ℕ) (blocks' : List ℕ) (r : Bool) : Type 0 where
  pub done : (store : List ℕ) → Unordered blocks n → Room blocks n → Filled blocks n → Stored (length store) blocks n → OrderTried blocks n blocks' r

-- `blocks_apart`: the tables are as they were, and it is decided
pub record Tried (blocks nodes entries : List ℕ) (n : ℕ) (blocks' nodes' entries' : List ℕ) (r : Bool) : Type 0 where
  pub blocks_same : blocks' ≡ blocks
  pub nodes_same : nodes' ≡ nodes
  pub entries_same : entries' ≡ entries
  pub decides : Decides r (Unshared blocks n)

pub record BlocksApart (blocks nodes entries : List ℕ) (end n : ℕ) (blocks' nodes' entries' : List ℕ) (r : Bool) : Type 0 where
  pub done : (store : List ℕ) → Tryable store blocks nodes entries end n → Tried blocks nodes entries n blocks' nodes' entries' r
