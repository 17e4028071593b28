-- A walk over the tables of a closed index that takes the right half first: what it says of a block, of a node's run and of a tree. Definitions alone: laws
-- stand in proofs/.
use Rattle.std.specs.Prelude.{◌≡◌, ◌⊎◌, Bool, true, Option, Some, List, ℕ, suc, ◌+◌, ◌-◌, ◌≤◌, ◌<◌}
use Rattle.lists.specs.Lists.{All, Mem}
use Rattle.history.specs.Tree.{Tree}
use Rattle.history.specs.Find.{path}
use Rattle.apart_laws.specs.Ticks.{Disjoint}
use Rattle.apart_laws.specs.Slots.{stretch_at, Refilled}
use Rattle.apart_laws.specs.Parted.{PartedIn}
use Rattle.apart_laws.specs.RightFirst.{Held, HeldAll, RightFirst}
use Rattle.slots.specs.declared.Slots.{Slots}
use Rattle.slots.specs.Steps.{slots_of}
use Rattle.block_table.specs.declared.Row.{Row}
use Rattle.block_table.specs.RowRead.{Reads}
use Rattle.segment_table.specs.Closed.{block_in, run}
use Rattle.segment_walk.specs.declared.walk.Node.{Node}
use Rattle.segment_walk.specs.Walking.{Stands}
use Rattle.segment_test.specs.Test.{lent, destroyed_in}
use Rattle.segment_test.specs.Parts.{RunRows, NodeStands, TreeStands, Stood}
use Rattle.segment_clear.specs.declared.Own.{Own}
use Rattle.segment_clear.specs.Clear.{Owns}
use Rattle.segment_clear.specs.Above.{Chained, Above}
use Rattle.segment_handed.specs.declared.run.Spine.{Spine}
use Rattle.segment_handed.specs.Rows.{row_blocks, Known, Fits}

-- ── what is walked over ──

-- a tree stands at a node, and the way down to a tick of it meets blocks of the kind alone
pub record Standing (blocks nodes entries : List ℕ) (n kind : ℕ) (at : Node) (tree : Tree) : Type 0 where
  pub fits : Fits blocks n
  pub stands : Stands blocks nodes entries kind at tree
  pub known : (tick k : ℕ) → at.min ≤ tick → tick < at.max → Mem k (path tick at.min at.max tree) → Known blocks n kind k

-- the whole tree stands at the root; above a node stand, from the top on, those that end where it does, with known blocks
pub record Place (blocks nodes entries : List ℕ) (n kind : ℕ) (root top at : Node) (whole : Tree) (above : List ℕ) : Type 0 where
  pub all : Standing blocks nodes entries n kind root whole
  pub inside : root.min ≤ at.min
  pub nodes_above : Above blocks nodes entries (at.max - 1) at top above
  pub known : (j : ℕ) → Mem j above → Known blocks n kind j

-- the blocks of a node's run are known, and destroyed after its min
pub record Entered (blocks entries : List ℕ) (n kind first many lo : ℕ) : Type 0 where
  pub known : (j : ℕ) → j < many → Known blocks n kind (block_in entries (first + j))
  pub alive : (j : ℕ) → j < many → lo < destroyed_in blocks (block_in entries (first + j))

-- a tree stands at a node, below some node above it
pub record Below (blocks nodes entries : List ℕ) (n kind : ℕ) (node : Node) (tree : Tree) : Type 0 where
  pub from : ℕ
  pub to : ℕ
  pub stood : TreeStands (lent blocks nodes entries) n kind node.link node.min node.max from to tree
  pub wide : 0 < node.link → node.min < node.max

-- ── what is said ──

-- block k, left open at a tick, is parted from the others on the way to the tick before
abbrev pub OpenAt : (blocks : List ℕ) (n kind : ℕ) (root : Node) (whole : Tree) (t k : ℕ) → Type 0
OpenAt blocks n kind root whole t k = PartedIn (row_blocks blocks n kind) (path (t - 1) root.min root.max whole) k

-- nothing is owed for block k, which is destroyed at max: it shares no cell with the others above; below the end it lies in a full slot, or is parted so
pub record Paid (blocks : List ℕ) (n kind : ℕ) (root : Node) (whole : Tree) (above : List ℕ) (max : ℕ) (after : Slots) (k : ℕ) : Type 0 where
  pub clear : All (λ j. (j ≡ k → ⊥) → Disjoint (stretch_at (row_blocks blocks n kind) k) (stretch_at (row_blocks blocks n kind) j)) above
  pub owes : max < root.max → Refilled (slots_of after) (stretch_at (row_blocks blocks n kind) k) ⊎ OpenAt blocks n kind root whole max k

-- yes is said only where nothing is owed for the block, if it is destroyed at max
pub record Owed (blocks nodes entries : List ℕ) (root top : Node) (min max : ℕ) (own : Own) (after : Slots) (r : Bool) : Type 0 where
  pub shown : r ≡ true → (n kind k : ℕ) (at : Node) (whole : Tree) (above : List ℕ) → at.min ≡ min → at.max ≡ max
      → Place blocks nodes entries n kind root top at whole above → at.min < at.max → Known blocks n kind k → Owns blocks k own → destroyed_in blocks k ≡ max
      → Paid blocks n kind root whole above max after k

-- the block is held, with the slots for min that go on from those before
pub record BlockHeld (blocks nodes entries : List ℕ) (root top : Node) (lo hi k : ℕ) (row : Row) (after born slots : Slots) (r : Bool) : Type 0 where
  pub shown : r ≡ true → (n kind : ℕ) (at : Node) (whole : Tree) (above : List ℕ) → at.min ≡ lo → at.max ≡ hi
      → Place blocks nodes entries n kind root top at whole above → at.min < at.max → Known blocks n kind k → Reads blocks (suc k) row → lo < destroyed_in blocks k
      → Held (row_blocks blocks n kind) root.max (OpenAt blocks n kind root whole) lo hi above (slots_of after) k (slots_of born) (slots_of slots)

-- and only where every entry of the run is right
pub record RunStood (blocks entries : List ℕ) (n kind first many lo hi from to : ℕ) (r : Bool) : Type 0 where
  pub shown : r ≡ true → RunRows blocks entries n kind first many lo hi from to

-- every block of it is held so, and they follow one another
pub record RunHeld (blocks nodes entries : List ℕ) (root top : Node) (first many lo hi : ℕ) (after born slots : Slots) (r : Bool) : Type 0 where
  pub shown : r ≡ true → (n kind : ℕ) (at : Node) (whole : Tree) (above : List ℕ) → at.min ≡ lo → at.max ≡ hi
      → Place blocks nodes entries n kind root top at whole above → at.min < at.max → Entered blocks entries n kind first many lo
      → HeldAll (row_blocks blocks n kind) root.max (OpenAt blocks n kind root whole) lo hi above (slots_of after) (run entries first many) (slots_of born) (slots_of slots)
  pub chained : r ≡ true → (n kind : ℕ) → Fits blocks n → Entered blocks entries n kind first many lo → Chained blocks (run entries first many)

-- the node stands, and has a tick
pub record NodeStood (blocks nodes entries : List ℕ) (n : ℕ) (spine : Spine) (at : Node) (r : Bool) : Type 0 where
  pub stands : r ≡ true → NodeStands (lent blocks nodes entries) n spine.kind at.link at.min at.max spine.parent.min spine.parent.max
  pub wide : r ≡ true → at.min < at.max

-- a tree stands at the node, and its nodes took so many of the rows
pub record TreeStood (blocks nodes entries : List ℕ) (n : ℕ) (spine : Spine) (at : Node) (rows : ℕ) (left : Option ℕ) : Type 0 where
  pub shown : (rest : ℕ) → left ≡ Some rest → Stood (lent blocks nodes entries) n spine.kind at.link at.min at.max spine.parent.min spine.parent.max rows rest

-- and every block of the tree is held so
pub record TreeHeld (blocks nodes entries : List ℕ) (root top at : Node) (after born slots : Slots) (left : Option ℕ) : Type 0 where
  pub shown : (rest : ℕ) → left ≡ Some rest → (n kind : ℕ) (whole tree : Tree) (above : List ℕ) → Place blocks nodes entries n kind root top at whole above
      → Standing blocks nodes entries n kind at tree → Below blocks nodes entries n kind at tree
      → RightFirst (row_blocks blocks n kind) root.max (OpenAt blocks n kind root whole) at.min at.max tree above (slots_of after) (slots_of born) (slots_of slots)
