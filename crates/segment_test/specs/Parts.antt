-- The parts of the test, each of which an inner test decides; they speak of the tables alone. Definitions alone: laws stand in proofs/.
use Rattle.std.specs.Prelude.{◌≡◌, Bool, true, false, cond, ◌&&◌, Option, Some, None, List, ℕ, suc, ◌+◌, ◌*◌, ◌≤◌, ◌<◌, length, ltb, eqb}
use Rattle.history.specs.Lent.{row_width, entry_width, block_head, node_head, entry_head}
use Rattle.history.specs.Words.{Block}
use Rattle.history.specs.Tree.{Tree, hole, node, mid, covers, tree_at, node_count, nodes_in, block_at, key_in}
use Rattle.tables.specs.Columns.{column, entry_column, node_min, node_max, node_kind, nodes_count, entry_key}
use Rattle.segment_table.specs.Closed.{Tables, nodes_used, entries_used, left_at, right_at, first_at, count_at, block_in, first_cell_in, run, NodeRow}
use Rattle.segment_test.specs.Test.{created_in, destroyed_in, owner_in}
use Rattle.segment_test.specs.Total.{sum_to, entries_of_row, widths_of_row, life_in}

-- ── the head ──

-- a table has room for its head and this many rows
pub record Room (table : List ℕ) (head rows : ℕ) : Type 0 where
  pub fits : head + row_width * rows ≤ length table

-- n entry rows from a row on lie in the table
pub record Inside (entries : List ℕ) (row n : ℕ) : Type 0 where
  pub fits : entry_head + entry_width * (row + n) ≤ length entries

-- the counts are inside the tables
pub record Heads (t : Tables) (n : ℕ) : Type 0 where
  pub block_room : Room t.blocks block_head n
  pub node_room : Room t.nodes node_head (nodes_used t.nodes)
  pub entry_room : Inside t.entries 0 (entries_used t.entries)

-- ── the roots ──

-- one of the first n blocks is of the kind
pub record HasBlock (blocks : List ℕ) (n kind : ℕ) : Type 0 where
  pub number : ℕ
  pub low : number < n
  pub is : owner_in blocks number ≡ kind

-- a kind that has a root has a block
pub record RootOwned (blocks nodes : List ℕ) (n kind : ℕ) : Type 0 where
  pub owned : (column nodes 0 kind ≡ 0 → ⊥) → HasBlock blocks n kind

-- so has each of the first kinds, so many
pub record RootsOwned (blocks nodes : List ℕ) (n many : ℕ) : Type 0 where
  pub each : (kind : ℕ) → kind < many → RootOwned blocks nodes n kind

-- ── the blocks as one kind sees them ──

-- the life of block k, if it is of the kind; else it has none
abbrev pub own_created : (blocks : List ℕ) (kind k : ℕ) → ℕ
own_created blocks kind k = cond (eqb (owner_in blocks k) kind) (created_in blocks k) 0

abbrev pub own_destroyed : (blocks : List ℕ) (kind k : ℕ) → ℕ
own_destroyed blocks kind k = cond (eqb (owner_in blocks k) kind) (destroyed_in blocks k) 0

-- the first n rows are these blocks so
pub record OwnRows (blocks : List ℕ) (kind n : ℕ) (bs : List Block) : Type 0 where
  pub many : length bs ≡ n
  pub first : (k : ℕ) → k < n → key_in bs k ≡ first_cell_in blocks k
  pub created : (k : ℕ) → k < n → (block_at bs k).created ≡ own_created blocks kind k
  pub destroyed : (k : ℕ) → k < n → (block_at bs k).destroyed ≡ own_destroyed blocks kind k

-- ── one node's entries ──

-- A life covers the node above, which is [lo, hi); an empty interval stands for none, above the root.
abbrev pub covers_above : (created destroyed lo hi : ℕ) → Bool
covers_above c d lo hi = ltb lo hi && covers c d lo hi

-- The entry row names a block below n and carries its first cell; the block, as the kind sees it, covers the node [lo, hi), and not the node above, [from, to).
pub record EntryRow (blocks entries : List ℕ) (n kind row lo hi from to : ℕ) : Type 0 where
  pub known : block_in entries row < n
  pub keyed : entry_column entries row entry_key ≡ first_cell_in blocks (block_in entries row)
  pub covering : covers (own_created blocks kind (block_in entries row)) (own_destroyed blocks kind (block_in entries row)) lo hi ≡ true
  pub not-above : covers_above (own_created blocks kind (block_in entries row)) (own_destroyed blocks kind (block_in entries row)) from to ≡ false

-- the j-th of the rows from a row on has a key above that of the row before it, if j is not the first
pub record Follows (entries : List ℕ) (row j : ℕ) : Type 0 where
  pub after : (i : ℕ) → suc i ≡ j → entry_column entries (row + i) entry_key < entry_column entries (row + j) entry_key

-- each of n entry rows from a row on is right, and their keys ascend strictly
pub record RunRows (blocks entries : List ℕ) (n kind row many lo hi from to : ℕ) : Type 0 where
  pub each : (j : ℕ) → j < many → EntryRow blocks entries n kind (row + j) lo hi from to
  pub ascending : (j : ℕ) → j < many → Follows entries row j

-- ── one node ──

-- the node at a link has no half
pub record Bare (nodes : List ℕ) (link : ℕ) : Type 0 where
  pub left : left_at nodes link ≡ 0
  pub right : right_at nodes link ≡ 0

-- the row of a link is in use and holds the node [lo, hi) of the kind; a node of width 1 has no halves
pub record RowStands (nodes : List ℕ) (kind link lo hi : ℕ) : Type 0 where
  pub some : 0 < link
  pub used : link ≤ nodes_used nodes
  pub low : column nodes link node_min ≡ lo
  pub high : column nodes link node_max ≡ hi
  pub own_kind : column nodes link node_kind ≡ kind
  pub narrow : hi ≤ lo + 1 → (left_at nodes link ≡ 0) × (right_at nodes link ≡ 0)

-- the row of a link is as the layout asks, and so is its run of entries
pub record NodeStands (t : Tables) (n kind link lo hi from to : ℕ) : Type 0 where
  pub row : NodeRow t kind link lo hi (run t.entries (first_at t.nodes link) (count_at t.nodes link))
  pub rows : RunRows t.blocks t.entries n kind (first_at t.nodes link) (count_at t.nodes link) lo hi from to

-- ── a tree ──

-- every node of the tree stands in the tables, with its entries
unfoldable pub TreeStands : (t : Tables) (n kind link lo hi from to : ℕ) → Tree → Type 0
TreeStands t n kind link lo hi from to hole = link ≡ 0
TreeStands t n kind link lo hi from to (node xs l r) =
    (run t.entries (first_at t.nodes link) (count_at t.nodes link) ≡ xs)
    × NodeStands t n kind link lo hi from to
    × TreeStands t n kind (left_at t.nodes link) lo (mid lo hi) lo hi l
    × TreeStands t n kind (right_at t.nodes link) (mid lo hi) hi lo hi r

-- a tree stands there, and what is left of a budget of node rows when each of its nodes took one
abbrev pub Stood : (t : Tables) (n kind link lo hi from to budget rest : ℕ) → Type 0
Stood t n kind link lo hi from to budget rest = (tree : Tree) × TreeStands t n kind link lo hi from to tree × (budget ≡ rest + node_count tree)

-- What is left of a budget after a walk. Nothing is said to be left where the tree is wrong, or takes more.
pub record Walked (t : Tables) (n kind link lo hi from to budget : ℕ) (left : Option ℕ) : Type 0 where
  pub stood : (rest : ℕ) → left ≡ Some rest → Stood t n kind link lo hi from to budget rest
  pub wrong : left ≡ None → (tree : Tree) → TreeStands t n kind link lo hi from to tree → node_count tree ≤ budget → ⊥

-- a tree stands from the root of each kind on, and they take every row in use
pub record AllRows (t : Tables) (n e : ℕ) : Type 0 where
  pub trees : List Tree
  pub five : length trees ≡ nodes_count
  pub stands : (kind : ℕ) → kind < nodes_count → TreeStands t n kind (column t.nodes 0 kind) 0 e 0 0 (tree_at trees kind)
  pub all_rows_lem : nodes_used t.nodes ≡ nodes_in trees

-- ── all rows ──

-- runs begin where those before end, and end with the entry count
pub record Tiled (nodes entries : List ℕ) : Type 0 where
  pub begins : (k : ℕ) → k < nodes_used nodes → first_at nodes (suc k) ≡ sum_to (entries_of_row nodes) k
  pub total : sum_to (entries_of_row nodes) (nodes_used nodes) ≡ entries_used entries

-- ── all blocks ──

-- the kind of each of the first n blocks has a root, and their lives add up to a total
pub record LivesAre (blocks nodes : List ℕ) (n total : ℕ) : Type 0 where
  pub rooted : (k : ℕ) → k < n → column nodes 0 (owner_in blocks k) ≡ 0 → ⊥
  pub sum : total ≡ sum_to (life_in blocks) n

-- ── all of it, of the tables alone ──

-- but for the nodes' places and runs
pub record Frame (t : Tables) (n : ℕ) : Type 0 where
  pub roots : RootsOwned t.blocks t.nodes n nodes_count
  pub tiled : Tiled t.nodes t.entries
  pub lives : LivesAre t.blocks t.nodes n (sum_to (widths_of_row t.nodes) (nodes_used t.nodes))

-- What the tests of the tables say together; n blocks are in the block table.
pub record TreeTables (t : Tables) (n e : ℕ) : Type 0 where
  pub heads : Heads t n
  pub roots : RootsOwned t.blocks t.nodes n nodes_count
  pub tiled : Tiled t.nodes t.entries
  pub rows : AllRows t n e
  pub lives : LivesAre t.blocks t.nodes n (sum_to (widths_of_row t.nodes) (nodes_used t.nodes))
