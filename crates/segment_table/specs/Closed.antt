-- The trees of a closed index in the node and entry tables (docs/LAYOUT.md): the layout alone, none of document 01's rules. Definitions alone.
use Rattle.std.specs.Prelude.{◌≡◌, List, [], ◌∷◌, ℕ, zero, suc, ◌+◌, ◌*◌, ◌≤◌, ◌<◌, length, get_or}
use Rattle.history.specs.Lent.{row_width, entry_width, entry_head}
use Rattle.history.specs.Tree.{Tree, hole, node, mid, tree_at, nodes_in, entries_all}
use Rattle.tables.specs.Columns.{column, block_column, entry_column, block_first, node_min, node_max, node_left, node_right, node_first, node_entries, node_kind, nodes_count, entry_block, entry_key, entries_count, head_end}

-- ── what is lent ──

-- the tables of an index that its trees stand in; the block table gives the first cells
pub record Tables : Type 0 where
  pub blocks : List ℕ
  pub nodes : List ℕ
  pub entries : List ℕ

-- ── columns ──

abbrev pub nodes_used : (nodes : List ℕ) → ℕ
nodes_used nodes = column nodes 0 nodes_count

abbrev pub left_at : (nodes : List ℕ) (link : ℕ) → ℕ
left_at nodes link = column nodes link node_left

abbrev pub right_at : (nodes : List ℕ) (link : ℕ) → ℕ
right_at nodes link = column nodes link node_right

-- the first row of the node's run of entries, and how many there are
abbrev pub first_at : (nodes : List ℕ) (link : ℕ) → ℕ
first_at nodes link = column nodes link node_first

abbrev pub count_at : (nodes : List ℕ) (link : ℕ) → ℕ
count_at nodes link = column nodes link node_entries

-- how many entries there are
abbrev pub entries_used : (entries : List ℕ) → ℕ
entries_used entries = get_or entries entries_count 0

-- the block number of an entry row
abbrev pub block_in : (entries : List ℕ) (row : ℕ) → ℕ
block_in entries row = entry_column entries row entry_block

-- the first cell of block k, whose link is k + 1
abbrev pub first_cell_in : (blocks : List ℕ) (k : ℕ) → ℕ
first_cell_in blocks k = block_column blocks (suc k) block_first

-- ── runs of entries ──

-- the block numbers in n entry rows from a row on
unfoldable pub run : (entries : List ℕ) (row n : ℕ) → List ℕ
run entries row zero = []
run entries row (suc n) = block_in entries row ∷ run entries (suc row) n

-- each of n entry rows from a row on carries the first cell of its block
pub record Keyed (blocks entries : List ℕ) (row n : ℕ) : Type 0 where
  pub key : (j : ℕ) → j < n → entry_column entries (row + j) entry_key ≡ first_cell_in blocks (block_in entries (row + j))

-- ── nodes ──

-- the row of a link is in use and holds the node [lo, hi) of the kind with the entries xs; a node of width 1 has no halves
pub record NodeRow (t : Tables) (kind link lo hi : ℕ) (xs : List ℕ) : Type 0 where
  pub some : 0 < link
  pub used : link ≤ nodes_used t.nodes
  pub low : column t.nodes link node_min ≡ lo
  pub high : column t.nodes link node_max ≡ hi
  pub own_kind : column t.nodes link node_kind ≡ kind
  pub narrow : hi ≤ lo + 1 → (left_at t.nodes link ≡ 0) × (right_at t.nodes link ≡ 0)
  pub inside : entry_head + entry_width * (first_at t.nodes link + count_at t.nodes link) ≤ length t.entries
  pub listed : run t.entries (first_at t.nodes link) (count_at t.nodes link) ≡ xs
  pub keyed : Keyed t.blocks t.entries (first_at t.nodes link) (count_at t.nodes link)

-- the tree stands at a link
unfoldable pub TreeAt : (t : Tables) (kind link lo hi : ℕ) → Tree → Type 0
TreeAt t kind link lo hi hole = link ≡ 0
TreeAt t kind link lo hi (node xs l r) =
    NodeRow t kind link lo hi xs
    × TreeAt t kind (left_at t.nodes link) lo (mid lo hi) l
    × TreeAt t kind (right_at t.nodes link) (mid lo hi) hi r

-- ── the whole table ──

-- runs are consecutive in row order: the first starts at row 0, each next where the one before ends
pub record Consecutive (nodes : List ℕ) : Type 0 where
  pub begins : 0 < nodes_used nodes → first_at nodes 1 ≡ 0
  pub follows : (link : ℕ) → 0 < link → link < nodes_used nodes → first_at nodes (suc link) ≡ first_at nodes link + count_at nodes link

-- The tables hold the trees of a closed index with the end tick e, one for each kind: a kind without a tree has no root, every row in use is reached, the
-- counts are those of all trees.
pub record Closed (t : Tables) (e : ℕ) (trees : List Tree) : Type 0 where
  pub five : length trees ≡ nodes_count
  pub stands : (kind : ℕ) → kind < nodes_count → TreeAt t kind (column t.nodes 0 kind) 0 e (tree_at trees kind)
  pub all_rows_lem : nodes_used t.nodes ≡ nodes_in trees
  pub room : row_width * nodes_used t.nodes + row_width ≤ length t.nodes
  pub all_entries_lem : entries_used t.entries ≡ entries_all trees
  pub consecutive : Consecutive t.nodes

-- which tree it is: the asked kind's, up to the end tick of the head of the blocks
pub record TreeOf (blocks nodes entries : List ℕ) (kind : ℕ) (its_nodes its_entries : List ℕ) (its_kind e : ℕ) : Type 0 where
  pub in_nodes : its_nodes ≡ nodes
  pub in_entries : its_entries ≡ entries
  pub own_kind : its_kind ≡ kind
  pub end : e ≡ block_column blocks 0 head_end
