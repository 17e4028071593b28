-- Filling the runs: the nodes are made and counted, and the blocks go down once more, in recorded order, each taking the next free place of every node
-- that lists it. The start of a run is its next free place meanwhile. Then every run is sorted. Definitions alone.
use Rattle.std.specs.Prelude.{◌≡◌, ◌⊎◌, List, [], ◌∷◌, map, ℕ, suc, ◌+◌, ◌-◌, ◌*◌, ◌^◌, ◌≤◌, ◌<◌, length, get_or, set, replicate}
use Rattle.lists.specs.Lists.{All, count_from}
use Rattle.history.specs.Lent.{row_width, entry_width, node_head, entry_head}
use Rattle.history.specs.Words.{Block}
use Rattle.history.specs.Tree.{Tree, hole, node, mid, add_location, tree_at, key_in, node_count, entries_all, trees_of}
use Rattle.tables.specs.Columns.{column, entry_column, node_first, nodes_count, entry_block, entry_key}
use Rattle.tables.specs.Sums.{most, plus_up_to}
use Rattle.segment_table.specs.Closed.{Tables, Closed, nodes_used, left_at, right_at, first_at, count_at, first_cell_in, run, Keyed}
use Rattle.segment_table.specs.Alone.{TreeAlone}
use Rattle.entry_sort.specs.Rows.{sort_rows}
use Rattle.entry_sort.specs.Sorts.{entry_rows}
use Rattle.segment_tree.specs.declared.Place.{Place}
use Rattle.segment_tree.specs.Count.{rows_in, entries_to, all_entries, CountRow, Life, spot, Outside, Whole}
use Rattle.segment_tree.specs.Runs.{LikeButRuns, AssignedRuns}
use Rattle.segment_tree.specs.Lives.{Owned, owned_of, block_life, Counted, entry_rows_in}

-- ── the tables while they are filled ──

-- where the run of a row begins, by the counts of the rows before it
abbrev pub start_at : (nodes : List ℕ) (link : ℕ) → ℕ
start_at nodes link = entries_to nodes (link - 1)

-- The counted table s, which stays but for the starts of runs, and room for all its entries.
pub record Fillable (s nodes entries : List ℕ) : Type 0 where
  pub like : LikeButRuns s nodes
  pub long : length nodes ≡ length s
  pub inside : nodes_used s ≤ rows_in s
  pub space : entry_head + entry_width * all_entries s ≤ length entries
  pub few : all_entries s < most

-- the row of a link: the node [lo, hi) that lists xs so far, of as many as were counted
pub record FillRow (blocks s nodes entries : List ℕ) (kind link lo hi : ℕ) (xs : List ℕ) : Type 0 where
  pub row : CountRow s kind link lo hi (count_at s link)
  pub fits : length xs ≤ count_at s link
  pub next : first_at nodes link ≡ start_at s link + length xs
  pub listed : run entries (start_at s link) (length xs) ≡ xs
  pub keyed : Keyed blocks entries (start_at s link) (length xs)

-- the tree stands at a link, as far as it is filled
unfoldable pub FillAt : (blocks s nodes entries : List ℕ) (kind link lo hi : ℕ) → Tree → Type 0
FillAt blocks s nodes entries kind link lo hi hole = link ≡ 0
FillAt blocks s nodes entries kind link lo hi (node xs l r) =
    FillRow blocks s nodes entries kind link lo hi xs
    × FillAt blocks s nodes entries kind (left_at s link) lo (mid lo hi) l
    × FillAt blocks s nodes entries kind (right_at s link) (mid lo hi) hi r

-- no node of the tree lists more than were counted
unfoldable pub Roomy : (s : List ℕ) (link : ℕ) → Tree → Type 0
Roomy s link hole = Unit {0}
Roomy s link (node xs l r) = (length xs ≤ count_at s link) × Roomy s (left_at s link) l × Roomy s (right_at s link) r

-- the rows of which `out` holds keep their next place and what their runs hold
pub record Untouched (s nodes entries nodes' entries' : List ℕ) (out : ℕ → Type 0) : Type 0 where
  pub next : (k : ℕ) → 0 < k → k ≤ nodes_used s → out k → first_at nodes' k ≡ first_at nodes k
  pub runs : (k i c : ℕ) → 0 < k → k ≤ nodes_used s → out k → start_at s k ≤ i → i < start_at s k + count_at s k → c < entry_width
      → entry_column entries' i c ≡ entry_column entries i c

-- So do the rows past those in use, the head of the entry table, and what lies past the runs.
pub record Beyond (s nodes entries nodes' entries' : List ℕ) : Type 0 where
  pub next : (k : ℕ) → nodes_used s < k → first_at nodes' k ≡ first_at nodes k
  pub outside : (i : ℕ) → (i < entry_head) ⊎ (entry_head + entry_width * all_entries s ≤ i) → get_or entries' i 0 ≡ get_or entries i 0

-- ── one block ──

-- block b goes only to nodes that are there: adding it makes none
abbrev pub FindsNodes : (levels b : ℕ) (life : Life) (lo hi : ℕ) → Tree → Type 0
FindsNodes levels b life lo hi T = node_count (add_location (λ _. 0) levels b life.created life.destroyed lo hi T) ≡ node_count T

-- Where T was filled T' is.
pub record Filled (blocks s nodes entries nodes' entries' : List ℕ) (kind link lo hi : ℕ) (T T' : Tree) : Type 0 where
  pub here : FillAt blocks s nodes' entries' kind link lo hi T'
  pub rest : Untouched s nodes entries nodes' entries' (Outside s (spot kind 0 0 lo hi))
  pub beyond : Beyond s nodes entries nodes' entries'

-- Block b, whose first cell is `cell`, at the end of every node of the tree that its life goes to: they are all there, and have room for it. Every
-- entry goes to the end of its run, as if the keys were all the same.
pub record Written (nodes entries nodes' entries' : List ℕ) (link lo hi : ℕ) (life : Life) (b cell : ℕ) : Type 0 where
  pub like : LikeButRuns nodes nodes'
  pub nodes_long : length nodes' ≡ length nodes
  pub entries_long : length entries' ≡ length entries
  pub done : (blocks s : List ℕ) (kind levels : ℕ) (T : Tree) → hi - lo ≤ 2 ^ levels → Fillable s nodes entries → first_cell_in blocks b ≡ cell
      → FillAt blocks s nodes entries kind link lo hi T → FindsNodes levels b life lo hi T
      → Roomy s link (add_location (λ _. 0) levels b life.created life.destroyed lo hi T)
      → Filled blocks s nodes entries nodes' entries' kind link lo hi T (add_location (λ _. 0) levels b life.created life.destroyed lo hi T)

-- in a node that the life covers, whichever that is
pub record WrittenWhole (nodes entries nodes' entries' : List ℕ) (link b cell : ℕ) : Type 0 where
  pub each : (lo hi : ℕ) (life : Life) → Whole lo hi life → Written nodes entries nodes' entries' link lo hi life b cell

-- the next free place of the run, one further
abbrev pub with_next : (nodes : List ℕ) (link : ℕ) → List ℕ
with_next nodes link = set nodes (row_width * link + node_first) (plus_up_to (first_at nodes link) 1)

-- an entry row with a block and its first cell
abbrev pub with_entry : (entries : List ℕ) (row b cell : ℕ) → List ℕ
with_entry entries row b cell = set (set entries (entry_head + (entry_width * row + entry_block)) b) (entry_head + (entry_width * row + entry_key)) cell

-- block b at the next free place of the node of `link`
pub record WroteEntry (nodes entries nodes' entries' : List ℕ) (link b cell : ℕ) : Type 0 where
  pub nodes_are : nodes' ≡ with_next nodes link
  pub entries_are : entries' ≡ with_entry entries (first_at nodes link) b cell

-- .. if the tables have the node's row and that place; else nothing
pub data PutEntry (nodes entries nodes' entries' : List ℕ) (link b cell : ℕ) : Type 0 where
  put : WroteEntry nodes entries nodes' entries' link b cell → PutEntry nodes entries nodes' entries' link b cell
  no_place : (0 < link → link ≤ rows_in nodes → entry_rows_in entries ≤ first_at nodes link) → nodes' ≡ nodes → entries' ≡ entries
      → PutEntry nodes entries nodes' entries' link b cell

-- the link at a place in the row of `link`, if it is one of the table's
pub record HalfRead (nodes : List ℕ) (link : ℕ) (p : Place) (next : ℕ) : Type 0 where
  pub is : 0 < link → link ≤ rows_in nodes → p.col < row_width → next ≡ column nodes link p.col

-- ── all blocks ──

-- the trees of all kinds stand at their roots, as far as they are filled
pub record AllFilling (blocks s nodes entries : List ℕ) (e : ℕ) (trees : List Tree) : Type 0 where
  pub five : length trees ≡ nodes_count
  pub each : (kind : ℕ) → kind < nodes_count → FillAt blocks s nodes entries kind (column s 0 kind) 0 e (tree_at trees kind)

-- no node of theirs lists more than were counted
pub record AllRoomy (s : List ℕ) (trees : List Tree) : Type 0 where
  pub each : (kind : ℕ) → kind < nodes_count → Roomy s (column s 0 kind) (tree_at trees kind)

-- the kind and the life of block k, whose link is k + 1
abbrev pub row_life : (blocks : List ℕ) (k : ℕ) → Owned
row_life blocks k = block_life blocks (suc k)

-- block k at the ends of its nodes, in the tree of its kind
abbrev pub append_block : (blocks : List ℕ) (end k : ℕ) → List Tree → List Tree
append_block blocks e k trees =
    let o = row_life blocks k in
    set trees o.kind (add_location (λ _. 0) 63 k o.life.created o.life.destroyed 0 e (tree_at trees o.kind))

-- the blocks of these numbers, one after the other
unfoldable pub append_each : (blocks : List ℕ) (end : ℕ) (numbers : List ℕ) → List Tree → List Tree
append_each blocks e [] trees = trees
append_each blocks e (k ∷ ks) trees = append_each blocks e ks (append_block blocks e k trees)

-- block k is of a kind that there is, and finds its nodes in that kind's tree
pub record Placeable (blocks : List ℕ) (e : ℕ) (trees : List Tree) (k : ℕ) : Type 0 where
  pub known : (row_life blocks k).kind < nodes_count
  pub finds : FindsNodes 63 k (row_life blocks k).life 0 e (tree_at trees (row_life blocks k).kind)

-- the trees are filled so far, and nothing else changed
pub record AllFilled (blocks s nodes entries nodes' entries' : List ℕ) (e : ℕ) (trees : List Tree) : Type 0 where
  pub here : AllFilling blocks s nodes' entries' e trees
  pub beyond : Beyond s nodes entries nodes' entries'

-- the blocks of the numbers from `first` on, so many, fill the trees of their kinds
pub record WrittenAll (blocks nodes entries nodes' entries' : List ℕ) (e first many : ℕ) : Type 0 where
  pub like : LikeButRuns nodes nodes'
  pub nodes_long : length nodes' ≡ length nodes
  pub entries_long : length entries' ≡ length entries
  pub done : (s : List ℕ) (trees : List Tree) → e ≤ 2 ^ 63 → Fillable s nodes entries → AllFilling blocks s nodes entries e trees
      → All (Placeable blocks e trees) (count_from first many) → AllRoomy s (append_each blocks e (count_from first many) trees)
      → AllFilled blocks s nodes entries nodes' entries' e (append_each blocks e (count_from first many) trees)

-- ── runs in order ──

-- The runs of rows 1 to n are sorted, each by itself, and nothing else of the entry table changes.
pub record RunsSorted (nodes entries entries' : List ℕ) (n : ℕ) : Type 0 where
  pub long : length entries' ≡ length entries
  pub sorted : (k : ℕ) → 0 < k → k ≤ n → entry_rows entries' (start_at nodes k) (count_at nodes k) ≡ sort_rows (entry_rows entries (start_at nodes k) (count_at nodes k))
  pub rest : (i : ℕ) → (i < entry_head) ⊎ (entry_head + entry_width * entries_to nodes n ≤ i) → get_or entries' i 0 ≡ get_or entries i 0

-- The runs of rows 1 to n are given out again, and are sorted where the entry table holds them.
pub record ClosedRuns (nodes entries nodes' entries' : List ℕ) (n total : ℕ) : Type 0 where
  pub assigned : AssignedRuns nodes nodes' n total
  pub entries_long : length entries' ≡ length entries
  pub in_order : entry_head + entry_width * entries_to nodes n ≤ length entries → RunsSorted nodes entries entries' n

-- ── the closed tree ──

abbrev pub lent_tables : (blocks nodes entries : List ℕ) → Tables
lent_tables blocks nodes entries = record { blocks = blocks; nodes = nodes; entries = entries }

-- What finish closes: the trees of the blocks bs are counted, the entry table has room for them, and the rows of the block table have the kinds, the lives
-- and the first cells of these blocks. Nothing is asked of their order.
pub record Closable (t : Tables) (n e : ℕ) (bs : List Block) : Type 0 where
  pub small : e ≤ 2 ^ 63
  pub known : All (λ (b : Block). b.kind < nodes_count) bs
  pub counted : Counted t.nodes e (trees_of e bs)
  pub nodes_headed : node_head ≤ length t.nodes
  pub entries_headed : entry_head ≤ length t.entries
  pub space : entries_all (trees_of e bs) ≤ entry_rows_in t.entries
  pub many : n ≡ length bs
  pub lives_are : map (block_life t.blocks) (count_from 1 (length bs)) ≡ map owned_of bs
  pub cells_are : (k : ℕ) → k < length bs → first_cell_in t.blocks k ≡ key_in bs k

-- the trees stand there, and alone where the entry table was zeros
pub record ClosedTrees (t t' : Tables) (n e : ℕ) : Type 0 where
  pub done : (bs : List Block) → Closable t n e bs → Closed t' e (trees_of e bs)
  pub alone : (bs : List Block) → Closable t n e bs → t.entries ≡ replicate (length t.entries) 0 → TreeAlone t'.nodes t'.entries (trees_of e bs)
