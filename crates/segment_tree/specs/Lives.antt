-- The lives in the block and piece tables, the counts that they make in the trees of their kinds, and what counting them leaves. Definitions alone.
use Rattle.std.specs.Prelude.{◌≡◌, Bool, true, false, cond, List, [], ◌∷◌, ◌++◌, map, ℕ, suc, ◌+◌, ◌-◌, ◌/◌, ◌^◌, ◌≤◌, ◌<◌, length, replicate, set, ltb, Result, Ok, Err}
use Rattle.lists.specs.Lists.{All, count, count_from}
use Rattle.history.specs.Lent.{row_width, entry_width, entry_head}
use Rattle.history.specs.Words.{Block}
use Rattle.history.specs.Tree.{Tree, hole, node, add_location, trees_of, tree_at, nodes_in, entries_all}
use Rattle.tables.specs.Columns.{column, block_column, block_created, block_destroyed, block_owner, piece_written, piece_owner, node_kind, nodes_count}
use Rattle.tables.specs.Sums.{most}
use Rattle.segment_table.specs.Closed.{nodes_used, first_at}
use Rattle.refusals.specs.declared.Refusal.{Refusal}
use Rattle.refusals.specs.declared.Refusal.TheVariants.{NodesFull, EntriesFull}
use Rattle.segment_tree.specs.declared.Owned.{Owned as CodeOwned}
use Rattle.segment_tree.specs.Count.{rows_in, fullest, entries_to, all_entries, Life, a_life, Spot, spot, Standing}

-- ── lives ──

-- a life, and the kind to whose tree it goes, the code's own
abbrev pub Owned : Type 0
Owned = CodeOwned

abbrev pub owned : (kind created destroyed : ℕ) → Owned
owned kind created destroyed = record { kind = kind; life = a_life created destroyed }

abbrev pub owned_of : Block → Owned
owned_of b = owned b.kind b.created b.destroyed

-- of a row of the block table
abbrev pub block_life : (blocks : List ℕ) (link : ℕ) → Owned
block_life blocks link = owned (block_column blocks link block_owner) (block_column blocks link block_created) (block_column blocks link block_destroyed)

-- and of one of the piece table, which finish lets live up to the end
abbrev pub piece_life : (pieces : List ℕ) (end link : ℕ) → Owned
piece_life pieces e link = owned (column pieces link piece_owner) (column pieces link piece_written) e

-- ── counts ──

-- the same nodes with as many entries, all 0: the counts do not depend on which blocks the entries are
unfoldable pub shape : Tree → Tree
shape hole = hole
shape (node xs l r) = node (replicate (length xs) 0) (shape l) (shape r)

abbrev pub add_life : (end : ℕ) (life : Life) → Tree → Tree
add_life e life T = add_location (λ _. 0) 63 0 life.created life.destroyed 0 e T

-- a life goes to the tree of its kind
abbrev pub add_own : (end : ℕ) (o : Owned) → List Tree → List Tree
add_own e o trees = set trees o.kind (add_life e o.life (tree_at trees o.kind))

unfoldable pub add_lives : (end : ℕ) → List Owned → List Tree → List Tree
add_lives e [] trees = trees
add_lives e (o ∷ lives) trees = add_lives e lives (add_own e o trees)

-- ── all trees ──

-- the root of a kind
abbrev pub root_spot : (kind end : ℕ) → Spot
root_spot kind e = spot kind 0 kind 0 e

-- a tree for each kind hangs at its root, and the table can take more
pub record AllStanding (nodes : List ℕ) (e : ℕ) (trees : List Tree) : Type 0 where
  pub five : length trees ≡ nodes_count
  pub each : (kind : ℕ) → kind < nodes_count → Standing nodes (root_spot kind e) (tree_at trees kind)

-- where trees hung others hang now, with as many more rows and entries
pub record AllGrown (nodes nodes' : List ℕ) (e : ℕ) (trees trees' : List Tree) : Type 0 where
  pub long : length nodes' ≡ length nodes
  pub here : AllStanding nodes' e trees'
  pub rows : nodes_used nodes' + nodes_in trees ≡ nodes_used nodes + nodes_in trees'
  pub entries : all_entries nodes' + entries_all trees ≡ all_entries nodes + entries_all trees'
  -- the free columns of rows and of the head
  pub free : (k j : ℕ) → node_kind < j → j < row_width → column nodes' k j ≡ column nodes k j
  pub head_free : (j : ℕ) → nodes_count < j → j < row_width → column nodes' 0 j ≡ column nodes 0 j

-- either that, or they have more nodes than there are rows
pub record AllOutcome (nodes nodes' : List ℕ) (e : ℕ) (room : Bool) (trees trees' : List Tree) : Type 0 where
  pub added : room ≡ true → AllGrown nodes nodes' e trees trees'
  pub spent : room ≡ false → rows_in nodes + nodes_in trees < nodes_used nodes + nodes_in trees'

-- a kind that there is
abbrev pub Known : Owned → Type 0
Known o = o.kind < nodes_count

-- the lives of rows, one after the other
pub record AddedRows (nodes nodes' : List ℕ) (e : ℕ) (lives : List Owned) (room : Bool) : Type 0 where
  pub done : (trees : List Tree) → e ≤ 2 ^ 63 → All Known lives → ((kind : ℕ) → fullest (tree_at trees kind) + length lives < most) → AllStanding nodes e trees
      → AllOutcome nodes nodes' e room trees (add_lives e lives trees)

-- ── the counted table ──

-- how many rows the entry table has past its head
abbrev pub entry_rows_in : (entries : List ℕ) → ℕ
entry_rows_in entries = (length entries - entry_head) / entry_width

-- the nodes of the trees are made and their entries counted, and each row has the start of its run
pub record Counted (nodes : List ℕ) (e : ℕ) (trees : List Tree) : Type 0 where
  pub stands : AllStanding nodes e trees
  pub rows : nodes_used nodes ≡ nodes_in trees
  pub entries : all_entries nodes ≡ entries_all trees
  pub runs : (k : ℕ) → k < nodes_used nodes → first_at nodes (suc k) ≡ entries_to nodes k
  -- the free columns of rows and of the head
  pub free : (k j : ℕ) → node_kind < j → j < row_width → column nodes k j ≡ 0
  pub head_free : (j : ℕ) → nodes_count < j → j < row_width → column nodes 0 j ≡ 0

-- Refusals 12 and 13 go by the trees of all blocks together: more nodes are needed than there are rows, or more entries.
abbrev pub room_for : (node_rows entry_rows : ℕ) (trees : List Tree) → Result Unit Refusal
room_for node_rows entry_rows trees = cond (ltb node_rows (nodes_in trees)) (Err NodesFull) (cond (ltb entry_rows (entries_all trees)) (Err EntriesFull) (Ok tt))

-- What finish counts: the rows 1 to n of the blocks, and the rows 1 to m of the pieces, which live up to the end.
pub record RowsToCount : Type 0 where
  pub blocks : List ℕ
  pub n : ℕ
  pub pieces : List ℕ
  pub m : ℕ
  pub end : ℕ

abbrev pub rows_to_count : (blocks : List ℕ) (n : ℕ) (pieces : List ℕ) (m end : ℕ) → RowsToCount
rows_to_count blocks n pieces m e = record { blocks = blocks; n = n; pieces = pieces; m = m; end = e }

-- They are the recorded blocks bs, and the pieces that become the blocks ps. The rows of the pieces, in the order of ps, are `links`, which are all
-- rows in some order. The node table is zeros, as it is in an open index.
pub record Countable (w : RowsToCount) (nodes : List ℕ) (bs ps : List Block) (links : List ℕ) : Type 0 where
  pub zeros : nodes ≡ replicate (length nodes) 0
  pub some : 0 < w.end
  pub small : w.end ≤ 2 ^ 63
  pub few : w.n + w.m < most
  pub known : All (λ (b : Block). b.kind < nodes_count) (bs ++ ps)
  pub blocks_are : map (block_life w.blocks) (count_from 1 w.n) ≡ map owned_of bs
  pub pieces_are : map (piece_life w.pieces w.end) links ≡ map owned_of ps
  pub all_pieces : (k : ℕ) → count k links ≡ count k (count_from 1 w.m)

-- the refusal is that of the trees; they are counted, or the table is as it was
pub record CountedAs (nodes entries nodes' : List ℕ) (e : ℕ) (trees : List Tree) (r : Result Unit Refusal) : Type 0 where
  pub answer : r ≡ room_for (rows_in nodes) (entry_rows_in entries) trees
  pub counted : r ≡ Ok tt → Counted nodes' e trees
  pub refused : (r ≡ Ok tt → ⊥) → nodes' ≡ nodes

pub record CountedTrees (w : RowsToCount) (nodes entries nodes' : List ℕ) (r : Result Unit Refusal) : Type 0 where
  pub done : (bs ps : List Block) (links : List ℕ) → Countable w nodes bs ps links → CountedAs nodes entries nodes' w.end (trees_of w.end (bs ++ ps)) r
