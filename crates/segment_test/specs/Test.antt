-- What the test of a closed index's trees decides: the layout, the roots, and rules 21 and 23 of document 01. Definitions alone: laws stand in proofs/ClosedTrees.
use Rattle.std.specs.Prelude.{◌≡◌, List, ℕ, suc, ◌+◌, ◌*◌, ◌≤◌, ◌<◌, length}
use Rattle.history.specs.Lent.{row_width, entry_width, block_head, entry_head}
use Rattle.history.specs.Words.{Block}
use Rattle.history.specs.Tree.{Tree, tree_at, block_at, key_in}
use Rattle.history.specs.Sound.{SoundTree}
use Rattle.tables.specs.Columns.{block_column, block_created, block_destroyed, block_owner, nodes_count}
use Rattle.segment_table.specs.Closed.{Tables, entries_used, first_cell_in, Closed}

-- the lent tables as one
abbrev pub lent : (blocks nodes entries : List ℕ) → Tables
lent blocks nodes entries = record { blocks = blocks; nodes = nodes; entries = entries }

-- a block's life in the block table: of a link, and of block k, whose link is k + 1
abbrev pub created_of : (blocks : List ℕ) (link : ℕ) → ℕ
created_of blocks link = block_column blocks link block_created

abbrev pub destroyed_of : (blocks : List ℕ) (link : ℕ) → ℕ
destroyed_of blocks link = block_column blocks link block_destroyed

abbrev pub created_in : (blocks : List ℕ) (k : ℕ) → ℕ
created_in blocks k = created_of blocks (suc k)

abbrev pub destroyed_in : (blocks : List ℕ) (k : ℕ) → ℕ
destroyed_in blocks k = destroyed_of blocks (suc k)

-- its kind
abbrev pub owner_in : (blocks : List ℕ) (k : ℕ) → ℕ
owner_in blocks k = block_column blocks (suc k) block_owner

-- The first n rows of the block table are the blocks bs, as far as trees can tell: kinds that there are, first cells and lives.
pub record BlockRows (blocks : List ℕ) (n : ℕ) (bs : List Block) : Type 0 where
  pub many : length bs ≡ n
  pub kinds : (k : ℕ) → k < n → (block_at bs k).kind ≡ owner_in blocks k
  pub known : (k : ℕ) → k < n → owner_in blocks k < nodes_count
  pub first : (k : ℕ) → k < n → key_in bs k ≡ first_cell_in blocks k
  pub created : (k : ℕ) → k < n → (block_at bs k).created ≡ created_in blocks k
  pub destroyed : (k : ℕ) → k < n → (block_at bs k).destroyed ≡ destroyed_in blocks k

-- The tables hold the trees of a closed index with the end tick e and the blocks bs: the counts are inside the tables, and document 01's rules hold of each
-- kind's tree.
pub record ClosedTrees (t : Tables) (e : ℕ) (bs : List Block) : Type 0 where
  pub trees : List Tree
  pub block_room : block_head + row_width * length bs ≤ length t.blocks
  pub entry_room : entry_head + entry_width * entries_used t.entries ≤ length t.entries
  pub closed : Closed t e trees
  pub each : (kind : ℕ) → kind < nodes_count → SoundTree e bs kind (tree_at trees kind)
