-- What each part of the loader answers and leaves, in the words of `history`. Definitions alone.
use Rattle.std.specs.Prelude.{◌≡◌, Bool, true, false, cond, ◌&&◌, List, ℕ, ◌+◌, ◌-◌, ◌*◌, ◌/◌, ◌^◌, ◌≤◌, ◌<◌, leb, ltb, length}
use Rattle.std.proofs.lemmas.List.Edits.{sets}
use Rattle.history.specs.Lent.{row_width, entry_width, block_head, node_head, entry_head}
use Rattle.history.specs.Refusals.{Answer, accepted, refused}
use Rattle.history.specs.Words.{Block}
use Rattle.history.specs.Tree.{Tree}
use Rattle.history.specs.Rules.{rule23, apart, is_hole}
use Rattle.history.specs.File.{File, got, many, read_block, read_root, loaded_from, trees_with, end_of, tree_from, rule20, rule21, rule22}
use Rattle.tables.specs.Columns.{block_column, block_first, block_length, block_created, block_destroyed}
use Rattle.block_table.specs.Blocks.{Room, owner_at, blocks_of, Stored}
use Rattle.segment_table.specs.Closed as closed
use Rattle.segment_table.specs.Closed.{Closed}
use Rattle.file_scan.specs.Counts.{bytes_in}
use Rattle.layout.specs.Tables.{tables, lengths_of}
use Rattle.layout.specs.Relations.{zeros}
use Rattle.layout.specs.Files.{loaded_head, LoadedTables}

-- ── 20 ──

-- the rows and bytes go into tables and a store of these lengths
unfoldable pub room_for : (blocks store nodes entries : ℕ) (n bytes rows runs : ℕ) → Bool
room_for blocks store nodes entries n bytes rows runs =
    leb n ((blocks - block_head) / row_width)
    && (leb rows ((nodes - node_head) / row_width) && (leb runs ((entries - entry_head) / entry_width) && leb bytes store))

-- ── 22 ──

-- length above 0, no end above 2^64 − 1, created < destroyed ≤ E
unfoldable pub lives_at : (blocks : List ℕ) (link end : ℕ) → Bool
lives_at blocks link end =
    (ltb 0 (block_column blocks link block_length) && leb (block_column blocks link block_first + block_column blocks link block_length) (2 ^ 64 - 1))
    && (ltb (block_column blocks link block_created) (block_column blocks link block_destroyed) && leb (block_column blocks link block_destroyed) end)

-- of blocks whose bytes are in a store the test is rule 22
pub record TestedLives (blocks : List ℕ) (n end : ℕ) (r : Bool) : Type 0 where
  pub is : (store : List ℕ) → Stored (length store) blocks n → r ≡ rule22 end (blocks_of store blocks n)

-- ── 22 to 24 ──

-- the first that is broken
unfoldable pub judgement : (end : ℕ) → List Block → Tree → Answer (Unit {0})
judgement e bs tree = cond (rule22 e bs) (cond (rule23 e bs tree) (cond (apart bs) (accepted tt) (refused 24)) (refused 23)) (refused 22)

-- Tables that were filled: blocks of one kind whose bytes are in a store, and a tree with a root. An entry table without a head goes with no entry at
-- all, which breaks rule 23.
pub record Ready (t : closed.Tables) (kind end n : ℕ) (store : List ℕ) (tree : Tree) : Type 0 where
  pub known_kind : kind ≤ 4
  pub owners : (link : ℕ) → 0 < link → link ≤ n → owner_at t.blocks link ≡ kind
  pub room : Room t.blocks n
  pub stored : Stored (length store) t.blocks n
  pub rooted : is_hole tree ≡ false
  pub holds : entry_head ≤ length t.entries → Closed t end (trees_with kind tree)
  pub inside : entry_head ≤ length t.entries → entry_head + entry_width * closed.entries_used t.entries ≤ length t.entries
  pub headless : length t.entries < entry_head → rule22 end (blocks_of store t.blocks n) ≡ true → rule23 end (blocks_of store t.blocks n) tree ≡ false

-- of no block it is 22
pub record Judged (t : closed.Tables) (end n : ℕ) (r : Answer (Unit {0})) : Type 0 where
  pub is : (kind : ℕ) (store : List ℕ) (tree : Tree) → Ready t kind end n store tree → r ≡ judgement end (blocks_of store t.blocks n) tree
  pub none : n ≡ 0 → r ≡ refused 22

-- ── the head ──

pub record HeadPut (blocks blocks' : List ℕ) (end kind n used : ℕ) : Type 0 where
  pub is : kind ≤ 4 → blocks' ≡ sets blocks 0 (loaded_head end kind n used)

-- ── 21 to 24 ──

-- the first rule that the file breaks
unfoldable pub verdict : File → Answer (Unit {0})
verdict f = cond (rule21 f.nodes) (judgement (end_of f.nodes) f.blocks (tree_from f.nodes)) (refused 21)

-- a file whose parts are read where they stand, with the counts of the first pass
pub record PartsAt (file : List ℕ) (kind n used start root : ℕ) (f : File) : Type 0 where
  pub blocks : many (read_block kind) n file start ≡ got f.blocks root
  pub nodes_end : ℕ
  pub nodes : read_root file root ≡ got f.nodes nodes_end
  pub own_kind : kind ≡ f.kind
  pub known_kind : kind ≤ 4
  pub count : n ≡ length f.blocks
  pub bytes : used ≡ bytes_in f.blocks

-- the verdict, and where no rule is broken, tables that stand for the file's index
pub record Built (file : List ℕ) (kind n used start root : ℕ) (blocks store nodes entries blocks' store' nodes' entries' : List ℕ) (r : Answer (Unit {0})) : Type 0 where
  pub answered : (f : File) (pieces : List ℕ) → PartsAt file kind n used start root f → rule20 (lengths_of (tables pieces blocks store nodes entries)) f ≡ true
      → r ≡ verdict f
  pub stands : (f : File) (pieces : List ℕ) → PartsAt file kind n used start root f → rule20 (lengths_of (tables pieces blocks store nodes entries)) f ≡ true
      → verdict f ≡ accepted tt → LoadedTables (loaded_from f) (tables pieces blocks store nodes entries) (tables (zeros pieces) blocks' store' nodes' entries')

-- ── zeros ──

pub record Zeroed (blocks store nodes entries blocks' store' nodes' entries' : List ℕ) : Type 0 where
  pub blocks_are : blocks' ≡ zeros blocks
  pub store_is : store' ≡ zeros store
  pub nodes_are : nodes' ≡ zeros nodes
  pub entries_are : entries' ≡ zeros entries
