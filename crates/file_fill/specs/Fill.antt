-- What the second pass writes of what the file's reader in `history` gives: the numbers of each table, by equality. Definitions alone.
use Rattle.std.specs.Prelude.{◌≡◌, Option, Some, None, Bool, true, false, cond, ◌&&◌, ℕ, suc, ◌+◌, ◌*◌, ◌^◌, ◌≤◌, leb, ltb, eqb, length, replicate}
use mathlib.Core.List.{List, flat_map}
use Rattle.std.proofs.lemmas.List.Edits.{sets}
use Rattle.history.specs.Lent.{row_width, entry_width, entry_head}
use Rattle.history.specs.Words.{Block}
use Rattle.history.specs.Tree.{Tree, mid, halves, node_count, entry_count, entries_in}
use Rattle.history.specs.File.{Nodes, absent, present, Read, got, fault, number, many, read_block, read_root, tree_from, end_of, rule21}
use Rattle.tables.specs.Columns.{block_base, block_column, block_first}
use Rattle.layout.specs.Rows.{blocks_numbers, root_link, node_numbers, tree_numbers, entry_numbers, run_numbers}
use Rattle.file_scan.specs.Rows.{row_head, Head, head_absent, head_present}
use Rattle.file_fill.specs.declared.nodes.Half.{Half}
use Rattle.file_fill.specs.declared.nodes.Half.TheVariants as half
use Rattle.file_fill.specs.declared.nodes.Filled.{Filled}

-- ── zeros ──

-- the first n numbers are zeros, as far as the table goes; the rest is as it was
pub record ZerosFirst (table table' : List ℕ) (n : ℕ) : Type 0 where
  pub is : table' ≡ sets table 0 (replicate n 0)

-- ── blocks ──

-- the blocks' bytes, one after the other
abbrev pub bytes_of_all : List Block → List ℕ
bytes_of_all bs = flat_map (λ b. b.stretch.bytes) bs

-- of blocks that are read: their rows from link 1 on, their bytes from the store's start on
pub record FilledBlocks (file : List ℕ) (kind count at : ℕ) (blocks store blocks' store' : List ℕ) : Type 0 where
  pub rows : (bs : List Block) (next : ℕ) → many (read_block kind) count file at ≡ got bs next
      → blocks' ≡ sets blocks (row_width * 1 + block_base) (blocks_numbers 0 bs)
  pub bytes : (bs : List Block) (next : ℕ) → many (read_block kind) count file at ≡ got bs next → store' ≡ sets store 0 (bytes_of_all bs)

-- ── rule 21 on the way down ──

-- a node that says low, high and middle is [lo, hi), which has a tick
unfoldable pub is_place : (lo hi low high middle : ℕ) → Bool
is_place lo hi low high middle = ltb lo hi && (eqb low lo && (eqb high hi && eqb middle (mid lo hi)))

-- where the right half of [lo, hi) starts: a node of width 1 has none. Its left half is empty.
unfoldable pub right_start : (lo hi : ℕ) → ℕ
right_start lo hi = cond (halves lo hi) (mid lo hi) hi

-- every node is the half that it should be, from [lo, hi) on: rule 21 below the root
unfoldable pub fits : (lo hi : ℕ) → Nodes → Bool
fits lo hi absent = true
fits lo hi (present low high middle es l r) = is_place lo hi low high middle && (fits lo (mid lo hi) l && fits (right_start lo hi) hi r)

unfoldable pub half_of : (lo hi at : ℕ) → Read Head → Option Half
half_of lo hi at (got head_absent next) = Some (half.Absent next)
half_of lo hi at (got (head_present low high middle es) next) = cond (is_place lo hi low high middle) (Some (half.Present (length es) (at + row_head) next)) None
half_of lo hi at (fault n) = None

-- the end tick that the root says, if it is in range
unfoldable pub root_end : Read Head → Option ℕ
root_end (got head_absent next) = None
root_end (got (head_present low high middle es) next) = cond (ltb 0 high && leb high (2 ^ 63)) (Some high) None
root_end (fault n) = None

-- a tree that was filled
abbrev pub filled : (root rows runs next : ℕ) → Option Filled
filled root rows runs next = Some (record { root = root; behind = record { at = next; rows = rows; runs = runs } })

-- ── entries ──

-- the first cell of block k, whose link is k + 1
abbrev pub first_cell_of : (blocks : List ℕ) (k : ℕ) → ℕ
first_cell_of blocks k = block_column blocks (suc k) block_first

abbrev pub entry_place : (row : ℕ) → ℕ
entry_place row = entry_head + entry_width * row

pub record FilledEntries (blocks file : List ℕ) (at first count : ℕ) (entries entries' : List ℕ) : Type 0 where
  pub rows : (ks : List ℕ) (next : ℕ) → many (number 8) count file at ≡ got ks next
      → entries' ≡ sets entries (entry_place first) (entry_numbers (first_cell_of blocks) ks)

-- ── nodes ──

-- what a tree that fits leaves
pub record TreeLeft (blocks : List ℕ) (kind lo hi rows runs : ℕ) (T : Tree) (next : ℕ) (nodes entries nodes' entries' : List ℕ) (r : Option Filled) : Type 0 where
  pub answered : r ≡ filled (root_link rows T) (rows + node_count T) (runs + entry_count T) next
  pub node_rows_lem : nodes' ≡ sets nodes (row_width * suc rows) (node_numbers kind lo hi rows runs T)
  pub entry_rows_lem : entries' ≡ sets entries (entry_place runs) (entry_numbers (first_cell_of blocks) (entries_in T))

-- of a tree that is read: whether it fits, and its rows and entries behind those in use
pub record FilledTree (blocks file : List ℕ) (kind lo hi at rows runs : ℕ) (nodes entries nodes' entries' : List ℕ) (r : Option Filled) : Type 0 where
  pub right : (t : Nodes) (next : ℕ) → read_root file at ≡ got t next → fits lo hi t ≡ true
      → TreeLeft blocks kind lo hi rows runs (tree_from t) next nodes entries nodes' entries' r
  pub wrong : (t : Nodes) (next : ℕ) → read_root file at ≡ got t next → fits lo hi t ≡ false → r ≡ None
  -- each row and each entry has bytes of its own
  pub bound : {f : Filled} → r ≡ Some f → (f.behind.rows ≤ f.behind.at) × (f.behind.runs ≤ f.behind.at)

-- ── the whole ──

-- what nodes that keep rule 21 leave: the heads, and the rows behind them
pub record NodesLeft (blocks : List ℕ) (kind : ℕ) (t : Nodes) (nodes entries nodes' entries' : List ℕ) (r : Option ℕ) : Type 0 where
  pub ends : r ≡ Some (end_of t)
  pub node_rows_lem : nodes' ≡ sets nodes 0 (tree_numbers kind (end_of t) (tree_from t))
  pub entry_rows_lem : entries' ≡ sets entries 0 (run_numbers (first_cell_of blocks) (tree_from t))

pub record FilledNodes (blocks file : List ℕ) (kind at : ℕ) (nodes entries nodes' entries' : List ℕ) (r : Option ℕ) : Type 0 where
  pub right : (t : Nodes) (next : ℕ) → read_root file at ≡ got t next → rule21 t ≡ true → NodesLeft blocks kind t nodes entries nodes' entries' r
  pub wrong : (t : Nodes) (next : ℕ) → read_root file at ≡ got t next → rule21 t ≡ false → r ≡ None
