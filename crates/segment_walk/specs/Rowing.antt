-- The rows of a node's entries in the tables, the first of them from a key on, and those in a window. Definitions alone.
use Rattle.std.specs.Prelude.{◌≡◌, cond, List, ℕ, ◌+◌, ◌-◌, ◌/◌, ◌≤◌, ◌<◌, length, leb}
use Rattle.history.specs.Lent.{entry_width, entry_head}
use Rattle.history.specs.Find.{window}
use Rattle.tables.specs.Columns.{entry_column, entry_key}
use Rattle.segment_table.specs.Closed.{first_at, count_at, block_in, first_cell_in, run}
use Rattle.segment_walk.specs.declared.rows.Rows.{Rows}

-- ── rows of entries ──

-- how many rows the entry table has
abbrev pub table_rows : (entries : List ℕ) → ℕ
table_rows entries = (length entries - entry_head) / entry_width

-- the rows of a node's run; where the run does not stand in the table, none
unfoldable pub rows_at : (nodes entries : List ℕ) (link : ℕ) → Rows
rows_at nodes entries k =
    cond (leb (first_at nodes k + count_at nodes k) (table_rows entries)) (record { from = first_at nodes k; to = first_at nodes k + count_at nodes k })
    (record { from = 0; to = 0 })

abbrev pub key_at : (entries : List ℕ) (row : ℕ) → ℕ
key_at entries row = entry_column entries row entry_key

-- the block numbers in the rows
abbrev pub blocks_in : (entries : List ℕ) → Rows → List ℕ
blocks_in entries rows = run entries rows.from (rows.to - rows.from)

-- the keys of the rows ascend
pub record Ordered (entries : List ℕ) (rows : Rows) : Type 0 where
  pub order : (i j : ℕ) → rows.from ≤ i → i ≤ j → j < rows.to → key_at entries i ≤ key_at entries j

-- the rows list the blocks xs, each row with the first cell of its block, ascending
pub record RunOf (blocks entries : List ℕ) (rows : Rows) (xs : List ℕ) : Type 0 where
  pub order : rows.from ≤ rows.to
  pub room : rows.to ≤ table_rows entries
  pub lists : blocks_in entries rows ≡ xs
  pub keyed : (i : ℕ) → rows.from ≤ i → i < rows.to → key_at entries i ≡ first_cell_in blocks (block_in entries i)
  pub ordered : Ordered entries rows

-- ── searching rows ──

-- row r parts the rows: keys before it are below x, from it on they are not
pub record Parts (entries : List ℕ) (rows : Rows) (x r : ℕ) : Type 0 where
  pub below : (i : ℕ) → rows.from ≤ i → i < r → key_at entries i < x
  pub above : (i : ℕ) → r ≤ i → i < rows.to → x ≤ key_at entries i

-- r is the first of the rows whose key is not below x, and their end if there is none
pub record Lower (entries : List ℕ) (rows : Rows) (x r : ℕ) : Type 0 where
  pub inside : rows.from ≤ rows.to → (rows.from ≤ r) × (r ≤ rows.to)
  pub parts : rows.to ≤ table_rows entries → Ordered entries rows → Parts entries rows x r

-- rows before lo have keys below x, rows from hi on have not; between them nothing is settled
pub record Between (entries : List ℕ) (rows : Rows) (x lo hi : ℕ) : Type 0 where
  pub low : rows.from ≤ lo
  pub high : hi ≤ rows.to
  pub order : rows.from ≤ rows.to → lo ≤ hi
  pub below : Ordered entries rows → (i : ℕ) → rows.from ≤ i → i < lo → key_at entries i < x
  pub above : Ordered entries rows → (i : ℕ) → hi ≤ i → i < rows.to → x ≤ key_at entries i

-- ── rows in a window ──

-- r is the part of a node's rows whose keys are in [start, stop)
pub record InWindow (nodes entries : List ℕ) (link start stop : ℕ) (r : Rows) : Type 0 where
  pub order : r.from ≤ r.to
  pub room : r.to ≤ table_rows entries
  pub low : (rows_at nodes entries link).from ≤ r.from
  pub high : r.to ≤ (rows_at nodes entries link).to
  pub lists : (blocks xs : List ℕ) → RunOf blocks entries (rows_at nodes entries link) xs
      → blocks_in entries r ≡ window (first_cell_in blocks) start stop xs
