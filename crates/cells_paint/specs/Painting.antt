-- What blocks leave in the slices of a window. Definitions alone.
use Rattle.std.specs.Prelude.{◌≡◌, Option, List, [], ◌∷◌, ℕ, suc, ◌+◌, ◌-◌, ◌≤◌, ◌<◌, ◌⊎◌, length, get_or}
use Rattle.lists.specs.Lists.{All, Mem}
use Rattle.history.specs.Tree.{Tree}
use Rattle.history.specs.Find.{path, window}
use Rattle.tables.specs.Columns.{block_column, head_end}
use Rattle.block_table.specs.Blocks.{Room, first_cell_at, length_at, offset_at}
use Rattle.segment_table.specs.Closed.{block_in, first_cell_in}
use Rattle.segment_walk.specs.declared.walk.Node.{Node}
use Rattle.segment_walk.specs.declared.rows.Rows.{Rows}
use Rattle.segment_walk.specs.Walking.{Stands, Rooted}
use Rattle.segment_walk.specs.Rowing.{blocks_in, Lower}
use Rattle.segment_near.specs.declared.Side.TheVariants.{Before}
use Rattle.segment_near.specs.declared.Neighbour.{Neighbour}
use Rattle.segment_near.specs.Neighbours.{NearestBelow, NearestLive}
use Rattle.live_rows.specs.Extents.{reaching}

-- ── a cell ──

-- block k covers the cell: its row is in the block table, and its bytes are in the store
pub record Covers (blocks store : List ℕ) (k c : ℕ) : Type 0 where
  pub row : Room blocks (suc k)
  pub stored : offset_at blocks (suc k) + length_at blocks (suc k) ≤ length store
  pub from : first_cell_at blocks (suc k) ≤ c
  pub below : c < first_cell_at blocks (suc k) + length_at blocks (suc k)

-- the byte that it has there
abbrev pub byte_of : (blocks store : List ℕ) (k c : ℕ) → ℕ
byte_of blocks store k c = get_or store (offset_at blocks (suc k) + (c - first_cell_at blocks (suc k))) 0

-- What stands at a cell's place in the slices after blocks ks were painted: what stood there, where none of them covers the cell; else the byte that one of
-- them has there, and 1.
pub data Drawn (blocks store ks : List ℕ) (c byte held byte' held' : ℕ) : Type 0 where
  left : All (λ k. Covers blocks store k c → ⊥) ks → byte' ≡ byte → held' ≡ held → Drawn blocks store ks c byte held byte' held'
  drawn : (k : ℕ) → Mem k ks → Covers blocks store k c → byte' ≡ byte_of blocks store k c → held' ≡ 1 → Drawn blocks store ks c byte held byte' held'

-- ── a window ──

-- the slices have a place for each cell of [start, stop)
pub record Slices (start stop : ℕ) (bytes held : List ℕ) : Type 0 where
  pub bytes_long : length bytes ≡ stop - start
  pub held_long : length held ≡ stop - start

-- blocks ks were painted
pub record Painted (blocks store ks : List ℕ) (start stop : ℕ) (bytes bytes' held held' : List ℕ) : Type 0 where
  pub cell : (i : ℕ) → i < stop - start
      → Drawn blocks store ks (start + i) (get_or bytes i 0) (get_or held i 0) (get_or bytes' i 0) (get_or held' i 0)

-- ── what the functions give ──

-- Block k was painted from a place on: what stands before it stays. Either no cell was, and r is that place, or all that the block has before r are in the store.
-- It has no cell of the window from r on.
pub record PaintedFrom (blocks store : List ℕ) (k start place stop r : ℕ) (bytes bytes' held held' : List ℕ) : Type 0 where
  pub cell : (i : ℕ) → i < stop - start → place ≤ start + i
      → Drawn blocks store (k ∷ []) (start + i) (get_or bytes i 0) (get_or held i 0) (get_or bytes' i 0) (get_or held' i 0)
  pub kept : (i : ℕ) → start + i < place → (get_or bytes' i 0 ≡ get_or bytes i 0) × (get_or held' i 0 ≡ get_or held i 0)
  pub onward : place ≤ r
  pub reached : (r ≡ place) ⊎ ((c : ℕ) → first_cell_at blocks (suc k) ≤ c → c < r → Covers blocks store k c)
  pub inside : place ≤ stop → r ≤ stop
  pub spent : (c : ℕ) → r ≤ c → c < stop → Covers blocks store k c → ⊥

-- the blocks of the rows up to the first that starts at the stop or behind it
pub record RowsPainted (entries blocks store : List ℕ) (rows : Rows) (start stop : ℕ) (bytes bytes' held held' : List ℕ) : Type 0 where
  pub past : ℕ
  pub ends : Lower entries rows stop past
  pub painted : Painted blocks store (blocks_in entries (record { from = rows.from; to = past })) start stop bytes bytes' held held'

-- the blocks of the rows ascend by first cell, as those of a closed index do
pub record Ascending (blocks entries : List ℕ) (rows : Rows) : Type 0 where
  pub firsts : (i j : ℕ) → rows.from ≤ i → i ≤ j → j < rows.to → first_cell_in blocks (block_in entries i) ≤ first_cell_in blocks (block_in entries j)

-- the same of rows that ascend; of others only where they end
pub record AscendingPainted (entries blocks store : List ℕ) (rows : Rows) (start stop : ℕ) (bytes bytes' held held' : List ℕ) : Type 0 where
  pub past : ℕ
  pub ends : Lower entries rows stop past
  pub painted : Ascending blocks entries rows
      → Painted blocks store (blocks_in entries (record { from = rows.from; to = past })) start stop bytes bytes' held held'

-- from a node on the way down to the tick
pub record WayPainted (blocks nodes entries store : List ℕ) (n : Node) (tick start stop : ℕ) (best r : Option Neighbour) (bytes bytes' held held' : List ℕ) : Type 0 where
  pub near : NearestBelow nodes entries n tick Before start best r
  pub painted : (kind : ℕ) (tree : Tree) → Stands blocks nodes entries kind n tree
      → Painted blocks store (window (first_cell_in blocks) start stop (path tick n.min n.max tree)) start stop bytes bytes' held held'

-- in free cells: the blocks that are live at the tick and start in the window, and the last of those that start before it
pub record Shown (blocks nodes entries store : List ℕ) (kind tick start stop : ℕ) (bytes held : List ℕ) : Type 0 where
  pub before : Option Neighbour
  pub near : NearestLive nodes entries kind (block_column blocks 0 head_end) tick Before start before
  pub cell : (tree : Tree) → Rooted blocks nodes entries kind (block_column blocks 0 head_end) tree → (i : ℕ) → i < stop - start
      → Drawn blocks store (reaching blocks start stop (path tick 0 (block_column blocks 0 head_end) tree) before) (start + i) 0 0 (get_or bytes i 0) (get_or held i 0)
