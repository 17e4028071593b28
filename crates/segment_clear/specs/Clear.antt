-- A block among others of a list: whether it shares no cell with the last one that starts before its end. Definitions alone.
use Rattle.std.specs.Prelude.{◌≡◌, Bool, true, false, List, ℕ, suc, ◌+◌, ◌-◌, ◌^◌, ◌≤◌, ◌<◌}
use Rattle.lists.specs.Lists.{All, Ascending, Mem}
use Rattle.history.specs.Tree.{Tree}
use Rattle.history.specs.Find.{path}
use Rattle.tables.specs.Columns.{block_column, block_length}
use Rattle.block_table.specs.declared.Row.{Row}
use Rattle.segment_table.specs.Closed.{first_cell_in}
use Rattle.segment_walk.specs.declared.walk.Node.{Node}
use Rattle.segment_walk.specs.declared.rows.Rows.{Rows}
use Rattle.segment_walk.specs.Walking.{Stands}
use Rattle.segment_walk.specs.Rowing.{RunOf}
use Rattle.segment_clear.specs.declared.Own.{Own}

-- ── blocks ──

-- the place after the last cell of block k
abbrev pub end_in : (blocks : List ℕ) (k : ℕ) → ℕ
end_in blocks k = first_cell_in blocks k + block_column blocks (suc k) block_length

-- block k ends at a place or before it
pub record EndsBy (blocks : List ℕ) (k place : ℕ) : Type 0 where
  pub is : end_in blocks k ≤ place

-- block k as its row says it
pub record Owned (k : ℕ) (row : Row) (own : Own) : Type 0 where
  pub number : own.number ≡ k
  pub first : own.first ≡ row.first
  pub end : row.first + row.length ≤ 2 ^ 64 - 1 → own.end ≡ row.first + row.length
  pub forward : own.first ≤ own.end

-- what is looked at is block k
pub record Owns (blocks : List ℕ) (k : ℕ) (own : Own) : Type 0 where
  pub number : own.number ≡ k
  pub first : own.first ≡ first_cell_in blocks k
  pub end : end_in blocks k ≤ 2 ^ 64 - 1 → own.end ≡ end_in blocks k
  pub forward : own.first ≤ own.end

-- ── a block and a list ──

-- between blocks j and k there is one of the list: it starts where j does or behind, and ends where k starts or before
pub record Parted (blocks list : List ℕ) (k j : ℕ) : Type 0 where
  pub by : ℕ
  pub listed : Mem by list
  pub from : first_cell_in blocks j ≤ first_cell_in blocks by
  pub ends : end_in blocks by ≤ first_cell_in blocks k

-- another block of the list reaches into block k
pub record Reached (blocks list : List ℕ) (k : ℕ) : Type 0 where
  pub by : ℕ
  pub listed : Mem by list
  pub other : by ≡ k → ⊥
  pub starts : first_cell_in blocks by < end_in blocks k
  pub ends : first_cell_in blocks k < end_in blocks by

-- What the test of block k against a list says: it is parted from every other one that starts before its end, or one reaches into it. It does not say
-- that none reaches into it: the last one before it may lie in a longer one.
pub record Clears (blocks list : List ℕ) (k : ℕ) (r : Bool) : Type 0 where
  pub clear : r ≡ true → All (λ j. (j ≡ k → ⊥) → first_cell_in blocks j < end_in blocks k → Parted blocks list k j) list
  pub reached : r ≡ false → Reached blocks list k

-- ── in the tables ──

-- of the rows of a node
pub record RunClear (blocks entries : List ℕ) (rows : Rows) (own : Own) (r : Bool) : Type 0 where
  pub of_run : (k : ℕ) (xs : List ℕ) → Owns blocks k own → end_in blocks k ≤ 2 ^ 64 - 1 → RunOf blocks entries rows xs → Ascending (first_cell_in blocks) xs
      → Clears blocks xs k r

-- of the way down to a tick from a node
pub record WayClear (blocks nodes entries : List ℕ) (n : Node) (tick : ℕ) (own : Own) (r : Bool) : Type 0 where
  pub of_way : (k kind : ℕ) (tree : Tree) → Owns blocks k own → end_in blocks k ≤ 2 ^ 64 - 1 → Stands blocks nodes entries kind n tree
      → Clears blocks (path tick n.min n.max tree) k r
