-- A row of the file: what its reader in `history` gives, without the bytes of a block and without the children of a node. Definitions alone.
use Rattle.std.specs.Prelude.{cond, Result, Ok, Err, List, ℕ, ◌+◌, ◌*◌, length, leb, eqb}
use Rattle.history.specs.Words.{Block, a_block}
use Rattle.history.specs.File.{Read, got, fault, Reader, ◌>>=◌, ◌>>◌, give, refuse◌unless◌, number, many}
use Rattle.refusals.specs.declared.Refusal.{Refusal}
use Rattle.refusals.specs.Numbers.{number_of}
use Rattle.file_scan.specs.declared.rows.BlockRow.{BlockRow}
use Rattle.file_scan.specs.declared.rows.NodeRow.{NodeRow}
use Rattle.file_scan.specs.declared.rows.NodeRow.TheVariants as node

-- ── four numbers ──

pub record Numbers : Type 0 where
  pub a : ℕ
  pub b : ℕ
  pub c : ℕ
  pub d : ℕ

unfoldable pub read_four : Reader Numbers
read_four = do
  a ← number 8
  b ← number 8
  c ← number 8
  d ← number 8
  give (record { a = a; b = b; c = c; d = d })

abbrev pub four_of : ℕ × ℕ × ℕ × ℕ → Numbers
four_of (a, b, c, d) = record { a = a; b = b; c = c; d = d }

-- the bytes of a row before a block's bytes or a node's entries
abbrev pub row_head : ℕ
row_head = 1 + 4 * 8

-- ── a read that may be refused ──

-- what a value means, with the position behind it; or the number of the refusal
abbrev pub answer_of : {A B : Type 0} → (B → A) → Result B Refusal → (at : ℕ) → Read A
answer_of of (Ok value) at = got (of value) at
answer_of of (Err refusal) at = fault (number_of refusal)

-- ── a block ──

abbrev pub block_of : (kind : ℕ) → BlockRow → Block
block_of kind row = a_block kind row.first row.bytes.now row.created row.destroyed

-- ── a node ──

-- a node without its children, or an absent child
pub data Head : Type 0 where
  head_absent : Head
  head_present : (min max middle : ℕ) (entries : List ℕ) → Head

unfoldable pub read_present : Reader Head
read_present = do
  min ← number 8
  max ← number 8
  middle ← number 8
  count ← number 8
  entries ← many (number 8) count
  give (head_present min max middle entries)

-- `read_nodes` up to the children
unfoldable pub read_head : Reader Head
read_head = do
  presence ← number 1
  refuse 19 unless (leb presence 1)
  cond (eqb presence 0) (give head_absent) read_present

-- its entries stand behind its numbers
unfoldable pub node_row : (at : ℕ) → Read Head → Read NodeRow
node_row at (got head_absent next) = got node.Absent next
node_row at (got (head_present min max middle es) next) = got (node.Present min max middle (length es) (at + row_head)) next
node_row at (fault n) = fault n

abbrev pub read_node : Reader NodeRow
read_node file at = node_row at (read_head file at)
