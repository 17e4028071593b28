-- How many bytes the file of a closed index has, by its tables. Definitions alone.
use Rattle.std.specs.Prelude.{Option, Some, None, cond, List, map, ℕ, zero, suc, ◌+◌, ◌*◌, leb, eqb, length}
use Rattle.lists.specs.Lists.{count_from, sum_of}
use Rattle.tables.specs.Columns.{column, block_column, head_count, nodes_count}
use Rattle.block_table.specs.Blocks.{length_at}
use Rattle.segment_table.specs.Closed.{nodes_used, entries_used}
use Rattle.file_put.specs.Living.{blocks_at, lives, living}

-- a kind or presence byte and four numbers
abbrev pub row_head : ℕ
row_head = 1 + 4 * 8

-- the bytes of those of the first n blocks that are of the kind and have a life
unfoldable pub blocks_size : (blocks : List ℕ) (kind n : ℕ) → ℕ
blocks_size blocks kind zero = 0
blocks_size blocks kind (suc n) = blocks_size blocks kind n + cond (lives blocks kind n) (row_head + length_at blocks (suc n)) 0

abbrev pub block_count : (blocks : List ℕ) → ℕ
block_count blocks = block_column blocks 0 head_count

-- where the nodes of a kind's part begin in it
abbrev pub nodes_at : (blocks : List ℕ) (kind n : ℕ) → ℕ
nodes_at blocks kind n = blocks_at + blocks_size blocks kind n

-- Every node has its row and its entries. A binary tree has one absent child more than nodes, of a byte each: so long is a part without nodes and entries.
unfoldable pub part_size : (blocks nodes : List ℕ) (kind : ℕ) → ℕ
part_size blocks nodes kind = cond (eqb (column nodes 0 kind) 0) 0 (nodes_at blocks kind (block_count blocks) + 1)

-- and the parts of the first kinds, so many
abbrev pub parts_size : (blocks nodes : List ℕ) (many : ℕ) → ℕ
parts_size blocks nodes many = sum_of (map (part_size blocks nodes) (count_from 0 many))

abbrev pub file_size : (blocks nodes entries : List ℕ) → ℕ
file_size blocks nodes entries = parts_size blocks nodes nodes_count + ((row_head + 1) * nodes_used nodes + 8 * entries_used entries)

-- what goes into a slice of length `room`
unfoldable pub share_of : (blocks : List ℕ) (kind n room : ℕ) → Option (ℕ × ℕ)
share_of blocks kind n room =
    cond (leb (nodes_at blocks kind n) room) (Some (length (living blocks kind n), nodes_at blocks kind n)) None

unfoldable pub fitted : (size room : ℕ) → Option ℕ
fitted size room = cond (leb size room) (Some size) None
