-- What is put of a block, and of all blocks of a kind that have a life. Definitions alone.
use mathlib.Core.List.{List, flat_map, ◌++◌}
use Rattle.std.specs.Prelude.{ℕ, ◌+◌, ◌≤◌, length}
use Rattle.lists.specs.Puts.{Put}
use Rattle.history.specs.File.{bytes_of, block_bytes}
use Rattle.block_table.specs.Blocks.{length_at, offset_at, block_of_row, Stored}
use Rattle.file_put.specs.Living.{living_blocks}

-- a block begins with its kind and a node with its presence, and four numbers follow
abbrev pub row_bytes : (mark a b c d : ℕ) → List ℕ
row_bytes mark a b c d = bytes_of 1 mark ++ (bytes_of 8 a ++ (bytes_of 8 b ++ (bytes_of 8 c ++ bytes_of 8 d)))

-- the block of a link, if its bytes are in the store
pub record PutBlock (store blocks : List ℕ) (link : ℕ) (out : List ℕ) (at : ℕ) (out' : List ℕ) (next : ℕ) : Type 0 where
  pub put : offset_at blocks link + length_at blocks link ≤ length store → Put out at (block_bytes (block_of_row store blocks link)) out' next

-- those of the first n that are of the kind and have a life
pub record PutBlocks (store blocks : List ℕ) (kind n : ℕ) (out : List ℕ) (at : ℕ) (out' : List ℕ) (next : ℕ) : Type 0 where
  pub put : Stored (length store) blocks n → Put out at (flat_map block_bytes (living_blocks store blocks kind n)) out' next
