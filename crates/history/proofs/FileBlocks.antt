-- A block at a position, as a loop meets it: read, of another kind, or cut. Assumes nothing.
use mathlib.Core.Path.{◌≡◌, refl, ◌∙◌}
use mathlib.Core.List.{List}
use Prim.Native.Nat.{ℕ, ◌<◌, ◌≤◌, ◌+◌}
use native.Mathlib.Omega.{arith}
use lib.ListN.{length, get_or, take, drop}
use borrow.Author.Tests.{eq-eqb}
use Rattle.history.specs.Words.{Block, a_block}
use Rattle.history.specs.File.{got, ◌>>=◌, onward, give, refuse◌unless◌, field, read_block, fault, Reader}
use Rattle.history.proofs.FileReads.{field_read, byte_read}
use Rattle.history.proofs.FileFields.{four_read, four_cut, number_at}

-- a block's head: the kind byte, first cell, length, created, destroyed
abbrev pub block_head_bytes : ℕ
block_head_bytes = 33

-- the position behind a block
abbrev pub block_end : (file : List ℕ) (at : ℕ) → ℕ
block_end file at = at + block_head_bytes + number_at file (at + 9)

-- the block at a position
abbrev pub block_in : (file : List ℕ) (at : ℕ) → Block
block_in file at =
    a_block (get_or file at 0) (number_at file (at + 1)) (take (number_at file (at + 9)) (drop (at + block_head_bytes) file)) (number_at file (at + 17)) (number_at file (at + 25))

module _ (kind : ℕ) (file : List ℕ) (at : ℕ) where
  module _ (inside : at < length file) where
    module _ (e : get_or file at 0 ≡ kind) where
      -- behind the kind byte: the four numbers and the bytes
      abbrev behind : ℕ → ℕ → ℕ → ℕ → Reader Block
      behind first cells born died =
          field cells >>= (λ bs. give (a_block (get_or file at 0) first bs born died))

      -- cut in the head
      pub block_short : length file < at + block_head_bytes → read_block kind file at ≡ fault 17
      unfolding read_block ◌>>=◌ onward refuse◌unless◌
      block_short h =
          rw (byte_read file at inside, eq-eqb (get_or file at 0) kind e)
          (four_cut behind file (at + 1) (at + 9) (at + 17) (at + 25) (at + 33) (omega arith) (omega arith) (omega arith) (omega arith) h)

      -- whole
      pub block_whole : block_end file at ≤ length file → read_block kind file at ≡ got (block_in file at) (block_end file at)
      unfolding read_block ◌>>=◌ onward refuse◌unless◌ give
      block_whole h =
          rw (byte_read file at inside, eq-eqb (get_or file at 0) kind e)
          (four_read behind file (at + 1) (at + 9) (at + 17) (at + 25) (at + 33) (omega arith) (omega arith) (omega arith) (omega arith) (omega arith)
          ∙ rw (field_read (number_at file (at + 9)) file (at + 33) h) refl)
