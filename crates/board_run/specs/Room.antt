-- How much the program prints at most. Definitions alone: the law is proved in proofs/Room.antt.
use Rattle.std.specs.Prelude.{◌≡◌, List, ℕ, ◌+◌, ◌*◌, ◌≤◌, length, take}
use Rattle.history.specs.Printed.{printed}
use Rattle.lists.specs.Puts.{Put}

-- the header; a line for each of at most 3,276 records; a line for each of 1,024 blocks, but for the bytes, of which all blocks have no more than the store
abbrev pub output_most : ℕ
output_most = 27 + 53 * 3276 + 90 * 1024 + 2 * 65536

-- `run`
pub record PrintsBoard (input out out' : List ℕ) (next : ℕ) : Type 0 where
  -- all that `board` prints, from the buffer's start on, as far as the buffer goes
  pub put : Put out 0 (printed input) out' next
  -- a buffer of so many bytes has room for all of it
  pub whole : output_most ≤ length out → take next out' ≡ printed input
  -- `next` counts bytes of the buffer. Both follow from `put`; they are stated so that a caller that takes this part of it finds them.
  pub within : next ≤ length out'
  pub counts : next ≡ length (take next out')
