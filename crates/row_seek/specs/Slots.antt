-- What stands in the slots of a guide: no row of a slot lies before what stands there. Definitions alone.
use Rattle.std.specs.Prelude.{◌≡◌, List, ℕ, ◌+◌, ◌/◌, ◌^◌, ◌%◌, ◌≤◌, ◌<◌, length, get_or}
use Rattle.block_table.specs.Blocks.{destroyed_at}

-- the slot of a tick
abbrev pub slot_at : (tick shift : ℕ) → ℕ
slot_at tick shift = tick / 2 ^ (shift % 64)

-- of the rows behind k, up to n, none stands before the place of its slot
pub record Marked (slots blocks : List ℕ) (shift k n : ℕ) : Type 0 where
  pub each : (i : ℕ) → k ≤ i → i < n → slot_at (destroyed_at blocks (i + 1)) shift < length slots → get_or slots (slot_at (destroyed_at blocks (i + 1)) shift) 0 ≤ i

-- what stands in a slot is no more than what stood there or behind it
pub record Filled (slots slots' : List ℕ) (from : ℕ) : Type 0 where
  pub long : length slots' ≡ length slots
  pub least : (i j : ℕ) → from ≤ i → i ≤ j → j < length slots → get_or slots' i 0 ≤ get_or slots j 0

-- a search for the tick of a row that has a slot, up to that of the last row, starts before the row
pub record Guides (rows blocks : List ℕ) (shift n : ℕ) : Type 0 where
  pub before : (i slot : ℕ) → i < n → destroyed_at blocks (i + 1) ≤ destroyed_at blocks n → slot_at (destroyed_at blocks (i + 1)) shift < length rows
      → slot ≤ slot_at (destroyed_at blocks (i + 1)) shift → get_or rows slot 0 ≤ i
