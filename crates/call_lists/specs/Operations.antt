-- Operations in a row of bytes, all of one kind, which the list does not name. Definitions alone.
use Rattle.std.specs.Prelude.{◌≡◌, Option, Some, None, List, ℕ, ◌-◌, ◌≤◌, ◌<◌, length, take, drop}
use Rattle.history.specs.File.{got, fault, Reader, number, field, give, ◌>>=◌}
use Rattle.history.specs.Printed.{Booking}
use Rattle.call_lists.specs.declared.Item.{Item}

abbrev pub a_booking : (tick first : ℕ) (bytes : List ℕ) → Booking
a_booking tick first bytes = record { tick = tick; first = first; bytes = bytes }

-- each its tick, first cell and length, 8 little-endian bytes apiece, then its bytes
unfoldable pub read_operation : Reader Booking
read_operation = do
  tick ← number 8
  first ← number 8
  cells ← number 8
  bytes ← field cells
  give (a_booking tick first bytes)

-- the operation at a position, with the next one; or that it is cut
abbrev pub ReadAs : Option Item → (list : List ℕ) (at : ℕ) → Type 0
ReadAs (Some i) list at =
    (read_operation list at ≡ got (a_booking i.tick i.first (take (i.next - i.start) (drop i.start list))) i.next)
    × (i.start ≤ i.next) × (i.next ≤ length list) × (at < i.next)
ReadAs None list at = (n : ℕ) × (read_operation list at ≡ fault n)

-- `operation_at`
pub record ItemRead (list : List ℕ) (at : ℕ) (r : Option Item) : Type 0 where
  pub says : ReadAs r list at
