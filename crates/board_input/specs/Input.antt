-- What the functions of `input` answer, by what history says of the input. Definitions alone: their laws stand in proofs/.
use Rattle.std.specs.Prelude.{◌≡◌, cond, Option, Some, None, Result, Ok, Err, List, ℕ, ◌+◌, ◌^◌, ◌<◌, leb, length, take, drop}
use Rattle.history.specs.File.{number_of, Read, got, fault, number}
use Rattle.history.specs.Printed.{Records, bad, all, read_record, records_from, Input, input_of, Booking}
use Rattle.board_input.specs.declared.Start.{Start}
use Rattle.board_input.specs.declared.Record.{Record}
use Rattle.board_input.specs.declared.BadRecord.{BadRecord}

-- ── bytes and numbers ──

-- the number of so many bytes, little-endian
pub record NumberAt (input : List ℕ) (at width value : ℕ) : Type 0 where
  pub says : value ≡ number_of (take width (drop at input))
  pub small : value < 256 ^ width

-- ── the opening ──

-- E (8 bytes), kind (1)
abbrev pub start_from : (end kind : Read ℕ) → Option Start
start_from (got e x) (got kind y) = Some (record { end = e; kind = kind })
start_from (got e x) (fault n) = None
start_from (fault n) kind = None

unfoldable pub start_of : (input : List ℕ) → Option Start
start_of input = start_from (number 8 input 0) (number 1 input 8)

-- ── a record ──

-- a record's bytes stand behind its mark (2), tick (8), first cell (8) and length (2)
abbrev pub record_front : ℕ
record_front = 20

abbrev pub item_from : (at : ℕ) → Read Booking → Option (Result Record BadRecord)
item_from at (got o next) =
    Some (Ok (record { tick = o.tick; first = o.first; start = at + record_front; next = next }))
item_from at (fault n) = Some (Err (record {}))

unfoldable pub item_at : (input : List ℕ) (at : ℕ) → Option (Result Record BadRecord)
item_at input at = cond (leb (length input) at) None (item_from at (read_record input at))

-- ── the records ──

-- the first one stands behind end tick (8) and kind (1)
abbrev pub first_record : ℕ
first_record = 9

-- the records from a position on, counted from k
abbrev pub records_at : (k : ℕ) (input : List ℕ) (at : ℕ) → Records
records_at k input at = records_from (length input) k input at

-- what `parsed` makes of the first 65,536 bytes
unfoldable pub input_from : (input : List ℕ) → Input
input_from input = input_of (number 8 input 0) (number 1 input 8) (records_at 1 input)

abbrev pub records_of : (input : List ℕ) → Records
records_of input = (input_from input).records

abbrev pub check_of : Records → Result Unit ℕ
check_of (bad k) = Err k
check_of (all os) = Ok tt
