-- What each part of the program puts into the buffer. A name with a prime is the output at exit; its buffer is still the lent one. Definitions alone.
use Rattle.std.specs.Prelude.{◌≡◌, List, ◌∷◌, ◌++◌, ℕ}
use Rattle.history.specs.Ledger.{Ledger}
use Rattle.history.specs.Printed.{header_text, newline, all, board_lent, lines_from, record_lines, Booking}
use Rattle.layout.specs.Tables.{Tables, lengths_of}
use Rattle.board_input.specs.Input.{input_from, records_of, first_record}
use Rattle.board_input.specs.Walk.{Walk}
use Rattle.board_input.specs.declared.Start.{Start}
use Rattle.board_text.specs.declared.Output.{Output}
use Rattle.board_text.specs.Wrote.{Wrote}
use Rattle.board_lines.specs.Lines.{Standing}

-- `play_open`: all lines of an open index, the records being of one kind
pub record OpenPut (t : Tables) (input : List ℕ) (kind : ℕ) (out out' : Output) : Type 0 where
  pub same_loan : out'.buffer.ghost_name ≡ out.buffer.ghost_name
  pub lines : (l : Ledger) → Standing t l → (os : List Booking) → Walk input first_record os → Wrote out (header_text ++ (newline ∷ lines_from kind 1 l os)) out'

-- `play`, on tables of the lengths that the program lends
pub record PlayPut (t : Tables) (input : List ℕ) (start : Start) (out out' : Output) : Type 0 where
  pub same_loan : out'.buffer.ghost_name ≡ out.buffer.ghost_name
  pub lines : lengths_of t ≡ board_lent → (os : List Booking) → Walk input first_record os → Wrote out (record_lines start.end start.kind (all os)) out'

-- `lend`
pub record LendPut (input : List ℕ) (start : Start) (out out' : Output) : Type 0 where
  pub same_loan : out'.buffer.ghost_name ≡ out.buffer.ghost_name
  pub lines : (os : List Booking) → Walk input first_record os → Wrote out (record_lines start.end start.kind (all os)) out'

-- all that is printed of the first bytes of the input
unfoldable pub printed_of : (input : List ℕ) → List ℕ
printed_of input = record_lines (input_from input).end (input_from input).kind (records_of input)
