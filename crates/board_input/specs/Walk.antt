-- Going from record to record: what a caller of `record_at` meets.
use Rattle.std.specs.Prelude.{◌≡◌, Some, None, Ok, List, [], ◌∷◌, ℕ, ◌-◌, ◌≤◌, length, take, drop}
use Rattle.history.specs.Printed.{bad, all, input_most, parsed, Booking}
use Rattle.board_input.specs.Input.{start_of, item_at, first_record, input_from, records_of}
use Rattle.board_input.specs.declared.Start.{Start}
use Rattle.board_input.specs.declared.Record.{Record}

-- the bookings met from a position on, up to the end
pub data Walk (input : List ℕ) : (at : ℕ) → List Booking → Type 0 where
  walk_end : {at : ℕ} → None ≡ item_at input at → Walk input at []
  walk_on : {at : ℕ} {r : Record} {os : List Booking} → Some (Ok r) ≡ item_at input at → Walk input r.next os
      → Walk input at (record { tick = r.tick; first = r.first; bytes = take (r.next - r.start) (drop r.start input) } ∷ os)

-- What the functions of `input` say of the first 65,536 bytes is what history says of the whole input: its end tick and kind; and where no record is
-- bad, the walk from the first one on meets exactly its bookings.
pub record LawOfInput : Type 0 where
  pub first_bytes : (standard_input : List ℕ) → parsed standard_input ≡ input_from (take input_most standard_input)
  pub opened_with : (input : List ℕ) (s : Start) → Some s ≡ start_of input → ((input_from input).end ≡ s.end) × ((input_from input).kind ≡ s.kind)
  pub too_short : (input : List ℕ) → None ≡ start_of input → records_of input ≡ bad 0
  pub all_met : (input : List ℕ) (os : List Booking) → records_of input ≡ all os → Walk input first_record os
  pub no_others : (input : List ℕ) (os : List Booking) → first_record ≤ length input → Walk input first_record os → records_of input ≡ all os
