-- Going from record to record by `record_at`, from the first one on, gives the records of the input: the laws of `records_at`, one for each thing that
-- may stand at a position. Assumes nothing.
use mathlib.Core.Path.{◌≡◌, refl, sym, ◌∙◌, ap, ap₂, subst}
use mathlib.Core.Logic.{⊎_elim}
use mathlib.Core.Bool.{Bool, true, false, cond}
use Rattle.std.proofs.Common.{Some, None, Ok, Err}
use mathlib.Core.List.{List, []}
use Prim.Native.Nat.{ℕ, zero, suc, ◌+◌, ◌-◌, ◌≤◌, ◌<◌}
use native.Mathlib.Omega.{arith}
use lib.Dec.{leb, eqb}
use lib.ListN.{length, take, drop, length-drop}
use lib.Seq.{length-take-le}
use borrow.Author.Tests.{le-leb, lt-leb, leb-true, leb-false}
use Rattle.lists.proofs.Numbers.{le_or_lt, bool_cases, suc_of}
use Rattle.history.specs.File.{Read, got, fault, onward, field, number}
use Rattle.history.specs.Printed.{Records, bad, all, onto, next_record, read_record, records_from, input_of, Booking}
use Rattle.history.proofs.FileYields.{got_value, got_next, fault_got}
use Rattle.board_input.specs.Input.{start_from, start_of, item_from, item_at, records_at, input_from, records_of, record_front, first_record}
use Rattle.board_input.specs.declared.Start.{Start}
use Rattle.board_input.specs.declared.Record.{Record}
use Rattle.board_input.proofs.Records.{number_at, marked, cells_at, booking_at, number_here, start_short, front_cut, wrong_mark, front_whole}

-- ── a record that was read ──

-- where the bytes of a booking stand, and where the next record does
pub record Stands (input : List ℕ) (at : ℕ) (o : Booking) (n : ℕ) : Type 0 where
  pub bytes : o.bytes ≡ take (length o.bytes) (drop (at + record_front) input)
  pub next : n ≡ at + record_front + length o.bytes
  pub inside : n ≤ length input

-- the record at a position, and those behind it
pub record OneMore (input : List ℕ) (k at : ℕ) (r : Record) : Type 0 where
  pub records : records_at k input at
      ≡ onto (record { tick = r.tick; first = r.first; bytes = take (r.next - r.start) (drop r.start input) }) (records_at (suc k) input r.next)
  pub behind : at < r.start
  pub forward : r.start ≤ r.next
  pub inside : r.next ≤ length input

-- what is bad was not read
bad_record : (at : ℕ) {r : Read Booking} {o : Booking} {n : ℕ} → item_from at r ≡ Some (Err (record {})) → r ≡ got o n → ⊥
bad_record at e g = let f = rw g at e in cc

module _ (input : List ℕ) (at : ℕ) where
  -- the bytes behind a whole front
  field_got : (cells : ℕ) {o : Booking} {n : ℕ}
      → onward (field cells input (at + record_front)) (λ bytes next. got (booking_at input at bytes) next) ≡ got o n
      → Stands input at o n
  unfolding onward field
  field_got cells {o} {n} e = go (leb (at + record_front + cells) (length input)) refl e
    where
      go : (t : Bool) → leb (at + record_front + cells) (length input) ≡ t
          → onward (cond t (got (take cells (drop (at + record_front) input)) (at + record_front + cells)) (fault 17))
          (λ bytes next. got (booking_at input at bytes) next) ≡ got o n
          → Stands input at o n
      go true h g =
          let room : at + record_front + cells ≤ length input = leb-true (at + record_front + cells) (length input) h in
          let sized : length (take cells (drop (at + record_front) input)) ≡ cells =
          length-take-le cells (drop (at + record_front) input) (rw (length-drop (at + record_front) input) (omega arith)) in
          rw (← (got_value g), ← (got_next g)) (record { bytes = rw sized refl; next = rw sized refl; inside = room })
      go false h g = absurd (fault_got g)

  -- so it is wherever a record was read
  pub record_stands : {o : Booking} {n : ℕ} → read_record input at ≡ got o n → Stands input at o n
  record_stands e =
      ⊎_elim
      (λ whole.
      ⊎_elim
      (λ mark. field_got (cells_at input at) (sym (front_whole input at whole mark) ∙ e))
      (λ mark. absurd (bad_record at (wrong_mark input at (omega arith) mark) e))
      (bool_cases (eqb (number_at input at 2) marked)))
      (λ cut. absurd (bad_record at (front_cut input at cut) e))
      (le_or_lt (at + record_front) (length input))

-- ── the records from a position on ──

module _ (input : List ℕ) where
  records_none : (fuel k at : ℕ) → length input ≤ at → records_from fuel k input at ≡ all []
  unfolding records_from
  records_none zero k at h = refl
  records_none (suc fuel) k at h = rw (le-leb (length input) at h) refl

  records_got : (fuel k at : ℕ) {o : Booking} {n : ℕ} → at < length input → read_record input at ≡ got o n
      → records_from (suc fuel) k input at ≡ onto o (records_from fuel (suc k) input n)
  unfolding records_from next_record
  records_got fuel k at h e = rw (lt-leb (length input) at h, e) refl

  records_fault : (fuel k at : ℕ) {i : ℕ} → at < length input → read_record input at ≡ fault i → records_from (suc fuel) k input at ≡ bad k
  unfolding records_from next_record
  records_fault fuel k at h e = rw (lt-leb (length input) at h, e) refl

  -- with one record read, the rest may be read with any fuel that gives the same of it
  fuel_step : (f g k at : ℕ) → at < length input → ((n : ℕ) → at < n → records_from f (suc k) input n ≡ records_from g (suc k) input n)
      → (r : Read Booking) → read_record input at ≡ r → records_from (suc f) k input at ≡ records_from (suc g) k input at
  fuel_step f g k at l rest (fault i) e = records_fault f k at l e ∙ sym (records_fault g k at l e)
  fuel_step f g k at l rest (got o n) e =
      let s : Stands input at o n = record_stands input at e in
      records_got f k at l e ∙ ap (onto o) (rest n (omega (arith, s.next))) ∙ sym (records_got g k at l e)

  -- fuel for as many bytes as are left suffices: each record takes some
  records_fuel : (f g k at : ℕ) → length input ≤ at + f → length input ≤ at + g → records_from f k input at ≡ records_from g k input at
  records_fuel zero g k at h h' = records_none zero k at (omega arith) ∙ sym (records_none g k at (omega arith))
  records_fuel (suc f) zero k at h h' = records_none (suc f) k at (omega arith) ∙ sym (records_none zero k at (omega arith))
  records_fuel (suc f) (suc g) k at h h' =
      ⊎_elim
      (λ e. records_none (suc f) k at e ∙ sym (records_none (suc g) k at e))
      (λ l. fuel_step f g k at l (λ n m. records_fuel f g (suc k) n (omega arith) (omega arith)) (read_record input at) refl)
      (le_or_lt (length input) at)

-- ── what stands at a position ──

module _ (input : List ℕ) (k at : ℕ) where
  pub records_end : None ≡ item_at input at → records_at k input at ≡ all []
  unfolding item_at
  records_end e = go (leb (length input) at) refl (read_record input at) e
    where
      go : (t : Bool) → leb (length input) at ≡ t → (r : Read Booking) → None ≡ cond t None (item_from at r) → records_at k input at ≡ all []
      go true h r e = records_none input (length input) k at (leb-true (length input) at h)
      go false h (got o n) e = cc
      go false h (fault i) e = cc

  pub records_bad : Some (Err (record {})) ≡ item_at input at → records_at k input at ≡ bad k
  unfolding item_at
  records_bad e = go (leb (length input) at) refl (read_record input at) refl e
    where
      go : (t : Bool) → leb (length input) at ≡ t → (r : Read Booking) → read_record input at ≡ r → Some (Err (record {})) ≡ cond t None (item_from at r)
          → records_at k input at ≡ bad k
      go true h r q e = cc
      go false h (got o n) q e = cc
      go false h (fault i) q e =
          let within : at < length input = leb-false (length input) at h in
          ap (λ (f : ℕ). records_from f k input at) (suc_of (length input) (omega arith)) ∙ records_fault input (length input - 1) k at within q

  -- the record that was read, and those behind it
  one_more : {o : Booking} {n : ℕ} → at < length input → read_record input at ≡ got o n
      → OneMore input k at (record { tick = o.tick; first = o.first; start = at + record_front; next = n })
  one_more {o} {n} within q =
      let s : Stands input at o n = record_stands input at q in
      let there : records_at k input at ≡ onto o (records_at (suc k) input n) =
      ap (λ (f : ℕ). records_from f k input at) (suc_of (length input) (omega arith))
      ∙ records_got input (length input - 1) k at within q
      ∙ ap (onto o) (records_fuel input (length input - 1) (length input) (suc k) n (omega (arith, s.next)) (omega arith)) in
      let width : length o.bytes ≡ n - (at + record_front) = omega (arith, s.next) in
      let bytes : o.bytes ≡ take (n - (at + record_front)) (drop (at + record_front) input) =
      s.bytes ∙ ap (λ (m : ℕ). take m (drop (at + record_front) input)) width in
      record {
        records = there
            ∙ ap (λ (bs : List ℕ). onto (record { tick = o.tick; first = o.first; bytes = bs }) (records_at (suc k) input n)) bytes;
        behind = omega arith;
        forward = omega (arith, s.next);
        inside = s.inside;
      }

  pub records_on : {r : Record} → Some (Ok r) ≡ item_at input at → OneMore input k at r
  unfolding item_at
  records_on {r} e = go (leb (length input) at) refl (read_record input at) refl e
    where
      go : (t : Bool) → leb (length input) at ≡ t → (b : Read Booking) → read_record input at ≡ b → Some (Ok r) ≡ cond t None (item_from at b)
          → OneMore input k at r
      go true h b q e = cc
      go false h (fault i) q e = cc
      go false h (got o n) q e =
          let same : record { tick = o.tick; first = o.first; start = at + record_front; next = n } ≡ r = cc in
          subst (OneMore input k at) same (one_more (leb-false (length input) at h) q)

-- ── the whole input ──

-- what the two fields in front say of all
module _ (rest : ℕ → Records) where
  whole_input : (e x kind at : ℕ) → (input_of (got e x) (got kind at) rest).records ≡ rest at
  unfolding input_of
  whole_input e x kind at = refl

  input_open : (r s : Read ℕ) {o : Start} → Some o ≡ start_from r s → ((input_of r s rest).end ≡ o.end) × ((input_of r s rest).kind ≡ o.kind)
  unfolding input_of
  input_open (got a x) (got b y) {o} h =
      let same : o ≡ record { end = a; kind = b } = cc in
      (sym (ap (λ (s : Start). s.end) same), sym (ap (λ (s : Start). s.kind) same))
  input_open (got a x) (fault n) h = cc
  input_open (fault n) s h = cc

  input_short : (r s : Read ℕ) → None ≡ start_from r s → (input_of r s rest).records ≡ bad 0
  unfolding input_of
  input_short (got a x) (got b y) h = cc
  input_short (got a x) (fault n) h = refl
  input_short (fault n) s h = refl

module _ (input : List ℕ) where
  -- the answer of `opening` is the input's end tick and kind ..
  pub start_says : {o : Start} → Some o ≡ start_of input → ((input_from input).end ≡ o.end) × ((input_from input).kind ≡ o.kind)
  unfolding start_of input_from
  start_says h = input_open (records_at 1 input) (number 8 input 0) (number 1 input 8) h

  -- .. or record 0 is bad
  pub start_bad : None ≡ start_of input → records_of input ≡ bad 0
  unfolding start_of input_from
  start_bad h = input_short (records_at 1 input) (number 8 input 0) (number 1 input 8) h

  pub records_short : length input < first_record → records_of input ≡ bad 0
  records_short h = start_bad (start_short input h)

  pub records_start : first_record ≤ length input → records_of input ≡ records_at 1 input first_record
  unfolding input_from
  records_start h =
      ap₂ (λ (r s : Read ℕ). (input_of r s (records_at 1 input)).records) (number_here input 8 0 (omega arith)) (number_here input 1 8 h)
      ∙ whole_input (records_at 1 input) (number_at input 0 8) 8 (number_at input 8 1) first_record
