-- What stands at a position of the input: a step for each return of `opening` and `record_at`. Assumes nothing.
use mathlib.Core.Path.{◌≡◌, refl, sym, ◌∙◌}
use mathlib.Core.Logic.{⊎_elim}
use mathlib.Core.Bool.{true, false}
use Rattle.std.proofs.Common.{Some, None, Ok, Err}
use mathlib.Core.List.{List}
use Prim.Native.Nat.{ℕ, ◌+◌, ◌-◌, ◌≤◌, ◌<◌}
use native.Mathlib.Omega.{arith}
use lib.Dec.{eqb}
use lib.ListN.{length, get_or, take, drop}
use lib.Seq.{drop-cons}
use borrow.Author.Tests.{le-leb, lt-leb, eq-eqb, ne_eqb}
use Rattle.lists.proofs.Numbers.{le_or_lt, bool_cases}
use Rattle.history.specs.File.{number_of, got, fault, onward, ◌>>=◌, give, refuse◌unless◌, field, number}
use Rattle.history.specs.Printed.{read_record, Booking}
use Rattle.board_input.specs.Input.{NumberAt, start_of, item_from, item_at, record_front, first_record}

-- ── numbers ──

module _ (input : List ℕ) where
  -- the number of the bytes from a position on
  abbrev pub number_at : (at width : ℕ) → ℕ
  number_at at width = number_of (take width (drop at input))

  -- a number that stands inside
  pub number_here : (width at : ℕ) → at + width ≤ length input → number width input at ≡ got (number_at at width) (at + width)
  unfolding number ◌>>=◌ onward give field
  number_here w at h = rw (le-leb (at + w) (length input) h) refl

  -- one that runs past the end
  pub number_past : (width at : ℕ) → length input < at + width → number width input at ≡ fault 17
  unfolding number ◌>>=◌ onward field
  number_past w at h = rw (lt-leb (at + w) (length input) h) refl

-- ── the returns of `opening` ──

module _ (input : List ℕ) where
  -- a number of one byte is the byte
  one_byte : (at : ℕ) → at + 1 ≤ length input → number_at input at 1 ≡ get_or input at 0
  unfolding number_of
  one_byte at h = let inside : at < length input = omega arith in rw (drop-cons input at 0 inside) (omega arith)

  -- too short to open with
  pub start_short : length input < first_record → None ≡ start_of input
  unfolding start_of
  start_short h =
      ⊎_elim
      (λ k. rw (number_here input 8 0 k, number_past input 1 8 h) refl)
      (λ k. rw (number_past input 8 0 k) refl)
      (le_or_lt (0 + 8) (length input))

  -- end tick and kind
  pub start_open : {end : ℕ} → first_record ≤ length input → NumberAt input 0 8 end → Some (record { end = end; kind = get_or input 8 0 }) ≡ start_of input
  unfolding start_of
  start_open h e = rw (number_here input 8 0 (omega arith), number_here input 1 8 h, one_byte 8 h, ← e.says) refl

-- ── the returns of `record_at` ──

-- hexadecimal B7 4F, as a number
abbrev pub marked : ℕ
marked = 0x4fb7

module _ (input : List ℕ) (at : ℕ) where
  -- nothing is left
  pub item_end : length input ≤ at → None ≡ item_at input at
  unfolding item_at
  item_end h = rw (le-leb (length input) at h) refl

  -- before the end it is what the record's reader says
  item_within : at < length input → item_from at (read_record input at) ≡ item_at input at
  unfolding item_at
  item_within h = rw (lt-leb (length input) at h) refl

  -- a mark that stands inside: it is wrong, or right and a later field is cut
  module _ (whole : at + 2 ≤ length input) where
    pub wrong_mark : eqb (number_at input at 2) marked ≡ false → item_from at (read_record input at) ≡ Some (Err (record {}))
    unfolding read_record ◌>>=◌ onward refuse◌unless◌
    wrong_mark e = rw (number_here input 2 at whole, e) refl

    module _ (mark : eqb (number_at input at 2) marked ≡ true) where
      tick_cut : length input < at + 2 + 8 → item_from at (read_record input at) ≡ Some (Err (record {}))
      unfolding read_record ◌>>=◌ onward refuse◌unless◌
      tick_cut h = rw (number_here input 2 at whole, mark, number_past input 8 (at + 2) h) refl

      first_cut : at + 2 + 8 ≤ length input → length input < at + 2 + 8 + 8 → item_from at (read_record input at) ≡ Some (Err (record {}))
      unfolding read_record ◌>>=◌ onward refuse◌unless◌
      first_cut k h = rw (number_here input 2 at whole, mark, number_here input 8 (at + 2) k, number_past input 8 (at + 2 + 8) h) refl

      length_cut : at + 2 + 8 + 8 ≤ length input → length input < at + 2 + 8 + 8 + 2 → item_from at (read_record input at) ≡ Some (Err (record {}))
      unfolding read_record ◌>>=◌ onward refuse◌unless◌
      length_cut k h =
          rw (
            number_here input 2 at whole,
            mark,
            number_here input 8 (at + 2) (omega arith),
            number_here input 8 (at + 2 + 8) k,
            number_past input 2 (at + 2 + 8 + 8) h,
          )
          refl

  mark_cut : length input < at + 2 → item_from at (read_record input at) ≡ Some (Err (record {}))
  unfolding read_record ◌>>=◌ onward
  mark_cut h = rw (number_past input 2 at h) refl

  -- whatever its mark, a record whose front is cut is none
  pub front_cut : length input < at + record_front → item_from at (read_record input at) ≡ Some (Err (record {}))
  front_cut h =
      ⊎_elim
      (λ whole.
      ⊎_elim
      (λ mark.
      ⊎_elim
      (λ k. ⊎_elim (λ l. length_cut whole mark l (omega arith)) (λ l. first_cut whole mark k l) (le_or_lt (at + 2 + 8 + 8) (length input)))
      (λ k. tick_cut whole mark k)
      (le_or_lt (at + 2 + 8) (length input)))
      (λ mark. wrong_mark whole mark)
      (bool_cases (eqb (number_at input at 2) marked)))
      mark_cut
      (le_or_lt (at + 2) (length input))

  -- behind a whole front the bytes are read, as many as the length says
  abbrev pub cells_at : ℕ
  cells_at = number_at input (at + 2 + 8 + 8) 2

  abbrev pub booking_at : (bytes : List ℕ) → Booking
  booking_at bytes = record { tick = number_at input (at + 2) 8; first = number_at input (at + 2 + 8) 8; bytes = bytes }

  pub front_whole : at + record_front ≤ length input → eqb (number_at input at 2) marked ≡ true
      → read_record input at ≡ onward (field cells_at input (at + record_front)) (λ bytes next. got (booking_at bytes) next)
  unfolding read_record ◌>>=◌ onward refuse◌unless◌ give
  front_whole h mark =
      let start : at + 2 + 8 + 8 + 2 ≡ at + record_front = omega arith in
      rw (
        number_here input 2 at (omega arith),
        mark,
        number_here input 8 (at + 2) (omega arith),
        number_here input 8 (at + 2 + 8) (omega arith),
        number_here input 2 (at + 2 + 8 + 8) (omega arith),
        start,
      )
      refl

  -- the front is cut
  pub item_short : at < length input → length input - at < record_front → Some (Err (record {})) ≡ item_at input at
  item_short h k = sym (front_cut (omega arith)) ∙ item_within h

  -- the mark is wrong
  pub item_wrong : {mark : ℕ} → record_front ≤ length input - at → NumberAt input at 2 mark → (mark ≡ marked → ⊥) → Some (Err (record {})) ≡ item_at input at
  item_wrong {mark} h m n =
      let e : eqb (number_at input at 2) marked ≡ false = ne_eqb (number_at input at 2) marked (λ p. n (m.says ∙ p)) in
      sym (wrong_mark (omega arith) e) ∙ item_within (omega arith)

  -- the front is whole: the bytes are cut, or it is a record
  module _ {mark cells : ℕ} (front : record_front ≤ length input - at) (is-mark : NumberAt input at 2 mark) (right : mark ≡ marked)
      (is-length : NumberAt input (at + record_front - 2) 2 cells) where
    marks : read_record input at ≡ onward (field cells input (at + record_front)) (λ bytes next. got (booking_at bytes) next)
    marks =
        let there : at + record_front - 2 ≡ at + 2 + 8 + 8 = omega arith in
        let are : cells ≡ cells_at = rw there at is-length.says in
        rw are (front_whole (omega arith) (eq-eqb (number_at input at 2) marked (sym is-mark.says ∙ right)))

    pub item_cut : length input - (at + record_front) < cells → Some (Err (record {})) ≡ item_at input at
    unfolding onward field
    item_cut h = sym (rw (marks, lt-leb (at + record_front + cells) (length input) (omega arith)) refl) ∙ item_within (omega arith)

    pub item_record : {tick first : ℕ} → cells ≤ length input - (at + record_front) → NumberAt input (at + 2) 8 tick → NumberAt input (at + 2 + 8) 8 first
        → Some (Ok (record { tick = tick; first = first; start = at + record_front; next = at + record_front + cells })) ≡ item_at input at
    unfolding onward field
    item_record h t f =
        sym (rw (marks, le-leb (at + record_front + cells) (length input) (omega arith), ← t.says, ← f.says) refl) ∙ item_within (omega arith)

pub ruleset refusing = (item_end, item_short, item_wrong)
