-- The loop of `check_records`: the check of what is left is the check of all. Assumes nothing.
use mathlib.Core.Path.{◌≡◌, refl, sym, ◌∙◌, ap}
use Rattle.std.proofs.Common.{Some, None, Ok, Err}
use mathlib.Core.List.{List}
use Prim.Native.Nat.{ℕ, ◌+◌, ◌≤◌, ◌<◌}
use native.Mathlib.Numerals.{add-one}
use native.Mathlib.Omega.{arith}
use lib.ListN.{length}
use Rattle.history.specs.Printed.{Records, bad, all, onto, Booking}
use Rattle.board_input.specs.Input.{item_at, records_at, records_of, check_of, first_record}
use Rattle.board_input.specs.declared.Record.{Record}
use Rattle.board_input.proofs.Walking.{OneMore, records_end, records_bad, records_on, records_short, records_start}

-- k records are passed, all good
pub record Checking (input : List ℕ) (at k : ℕ) : Type 0 where
  pub counted : k ≤ at
  pub left : check_of (records_at k input at) ≡ check_of (records_of input)

-- a good record changes nothing
check_onto : (o : Booking) (r : Records) → check_of (onto o r) ≡ check_of r
unfolding onto
check_onto o (bad k) = refl
check_onto o (all os) = refl

pub check_short : (input : List ℕ) → length input < first_record → Err 0 ≡ check_of (records_of input)
check_short input h = sym (ap check_of (records_short input h))

pub check_start : (input : List ℕ) → first_record ≤ length input → Checking input first_record 1
check_start input h = record { counted = omega arith; left = sym (ap check_of (records_start input h)) }

module _ {input : List ℕ} {at k : ℕ} (c : Checking input at k) where
  pub check_end : None ≡ item_at input at → Ok tt ≡ check_of (records_of input)
  check_end e = sym (ap check_of (records_end input k at e)) ∙ c.left

  pub check_bad : Some (Err (record {})) ≡ item_at input at → Err k ≡ check_of (records_of input)
  check_bad e = sym (ap check_of (records_bad input k at e)) ∙ c.left

  module _ {r : Record} (e : Some (Ok r) ≡ item_at input at) where
    more : OneMore input k at r
    more = records_on input k at e

    pub check_further : at < r.next
    check_further = omega (arith, more.behind, more.forward)

    pub check_inside : r.next ≤ length input
    check_inside = more.inside

    pub check_on : Checking input r.next (k + 1)
    check_on =
        record {
          counted = omega (arith, c.counted, check_further);
          left = rw (add-one k) (sym (ap check_of more.records ∙ check_onto _ _) ∙ c.left);
        }

pub ruleset checking = (check_short, check_start, check_end, check_bad, check_further, check_inside, check_on)
