-- The law of the input: the walk meets the bookings that the input has, and no others. Assumes nothing.
use mathlib.Core.Path.{◌≡◌, refl, sym, ◌∙◌, ap}
use mathlib.Core.Logic.{⊎_elim}
use Rattle.std.proofs.Common.{Option, Some, None, Result, Ok, Err}
use mathlib.Core.List.{List, [], ◌∷◌}
use Prim.Native.Nat.{ℕ, suc, ◌-◌}
use lib.ListN.{length, take, drop}
use Rattle.lists.proofs.Numbers.{le_or_lt}
use Rattle.history.specs.Printed.{Records, bad, all, onto, parsed, Booking}
use Rattle.board_input.specs.Input.{item_at, records_at, input_from, first_record}
use Rattle.board_input.specs.Walk.{Walk, walk_end, walk_on, LawOfInput}
use Rattle.board_input.specs.declared.Record.{Record}
use Rattle.board_input.specs.declared.BadRecord.{BadRecord}
use Rattle.board_input.proofs.Walking.{records_end, records_bad, records_on, start_says, start_bad, records_short, records_start}

-- ── records apart ──

-- one booking in front of others
onto-none : (o : Booking) (r : Records) → onto o r ≡ all [] → ⊥
unfolding onto
onto-none o (bad k) e = cc
onto-none o (all os) e = cc

onto_first : (o p : Booking) (os : List Booking) (r : Records) → onto o r ≡ all (p ∷ os) → o ≡ p
unfolding onto
onto_first o p os (bad k) e = cc
onto_first o p os (all qs) e = cc

onto_rest : (o p : Booking) (os : List Booking) (r : Records) → onto o r ≡ all (p ∷ os) → r ≡ all os
unfolding onto
onto_rest o p os (bad k) e = cc
onto_rest o p os (all qs) e = let same : qs ≡ os = cc in ap all same

-- ── met, and no others ──

module _ (input : List ℕ) where
  pub walk_met : (os : List Booking) (k at : ℕ) → records_at k input at ≡ all os → Walk input at os
  walk_met [] k at e = go (item_at input at) refl
    where
      go : (i : Option (Result Record BadRecord)) → i ≡ item_at input at → Walk input at []
      go None h = walk_end h
      go (Some (Err _)) h = let b = sym (records_bad input k at h) ∙ e in cc
      go (Some (Ok r)) h = absurd (onto-none _ _ (sym (records_on input k at h).records ∙ e))
  walk_met (o ∷ os) k at e = go (λ n. walk_met os (suc k) n) (item_at input at) refl
    where
      go : ((n : ℕ) → records_at (suc k) input n ≡ all os → Walk input n os) → (i : Option (Result Record BadRecord)) → i ≡ item_at input at → Walk input at (o ∷ os)
      go rest None h = let b = sym (records_end input k at h) ∙ e in cc
      go rest (Some (Err _)) h = let b = sym (records_bad input k at h) ∙ e in cc
      go rest (Some (Ok r)) h =
          let one : onto (record { tick = r.tick; first = r.first; bytes = take (r.next - r.start) (drop r.start input) }) (records_at (suc k) input r.next) ≡ all (o ∷ os) =
          sym (records_on input k at h).records ∙ e in
          rw (← (onto_first _ o os _ one)) (walk_on h (rest r.next (onto_rest _ o os _ one)))

  pub walk_all : {at : ℕ} {os : List Booking} (k : ℕ) → Walk input at os → records_at k input at ≡ all os
  unfolding onto
  walk_all {at} k (walk_end h) = records_end input k at h
  walk_all {at} k (walk_on h w) = (records_on input k at h).records ∙ ap (onto _) (walk_all (suc k) w)

pub law_of_input : LawOfInput
unfolding parsed input_from
law_of_input =
    record {
      first_bytes = λ bytes. refl;
      opened_with = λ input s h. start_says input h;
      too_short = start_bad;
      all_met = λ input os e.
          ⊎_elim
          (λ h. walk_met input os 1 first_record (sym (records_start input h) ∙ e))
          (λ h. let b = sym (records_short input h) ∙ e in cc)
          (le_or_lt first_record (length input));
      no_others = λ input os h w. records_start input h ∙ walk_all input 1 w;
    }
