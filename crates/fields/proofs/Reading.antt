-- Fields as their bytes: one step for each answer of `byte`, `number` and `bytes`. Assumes nothing.
use mathlib.Core.Path.{◌≡◌, refl, sym, ◌∙◌, ap}
use mathlib.Core.Logic.{⊎_elim}
use mathlib.Core.List.{List, [], ◌∷◌}
use Prim.Native.Nat.{ℕ, ◌+◌, ◌≤◌, ◌<◌}
use native.Mathlib.Nat.{add-zero}
use native.Mathlib.Omega.{arith}
use lib.ListN.{length, get_or, take, drop, length-drop}
use lib.Seq.{get_or-drop, length-take-le}
use borrow.Author.Tests.{le-leb, lt-leb}
use Rattle.std.specs.Int.{w64, from_le_bytes}
use Rattle.lists.proofs.Numbers.{le_or_lt}
use Rattle.history.specs.File.{number_of, got, fault, number, field, onward, ◌>>=◌, give}
use Rattle.history.proofs.FileYields.{got_value, got_next, fault_got}

-- ── so many bytes ──

-- from one position to the next, inside the file
pub record Passes (file : List ℕ) (at size next : ℕ) : Type 0 where
  pub place : next ≡ at + size
  pub inside : next ≤ length file

module _ (file : List ℕ) (at : ℕ) where
  pub field_got : (width : ℕ) → at + width ≤ length file → field width file at ≡ got (take width (drop at file)) (at + width)
  unfolding field
  field_got width h = rw (le-leb (at + width) (length file) h) refl

  pub field_end : (width : ℕ) → length file < at + width → field width file at ≡ fault 17
  unfolding field
  field_end width h = rw (lt-leb (at + width) (length file) h) refl

  -- ── a number of some width ──

  pub number_got : (width : ℕ) → at + width ≤ length file → number width file at ≡ got (number_of (take width (drop at file))) (at + width)
  unfolding number ◌>>=◌ onward give
  number_got width h = rw (field_got width h) refl

  pub number_end : (width : ℕ) → length file < at + width → number width file at ≡ fault 17
  unfolding number ◌>>=◌ onward
  number_end width h = rw (field_end width h) refl

  -- ── where a field ends ──

  -- a number, or a field, that was read is as wide as it should be
  pub number_passes : (width : ℕ) {v n : ℕ} → number width file at ≡ got v n → Passes file at width n
  number_passes width {v} {n} e =
      ⊎_elim
      (λ h.
      let p : n ≡ at + width = got_next (sym e ∙ number_got width h) in
      record { place = p; inside = omega arith })
      (λ h. absurd (fault_got (sym (number_end width h) ∙ e)))
      (le_or_lt (at + width) (length file))

  taken-length : (width : ℕ) → at + width ≤ length file → length (take width (drop at file)) ≡ width
  taken-length width h = length-take-le width (drop at file) (rw (length-drop at file) (omega arith))

  -- what was read stands there
  pub field_taken : (width : ℕ) {bytes : List ℕ} {n : ℕ} → field width file at ≡ got bytes n → bytes ≡ take width (drop at file)
  field_taken width e =
      ⊎_elim (λ h. got_value (sym e ∙ field_got width h)) (λ h. absurd (fault_got (sym (field_end width h) ∙ e))) (le_or_lt (at + width) (length file))

  pub field_passes : (width : ℕ) {bytes : List ℕ} {n : ℕ} → field width file at ≡ got bytes n → Passes file at width n × (length bytes ≡ width)
  field_passes width {bytes} {n} e =
      ⊎_elim
      (λ h.
      let p : n ≡ at + width = got_next (sym e ∙ field_got width h) in
      (record { place = p; inside = omega arith }, ap length (field_taken width e) ∙ taken-length width h))
      (λ h. absurd (fault_got (sym (field_end width h) ∙ e)))
      (le_or_lt (at + width) (length file))

  -- where none was, there are not so many bytes
  pub field_short : (width : ℕ) {i : ℕ} → field width file at ≡ fault i → length file < at + width
  field_short width e = ⊎_elim (λ h. absurd (fault_got (sym e ∙ field_got width h))) (λ h. h) (le_or_lt (at + width) (length file))

-- ── its digits ──

one_of : (l : List ℕ) → 1 ≤ length l → number_of (take 1 l) ≡ get_or l 0 0
unfolding number_of
one_of [] h = absurd (omega arith)
one_of (a ∷ l) h = omega arith

eight_of : (l : List ℕ) → length l ≡ 8 → number_of l ≡ from_le_bytes w64 l
unfolding number_of
eight_of (a ∷ b ∷ c ∷ d ∷ e ∷ f ∷ g ∷ h ∷ []) n = omega arith
eight_of [] n = absurd (omega arith)
eight_of (a ∷ []) n = absurd (omega arith)
eight_of (a ∷ b ∷ []) n = absurd (omega arith)
eight_of (a ∷ b ∷ c ∷ []) n = absurd (omega arith)
eight_of (a ∷ b ∷ c ∷ d ∷ []) n = absurd (omega arith)
eight_of (a ∷ b ∷ c ∷ d ∷ e ∷ []) n = absurd (omega arith)
eight_of (a ∷ b ∷ c ∷ d ∷ e ∷ f ∷ []) n = absurd (omega arith)
eight_of (a ∷ b ∷ c ∷ d ∷ e ∷ f ∷ g ∷ []) n = absurd (omega arith)
eight_of (a ∷ b ∷ c ∷ d ∷ e ∷ f ∷ g ∷ h ∷ i ∷ l) n = absurd (omega arith)

pub byte_got : (file : List ℕ) (at : ℕ) → at < length file → number 1 file at ≡ got (get_or file at 0) (at + 1)
byte_got file at h =
    let k : 1 ≤ length (drop at file) = simp length-drop (omega arith) in
    rw (number_got file at 1 (omega arith), simp (get_or-drop, add-zero) at (one_of (drop at file) k)) refl

pub number_at_got : (file : List ℕ) (at : ℕ) (bytes : List ℕ) → at + 8 ≤ length file → bytes ≡ take 8 (drop at file) → length bytes ≡ 8
    → number 8 file at ≡ got (from_le_bytes w64 bytes) (at + 8)
number_at_got file at bytes room e n = rw (number_got file at 8 room, ← e, eight_of bytes n) refl

pub ruleset reading = (number_end, byte_got, number_at_got, field_got, field_end)
