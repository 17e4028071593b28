-- The first change, from one cell to the next and from one piece to the next. Assumes nothing.
use mathlib.Core.Path.{◌≡◌, sym, ap, ◌∙◌}
use mathlib.Core.Logic.{◌⊎◌, inl, inr}
use mathlib.Core.Bool.{Bool, true, false, cond}
use mathlib.Core.Option.{none, some}
use mathlib.Core.List.{List, [], ◌∷◌}
use Prim.Native.Nat.{ℕ, zero, suc, ◌+◌, ◌≤◌, ◌<◌}
use native.Mathlib.Omega.{arith}
use lib.ListN.{length, get_or, drop, drop_of_length-le}
use lib.Seq.{drop-cons}
use borrow.Author.Tests.{eq-eqb, ne_eqb, lt-ltb, le-ltb}
use Rattle.lists.specs.Lists.{has}
use Rattle.lists.proofs.Numbers.{lt_or_le}
use Rattle.history.specs.Words.{Piece, held_at}
use Rattle.history.specs.Ledger.{first_change}
use Rattle.survey.specs.Survey.{change_at, Matched}

-- ── a byte among those held ──

pub has-none : (b : ℕ) {xs : List ℕ} → xs ≡ [] → has b xs ≡ false
unfolding has
has-none b e = rw e

pub has_same : {b x : ℕ} {xs : List ℕ} → xs ≡ x ∷ [] → b ≡ x → has b xs ≡ true
unfolding has
has_same {b} {x} e h = rw (e, eq-eqb b x h)

pub has_other : {b x : ℕ} {xs : List ℕ} → xs ≡ x ∷ [] → (b ≡ x → ⊥) → has b xs ≡ false
unfolding has
has_other {b} {x} e h = rw (e, ne_eqb b x h)

-- ── from one cell to the next ──

module _ (ps : List Piece) (first : ℕ) (bytes : List ℕ) where
  pub change_here : (k : ℕ) → k < length bytes → has (get_or bytes k 0) (held_at (first + k) ps) ≡ false → first_change ps (first + k) (drop k bytes) ≡ some (first + k)
  unfolding first_change
  change_here k h e = rw (drop-cons bytes k 0 h, e)

  change_next : (k : ℕ) → k < length bytes → has (get_or bytes k 0) (held_at (first + k) ps) ≡ true
      → first_change ps (first + k) (drop k bytes) ≡ first_change ps (first + suc k) (drop (suc k) bytes)
  unfolding first_change
  change_next k h e = let z : first + suc k ≡ suc (first + k) = omega arith in rw (drop-cons bytes k 0 h, e, z)

  -- over cells that are held
  pub change_run : (i n : ℕ) → i + n ≤ length bytes → ((k : ℕ) → k < n → has (get_or bytes (i + k) 0) (held_at (first + (i + k)) ps) ≡ true)
      → first_change ps (first + i) (drop i bytes) ≡ first_change ps (first + (i + n)) (drop (i + n) bytes)
  change_run i zero h f = let z : i + 0 ≡ i = omega arith in rw z
  change_run i (suc n) h f =
      let z : i + suc n ≡ suc (i + n) = omega arith in
      change_run i n (omega arith) (λ k l. f k (omega arith)) ∙ change_next (i + n) (omega arith) (f n (omega arith)) ∙ rw z

  pub change_end : (k : ℕ) → length bytes ≤ k → first_change ps (first + k) (drop k bytes) ≡ none
  unfolding first_change
  change_end k h = rw (drop_of_length-le bytes h)

-- ── from one piece to the next ──

module _ {ps : List Piece} {first : ℕ} {bytes : List ℕ} where
  pub matched_start : Matched ps first bytes first 0
  matched_start = let z : first + 0 ≡ first = omega arith in record { small = omega arith; rest = rw z; stops = inl z }

  -- a change that was found before the place stays found
  pub matched_moved : {place place' same : ℕ} → Matched ps first bytes place same → (first + same ≡ place → ⊥) → Matched ps first bytes place' same
  matched_moved {place} {place'} {same} m n = record { small = m.small; rest = m.rest; stops = go m.stops }
    where
      go : (first + same ≡ place) ⊎ ((same ≡ length bytes) ⊎ (first_change ps (first + same) (drop same bytes) ≡ some (first + same)))
          → (first + same ≡ place') ⊎ ((same ≡ length bytes) ⊎ (first_change ps (first + same) (drop same bytes) ≡ some (first + same)))
      go (inl e) = absurd (n e)
      go (inr s) = inr s

  -- how many are held tells the first change, where the place is past the last cell or a change itself
  pub matched_tells : {place same : ℕ} → Matched ps first bytes place same
      → (first + same ≡ place → same < length bytes → first_change ps (first + same) (drop same bytes) ≡ some (first + same)) → first_change ps first bytes ≡ change_at first (length bytes) same
  matched_tells {place} {same} m f = m.rest ∙ go (lt_or_le same (length bytes)) m.stops
    where
      all : length bytes ≤ same → first_change ps (first + same) (drop same bytes) ≡ change_at first (length bytes) same
      all h = change_end ps first bytes same h ∙ sym (ap (λ (q : Bool). cond q (some (first + same)) none) (le-ltb same (length bytes) h))

      one : same < length bytes → first_change ps (first + same) (drop same bytes) ≡ some (first + same) → first_change ps (first + same) (drop same bytes) ≡ change_at first (length bytes) same
      one h e = e ∙ sym (ap (λ (q : Bool). cond q (some (first + same)) none) (lt-ltb same (length bytes) h))

      go : (same < length bytes) ⊎ (length bytes ≤ same) → (first + same ≡ place) ⊎ ((same ≡ length bytes) ⊎ (first_change ps (first + same) (drop same bytes) ≡ some (first + same)))
          → first_change ps (first + same) (drop same bytes) ≡ change_at first (length bytes) same
      go (inr h) s = all h
      go (inl h) (inl e) = one h (f e h)
      go (inl h) (inr (inl e)) = absurd (omega arith)
      go (inl h) (inr (inr e)) = one h e
