-- The block numbers with an entry, and a number's place among them. Assumes nothing.
use mathlib.Core.Path.{◌≡◌, refl, sym, ◌∙◌, ap, ap₂}
use mathlib.Core.Logic.{⊎_elim, inl, inr}
use mathlib.Core.Bool.{Bool, true, false, cond, false≢true}
use mathlib.Core.Option.{none, Option, Option-elim}
use mathlib.Core.List.{List, [], map, filter_map, ◌∷◌}
use Prim.Native.Nat.{ℕ, ◌<◌, ◌≤◌, ◌+◌, zero, suc, ◌-◌}
use native.Mathlib.Omega.{arith}
use lib.ListN.{length, get_or}
use lib.Dec.{eqb}
use borrow.Author.Tests.{eq-eqb, ne_eqb}
use Rattle.lists.specs.Lists.{All, all_nil, has, count_from, sum_of, Ascending, all_cons, Pairs, pairs_nil, pairs_cons}
use Rattle.lists.proofs.Lists.{all_at, all_map, all_both}
use Rattle.lists.proofs.Numbers.{eq_or_ne, or_true}
use Rattle.lists.proofs.Counting.{has_cons, count_from_below}
use Rattle.history.specs.File.{place_in, those_with}

-- ── numbers with an entry ──

-- what holds of all holds of those
pub those_with_all : {P : ℕ → Type 0} (es : List ℕ) {ks : List ℕ} → All P ks → All P (those_with es ks)
unfolding those_with
those_with_all es all_nil = all_nil
those_with_all {P} es (all_cons {x = k} {xs = ks} p ps) = go (has k es) (those_with_all es ps)
  where
    go : (t : Bool) → All P (those_with es ks) → All P (cond t (k ∷ those_with es ks) (those_with es ks))
    go true q = all_cons p q
    go false q = q

-- those that are written have an entry
pub those_with-has : (es ks : List ℕ) → All (λ k. has k es ≡ true) (those_with es ks)
unfolding those_with
those_with-has es [] = all_nil
those_with-has es (k ∷ ks) = go (has k es) refl (those_with-has es ks)
  where
    go : (t : Bool) → has k es ≡ t → All (λ k. has k es ≡ true) (those_with es ks) → All (λ k. has k es ≡ true) (cond t (k ∷ those_with es ks) (those_with es ks))
    go true h q = all_cons h q
    go false h q = q

-- one that has an entry is among them
pub has-those_with : (es : List ℕ) (k : ℕ) (ks : List ℕ) → has k ks ≡ true → has k es ≡ true → has k (those_with es ks) ≡ true
unfolding has those_with
has-those_with es k [] h z = absurd (false≢true h)
has-those_with es k (x ∷ xs) h z =
    elim (has_cons k x xs h) [
      | inl e ↦ (let own : has x es ≡ true = rw e at z in rw (own, eq-eqb k x e) refl)
      | inr q ↦ later (has x es) (has-those_with es k xs q.1 z)
    ]
  where
    later : (t : Bool) → has k (those_with es xs) ≡ true → has k (cond t (x ∷ those_with es xs) (those_with es xs)) ≡ true
    later true r = or_true (eqb k x) (has k (those_with es xs)) r
    later false r = r

-- they keep their order
pub those_with-pairs : {R : ℕ → ℕ → Type 0} (es : List ℕ) {ks : List ℕ} → Pairs R ks → Pairs R (those_with es ks)
unfolding those_with
those_with-pairs es pairs_nil = pairs_nil
those_with-pairs {R} es (pairs_cons {x} {xs} a p) = go (has x es) (those_with-pairs es p)
  where
    go : (t : Bool) → Pairs R (those_with es xs) → Pairs R (cond t (x ∷ those_with es xs) (those_with es xs))
    go true q = pairs_cons (those_with_all es a) q
    go false q = q

-- and are no more
pub those_with-length : (es ks : List ℕ) → length (those_with es ks) ≤ length ks
unfolding those_with
those_with-length es [] = omega arith
those_with-length es (k ∷ ks) = go (has k es) (those_with-length es ks)
  where
    go : (t : Bool) → length (those_with es ks) ≤ length ks → length (cond t (k ∷ those_with es ks) (those_with es ks)) ≤ suc (length ks)
    go true q = omega arith
    go false q = omega arith

-- nor sum to more
pub those_with-sum : (g : ℕ → ℕ) (es ks : List ℕ) → sum_of (map g (those_with es ks)) ≤ sum_of (map g ks)
unfolding those_with sum_of
those_with-sum g es [] = omega arith
those_with-sum g es (k ∷ ks) = go (has k es) (those_with-sum g es ks)
  where
    go : (t : Bool) → sum_of (map g (those_with es ks)) ≤ sum_of (map g ks) → sum_of (map g (cond t (k ∷ those_with es ks) (those_with es ks))) ≤ g k + sum_of (map g ks)
    go true h = omega arith
    go false h = omega arith

-- all of them, if each has an entry
pub those_with_same : (es : List ℕ) {ks : List ℕ} → All (λ k. has k es ≡ true) ks → those_with es ks ≡ ks
unfolding those_with
those_with_same es all_nil = refl
those_with_same es (all_cons {x = k} p ps) = rw p (ap (λ (r : List ℕ). k ∷ r) (those_with_same es ps))

-- of numbers that follow one another, an ascending list of some of them chooses itself
pub those_with_ascending : (n many : ℕ) {es : List ℕ} → Ascending (λ k. k) es → All (λ k. (n ≤ k) × (k < n + many)) es → those_with es (count_from n many) ≡ es
unfolding those_with count_from has
those_with_ascending n many pairs_nil all_nil = none (count_from n many)
  where
    none : (ks : List ℕ) → those_with [] ks ≡ []
    none [] = refl
    none (k ∷ ks) = none ks
those_with_ascending n zero (pairs_cons a p) (all_cons b bs) = absurd (omega arith)
those_with_ascending n (suc many) (pairs_cons {x} {xs} a p) (all_cons b bs) =
    elim (eq_or_ne n x) [
      | inl e ↦ rw (eq-eqb n x e)
          (ap₂ (λ (k : ℕ) (ks : List ℕ). k ∷ ks) e
          (later x xs (count_from (suc n) many) (all_map (λ k q. omega arith) (count_from_below (suc n) many))
          ∙ those_with_ascending (suc n) many p (all_both (λ k q r. (omega arith, omega arith)) a bs)))
      | inr e ↦ rw (ne_eqb n x e, absent n xs (all_map (λ k q. omega arith) a))
          (those_with_ascending (suc n) many (pairs_cons a p) (all_cons (omega arith, omega arith) (all_both (λ k q r. (omega arith, omega arith)) a bs)))
    ]
  where
    -- above x it does not matter whether x is among them
    later : (x : ℕ) (xs ks : List ℕ) → All (λ k. x < k) ks → those_with (x ∷ xs) ks ≡ those_with xs ks
    later x xs [] all_nil = refl
    later x xs (k ∷ ks) (all_cons q qs) = rw (ne_eqb k x (λ e. omega arith), later x xs ks qs) refl

    absent : (n : ℕ) (xs : List ℕ) → All (λ k. n < k) xs → has n xs ≡ false
    absent n [] all_nil = refl
    absent n (x ∷ xs) (all_cons q qs) = rw (ne_eqb n x (λ e. omega arith), absent n xs qs) refl

-- what gives nothing may be left out
pub those_with-filter_map : {A : Type 0} (g : ℕ → Option A) (es : List ℕ) {ks : List ℕ} → All (λ k. has k es ≡ false → g k ≡ none) ks
    → filter_map g (those_with es ks) ≡ filter_map g ks
unfolding those_with filter_map
those_with-filter_map g es all_nil = refl
those_with-filter_map {A} g es (all_cons {x} {xs} p ps) = go (has x es) refl (those_with-filter_map g es ps)
  where
    go : (t : Bool) → has x es ≡ t → filter_map g (those_with es xs) ≡ filter_map g xs
        → filter_map g (cond t (x ∷ those_with es xs) (those_with es xs)) ≡ Option-elim (g x) (filter_map g xs) (λ a. a ∷ filter_map g xs)
    go true h q = ap (λ (r : List A). Option-elim (g x) r (λ a. a ∷ r)) q
    go false h q = rw (p h) q

-- ── places ──

-- a place is at most the length
pub place_in-below : (ks : List ℕ) (k : ℕ) → place_in ks k ≤ length ks
unfolding place_in
place_in-below [] k = omega arith
place_in-below (x ∷ xs) k = go (eqb k x) (place_in-below xs k)
  where
    go : (t : Bool) → place_in xs k ≤ length xs → cond t 0 (suc (place_in xs k)) ≤ suc (length xs)
    go true q = omega arith
    go false q = omega arith

-- of numbers that follow one another
pub place_in-count_from : (n many k : ℕ) → n ≤ k → k < n + many → place_in (count_from n many) k ≡ k - n
unfolding place_in count_from
place_in-count_from n zero k a b = absurd (omega arith)
place_in-count_from n (suc many) k a b = ⊎_elim (λ e. rw (eq-eqb k n e) (omega arith)) (λ e. rw (ne_eqb k n e, place_in-count_from (suc n) many k (omega arith) (omega arith)) (omega arith)) (eq_or_ne k n)

-- a number's place is in the list, and there it stands
pub place_in-inside : (ks : List ℕ) (k : ℕ) → has k ks ≡ true → place_in ks k < length ks
unfolding has place_in
place_in-inside [] k h = absurd (false≢true h)
place_in-inside (x ∷ xs) k h =
    elim (has_cons k x xs h) [
      | inl e ↦ rw (eq-eqb k x e) (omega arith)
      | inr z ↦ rw (ne_eqb k x z.0) (omega (arith, place_in-inside xs k z.1))
    ]

pub place_in_found : (ks : List ℕ) (k : ℕ) → has k ks ≡ true → get_or ks (place_in ks k) 0 ≡ k
unfolding has place_in
place_in_found [] k h = absurd (false≢true h)
place_in_found (x ∷ xs) k h =
    elim (has_cons k x xs h) [
      | inl e ↦ rw (eq-eqb k x e) (sym e)
      | inr z ↦ rw (ne_eqb k x z.0) (place_in_found xs k z.1)
    ]

-- in an ascending list each place is the place of its number
pub place_in_at : {ks : List ℕ} → Ascending (λ k. k) ks → (j : ℕ) → j < length ks → place_in ks (get_or ks j 0) ≡ j
unfolding place_in
place_in_at pairs_nil j h = absurd (omega arith)
place_in_at (pairs_cons {x} {xs} a p) zero h = rw (eq-eqb x x refl) refl
place_in_at (pairs_cons {x} {xs} a p) (suc j) h =
    let above : x < get_or xs j 0 = all_at 0 a j (omega arith) in
    rw (ne_eqb (get_or xs j 0) x (λ e. omega arith), place_in_at p j (omega arith)) refl
