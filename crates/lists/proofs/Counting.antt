-- Laws of count: what stands in a list by how often it does, lists without repetition, and lengths as sums of counts. Assumes nothing.
use mathlib.Core.Path.{◌≡◌, refl, sym, ap, ap₂, ◌∙◌}
use mathlib.Core.Logic.{◌⊎◌, inl, inr, ⊎_elim}
use mathlib.Core.Bool.{Bool, true, false, cond, ◌||◌}
use mathlib.Core.List.{List, [], ◌∷◌, ◌++◌, map}
use Prim.Native.Nat.{ℕ, zero, suc, ◌+◌, ◌≤◌, ◌<◌}
use native.Mathlib.Omega.{arith}
use lib.ListN.{length, get_or}
use lib.Dec.{eqb}
use borrow.Author.Tests.{eqb-true, eqb-false, eq-eqb, ne_eqb}
use Rattle.lists.specs.Lists.{All, all_nil, all_cons, Mem, here, there, Distinct, Pairs, pairs_nil, pairs_cons, has, count, count_from, sum_of}
use Rattle.lists.specs.Tests.{Decides}
use Rattle.lists.proofs.Numbers.{bool_cases, le_or_lt, eq_or_ne, confirm, refute, decides_iff, decided}
use Rattle.lists.proofs.Lists.{all_any, all_map, all_mem, all_of_mem, count_from_length}

-- ── members ──

pub count_here : (k : ℕ) (xs : List ℕ) → count k (k ∷ xs) ≡ suc (count k xs)
unfolding count
count_here k xs = rw (eq-eqb k k refl) (omega arith)

pub count_other : (k x : ℕ) (xs : List ℕ) → (k ≡ x → ⊥) → count k (x ∷ xs) ≡ count k xs
unfolding count
count_other k x xs n = rw (ne_eqb k x n) (omega arith)

-- a member is counted, and what is counted is a member
pub mem_count : {k : ℕ} {xs : List ℕ} → Mem k xs → 0 < count k xs
unfolding count
mem_count {k} (here {y} e) = rw (eq-eqb k y e) (omega arith)
mem_count (there m) = omega (arith, mem_count m)

pub count_mem : (k : ℕ) (xs : List ℕ) → 0 < count k xs → Mem k xs
unfolding count
count_mem k [] h = absurd (omega arith)
count_mem k (x ∷ xs) h = elim (eq_or_ne k x) [ inl e ↦ here e | inr n ↦ there (count_mem k xs (rw (count_other k x xs n) at h)) ]

pub count_none : (k : ℕ) {xs : List ℕ} → All (λ x. k ≡ x → ⊥) xs → count k xs ≡ 0
unfolding count
count_none k all_nil = refl
count_none k (all_cons {x} {xs} n ns) = count_other k x xs n ∙ count_none k ns

pub not_mem_nil : {A : Type 0} {x : A} → Mem x [] → ⊥
not_mem_nil m = elim m [ ]

-- the test of membership
pub has_decides : (k : ℕ) (xs : List ℕ) → Decides (has k xs) (Mem k xs)
unfolding has
has_decides k [] = refute not_mem_nil
has_decides k (x ∷ xs) = step (bool_cases (eqb k x)) (has_decides k xs)
  where
    back : eqb k x ≡ false → Mem k (x ∷ xs) → Mem k xs
    back e (here q) = absurd (eqb-false k x e q)
    back e (there m) = m

    step : (eqb k x ≡ true) ⊎ (eqb k x ≡ false) → Decides (has k xs) (Mem k xs) → Decides (eqb k x || has k xs) (Mem k (x ∷ xs))
    step (inl e) d = rw e (confirm (here (eqb-true k x e)))
    step (inr e) d = rw e (decides_iff (has k xs) there (back e) d)

-- ── no repetition ──

pub count_distinct : (xs : List ℕ) → ((k : ℕ) → count k xs ≤ 1) → Distinct xs
unfolding count
count_distinct [] h = tt
count_distinct (x ∷ xs) h =
    ((λ m. omega (arith, mem_count m, h x, count_here x xs)), count_distinct xs (λ k. omega (arith, h k)))

pub distinct_count : (k : ℕ) (xs : List ℕ) → Distinct xs → count k xs ≤ 1
unfolding count
distinct_count k [] d = omega arith
distinct_count k (x ∷ xs) d =
    elim (eq_or_ne k x) [
      | inl e ↦ elim (le_or_lt (count k xs) 0) [
        | inl h ↦ rw (eq-eqb k x e) (omega arith)
        | inr h ↦ absurd (d.0 (rw e at (count_mem k xs h)))
      ]
      | inr n ↦ omega (arith, count_other k x xs n, distinct_count k xs d.1)
    ]

-- ── numbers in a row ──

-- n, n + 1, .. have no number outside ..
pub count_from_out : (k n many : ℕ) → (k < n) ⊎ (n + many ≤ k) → count k (count_from n many) ≡ 0
unfolding count_from count
count_from_out k n zero o = refl
count_from_out k n (suc many) (inl h) = count_other k n (count_from (suc n) many) (omega arith) ∙ count_from_out k (suc n) many (inl (omega arith))
count_from_out k n (suc many) (inr h) = count_other k n (count_from (suc n) many) (omega arith) ∙ count_from_out k (suc n) many (inr (omega arith))

-- .. and each inside once
pub count_from_count : (k n many : ℕ) → n ≤ k → k < n + many → count k (count_from n many) ≡ 1
unfolding count_from
count_from_count k n zero h z = absurd (omega arith)
count_from_count k n (suc many) h z =
    elim (eq_or_ne k n) [
      | inl e ↦ rw e (count_here n (count_from (suc n) many) ∙ ap suc (count_from_out n (suc n) many (inl (omega arith))))
      | inr e ↦ count_other k n (count_from (suc n) many) e ∙ count_from_count k (suc n) many (omega arith) (omega arith)
    ]

-- what holds of each number in the range holds of all
pub all_count_from : {P : ℕ → Type 0} (a m : ℕ) → ((k : ℕ) → a ≤ k → k < a + m → P k) → All P (count_from a m)
unfolding count_from
all_count_from a zero f = all_nil
all_count_from a (suc m) f = all_cons (f a (omega arith) (omega arith)) (all_count_from (suc a) m (λ k l u. f k (omega arith) (omega arith)))

-- they are in their range
pub count_from_below : (n many : ℕ) → All (λ k. (n ≤ k) × (k < n + many)) (count_from n many)
count_from_below n many = all_count_from n many (λ k a b. (a, b))

-- and all that are
pub has-count_from : (k n many : ℕ) → n ≤ k → k < n + many → has k (count_from n many) ≡ true
has-count_from k n many a b =
    decided (has k (count_from n many)) (has_decides k (count_from n many)) (count_mem k (count_from n many) (omega (arith, count_from_count k n many a b)))

-- and ascend
pub count_from_pairs : {R : ℕ → ℕ → Type 0} (n many : ℕ) → ((i j : ℕ) → n ≤ i → i < j → j < n + many → R i j) → Pairs R (count_from n many)
unfolding count_from
count_from_pairs n zero f = pairs_nil
count_from_pairs n (suc many) f =
    pairs_cons (all_map (λ j p. f n j (omega arith) (omega arith) (omega arith)) (count_from_below (suc n) many))
    (count_from_pairs (suc n) many (λ i j a b c. f i j (omega arith) b (omega arith)))

-- one range after the other
pub count_from_append : (a n m : ℕ) → count_from a (n + m) ≡ count_from a n ++ count_from (a + n) m
unfolding count_from
count_from_append a zero m =
    let e : 0 + m ≡ m = omega arith in
    let z : a + 0 ≡ a = omega arith in
    rw (e, z)
count_from_append a (suc n) m =
    let e : suc n + m ≡ suc (n + m) = omega arith in
    let z : a + suc n ≡ suc a + n = omega arith in
    rw (e, z) (ap (λ (l : List ℕ). a ∷ l) (count_from_append (suc a) n m))

-- ── sums ──

pub sum_plus : {A : Type 0} (f g : A → ℕ) (xs : List A) → sum_of (map (λ x. f x + g x) xs) ≡ sum_of (map f xs) + sum_of (map g xs)
unfolding sum_of
sum_plus f g [] = refl
sum_plus f g (x ∷ xs) = omega (arith, sum_plus f g xs)

pub sum-none : {A : Type 0} (f : A → ℕ) {xs : List A} → All (λ (x : A). f x ≡ 0) xs → sum_of (map f xs) ≡ 0
unfolding sum_of
sum-none f all_nil = refl
sum-none f (all_cons e es) = omega (arith, sum-none f es)

-- a count is a sum of ones
pub sum_ones : (x : ℕ) (ks : List ℕ) → sum_of (map (λ k. cond (eqb k x) 1 0) ks) ≡ count x ks
unfolding sum_of count
sum_ones x [] = refl
sum_ones x (k ∷ ks) =
    elim (eq_or_ne k x) [
      | inl e ↦ rw (eq-eqb k x e, eq-eqb x k (sym e)) (omega (arith, sum_ones x ks))
      | inr n ↦ rw (ne_eqb k x n, ne_eqb x k (λ e. n (sym e))) (omega (arith, sum_ones x ks))
    ]

-- The length is the sum of the counts, over numbers that have each member once.
pub length-counts : (ks : List ℕ) {xs : List ℕ} → All (λ x. count x ks ≡ 1) xs → sum_of (map (λ k. count k xs) ks) ≡ length xs
unfolding count
length-counts ks all_nil = sum-none (λ k. 0) (zeros ks)
  where
    zeros : (ks : List ℕ) → All (λ k. ◌≡◌ {A = ℕ} 0 0) ks
    zeros [] = all_nil
    zeros (k ∷ ks) = all_cons refl (zeros ks)
length-counts ks (all_cons {x} {xs} e es) =
    sum_plus (λ k. cond (eqb k x) 1 0) (λ k. count k xs) ks ∙ omega (arith, sum_ones x ks, length-counts ks es)

-- the elements by their numbers
pub map_from_at : {A B : Type 0} (f : A → B) (at : ℕ → A) (d : A) (n : ℕ) (xs : List A) → ((j : ℕ) → j < length xs → at (n + j) ≡ get_or xs j d)
    → map (λ k. f (at k)) (count_from n (length xs)) ≡ map f xs
unfolding count_from
map_from_at f at d n [] h = refl
map_from_at {A} {B} f at d n (x ∷ xs) h =
    let z : n + 0 ≡ n = omega arith in
    let this : at n ≡ x = rw z at (h 0 (omega arith)) in
    ap₂ (λ (y : B) (r : List B). y ∷ r) (ap f this)
    (map_from_at f at d (suc n) xs (λ j l. let q : suc n + j ≡ n + suc j = omega arith in rw q (h (suc j) (omega arith))))

-- ── n different numbers from 1 to n ──

-- numbers of at most 1 add up to at most their count, and only ones add up to it
sum_at_most : {A : Type 0} (f : A → ℕ) {ks : List A} → All (λ k. f k ≤ 1) ks → sum_of (map f ks) ≤ length ks
unfolding sum_of
sum_at_most f all_nil = omega arith
sum_at_most f (all_cons h hs) = omega (arith, sum_at_most f hs)

sum_full : {A : Type 0} (f : A → ℕ) {ks : List A} → All (λ k. f k ≤ 1) ks → sum_of (map f ks) ≡ length ks → All (λ k. f k ≡ 1) ks
unfolding sum_of
sum_full f all_nil e = all_nil
sum_full f (all_cons {x} h hs) e = all_cons {x = x} (omega (arith, sum_at_most f hs)) (sum_full f hs (omega (arith, sum_at_most f hs)))

-- n different numbers from 1 to n are all of them: each is counted once at most, and the counts add up to n
pub dense : (n : ℕ) (xs : List ℕ) → Distinct xs → ((k : ℕ) → Mem k xs → (0 < k) × (k ≤ n)) → length xs ≡ n → (k : ℕ) → 0 < k → k ≤ n → Mem k xs
dense n xs once within many k lo hi =
    let inside : All (λ x. count x (count_from 1 n) ≡ 1) xs = all_of_mem xs (λ x m. let b : (0 < x) × (x ≤ n) = within x m in count_from_count x 1 n (omega arith) (omega arith)) in
    let sum : sum_of (map (λ x. count x xs) (count_from 1 n)) ≡ length (count_from 1 n) = length-counts (count_from 1 n) inside ∙ many ∙ sym (count_from_length 1 n) in
    let ones : All (λ x. count x xs ≡ 1) (count_from 1 n) = sum_full (λ x. count x xs) (all_any (count_from 1 n) (λ x. distinct_count x xs once)) sum in
    let there_is : Mem k (count_from 1 n) = count_mem k (count_from 1 n) (omega (arith, count_from_count k 1 n lo (omega arith))) in
    let one : count k xs ≡ 1 = all_mem ones there_is in
    count_mem k xs (omega arith)

-- a number that one number alone is mapped to
pub count_map : (f : ℕ → ℕ) (j i : ℕ) {xs : List ℕ} → All (λ x. eqb j (f x) ≡ eqb i x) xs → count j (map f xs) ≡ count i xs
unfolding count
count_map f j i all_nil = refl
count_map f j i (all_cons e es) = ap₂ (λ (t : Bool) (n : ℕ). cond t 1 0 + n) e (count_map f j i es)

-- the first number, or another one of the rest
pub has_cons : (k x : ℕ) (xs : List ℕ) → has k (x ∷ xs) ≡ true → (k ≡ x) ⊎ ((k ≡ x → ⊥) × (has k xs ≡ true))
unfolding has
has_cons k x xs h = ⊎_elim (λ e. inl e) (λ e. inr (e, rw (ne_eqb k x e) at h)) (eq_or_ne k x)
