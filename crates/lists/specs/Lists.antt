-- Lists: what holds of all elements and of all pairs, membership, repetition, order, counting. Definitions alone: laws stand in proofs/.
use Rattle.std.specs.Prelude.{◌≡◌, Bool, false, cond, ◌||◌, List, [], ◌∷◌, ℕ, zero, suc, ◌+◌, ◌<◌, eqb}

-- ── all elements, all pairs ──

-- P holds of every element
pub data All {A : Type 0} (P : A → Type 0) : List A → Type 0 where
  all_nil : All P []
  all_cons : {x : A} {xs : List A} → P x → All P xs → All P (x ∷ xs)

-- R holds of every two elements, the earlier one first
pub data Pairs {A : Type 0} (R : A → A → Type 0) : List A → Type 0 where
  pairs_nil : Pairs R []
  pairs_cons : {x : A} {xs : List A} → All (R x) xs → Pairs R xs → Pairs R (x ∷ xs)

-- the keys ascend strictly
abbrev pub Ascending : {A : Type 0} → (A → ℕ) → List A → Type 0
Ascending key xs = Pairs (λ x y. key x < key y) xs

-- ── membership and repetition ──

-- x is in the list
pub data Mem {A : Type 0} (x : A) : List A → Type 0 where
  here : {y : A} {ys : List A} → x ≡ y → Mem x (y ∷ ys)
  there : {y : A} {ys : List A} → Mem x ys → Mem x (y ∷ ys)

-- nothing stands twice in the list
abbrev pub Distinct : {A : Type 0} → List A → Type 0
Distinct [] = Unit {0}
Distinct (x ∷ xs) = (Mem x xs → ⊥) × Distinct xs

-- ── numbers in a list ──

-- the number n is in the list
unfoldable pub has : ℕ → List ℕ → Bool
has n [] = false
has n (m ∷ ms) = eqb n m || has n ms

-- how often n stands in the list
unfoldable pub count : ℕ → List ℕ → ℕ
count n [] = 0
count n (m ∷ ms) = cond (eqb n m) 1 0 + count n ms

-- n, n + 1, .. of them
unfoldable pub count_from : (n : ℕ) (many : ℕ) → List ℕ
count_from n zero = []
count_from n (suc many) = n ∷ count_from (suc n) many

-- the sum of the numbers
unfoldable pub sum_of : List ℕ → ℕ
sum_of [] = 0
sum_of (n ∷ ns) = n + sum_of ns
