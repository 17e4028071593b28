-- Laws of sums: up to a bound, and over a list of numbers, by how often each stands in it. Assumes nothing.
use mathlib.Core.Path.{◌≡◌, refl, ap, sym, ◌∙◌}
use mathlib.Core.Logic.{inl, inr}
use mathlib.Core.Bool.{cond}
use mathlib.Core.List.{List, [], ◌∷◌, map}
use Prim.Native.Nat.{ℕ, zero, suc, ◌+◌, ◌*◌, ◌≤◌, ◌<◌}
use native.Mathlib.Nat.{add-mul}
use native.Mathlib.Omega.{arith}
use lib.ListN.{length}
use lib.Dec.{eqb}
use borrow.Author.Tests.{eq-eqb, ne_eqb}
use Rattle.lists.proofs.Counting.{distinct_count}
use Rattle.lists.specs.Lists.{All, all_nil, all_cons, Mem, Distinct, count, sum_of}
use Rattle.lists.proofs.Numbers.{eq_or_ne, le_or_lt}
use Rattle.history.specs.Tree.{Tree, tree_at}
use Rattle.segment_test.specs.Total.{sum_to}

-- ── up to a bound ──

pub sum_add : (f g : ℕ → ℕ) (n : ℕ) → sum_to (λ k. f k + g k) n ≡ sum_to f n + sum_to g n
unfolding sum_to
sum_add f g zero = refl
sum_add f g (suc n) = omega (arith, sum_add f g n)

pub sum_times : (f : ℕ → ℕ) (w n : ℕ) → sum_to (λ k. f k * w) n ≡ sum_to f n * w
unfolding sum_to
sum_times f w zero = omega arith
sum_times f w (suc n) = omega (arith, sum_times f w n, add-mul (sum_to f n) (f n) w)

pub sum-none : (f : ℕ → ℕ) (n : ℕ) → ((k : ℕ) → k < n → f k ≡ 0) → sum_to f n ≡ 0
unfolding sum_to
sum-none f zero h = refl
sum-none f (suc n) h = omega (arith, sum-none f n (λ k l. h k (omega arith)), h n (omega arith))

pub sum_same : (f g : ℕ → ℕ) (n : ℕ) → ((k : ℕ) → k < n → f k ≡ g k) → sum_to f n ≡ sum_to g n
unfolding sum_to
sum_same f g zero h = refl
sum_same f g (suc n) h = omega (arith, sum_same f g n (λ k l. h k (omega arith)), h n (omega arith))

pub sum-most : (f g : ℕ → ℕ) (n : ℕ) → ((k : ℕ) → k < n → f k ≤ g k) → sum_to f n ≤ sum_to g n
unfolding sum_to
sum-most f g zero h = omega arith
sum-most f g (suc n) h = omega (arith, sum-most f g n (λ k l. h k (omega arith)), h n (omega arith))

-- sums of which each part is at most its fellow are equal only where the parts are
pub sum_tight : (f g : ℕ → ℕ) (n : ℕ) → ((k : ℕ) → k < n → f k ≤ g k) → sum_to f n ≡ sum_to g n → (k : ℕ) → k < n → f k ≡ g k
unfolding sum_to
sum_tight f g zero h e k l = absurd (omega arith)
sum_tight f g (suc n) h e k l =
    let below : (j : ℕ) → j < n → f j ≤ g j = λ j z. h j (omega arith) in
    let most : sum_to f n ≤ sum_to g n = sum-most f g n below in
    let last : f n ≤ g n = h n (omega arith) in
    elim (le_or_lt n k) [
      | inl z ↦ (let same : k ≡ n = omega arith in rw same (omega arith))
      | inr z ↦ sum_tight f g n below (omega arith) k z
    ]

-- one part more, and all up to a bound
pub sum_more : (f : ℕ → ℕ) (k : ℕ) → sum_to f (k + 1) ≡ sum_to f k + f k
unfolding sum_to
sum_more f k = let e : k + 1 ≡ suc k = omega arith in rw e refl

pub sum_start : (f : ℕ → ℕ) → sum_to f 0 ≡ 0
unfolding sum_to
sum_start f = refl

pub sum_front : (f : ℕ → ℕ) (k n : ℕ) → k ≤ n → sum_to f k ≤ sum_to f n
unfolding sum_to
sum_front f k zero h = let e : k ≡ 0 = omega arith in rw e (omega arith)
sum_front f k (suc n) h =
    elim (le_or_lt k n) [
      | inl z ↦ omega (arith, sum_front f k n z)
      | inr z ↦ (let e : k ≡ suc n = omega arith in rw e (omega arith))
    ]

-- the first part apart
sum_first : (f : ℕ → ℕ) (n : ℕ) → sum_to f (suc n) ≡ f 0 + sum_to (λ k. f (suc k)) n
unfolding sum_to
sum_first f zero = omega arith
sum_first f (suc n) = omega (arith, sum_first f n)

-- over the trees of a list
pub sum_trees : (f : Tree → ℕ) (trees : List Tree) → sum_to (λ kind. f (tree_at trees kind)) (length trees) ≡ sum_of (map f trees)
unfolding sum_to sum_of
sum_trees f [] = refl
sum_trees f (T ∷ trees) = sum_first (λ kind. f (tree_at (T ∷ trees) kind)) (length trees) ∙ ap (λ (n : ℕ). f T + n) (sum_trees f trees)

-- one part is not 0
pub sum_only : (g : ℕ → ℕ) (y n : ℕ) → y < n → ((k : ℕ) → k < n → (k ≡ y → ⊥) → g k ≡ 0) → sum_to g n ≡ g y
unfolding sum_to
sum_only g y zero h none = absurd (omega arith)
sum_only g y (suc n) h none =
    elim (eq_or_ne n y) [
      | inl e ↦ rw e (omega (arith, (rw e at (sum-none g n (λ k l. none k (omega arith) (omega arith))))))
      | inr e ↦ omega (arith, none n (omega arith) e, sum_only g y n (omega arith) (λ k l z. none k (omega arith) z))
    ]

-- sums of sums, by rows or by columns
pub sum_swap : (f : ℕ → ℕ → ℕ) (n m : ℕ) → sum_to (λ j. sum_to (f j) n) m ≡ sum_to (λ k. sum_to (λ j. f j k) m) n
unfolding sum_to
sum_swap f n zero = sym (sum-none (λ k. 0) n (λ k l. refl))
sum_swap f n (suc m) = omega (arith, sum_swap f n m, sum_add (λ k. sum_to (λ j. f j k) m) (f m) n)

-- ── lists without numbers ──

pub mem_none : (k : ℕ) (xs : List ℕ) → length xs ≡ 0 → Mem k xs → ⊥
mem_none k [] h m = elim m [ ]
mem_none k (x ∷ xs) h m = omega arith

-- ── over a list ──

sum_ones : (xs : List ℕ) → sum_of (map (λ (k : ℕ). 1) xs) ≡ length xs
unfolding sum_of
sum_ones [] = refl
sum_ones (x ∷ xs) = omega (arith, sum_ones xs)

sum_bound : (n : ℕ) → sum_to (λ k. 1) n ≡ n
unfolding sum_to
sum_bound zero = refl
sum_bound (suc n) = omega (arith, sum_bound n)

-- numbers that are named 0 to n − 1, each by one name
module _ (name : ℕ → ℕ) (one_name : (j k : ℕ) → name j ≡ name k → j ≡ k) where
  -- the one part that is not 0
  sum-pick : (g : ℕ → ℕ) (y n : ℕ) → y < n → sum_to (λ k. cond (eqb (name k) (name y)) 1 0 * g k) n ≡ g y
  unfolding sum_to
  sum-pick g y zero h = absurd (omega arith)
  sum-pick g y (suc n) h =
      elim (eq_or_ne n y) [
        | inl e ↦
            let rest : sum_to (λ k. cond (eqb (name k) (name y)) 1 0 * g k) n ≡ 0 =
            sum-none (λ k. cond (eqb (name k) (name y)) 1 0 * g k) n (λ k l. rw (ne_eqb (name k) (name y) (λ z. omega (arith, one_name k y z))) (omega arith)) in
            rw (eq-eqb (name n) (name y) (ap name e), rest, ← e) (omega arith)
        | inr e ↦ rw (ne_eqb (name n) (name y) (λ z. e (one_name n y z))) (omega (arith, sum-pick g y n (omega arith)))
      ]

  -- a sum over a list, by how often each stands in it
  sum-counts : (f : ℕ → ℕ) (n : ℕ) (xs : List ℕ) → All (λ x. (y : ℕ) × (y < n) × (x ≡ name y)) xs → sum_of (map f xs) ≡ sum_to (λ k. count (name k) xs * f (name k)) n
  unfolding sum_of count
  sum-counts f n [] all_nil = sym (sum-none (λ k. 0 * f (name k)) n (λ k l. omega arith))
  sum-counts f n (x ∷ xs) (all_cons p ps) =
      let own : ℕ → ℕ = λ k. cond (eqb (name k) x) 1 0 in
      let split : sum_to (λ k. (own k + count (name k) xs) * f (name k)) n ≡ sum_to (λ k. own k * f (name k) + count (name k) xs * f (name k)) n =
      sum_same (λ k. (own k + count (name k) xs) * f (name k)) (λ k. own k * f (name k) + count (name k) xs * f (name k)) n (λ k l. add-mul (own k) (count (name k) xs) (f (name k))) in
      let picked : sum_to (λ k. own k * f (name k)) n ≡ f x = rw p.2 (sum-pick (λ k. f (name k)) p.0 n p.1) in
      omega (arith, split, picked, sum_add (λ k. own k * f (name k)) (λ k. count (name k) xs * f (name k)) n, sum-counts f n xs ps)

  -- the list is as long as it has numbers
  pub sum-length : (n : ℕ) (xs : List ℕ) → All (λ x. (y : ℕ) × (y < n) × (x ≡ name y)) xs → sum_to (λ k. count (name k) xs) n ≡ length xs
  sum-length n xs within =
      sum_same (λ k. count (name k) xs) (λ k. count (name k) xs * 1) n (λ k l. omega arith) ∙ sym (sum-counts (λ k. 1) n xs within) ∙ sum_ones xs

  -- n distinct ones are all of them: a sum over the list is the sum over the names
  pub sum_all : (f : ℕ → ℕ) (n : ℕ) (xs : List ℕ) → All (λ x. (y : ℕ) × (y < n) × (x ≡ name y)) xs → Distinct xs → length xs ≡ n → sum_of (map f xs) ≡ sum_to (λ k. f (name k)) n
  sum_all f n xs within distinct full =
      sum-counts f n xs within ∙ sum_same (λ k. count (name k) xs * f (name k)) (λ k. f (name k)) n (λ k l. rw (once k l) (omega arith))
    where
      once : (k : ℕ) → k < n → count (name k) xs ≡ 1
      once =
          sum_tight (λ k. count (name k) xs) (λ k. 1) n (λ k l. distinct_count (name k) xs distinct)
          (sum-length n xs within ∙ full ∙ sym (sum_bound n))
