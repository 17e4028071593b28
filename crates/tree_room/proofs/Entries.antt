-- The entries that one block makes: below a node that its life does not cover, no more than the halves' together. A block makes them in the tree of its kind
-- alone, so that those of all trees are no more than those of all blocks. Assumes nothing.
use mathlib.Core.Path.{◌≡◌, refl, ap, ◌∙◌}
use mathlib.Core.Logic.{◌⊎◌, inl, inr}
use mathlib.Core.Bool.{Bool, true, false, cond}
use mathlib.Core.List.{List, [], ◌∷◌, map}
use Prim.Native.Nat.{ℕ, zero, suc, ◌+◌, ◌*◌, ◌-◌, ◌^◌, ◌≤◌, ◌<◌}
use native.Mathlib.Nat.{mul-add, suc-mul, mul-le-mul_left}
use native.Mathlib.Omega.{arith}
use lib.Dec.{ltb, eqb}
use lib.ListN.{length}
use borrow.Author.Tests.{ltb-true, lt-ltb, le-ltb, eq-eqb, ne_eqb}
use Rattle.lists.specs.Lists.{All, all_nil, all_cons, here, there, count_from, sum_of}
use Rattle.lists.proofs.Numbers.{le_or_lt, eq_or_ne}
use Rattle.lists.proofs.Lists.{all_any}
use Rattle.lists.proofs.Maps.{map-map, map_all}
use Rattle.lists.proofs.Counting.{sum_plus, sum-none, all_count_from}
use Rattle.history.specs.Words.{Block, all_kinds, of_kind}
use Rattle.history.specs.Tree.{mid, tree_of, trees_of, entry_count, entries_all}
use Rattle.history.proofs.TreeAdding.{all, part, covering, half_left, half_right}
use Rattle.history.proofs.TreeCounts.{new_entries, tree_of_entries}
use Rattle.tree_room.specs.Room.{entries_for}
use Rattle.tree_room.proofs.Ticks.{ticks_in, ticks_split, ticks_some, ticks_most}

-- one on each level for each tick of two halves, and one for each half, make one on one level more
step : (n w v u : ℕ) → u ≡ w + v → 1 ≤ u → (1 + n * w) + (1 + n * v) ≤ 1 + suc n * u
step n w v u e h =
    let split : n * u ≡ n * w + n * v = ap (λ (k : ℕ). n * k) e ∙ mul-add n w v in
    omega (arith, suc-mul n u)

module _ (c d : ℕ) where
  -- a life meets the interval of a node only if it has an end inside or covers it
  pub met : (lo hi : ℕ) → c < hi → lo ≤ d → (lo < c) ⊎ (d < hi) → 1 ≤ ticks_in lo hi (c ∷ d ∷ [])
  met lo hi a b (inl p) = ticks_some lo hi c (c ∷ d ∷ []) (here refl) (omega arith) a
  met lo hi a b (inr p) = ticks_some lo hi d (c ∷ d ∷ []) (there (here refl)) b p

  half : (u : Bool) (x y : ℕ) → (u ≡ true → x ≤ y) → cond u x 0 ≤ y
  half true x y h = h refl
  half false x y h = omega arith

  -- a tick is covered or not
  narrow : (m lo hi : ℕ) → hi ≤ lo + 1 → new_entries m c d lo hi ≤ 1
  unfolding new_entries
  narrow zero lo hi v = elim (covering c d lo hi) [ all x y e ↦ rw e (omega arith) | part o e ↦ rw e (omega arith) ]
  narrow (suc m) lo hi v =
      elim (covering c d lo hi) [ all x y e ↦ rw e (omega arith) | part o e ↦ rw (e, le-ltb (lo + 1) hi v) (omega arith) ]

  -- of two ticks that are not both covered one is at most
  of_two : (m lo hi : ℕ) → lo + 1 < hi → hi ≤ lo + 2 → (lo < c) ⊎ (d < hi)
      → cond (ltb c (mid lo hi)) (new_entries m c d lo (mid lo hi)) 0 + cond (ltb (mid lo hi) d) (new_entries m c d (mid lo hi) hi) 0 ≤ 1
  of_two m lo hi v w (inl p) =
      rw (le-ltb c (mid lo hi) (omega arith))
      (omega (arith, half (ltb (mid lo hi) d) (new_entries m c d (mid lo hi) hi) 1 (λ _. narrow m (mid lo hi) hi (omega arith))))
  of_two m lo hi v w (inr p) =
      rw (le-ltb (mid lo hi) d (omega arith))
      (omega (arith, half (ltb c (mid lo hi)) (new_entries m c d lo (mid lo hi)) 1 (λ _. narrow m lo (mid lo hi) (omega arith))))

  -- a node of 2^(n+1) ticks: one for each end of the life on each level below the first, and one
  pub entries_most : (m n lo hi : ℕ) → hi - lo ≤ 2 ^ suc n → c < hi → lo ≤ d → new_entries m c d lo hi ≤ 1 + n * ticks_in lo hi (c ∷ d ∷ [])
  unfolding new_entries
  entries_most zero n lo hi w p q = elim (covering c d lo hi) [ all x y e ↦ rw e (omega arith) | part o e ↦ rw e (omega arith) ]
  entries_most (suc m) zero lo hi w p q =
      elim (covering c d lo hi) [
        | all x y e ↦ rw e (omega arith)
        | part o e ↦ elim (le_or_lt hi (lo + 1)) [
          | inl v ↦ rw (e, le-ltb (lo + 1) hi v) (omega arith)
          | inr v ↦ rw (e, lt-ltb (lo + 1) hi v) (omega (arith, of_two m lo hi v (omega arith) o))
        ]
      ]
  entries_most (suc m) (suc n) lo hi w p q =
      let left = half (ltb c (mid lo hi)) (new_entries m c d lo (mid lo hi)) (1 + n * ticks_in lo (mid lo hi) (c ∷ d ∷ []))
      (λ g. entries_most m n lo (mid lo hi) (half_left lo hi (suc n) w) (ltb-true c (mid lo hi) g) q) in
      let right = half (ltb (mid lo hi) d) (new_entries m c d (mid lo hi) hi) (1 + n * ticks_in (mid lo hi) hi (c ∷ d ∷ []))
      (λ g. entries_most m n (mid lo hi) hi (half_right lo hi (suc n) w) p (omega (arith, ltb-true (mid lo hi) d g))) in
      elim (covering c d lo hi) [
        | all x y e ↦ rw e (omega arith)
        | part o e ↦ elim (le_or_lt hi (lo + 1)) [
          | inl v ↦ rw (e, le-ltb (lo + 1) hi v) (omega arith)
          | inr v ↦ rw (e, lt-ltb (lo + 1) hi v)
              (omega (arith, left, right, step n _ _ _ (ticks_split lo (mid lo hi) hi (c ∷ d ∷ []) (omega arith) (omega arith)) (met lo hi p q o)))
        ]
      ]

-- ── one kind for each block ──

-- of kinds that follow one another at most one is a block's
none_above : (own x n many : ℕ) → own < n → sum_of (map (λ kind. cond (eqb own kind) x 0) (count_from n many)) ≡ 0
none_above own x n many h = sum-none (λ kind. cond (eqb own kind) x 0) (all_count_from n many (λ kind from below. rw (ne_eqb own kind (λ e. omega arith)) refl))

one_kind : (own x n many : ℕ) → sum_of (map (λ kind. cond (eqb own kind) x 0) (count_from n many)) ≤ x
unfolding count_from sum_of
one_kind own x n zero = omega arith
one_kind own x n (suc many) =
    elim (eq_or_ne own n) [
      | inl e ↦ rw (eq-eqb own n e) (omega (arith, none_above own x (suc n) many (omega arith)))
      | inr e ↦ rw (ne_eqb own n e) (omega (arith, one_kind own x (suc n) many))
    ]

-- so what the blocks of each kind make is no more than what all make
by_kind : (f : Block → ℕ) (bs : List Block) → sum_of (map (λ kind. sum_of (map (λ b. cond (of_kind kind b) (f b) 0) bs)) all_kinds) ≤ sum_of (map f bs)
unfolding sum_of
by_kind f [] = omega (arith, sum-none (λ kind. 0) (all_any all_kinds (λ kind. refl)))
by_kind f (b ∷ bs) =
    omega (
      arith,
      sum_plus (λ kind. cond (of_kind kind b) (f b) 0) (λ kind. sum_of (map (λ c. cond (of_kind kind c) (f c) 0) bs)) all_kinds,
      one_kind b.kind (f b) 0 5,
      by_kind f bs,
    )

-- ── all blocks ──

module _ (n e : ℕ) (w : e ≤ 2 ^ n) where
  one_block : (b : Block) → b.created < e → new_entries 63 b.created b.destroyed 0 e ≤ 1 + 2 * (n - 1)
  one_block b h =
      omega (
        arith,
        entries_most b.created b.destroyed 63 (n - 1) 0 e (wide n w) h (omega arith),
        mul-le-mul_left (n - 1) (ticks_most 0 e (b.created ∷ b.destroyed ∷ [])),
      )
    where
      wide : (n : ℕ) → e ≤ 2 ^ n → e - 0 ≤ 2 ^ suc (n - 1)
      wide zero w = omega arith
      wide (suc n) w = let same : suc (suc n - 1) ≡ suc n = omega arith in rw same (omega arith)

  all_entries_lem : (bs : List Block) → All (λ (b : Block). b.created < e) bs → sum_of (map (λ b. new_entries 63 b.created b.destroyed 0 e) bs) ≤ entries_for n (length bs)
  unfolding sum_of
  all_entries_lem [] all_nil = omega arith
  all_entries_lem (b ∷ bs) (all_cons h hs) = omega (arith, one_block b h, all_entries_lem bs hs, suc-mul (length bs) (1 + 2 * (n - 1)))

  -- those of a kind are among them
  own_entries : (kind : ℕ) (f : Block → ℕ) (bs : List Block) → sum_of (map (λ b. cond (of_kind kind b) (f b) 0) bs) ≤ sum_of (map f bs)
  unfolding sum_of
  own_entries kind f [] = omega arith
  own_entries kind f (b ∷ bs) = omega (arith, part (of_kind kind b), own_entries kind f bs)
    where
      part : (u : Bool) → cond u (f b) 0 ≤ f b
      part true = omega arith
      part false = omega arith

  pub tree_entries : (kind : ℕ) (bs : List Block) → All (λ (b : Block). b.created < e) bs → entry_count (tree_of kind e bs) ≤ entries_for n (length bs)
  tree_entries kind bs h =
      rw (tree_of_entries kind e bs) (omega (arith, own_entries kind (λ b. new_entries 63 b.created b.destroyed 0 e) bs, all_entries_lem bs h))

  -- of all trees together
  pub trees_entries_lem : (bs : List Block) → All (λ (b : Block). b.created < e) bs → entries_all (trees_of e bs) ≤ entries_for n (length bs)
  unfolding trees_of
  trees_entries_lem bs h =
      rw (
        map-map entry_count (λ kind. tree_of kind e bs) all_kinds,
        map_all (λ kind. entry_count (tree_of kind e bs)) (λ kind. sum_of (map (λ b. cond (of_kind kind b) (new_entries 63 b.created b.destroyed 0 e) 0) bs))
            (all_any all_kinds (λ kind. tree_of_entries kind e bs)),
      )
      (omega (arith, by_kind (λ b. new_entries 63 b.created b.destroyed 0 e) bs, all_entries_lem bs h))
