-- What add_location does at a node, and two inductions by which every law of adding is proved: over the nodes that one block meets, and over
-- the blocks of a list. Assumes nothing.
use mathlib.Core.Path.{◌≡◌, refl, ap, sym, ◌∙◌}
use mathlib.Core.Logic.{◌⊎◌, inl, inr}
use mathlib.Core.Bool.{Bool, true, false, true≢false, cond, ◌&&◌}
use mathlib.Core.List.{List, [], ◌∷◌}
use Prim.Native.Nat.{ℕ, zero, suc, ◌+◌, ◌-◌, ◌^◌, ◌≤◌, ◌<◌}
use native.Mathlib.Nat.{two-pow-succ}
use native.Mathlib.Omega.{arith}
use lib.ListN.{length, get_or}
use lib.Dec.{ltb, eqb}
use borrow.Author.Tests.{lt-ltb, le-ltb, le-leb, lt-leb, eq-eqb, ne_eqb, ltb-true, ltb-false}
use Rattle.lists.proofs.Numbers.{le_or_lt, lt_or_le, eq_or_ne, cond_same}
use Rattle.history.specs.Words.{Block, of_kind}
use Rattle.history.specs.Tree.{Tree, hole, node, mid, halves, covers, entries_of, left_of, right_of, insert, add_location, add_all, no_block, block_at, key_in, tree_of}

-- ── lives and nodes ──

-- a life covers [lo, hi), or it begins later or ends earlier
pub data Covering (c d lo hi : ℕ) : Type 0 where
  all : c ≤ lo → hi ≤ d → covers c d lo hi ≡ true → Covering c d lo hi
  part : (lo < c) ⊎ (d < hi) → covers c d lo hi ≡ false → Covering c d lo hi

pub covering : (c d lo hi : ℕ) → Covering c d lo hi
covering c d lo hi =
    elim (le_or_lt c lo) [
      | inl p ↦ elim (le_or_lt hi d) [
        | inl q ↦ all p q (rw (le-leb c lo p, le-leb hi d q))
        | inr q ↦ part (inr q) (rw (le-leb c lo p, lt-leb hi d q))
      ]
      | inr p ↦ part (inl p) (rw (lt-leb c lo p))
    ]

pub covers_yes : (c d lo hi : ℕ) → c ≤ lo → hi ≤ d → covers c d lo hi ≡ true
covers_yes c d lo hi p q = rw (le-leb c lo p, le-leb hi d q)

pub covers-inside : (c d lo hi : ℕ) → covers c d lo hi ≡ true → (c ≤ lo) × (hi ≤ d)
covers-inside c d lo hi e = elim (covering c d lo hi) [ all p q _ ↦ (p, q) | part _ n ↦ absurd (true≢false (sym e ∙ n)) ]

-- a half is no wider than half
pub half_left : (lo hi n : ℕ) → hi - lo ≤ 2 ^ suc n → mid lo hi - lo ≤ 2 ^ n
half_left lo hi n h = omega (arith, two-pow-succ n)

pub half_right : (lo hi n : ℕ) → hi - lo ≤ 2 ^ suc n → hi - mid lo hi ≤ 2 ^ n
half_right lo hi n h = omega (arith, two-pow-succ n)

-- ── one node ──

-- the node there, made if it was not
abbrev pub made : Tree → Tree
made T = node (entries_of T) (left_of T) (right_of T)

-- with the block among its entries
abbrev pub listed : (key : ℕ → ℕ) (block : ℕ) → Tree → Tree
listed key b T = node (insert key b (entries_of T)) (left_of T) (right_of T)

module _ (key : ℕ → ℕ) (b c d lo hi : ℕ) (T : Tree) where
  -- the block added to the halves that its life meets
  abbrev pub deeper : (levels : ℕ) → Tree
  deeper n =
      node (entries_of T) (cond (halves lo hi && ltb c (mid lo hi)) (add_location key n b c d lo (mid lo hi) (left_of T)) (left_of T))
      (cond (halves lo hi && ltb (mid lo hi) d) (add_location key n b c d (mid lo hi) hi (right_of T)) (right_of T))

  pub add_here : (n : ℕ) → covers c d lo hi ≡ true → add_location key n b c d lo hi T ≡ listed key b T
  unfolding add_location
  add_here zero e = ap (λ (u : Bool). cond u (listed key b T) (made T)) e
  add_here (suc n) e = ap (λ (u : Bool). cond u (listed key b T) (deeper n)) e

  pub add_last : covers c d lo hi ≡ false → add_location key 0 b c d lo hi T ≡ made T
  unfolding add_location
  add_last e = ap (λ (u : Bool). cond u (listed key b T) (made T)) e

  pub add_below : (n : ℕ) → covers c d lo hi ≡ false → add_location key (suc n) b c d lo hi T ≡ deeper n
  unfolding add_location
  add_below n e = ap (λ (u : Bool). cond u (listed key b T) (deeper n)) e

  -- a node without halves gets none
  pub add_narrow : (n : ℕ) → covers c d lo hi ≡ false → hi ≤ lo + 1 → add_location key n b c d lo hi T ≡ made T
  add_narrow zero e w = add_last e
  add_narrow (suc n) e w = add_below n e ∙ rw (le-ltb (lo + 1) hi w)

-- ── one block: by the nodes that it meets ──

-- a half before and after: it was gone to and P holds, or it was left alone
pub data Half (goes stays : Type 0) (P : (before after : Tree) → Type 0) (T : Tree) : Tree → Type 0 where
  went : {L : Tree} → goes → P T L → Half goes stays P T L
  kept : stays → Half goes stays P T T

-- what adding keeps, a half has afterwards
pub half_keeps : {goes stays : Type 0} (A : Tree → Type 0) {T L : Tree} → Half goes stays (λ X Y. A X → A Y) T L → A T → A L
half_keeps A (went g p) q = p q
half_keeps A (kept g) q = q

-- To show P of every node before and after, show it of the node that lists the block, of one that ends the way without, and of one whose halves
-- were gone to or left alone.
module _ (key : ℕ → ℕ) (b c d : ℕ) (P : (lo hi : ℕ) (before after : Tree) → Type 0)
    (here : (lo hi : ℕ) (T : Tree) → lo ≤ hi → c ≤ lo → hi ≤ d → covers c d lo hi ≡ true → P lo hi T (listed key b T))
    (stop : (lo hi : ℕ) (T : Tree) → lo ≤ hi → hi ≤ lo + 1 → (lo < c) ⊎ (d < hi) → P lo hi T (made T))
    (down : (lo hi : ℕ) (T L R : Tree) → lo + 1 < hi → covers c d lo hi ≡ false → Half (c < mid lo hi) (mid lo hi ≤ c) (P lo (mid lo hi)) (left_of T) L
    → Half (mid lo hi < d) (d ≤ mid lo hi) (P (mid lo hi) hi) (right_of T) R → P lo hi T (node (entries_of T) L R)) where
  half : (lo hi n : ℕ) (goes : Bool) (Yes No : Type 0) (T : Tree) → (goes ≡ true → Yes) → (goes ≡ false → No) → P lo hi T (add_location key n b c d lo hi T)
      → Half Yes No (P lo hi) T (cond goes (add_location key n b c d lo hi T) T)
  half lo hi n true Yes No T go stay p = went (go refl) p
  half lo hi n false Yes No T go stay p = kept (stay refl)

  pub add_by : (n lo hi : ℕ) (T : Tree) → lo ≤ hi → hi - lo ≤ 2 ^ n → P lo hi T (add_location key n b c d lo hi T)
  add_by zero lo hi T a w =
      elim (covering c d lo hi) [
        | all p q e ↦ rw (add_here key b c d lo hi T 0 e) (here lo hi T a p q e)
        | part o e ↦ rw (add_last key b c d lo hi T e) (stop lo hi T a (omega arith) o)
      ]
  add_by (suc n) lo hi T a w =
      let left = add_by n lo (mid lo hi) (left_of T) (omega arith) (half_left lo hi n w) in
      let right = add_by n (mid lo hi) hi (right_of T) (omega arith) (half_right lo hi n w) in
      elim (covering c d lo hi) [
        | all p q e ↦ rw (add_here key b c d lo hi T (suc n) e) (here lo hi T a p q e)
        | part o e ↦ elim (le_or_lt hi (lo + 1)) [
          | inl v ↦ rw (add_narrow key b c d lo hi T (suc n) e v) (stop lo hi T a v o)
          | inr v ↦ rw (add_below key b c d lo hi T n e, lt-ltb (lo + 1) hi v)
              (down lo hi T _ _ v e
              (half lo (mid lo hi) n (ltb c (mid lo hi)) (c < mid lo hi) (mid lo hi ≤ c) (left_of T) (ltb-true c (mid lo hi)) (ltb-false c (mid lo hi)) left)
              (half (mid lo hi) hi n (ltb (mid lo hi) d) (mid lo hi < d) (d ≤ mid lo hi) (right_of T) (ltb-true (mid lo hi) d) (ltb-false (mid lo hi) d) right))
        ]
      ]

-- ── all blocks: one after the other ──

-- block k added from the root on
abbrev pub add_block : (at : ℕ → Block) (key : ℕ → ℕ) (end k : ℕ) → Tree → Tree
add_block at key e k T = add_location key 63 k (at k).created (at k).destroyed 0 e T

-- The blocks of the kind are added, the others are passed over.
module _ (kind e : ℕ) (bs : List Block) (Q : (blocks : ℕ) → Tree → Type 0)
    (step : (k : ℕ) (T : Tree) → k < length bs → (block_at bs k).kind ≡ kind → Q k T → Q (suc k) (add_block (block_at bs) (key_in bs) e k T))
    (skip : (k : ℕ) (T : Tree) → k < length bs → ((block_at bs k).kind ≡ kind → ⊥) → Q k T → Q (suc k) T) where
  all_by : (n : ℕ) (cs : List Block) (T : Tree) → n + length cs ≡ length bs → ((j : ℕ) → j < length cs → block_at bs (n + j) ≡ get_or cs j no_block)
      → Q n T → Q (length bs) (add_all (key_in bs) kind e n cs T)
  unfolding add_all
  all_by n [] T h same q = let z : n ≡ length bs = omega arith in rw z at q
  all_by n (c ∷ cs) T h same q =
      all_by (suc n) cs _ (omega arith) (λ j l. let y : suc n + j ≡ n + suc j = omega arith in rw y (same (suc j) (omega arith)))
      (choose (eq_or_ne c.kind kind))
    where
      this : block_at bs n ≡ c
      this = let z : n + 0 ≡ n = omega arith in rw z at (same 0 (omega arith))

      choose : (c.kind ≡ kind) ⊎ (c.kind ≡ kind → ⊥) → Q (suc n) (cond (of_kind kind c) (add_location (key_in bs) 63 n c.created c.destroyed 0 e T) T)
      choose (inl p) = rw (eq-eqb c.kind kind p) (rw this at (step n T (omega arith) (rw this p) q))
      choose (inr p) = rw (ne_eqb c.kind kind p) (skip n T (omega arith) (rw this p) q)

  pub tree_by : Q 0 hole → Q (length bs) (tree_of kind e bs)
  unfolding tree_of
  tree_by q = all_by 0 bs hole (omega arith) (λ j l. let z : 0 + j ≡ j = omega arith in rw z) q

-- a number of the tree that grows by g k where block j is added, and by nothing where another is
pub tree_sum : (kind e : ℕ) (bs : List Block) (f : Tree → ℕ) (g : ℕ → ℕ) (j : ℕ)
    → ((k : ℕ) (T : Tree) → (block_at bs k).kind ≡ kind → f (add_block (block_at bs) (key_in bs) e k T) ≡ f T + cond (eqb j k) (g k) 0)
    → ((k : ℕ) → ((block_at bs k).kind ≡ kind → ⊥) → g k ≡ 0)
    → f (tree_of kind e bs) ≡ f hole + cond (ltb j (length bs)) (g j) 0
tree_sum kind e bs f g j grows idle = tree_by kind e bs Grown step skip (rw (le-ltb j 0 (omega arith)) (omega arith))
  where
    Grown : (n : ℕ) → Tree → Type 0
    Grown n T = f T ≡ f hole + cond (ltb j n) (g j) 0

    -- one block more
    more : (n : ℕ) → cond (ltb j n) (g j) 0 + cond (eqb j n) (g n) 0 ≡ cond (ltb j (suc n)) (g j) 0
    more n =
        elim (lt_or_le j n) [
          | inl l ↦ rw (lt-ltb j n l, ne_eqb j n (omega arith), lt-ltb j (suc n) (omega arith)) (omega arith)
          | inr l ↦ elim (eq_or_ne j n) [
            | inl s ↦ rw (le-ltb j n l, eq-eqb j n s, lt-ltb j (suc n) (omega arith), s) (omega arith)
            | inr s ↦ rw (le-ltb j n l, ne_eqb j n s, le-ltb j (suc n) (omega arith)) (omega arith)
          ]
        ]

    step : (n : ℕ) (T : Tree) → n < length bs → (block_at bs n).kind ≡ kind → Grown n T → Grown (suc n) (add_block (block_at bs) (key_in bs) e n T)
    step n T h own q = grows n T own ∙ omega (arith, more n)

    skip : (n : ℕ) (T : Tree) → n < length bs → ((block_at bs n).kind ≡ kind → ⊥) → Grown n T → Grown (suc n) T
    skip n T h other q =
        let none : cond (eqb j n) (g n) 0 ≡ 0 = rw (idle n other) (cond_same (eqb j n) 0) in
        omega (arith, more n)
