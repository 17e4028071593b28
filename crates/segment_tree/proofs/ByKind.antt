-- A tree for each kind: one of them changes and the others stay, and what goes to the tree of a kind among what goes to all. Assumes nothing.
use mathlib.Core.Path.{◌≡◌, refl, sym, ◌∙◌, ap}
use mathlib.Core.Logic.{◌⊎◌, inl, inr}
use mathlib.Core.Bool.{Bool, true, false, cond}
use mathlib.Core.List.{List, [], ◌∷◌, ◌++◌, map}
use Prim.Native.Nat.{ℕ, zero, suc, ◌+◌, ◌<◌}
use native.Mathlib.Omega.{arith}
use lib.ListN.{length, set, length-set}
use lib.Seq.{get_or-set_same, get_or-set_other}
use lib.Dec.{eqb}
use borrow.Author.Tests.{eq-eqb, ne_eqb}
use Rattle.lists.specs.Lists.{All, all_nil, all_cons, Pairs, pairs_nil, pairs_cons, Mem, count, sum_of}
use Rattle.lists.proofs.Numbers.{eq_or_ne}
use Rattle.lists.proofs.Lists.{count_from_length}
use Rattle.lists.proofs.Counting.{count_here, count_other, mem_count, count_mem}
use Rattle.lists.proofs.Maps.{length_of_map}
use Rattle.history.specs.Words.{Block, all_kinds}
use Rattle.history.specs.Tree.{Tree, hole, tree_of, trees_of, tree_at}
use Rattle.tables.specs.Columns.{nodes_count}
use Rattle.segment_tree.specs.Count.{Life}
use Rattle.segment_tree.specs.Lives.{Owned, add_life, add_own, add_lives}

-- ── one tree changes ──

module _ (trees : List Tree) (k j : ℕ) (T : Tree) where
  pub tree_same : k ≡ j → j < length trees → tree_at (set trees k T) j ≡ T
  tree_same e h = rw e (get_or-set_same trees j T hole h)

  pub tree_other : (j ≡ k → ⊥) → tree_at (set trees k T) j ≡ tree_at trees j
  tree_other n = get_or-set_other trees k j T hole n

-- and with it a sum over all
pub sum-set : (f : Tree → ℕ) (trees : List Tree) (k : ℕ) (T : Tree) → k < length trees
    → sum_of (map f (set trees k T)) + f (tree_at trees k) ≡ sum_of (map f trees) + f T
unfolding sum_of
sum-set f [] k T h = absurd (omega arith)
sum-set f (x ∷ xs) zero T h = omega arith
sum-set f (x ∷ xs) (suc k) T h = omega (arith, sum-set f xs k T (omega arith))

-- ── the trees of finish ──

pub trees_five : (e : ℕ) (bs : List Block) → length (trees_of e bs) ≡ nodes_count
unfolding trees_of
trees_five e bs = length_of_map (λ kind. tree_of kind e bs) all_kinds ∙ count_from_length 0 5

-- ── the lives of a kind ──

-- lives that go to one tree, one after the other
unfoldable pub add_to : (end : ℕ) → List Life → Tree → Tree
add_to e [] T = T
add_to e (life ∷ lives) T = add_to e lives (add_life e life T)

unfoldable pub lives_of : (kind : ℕ) → List Owned → List Life
lives_of kind [] = []
lives_of kind (o ∷ os) =
    let rest = lives_of kind os in
    cond (eqb o.kind kind) (o.life ∷ rest) rest

pub lives_of_append : (kind : ℕ) (xs ys : List Owned) → lives_of kind (xs ++ ys) ≡ lives_of kind xs ++ lives_of kind ys
unfolding lives_of
lives_of_append kind [] ys = refl
lives_of_append kind (x ∷ xs) ys = rw (lives_of_append kind xs ys) (go (eqb x.kind kind))
  where
    go : (u : Bool) → cond u (x.life ∷ lives_of kind xs ++ lives_of kind ys) (lives_of kind xs ++ lives_of kind ys) ≡ cond u (x.life ∷ lives_of kind xs) (lives_of kind xs) ++ lives_of kind ys
    go true = refl
    go false = refl

-- as many trees, and that of a kind takes its own lives
pub lives_five : (e : ℕ) (os : List Owned) (trees : List Tree) → length (add_lives e os trees) ≡ length trees
unfolding add_lives
lives_five e [] trees = refl
lives_five e (o ∷ os) trees = lives_five e os (add_own e o trees) ∙ length-set trees o.kind _

pub lives_at : (e kind : ℕ) (os : List Owned) (trees : List Tree) → kind < length trees → tree_at (add_lives e os trees) kind ≡ add_to e (lives_of kind os) (tree_at trees kind)
unfolding add_lives add_to lives_of
lives_at e kind [] trees h = refl
lives_at e kind (o ∷ os) trees h = lives_at e kind os (add_own e o trees) (rw (length-set trees o.kind (add_life e o.life (tree_at trees o.kind))) h) ∙ go (eq_or_ne kind o.kind)
  where
    go : (kind ≡ o.kind) ⊎ (kind ≡ o.kind → ⊥)
        → add_to e (lives_of kind os) (tree_at (add_own e o trees) kind) ≡ add_to e (cond (eqb o.kind kind) (o.life ∷ lives_of kind os) (lives_of kind os)) (tree_at trees kind)
    go (inl q) =
        rw (eq-eqb o.kind kind (sym q))
        (ap (add_to e (lives_of kind os)) (tree_same trees o.kind kind (add_life e o.life (tree_at trees o.kind)) (sym q) h ∙ ap (λ (k : ℕ). add_life e o.life (tree_at trees k)) (sym q)))
    go (inr n) =
        rw (ne_eqb o.kind kind (λ q. n (sym q))) (ap (add_to e (lives_of kind os)) (tree_other trees o.kind kind (add_life e o.life (tree_at trees o.kind)) n))

-- ── the numbers of a kind ──

-- those of the numbers whose kind it is
unfoldable pub own : (kind_of : ℕ → ℕ) (kind : ℕ) → List ℕ → List ℕ
own kind_of kind [] = []
own kind_of kind (k ∷ ks) =
    let rest = own kind_of kind ks in
    cond (eqb (kind_of k) kind) (k ∷ rest) rest

module _ (kind_of : ℕ → ℕ) (kind : ℕ) where
  pub own_all : {P : ℕ → Type 0} {ks : List ℕ} → All P ks → All P (own kind_of kind ks)
  unfolding own
  own_all all_nil = all_nil
  own_all {P} (all_cons {x = k} {xs = ks} h hs) = go (eqb (kind_of k) kind) (own_all hs)
    where
      go : (u : Bool) → All P (own kind_of kind ks) → All P (cond u (k ∷ own kind_of kind ks) (own kind_of kind ks))
      go true r = all_cons h r
      go false r = r

  pub own-pairs : {R : ℕ → ℕ → Type 0} {ks : List ℕ} → Pairs R ks → Pairs R (own kind_of kind ks)
  unfolding own
  own-pairs pairs_nil = pairs_nil
  own-pairs {R} (pairs_cons {x = k} {xs = ks} a p) = go (eqb (kind_of k) kind) (own_all a) (own-pairs p)
    where
      go : (u : Bool) → All (R k) (own kind_of kind ks) → Pairs R (own kind_of kind ks) → Pairs R (cond u (k ∷ own kind_of kind ks) (own kind_of kind ks))
      go true b r = pairs_cons b r
      go false b r = r

  -- each as often as before, or not at all
  pub count-own : (k : ℕ) (ks : List ℕ) → count k (own kind_of kind ks) ≡ cond (eqb (kind_of k) kind) (count k ks) 0
  unfolding own count
  count-own k [] = none (eqb (kind_of k) kind)
    where
      none : (u : Bool) → ◌≡◌ {A = ℕ} 0 (cond u 0 0)
      none true = refl
      none false = refl
  count-own k (x ∷ ks) = go (eq_or_ne k x) (count-own k ks)
    where
      same : (u : Bool) (m n : ℕ) → m ≡ cond u n 0 → count k (cond u (k ∷ own kind_of kind ks) (own kind_of kind ks)) ≡ cond u (suc (count k (own kind_of kind ks))) (count k (own kind_of kind ks))
      same true m n h = count_here k (own kind_of kind ks)
      same false m n h = refl

      more : (u : Bool) (m n : ℕ) → m ≡ cond u n 0 → cond u (suc m) m ≡ cond u (suc n) 0
      more true m n h = ap suc h
      more false m n h = h

      pass : (u : Bool) → (k ≡ x → ⊥) → count k (cond u (x ∷ own kind_of kind ks) (own kind_of kind ks)) ≡ count k (own kind_of kind ks)
      pass true n = count_other k x (own kind_of kind ks) n
      pass false n = refl

      go : (k ≡ x) ⊎ (k ≡ x → ⊥) → count k (own kind_of kind ks) ≡ cond (eqb (kind_of k) kind) (count k ks) 0
          → count k (cond (eqb (kind_of x) kind) (x ∷ own kind_of kind ks) (own kind_of kind ks)) ≡ cond (eqb (kind_of k) kind) (cond (eqb k x) 1 0 + count k ks) 0
      go (inl q) h =
          let u : Bool = eqb (kind_of k) kind in
          rw (← q)
          (same u (count k (own kind_of kind ks)) (count k ks) h
          ∙ more u (count k (own kind_of kind ks)) (count k ks) h
          ∙ ap (λ (n : ℕ). cond u n 0) (sym (count_here k ks)))
      go (inr n) h = pass (eqb (kind_of x) kind) n ∙ h ∙ ap (λ (n : ℕ). cond (eqb (kind_of k) kind) n 0) (sym (count_other k x ks n))

-- a number is among those of its kind
pub own_mem : (kind_of : ℕ → ℕ) {k : ℕ} {ks : List ℕ} → Mem k ks → Mem k (own kind_of (kind_of k) ks)
own_mem kind_of {k} {ks} m = count_mem k (own kind_of (kind_of k) ks) (rw (count-own kind_of (kind_of k) k ks, eq-eqb (kind_of k) (kind_of k) refl) (mem_count m))
