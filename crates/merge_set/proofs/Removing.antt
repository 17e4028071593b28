-- `least`, `without_least`, `glue`, `remove`: one step for each return. Assumes nothing.
use mathlib.Core.Bool.{Bool, true, false}
use mathlib.Core.List.{List, [], ◌∷◌, ◌++◌}
use mathlib.Core.Logic.{◌⊎◌, inl, inr}
use mathlib.Core.Path.{◌≡◌, refl, sym, ap, ◌∙◌}
use Prim.Native.Nat.{ℕ, ◌-◌, ◌≤◌}
use native.Mathlib.Omega.{arith}
use lib.Dec.{ltb}
use Rattle.lists.proofs.Lists.{mem_left, mem_right, mem_split}
use Rattle.lists.specs.Lists.{Mem, here, there}
use Rattle.tables.specs.Columns.{column, piece_right, piece_left}
use Rattle.merge_set.proofs.Frame.{only_wider, only_refl, on_left, on_right}
use Rattle.merge_set.proofs.Links.{good_left, good_right, good-apart, Less, but, less_left, less_right, mem_less, good_less}
use Rattle.merge_set.proofs.Order.{without_least-rows, removed_less}
use Rattle.merge_set.specs.Table.{StartsBefore, Good, Valid, Shape, Result, Made, Least, WithoutLeast, Glued, Removed, first_at}
use Rattle.merge_set.specs.Tree.{Tree, leaf, node, height, rows, updated, least, without_least, glued, removed}

-- nothing is changed
pub unchanged : {t : List ℕ} {r : ℕ} {T : Tree} {xs : List ℕ} → Shape t r T → Result t t r T xs
unchanged {t} {r} {T} {xs} s = record { shape = s; only = only_refl t xs }

module _ {t : List ℕ} {k n l : ℕ} (el : l ≡ column t k piece_left) where
  -- ── `least` ──

  -- the root, or the first of the left subtree
  pub least_here : l ≡ 0 → Least t k n k
  unfolding Shape least
  least_here z = record { says = go }
    where
      go : (T : Tree) → Shape t k T → (k ≡ 0 → ⊥) → height T ≤ n → k ≡ least T
      go leaf s nz h = absurd (nz s)
      go (node leaf x b) s nz h = s.is
      go (node (node a y c) x b) s nz h = absurd (omega (arith, el ∙ ap (λ j. column t j piece_left) s.is ∙ s.left.is, s.left.valid.some))

  pub least_left : {o : ℕ} → (l ≡ 0 → ⊥) → Least t l (n - 1) o → Least t k n o
  unfolding Shape least height
  least_left {o} nl p = record { says = go }
    where
      go : (T : Tree) → Shape t k T → (k ≡ 0 → ⊥) → height T ≤ n → o ≡ least T
      go leaf s nz h = absurd (nz s)
      go (node leaf x b) s nz h = absurd (nl (el ∙ ap (λ j. column t j piece_left) s.is ∙ s.left))
      go (node (node a y c) x b) s nz h = p.says (node a y c) (rw (el, s.is) s.left) nl (omega arith)

pub least-none : {t : List ℕ} {k n : ℕ} → n ≡ 0 → Least t k n k
unfolding Shape height
least-none {t} {k} {n} z = record { says = go }
  where
    go : (T : Tree) → Shape t k T → (k ≡ 0 → ⊥) → height T ≤ n → k ≡ least T
    go leaf s nz h = absurd (nz s)
    go (node a x b) s nz h = absurd (omega arith)

-- ── `without_least` ──

-- what cannot be where the tree has the height that is said
pub without-least-none : {t : List ℕ} {k n : ℕ} → n ≡ 0 → WithoutLeast t t k n k
unfolding Shape height
without-least-none {t} {k} {n} z = record { done = go }
  where
    go : (T : Tree) → Shape t k T → (k ≡ 0 → ⊥) → height T ≤ n → Good (rows T) → Result t t k (without_least T) (rows T)
    go leaf s nz h g = absurd (nz s)
    go (node a x b) s nz h g = absurd (omega arith)

module _ {t : List ℕ} {k n l r : ℕ} (el : l ≡ column t k piece_left) (er : r ≡ column t k piece_right) where
  -- the root is the first, or it stands left
  pub without-least_here : l ≡ 0 → WithoutLeast t t k n r
  unfolding Shape without_least
  without-least_here z = record { done = go }
    where
      go : (T : Tree) → Shape t k T → (k ≡ 0 → ⊥) → height T ≤ n → Good (rows T) → Result t t r (without_least T) (rows T)
      go leaf s nz h g = absurd (nz s)
      go (node leaf x b) s nz h g = unchanged (rw (er, s.is) s.right)
      go (node (node a y c) x b) s nz h g = absurd (omega (arith, el ∙ ap (λ j. column t j piece_left) s.is ∙ s.left.is, s.left.valid.some))

  pub without-least_left : {t₁ t₂ : List ℕ} {m o : ℕ} → (l ≡ 0 → ⊥) → WithoutLeast t t₁ l (n - 1) m → Made t₁ t₂ m k r (updated 1) o → WithoutLeast t t₂ k n o
  unfolding Shape without_least height rows
  without-least_left {t₁} {t₂} {m} {o} nl p q = record { done = go }
    where
      go : (T : Tree) → Shape t k T → (k ≡ 0 → ⊥) → height T ≤ n → Good (rows T) → Result t t₂ o (without_least T) (rows T)
      go leaf s nz h g = absurd (nz s)
      go (node leaf x b) s nz h g = absurd (nl (el ∙ ap (λ j. column t j piece_left) s.is ∙ s.left))
      go (node (node a y c) x b) s nz h g =
          let A : Tree = node a y c in
          let xs : List ℕ = x ∷ rows b in
          let one : Result t t₁ m (without_least A) (rows A) = p.done A (rw (el, s.is) s.left) nl (omega arith) (good_left (rows A) xs g) in
          let e : rows A ≡ least A ∷ rows (without_least A) = without_least-rows a y c in
          let g' : Good (least A ∷ (rows (without_least A) ++ xs)) = rw e at g in
          on_left b one (rw s.is at q) (rw (er, s.is) s.right) s.valid
          (λ j i i'. good-apart (rows A) xs g i (there i'))
          (good_right (least A ∷ []) (rows (without_least A) ++ xs) g')
          (λ j i. mem_left (rows A) xs i)
          (λ j i. rw e (there i))

-- the links of a tree in the table are rows of it
pub valid_in : (t : List ℕ) (r : ℕ) (T : Tree) {j : ℕ} → Shape t r T → Mem j (rows T) → Valid t j
unfolding Shape rows
valid_in t r leaf {j = j} s m = elim m [ ]
valid_in t r (node a x b) {j} s m = go (mem_split (rows a) (x ∷ rows b) m) (valid_in t (column t x piece_left) a s.left) (valid_in t (column t x piece_right) b s.right)
  where
    tail : Mem j (x ∷ rows b) → (Mem j (rows b) → Valid t j) → Valid t j
    tail (here e) g = rw e s.valid
    tail (there i) g = g i

    go : Mem j (rows a) ⊎ Mem j (x ∷ rows b) → (Mem j (rows a) → Valid t j) → (Mem j (rows b) → Valid t j) → Valid t j
    go (inl i) f g = f i
    go (inr i) f g = tail i g

-- ── `glue` ──

-- nothing to glue, or the first of the second between the two
pub glues_none : {t : List ℕ} {a b n : ℕ} → b ≡ 0 → Glued t t a b n a
unfolding Shape glued
glues_none {t} {a} {b} {n} z = record { done = go }
  where
    go : (A B : Tree) → Shape t a A → Shape t b B → height B ≤ n → Good (rows A ++ rows B) → Result t t a (glued A B) (rows A ++ rows B)
    go A leaf sa sb h g = unchanged sa
    go A (node c y d) sa sb h g = absurd (omega (arith, sb.is, sb.valid.some))

pub glues : {t t₁ t₂ : List ℕ} {a b n x r o : ℕ} → (b ≡ 0 → ⊥) → Least t b n x → WithoutLeast t t₁ b n r → Made t₁ t₂ a x r (updated 1) o → Glued t t₂ a b n o
unfolding Shape glued
glues {t} {t₁} {t₂} {a} {b} {n} {x} {r} {o} nz p p' q = record { done = go }
  where
    go : (A B : Tree) → Shape t a A → Shape t b B → height B ≤ n → Good (rows A ++ rows B) → Result t t₂ o (glued A B) (rows A ++ rows B)
    go A leaf sa sb h g = absurd (nz sb)
    go A (node c y d) sa sb h g =
        let B : Tree = node c y d in
        let e : rows B ≡ least B ∷ rows (without_least B) = without_least-rows c y d in
        on_right A (p'.done B sb nz h (good_right (rows A) (rows B) g)) (rw (p.says B sb nz h) at q) sa
        (valid_in t b B sb (rw e (here refl)))
        (λ j i i'. good-apart (rows A) (rows B) g i' i)
        (rw (← e) g)
        (λ j i. mem_right (rows A) (rows B) i)
        (λ j i. rw e i)

-- ── `remove` ──

-- an empty tree; no fuel, which cannot be; left, right, here
pub removes_none : {t : List ℕ} {k x n : ℕ} → k ≡ 0 → Removed t t k x n k
unfolding Shape removed
removes_none {t} {k} {x} {n} z = record { done = go }
  where
    go : (T : Tree) → Shape t k T → height T ≤ n → Good (rows T) → Result t t k (removed (first_at t) x T) (rows T)
    go leaf s h g = unchanged s
    go (node a y b) s h g = absurd (omega (arith, s.is, s.valid.some))

module _ {t : List ℕ} {k x n : ℕ} (nz : k ≡ 0 → ⊥) where
  pub removes_stop : n ≡ 0 → Removed t t k x n k
  unfolding Shape height
  removes_stop z = record { done = go }
    where
      go : (T : Tree) → Shape t k T → height T ≤ n → Good (rows T) → Result t t k (removed (first_at t) x T) (rows T)
      go leaf s h g = absurd (nz s)
      go (node a y b) s h g = absurd (omega arith)

  module _ {l r o : ℕ} {t₂ : List ℕ} {before : Bool} (el : l ≡ column t k piece_left) (er : r ≡ column t k piece_right) (tested : StartsBefore t x k before) where
    pub removes_left : {t₁ : List ℕ} {m : ℕ} → before ≡ true → Removed t t₁ l x (n - 1) m → Made t₁ t₂ m k r (updated 1) o → Removed t t₂ k x n o
    unfolding Shape height rows removed
    removes_left {t₁} {m} low p q = record { done = go }
      where
        go : (T : Tree) → Shape t k T → height T ≤ n → Good (rows T) → Result t t₂ o (removed (first_at t) x T) (rows T)
        go leaf s h g = absurd (nz s)
        go (node A y B) s h g =
            let less : Less (rows (removed (first_at t) x A)) (rows A) = removed_less (first_at t) x A in
            let test : ltb (first_at t x) (first_at t y) ≡ true = rw (← s.is) (sym tested.is ∙ low) in
            rw test
            (on_left B (p.done A (rw (el, s.is) s.left) (omega arith) (good_left (rows A) (y ∷ rows B) g)) (rw s.is at q) (rw (er, s.is) s.right) s.valid
            (λ j i i'. good-apart (rows A) (y ∷ rows B) g i (there i'))
            (good_less (less_left (y ∷ rows B) less) g)
            (λ j i. mem_left (rows A) (y ∷ rows B) i)
            (λ j i. mem_less (less_left (y ∷ rows B) less) i))

    module _ {after : Bool} (high : before ≡ false) (tested' : StartsBefore t k x after) where
      pub removes_right : {t₁ : List ℕ} {m : ℕ} → after ≡ true → Removed t t₁ r x (n - 1) m → Made t₁ t₂ l k m (updated 1) o → Removed t t₂ k x n o
      unfolding Shape height rows removed
      removes_right {t₁} {m} low' p q = record { done = go }
        where
          go : (T : Tree) → Shape t k T → height T ≤ n → Good (rows T) → Result t t₂ o (removed (first_at t) x T) (rows T)
          go leaf s h g = absurd (nz s)
          go (node A y B) s h g =
              let less : Less (rows (removed (first_at t) x B)) (rows B) = removed_less (first_at t) x B in
              let g_b : Good (rows B) = good_right (y ∷ []) (rows B) (good_right (rows A) (y ∷ rows B) g) in
              let less' : Less (rows A ++ y ∷ rows (removed (first_at t) x B)) (rows A ++ y ∷ rows B) = less_right (rows A) (less_right (y ∷ []) less) in
              let test : ltb (first_at t x) (first_at t y) ≡ false = rw (← s.is) (sym tested.is ∙ high) in
              let test' : ltb (first_at t y) (first_at t x) ≡ true = rw (← s.is) (sym tested'.is ∙ low') in
              rw (test, test')
              (on_right A (p.done B (rw (er, s.is) s.right) (omega arith) g_b) (rw s.is at q) (rw (el, s.is) s.left) s.valid
              (λ j i i'. good-apart (rows A) (y ∷ rows B) g i' (there i))
              (good_less less' g)
              (λ j i. mem_right (rows A) (y ∷ rows B) (there i))
              (λ j i. mem_less less' i))

      pub removes_here : after ≡ false → Glued t t₂ l r n o → Removed t t₂ k x n o
      unfolding Shape height rows removed
      removes_here high' p = record { done = go }
        where
          go : (T : Tree) → Shape t k T → height T ≤ n → Good (rows T) → Result t t₂ o (removed (first_at t) x T) (rows T)
          go leaf s h g = absurd (nz s)
          go (node A y B) s h g =
              let less : Less (rows A ++ rows B) (rows A ++ y ∷ rows B) = but y (record { front = rows A; back = rows B; without = refl; with_it = refl }) in
              let one : Result t t₂ o (glued A B) (rows A ++ rows B) = p.done A B (rw (el, s.is) s.left) (rw (er, s.is) s.right) (omega arith) (good_less less g) in
              let test : ltb (first_at t x) (first_at t y) ≡ false = rw (← s.is) (sym tested.is ∙ high) in
              let test' : ltb (first_at t y) (first_at t x) ≡ false = rw (← s.is) (sym tested'.is ∙ high') in
              rw (test, test')
              (record { shape = one.shape; only = only_wider (λ j i. mem_less less i) one.only })

-- the steps, one for each return
pub ruleset removing = (least-none, least_here, least_left, without-least-none, without-least_here, without-least_left, glues_none, glues, removes_none, removes_stop, removes_left, removes_right, removes_here)
