-- `copy_row`, its invariant; `relink`, one step for each return. Assumes nothing.
use mathlib.Core.Bool.{Bool, true, false}
use mathlib.Core.List.{List, [], ◌∷◌, ◌++◌, append_assoc}
use mathlib.Core.Path.{◌≡◌, refl, sym, ◌∙◌}
use Prim.Native.Nat.{ℕ, ◌-◌, ◌<◌, ◌≤◌}
use native.Mathlib.Omega.{arith}
use lib.ListN.{length}
use lib.Dec.{ltb}
use borrow.Author.Tests.{eq-eqb, ne_eqb}
use Rattle.lists.proofs.Lists.{mem_left, mem_right}
use Rattle.lists.specs.Lists.{there}
use Rattle.history.specs.Lent.{row_width}
use Rattle.tables.specs.Columns.{column, piece_right, piece_left}
use Rattle.merge_set.proofs.Frame.{on_left, on_right}
use Rattle.merge_set.proofs.Links.{good_left, good_right, good-apart, Swapped, swapped_left, swapped_right, mem_swapped, good_swapped, good_put, mem_put, Put}
use Rattle.merge_set.proofs.Order.{relinked_swapped}
use Rattle.merge_set.proofs.Removing.{unchanged}
use Rattle.merge_set.specs.Table.{StartsBefore, Good, Valid, Shape, Result, Made, CopyOf, Relinked, first_at}
use Rattle.merge_set.specs.Tree.{Tree, leaf, node, height, rows, relinked}

module _ {t : List ℕ} {k y x n : ℕ} where
  -- an empty tree; here; no fuel, which cannot be; left, right
  pub relinks_none : k ≡ 0 → Relinked t t k y x n k
  unfolding Shape relinked
  relinks_none z = record { done = go }
    where
      go : (T : Tree) → Shape t k T → height T ≤ n → CopyOf t y x → Good (x ∷ rows T) → Result t t k (relinked (first_at t) y x T) (x ∷ rows T)
      go leaf s h c g = unchanged s
      go (node a w b) s h c g = absurd (omega (arith, s.is, s.valid.some))

  module _ (nz : k ≡ 0 → ⊥) where
    pub relinks_here : k ≡ y → Relinked t t k y x n x
    unfolding Shape relinked height
    relinks_here e = record { done = go }
      where
        go : (T : Tree) → Shape t k T → height T ≤ n → CopyOf t y x → Good (x ∷ rows T) → Result t t x (relinked (first_at t) y x T) (x ∷ rows T)
        go leaf s h c g = absurd (nz s)
        go (node a w b) s h c g =
            let wy : w ≡ y = sym s.is ∙ e in
            rw (eq-eqb w y wy)
            (unchanged
            (record {
              is = refl;
              valid = c.valid;
              left = rw (c.same 4 (omega arith), ← wy) s.left;
              right = rw (c.same 5 (omega arith), ← wy) s.right;
              deep = c.same 6 (omega arith) ∙ rw (← wy) s.deep;
            }))

    module _ (ny : k ≡ y → ⊥) where
      pub relinks_stop : n ≡ 0 → Relinked t t k y x n k
      unfolding Shape height
      relinks_stop z = record { done = go }
        where
          go : (T : Tree) → Shape t k T → height T ≤ n → CopyOf t y x → Good (x ∷ rows T) → Result t t k (relinked (first_at t) y x T) (x ∷ rows T)
          go leaf s h c g = absurd (nz s)
          go (node a w b) s h c g = absurd (omega arith)

      module _ {l r m o : ℕ} {t₁ t₂ : List ℕ} {before : Bool} (el : l ≡ column t k piece_left) (er : r ≡ column t k piece_right) (tested : StartsBefore t y k before) where
        pub relinks_left : before ≡ true → Relinked t t₁ l y x (n - 1) m → Made t₁ t₂ m k r node o → Relinked t t₂ k y x n o
        unfolding Shape height rows relinked
        relinks_left low p q = record { done = go }
          where
            go : (T : Tree) → Shape t k T → height T ≤ n → CopyOf t y x → Good (x ∷ rows T) → Result t t₂ o (relinked (first_at t) y x T) (x ∷ rows T)
            go leaf s h c g = absurd (nz s)
            go (node A w B) s h c g =
                let sw : Swapped y x (rows A ++ w ∷ rows B) (rows (relinked (first_at t) y x A) ++ w ∷ rows B) = swapped_left (w ∷ rows B) (relinked_swapped (first_at t) y x A) in
                let q' : Made t₁ t₂ m w r node o = rw s.is at q in
                let test : ltb (first_at t y) (first_at t w) ≡ true = rw (← s.is) (sym tested.is ∙ low) in
                rw (ne_eqb w y (λ z. ny (s.is ∙ z)), test)
                (on_left B (p.done A (rw (el, s.is) s.left) (omega arith) c (good_left (x ∷ rows A) (w ∷ rows B) g)) q' (rw (er, s.is) s.right) s.valid
                (λ j i i'. good-apart (x ∷ rows A) (w ∷ rows B) g i (there i'))
                (good_swapped sw g)
                (λ j i. mem_left (x ∷ rows A) (w ∷ rows B) i)
                (λ j i. mem_swapped sw i))

        pub relinks_right : before ≡ false → Relinked t t₁ r y x (n - 1) m → Made t₁ t₂ l k m node o → Relinked t t₂ k y x n o
        unfolding Shape height rows relinked
        relinks_right high p q = record { done = go }
          where
            go : (T : Tree) → Shape t k T → height T ≤ n → CopyOf t y x → Good (x ∷ rows T) → Result t t₂ o (relinked (first_at t) y x T) (x ∷ rows T)
            go leaf s h c g = absurd (nz s)
            go (node A w B) s h c g =
                let sw : Swapped y x (rows A ++ w ∷ rows B) (rows A ++ w ∷ rows (relinked (first_at t) y x B)) = swapped_right (rows A) (swapped_right (w ∷ []) (relinked_swapped (first_at t) y x B)) in
                let q' : Made t₁ t₂ l w m node o = rw s.is at q in
                let turn : Put x (rows A ++ w ∷ rows B) ((rows A ++ w ∷ []) ++ x ∷ rows B) = record { front = rows A ++ w ∷ []; back = rows B; without = sym (append_assoc (rows A) (w ∷ []) (rows B)); with_it = refl } in
                let gs : Good ((rows A ++ w ∷ []) ++ x ∷ rows B) = good_put turn g in
                let test : ltb (first_at t y) (first_at t w) ≡ false = rw (← s.is) (sym tested.is ∙ high) in
                rw (ne_eqb w y (λ z. ny (s.is ∙ z)), test)
                (on_right A (p.done B (rw (er, s.is) s.right) (omega arith) c (good_right (rows A ++ w ∷ []) (x ∷ rows B) gs)) q' (rw (el, s.is) s.left) s.valid
                (λ j i i'. good-apart (rows A ++ w ∷ []) (x ∷ rows B) gs (mem_left (rows A) (w ∷ []) i') i)
                (good_swapped sw g)
                (λ j i. mem_put turn (mem_right (rows A ++ w ∷ []) (x ∷ rows B) i))
                (λ j i. mem_swapped sw i))

-- the columns below i are copied
pub record Copying (t t' : List ℕ) (y x i : ℕ) : Type 0 where
  pub small : i ≤ 8
  pub len : length t' ≡ length t
  pub upto : Valid t x → (c : ℕ) → c < i → column t' x c ≡ column t y c
  pub rest : (k c : ℕ) → c < row_width → (k ≡ x → ⊥) → column t' k c ≡ column t k c

-- the steps, one for each return
pub ruleset relinking = (relinks_none, relinks_here, relinks_stop, relinks_left, relinks_right)
