-- The tree does not depend on the order in which blocks are added, where any two that live together differ in first cell, as rule 24 says: the
-- tree of finish, which adds in recorded order, is that of any order. Assumes nothing.
use mathlib.Core.Path.{◌≡◌, refl, ap, sym, ◌∙◌}
use mathlib.Core.Logic.{inl, inr, ◌≢◌}
use mathlib.Core.Bool.{Bool, true, false, cond, ◌&&◌}
use mathlib.Core.List.{List, [], ◌∷◌}
use Prim.Native.Nat.{ℕ, zero, suc, ◌+◌, ◌<◌}
use native.Mathlib.Omega.{arith}
use lib.ListN.{length}
use lib.Dec.{ltb, eqb}
use borrow.Author.Tests.{ltb-true, eq-eqb, ne_eqb}
use Rattle.lists.specs.Lists.{All, Mem, here, there, count}
use Rattle.lists.proofs.Numbers.{bool_cases, lt_or_le, eq_or_ne, and_left}
use Rattle.lists.proofs.Counting.{count_here, count_mem}
use Rattle.history.specs.Words.{Block, only_kind}
use Rattle.history.specs.Tree.{Tree, node, mid, halves, covers, entries_of, left_of, right_of, add_location, block_at, key_in}
use Rattle.history.specs.Rules.{Apart}
use Rattle.history.proofs.TreeInserting.{insert-two}
use Rattle.history.proofs.TreeAdding.{covers-inside, made, listed, deeper, add_here, add_last, add_below, add_block}
use Rattle.history.proofs.TreePath.{block_none}
use Rattle.history.proofs.TreeSorted.{Standing, Together, cells_differ}
use Rattle.history.proofs.ByKind.{only_length}

-- ── two blocks ──

-- A goes to a half where u says so and B where v does: in either order the half is the same
abbrev Either : (u v : Bool) (A B : Tree → Tree) (T : Tree) → Type 0
Either u v A B T = cond u (A (cond v (B T) T)) (cond v (B T) T) ≡ cond v (B (cond u (A T) T)) (cond u (A T) T)

either : (u v : Bool) (A B : Tree → Tree) (T : Tree) → (u ≡ true → v ≡ true → A (B T) ≡ B (A T)) → Either u v A B T
either true true A B T h = h refl refl
either true false A B T h = refl
either false true A B T h = refl
either false false A B T h = refl

module _ (key : ℕ → ℕ) (at : ℕ → Block) (a b : ℕ) (differ : Together (at a) (at b) → key a ≢ key b) where
  abbrev add_a : (n lo hi : ℕ) → Tree → Tree
  add_a n lo hi T = add_location key n a (at a).created (at a).destroyed lo hi T

  abbrev add_b : (n lo hi : ℕ) → Tree → Tree
  add_b n lo hi T = add_location key n b (at b).created (at b).destroyed lo hi T

  Commutes : (n lo hi : ℕ) (T : Tree) → Type 0
  Commutes n lo hi T = add_a n lo hi (add_b n lo hi T) ≡ add_b n lo hi (add_a n lo hi T)

  abbrev covers_a : (lo hi : ℕ) → Bool
  covers_a lo hi = covers (at a).created (at a).destroyed lo hi

  abbrev covers_b : (lo hi : ℕ) → Bool
  covers_b lo hi = covers (at b).created (at b).destroyed lo hi

  here_a : (n lo hi : ℕ) (T : Tree) → covers_a lo hi ≡ true → add_a n lo hi T ≡ listed key a T
  here_a n lo hi T e = add_here key a (at a).created (at a).destroyed lo hi T n e

  here_b : (n lo hi : ℕ) (T : Tree) → covers_b lo hi ≡ true → add_b n lo hi T ≡ listed key b T
  here_b n lo hi T e = add_here key b (at b).created (at b).destroyed lo hi T n e

  -- both list in the node: both are live at its first tick
  both_here : (n lo hi : ℕ) (T : Tree) → lo < hi → covers_a lo hi ≡ true → covers_b lo hi ≡ true → Commutes n lo hi T
  unfolding Commutes
  both_here n lo hi T w e f =
      let p = covers-inside (at a).created (at a).destroyed lo hi e in
      let q = covers-inside (at b).created (at b).destroyed lo hi f in
      let both : Together (at a) (at b) = record { tick = lo; born = p.0; alive = omega (arith, p.1); other_born = q.0; other_alive = omega (arith, q.1) } in
      ap (add_a n lo hi) (here_b n lo hi T f)
      ∙ here_a n lo hi (listed key b T) e
      ∙ ap (λ (l : List ℕ). node l (left_of T) (right_of T)) (insert-two key a b (entries_of T) (differ both))
      ∙ sym (ap (add_b n lo hi) (here_a n lo hi T e) ∙ here_b n lo hi (listed key a T) f)

  -- at the last level
  two_last : (lo hi : ℕ) (T : Tree) → lo < hi → Commutes 0 lo hi T
  unfolding Commutes
  two_last lo hi T w =
      elim (bool_cases (covers_a lo hi)) [
        | inl e ↦ elim (bool_cases (covers_b lo hi)) [
          | inl f ↦ both_here 0 lo hi T w e f
          | inr f ↦ ap (add_a 0 lo hi) (last_b T f) ∙ here_a 0 lo hi (made T) e ∙ sym (ap (add_b 0 lo hi) (here_a 0 lo hi T e) ∙ last_b (listed key a T) f)
        ]
        | inr e ↦ elim (bool_cases (covers_b lo hi)) [
          | inl f ↦ ap (add_a 0 lo hi) (here_b 0 lo hi T f) ∙ last_a (listed key b T) e ∙ sym (ap (add_b 0 lo hi) (last_a T e) ∙ here_b 0 lo hi (made T) f)
          | inr f ↦ ap (add_a 0 lo hi) (last_b T f) ∙ last_a (made T) e ∙ sym (ap (add_b 0 lo hi) (last_a T e) ∙ last_b (made T) f)
        ]
      ]
    where
      last_a : (X : Tree) → covers_a lo hi ≡ false → add_a 0 lo hi X ≡ made X
      last_a X e = add_last key a (at a).created (at a).destroyed lo hi X e

      last_b : (X : Tree) → covers_b lo hi ≡ false → add_b 0 lo hi X ≡ made X
      last_b X f = add_last key b (at b).created (at b).destroyed lo hi X f

  -- Two blocks may be added in either order.
  pub add_two : (n lo hi : ℕ) (T : Tree) → lo < hi → add_a n lo hi (add_b n lo hi T) ≡ add_b n lo hi (add_a n lo hi T)
  unfolding Commutes
  add_two zero lo hi T w = two_last lo hi T w
  add_two (suc n) lo hi T w =
      elim (bool_cases (covers_a lo hi)) [
        | inl e ↦ elim (bool_cases (covers_b lo hi)) [
          | inl f ↦ both_here (suc n) lo hi T w e f
          | inr f ↦ ap (add_a (suc n) lo hi) (below_b T f) ∙ here_a (suc n) lo hi (deep_b T) e ∙ sym (ap (add_b (suc n) lo hi) (here_a (suc n) lo hi T e) ∙ below_b (listed key a T) f)
        ]
        | inr e ↦ elim (bool_cases (covers_b lo hi)) [
          | inl f ↦ ap (add_a (suc n) lo hi) (here_b (suc n) lo hi T f) ∙ below_a (listed key b T) e ∙ sym (ap (add_b (suc n) lo hi) (below_a T e) ∙ here_b (suc n) lo hi (deep_a T) f)
          | inr f ↦
              ap (add_a (suc n) lo hi) (below_b T f)
              ∙ below_a (deep_b T) e
              ∙ both_below (either left_a left_b (add_a n lo (mid lo hi)) (add_b n lo (mid lo hi)) (left_of T) (λ u v. add_two n lo (mid lo hi) (left_of T) (wide u)))
              (either right_a right_b (add_a n (mid lo hi) hi) (add_b n (mid lo hi) hi) (right_of T) (λ u v. add_two n (mid lo hi) hi (right_of T) (omega arith)))
              ∙ sym (ap (add_b (suc n) lo hi) (below_a T e) ∙ below_b (deep_a T) f)
        ]
      ]
    where
      deep_a : Tree → Tree
      deep_a X = deeper key a (at a).created (at a).destroyed lo hi X n

      deep_b : Tree → Tree
      deep_b X = deeper key b (at b).created (at b).destroyed lo hi X n

      below_a : (X : Tree) → covers_a lo hi ≡ false → add_a (suc n) lo hi X ≡ deep_a X
      below_a X e = add_below key a (at a).created (at a).destroyed lo hi X n e

      below_b : (X : Tree) → covers_b lo hi ≡ false → add_b (suc n) lo hi X ≡ deep_b X
      below_b X f = add_below key b (at b).created (at b).destroyed lo hi X n f

      left_a : Bool
      left_a = halves lo hi && ltb (at a).created (mid lo hi)

      left_b : Bool
      left_b = halves lo hi && ltb (at b).created (mid lo hi)

      right_a : Bool
      right_a = halves lo hi && ltb (mid lo hi) (at a).destroyed

      right_b : Bool
      right_b = halves lo hi && ltb (mid lo hi) (at b).destroyed

      wide : left_a ≡ true → lo < mid lo hi
      wide u = let v : lo + 1 < hi = ltb-true (lo + 1) hi (and_left (halves lo hi) (ltb (at a).created (mid lo hi)) u) in omega arith

      both_below : Either left_a left_b (add_a n lo (mid lo hi)) (add_b n lo (mid lo hi)) (left_of T) → Either right_a right_b (add_a n (mid lo hi) hi) (add_b n (mid lo hi) hi) (right_of T)
          → deep_a (deep_b T) ≡ deep_b (deep_a T)
      both_below left right = rw (left, right)

-- ── any order ──

-- the blocks of these numbers added one after the other
unfoldable pub add_each : (at : ℕ → Block) (key : ℕ → ℕ) (end : ℕ) (numbers : List ℕ) → Tree → Tree
add_each at key e [] T = T
add_each at key e (k ∷ ks) T = add_each at key e ks (add_block at key e k T)

-- the list with the first x left out
unfoldable without : (x : ℕ) → List ℕ → List ℕ
without x [] = []
without x (y ∷ ys) =
    let rest = y ∷ without x ys in
    cond (eqb x y) ys rest

without_here : (x : ℕ) (ys : List ℕ) → without x (x ∷ ys) ≡ ys
unfolding without
without_here x ys = rw (eq-eqb x x refl)

without_there : (x y : ℕ) (ys : List ℕ) → x ≢ y → without x (y ∷ ys) ≡ y ∷ without x ys
unfolding without
without_there x y ys n = rw (ne_eqb x y n)

count-without : (k x : ℕ) (ys : List ℕ) → Mem x ys → count k ys ≡ count k (x ∷ without x ys)
unfolding count
count-without k x [] m = elim m [ ]
count-without k x (y ∷ ys) m =
    elim (eq_or_ne x y) [
      | inl e ↦ rw e (rw (without_here y ys))
      | inr n ↦ rw (without_there x y ys n) (turn (count-without k x ys (later m n)))
    ]
  where
    later : Mem x (y ∷ ys) → x ≢ y → Mem x ys
    later (here e) n = absurd (n e)
    later (there m) n = m

    turn : count k ys ≡ count k (x ∷ without x ys) → count k (y ∷ ys) ≡ count k (x ∷ y ∷ without x ys)
    turn h = omega arith

module _ (at : ℕ → Block) (key : ℕ → ℕ) (e : ℕ) (some : 0 < e) (differ : (i j : ℕ) → i ≢ j → Together (at i) (at j) → key i ≢ key j) where
  -- a block may come first
  each_first : (x : ℕ) (ys : List ℕ) (T : Tree) → Mem x ys → add_each at key e ys T ≡ add_each at key e (without x ys) (add_block at key e x T)
  unfolding add_each
  each_first x [] T m = elim m [ ]
  each_first x (y ∷ ys) T m =
      elim (eq_or_ne x y) [
        | inl s ↦ rw s (rw (without_here y ys))
        | inr n ↦ rw (without_there x y ys n) (each_first x ys (add_block at key e y T) (later m n) ∙ ap (add_each at key e (without x ys)) (add_two key at x y (differ x y n) 63 0 e T some))
      ]
    where
      later : Mem x (y ∷ ys) → x ≢ y → Mem x ys
      later (here s) n = absurd (n s)
      later (there m) n = m

  -- Lists of the same numbers give the same tree.
  pub each_order : (xs ys : List ℕ) (T : Tree) → ((k : ℕ) → count k xs ≡ count k ys) → add_each at key e xs T ≡ add_each at key e ys T
  unfolding add_each count
  each_order [] [] T h = refl
  each_order [] (y ∷ ys) T h = absurd (omega (arith, h y, count_here y ys))
  each_order (x ∷ xs) ys T h =
      let m : Mem x ys = count_mem x ys (omega (arith, h x, count_here x xs)) in
      each_order xs (without x ys) (add_block at key e x T) (λ k. omega (arith, h k, count-without k x ys m))
      ∙ sym (each_first x ys T m)

-- ── the tree of a kind ──

-- the kind's blocks that live together differ in first cell, whichever has the lower number
pub cells_apart : (kind : ℕ) (bs : List Block) → Apart bs → All Standing bs → (i j : ℕ) → i ≢ j
    → Together (block_at (only_kind kind bs) i) (block_at (only_kind kind bs) j) → key_in bs i ≢ key_in bs j
cells_apart kind bs apart standing i j n both =
    elim (lt_or_le i j) [
      | inl h ↦ cells_differ kind bs apart standing i j h (there_is j both.tick both.other_alive) both
      | inr h ↦ (λ q. cells_differ kind bs apart standing j i (omega arith) (there_is i both.tick both.alive) (turn both) (sym q))
    ]
  where
    there_is : (k t : ℕ) → t < (block_at (only_kind kind bs) k).destroyed → k < length bs
    there_is k t h =
        elim (lt_or_le k (length bs)) [
          | inl l ↦ l
          | inr l ↦ absurd (let none : (block_at (only_kind kind bs) k).destroyed ≡ 0 = rw (block_none k (only_kind kind bs) (rw (only_length kind bs) l)) in omega arith)
        ]

    turn : Together (block_at (only_kind kind bs) i) (block_at (only_kind kind bs) j) → Together (block_at (only_kind kind bs) j) (block_at (only_kind kind bs) i)
    turn b = record { tick = b.tick; born = b.other_born; alive = b.other_alive; other_born = b.born; other_alive = b.alive }
