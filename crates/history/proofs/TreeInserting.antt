-- A block number put at its place among entries: what stands in the list then, its order, and that two may be put in in either order.
-- Assumes nothing.
use mathlib.Core.Path.{◌≡◌, refl, ap, sym, ◌∙◌}
use mathlib.Core.Logic.{inl, inr, ◌≢◌}
use mathlib.Core.Bool.{Bool, true, false, cond}
use mathlib.Core.List.{List, [], ◌∷◌}
use Prim.Native.Nat.{ℕ, suc, ◌+◌, ◌≤◌, ◌<◌}
use native.Mathlib.Omega.{arith}
use lib.ListN.{length}
use lib.Dec.{ltb, eqb}
use borrow.Author.Tests.{lt-ltb, le-ltb}
use Rattle.lists.specs.Lists.{All, all_nil, all_cons, Ascending, pairs_nil, pairs_cons, count}
use Rattle.lists.proofs.Numbers.{le_or_lt, lt_or_le}
use Rattle.lists.proofs.Lists.{all_map}
use Rattle.history.specs.Tree.{insert}

-- ── its place ──

module _ (key : ℕ → ℕ) (b : ℕ) where
  pub insert_nil : insert key b [] ≡ b ∷ []
  unfolding insert
  insert_nil = refl

  pub insert_front : (x : ℕ) (xs : List ℕ) → key b < key x → insert key b (x ∷ xs) ≡ b ∷ x ∷ xs
  unfolding insert
  insert_front x xs h = rw (lt-ltb (key b) (key x) h)

  pub insert-on : (x : ℕ) (xs : List ℕ) → key x ≤ key b → insert key b (x ∷ xs) ≡ x ∷ insert key b xs
  unfolding insert
  insert-on x xs h = rw (le-ltb (key b) (key x) h)

-- ── what stands in the list ──

-- 1 where k is b
abbrev pub one : (k b : ℕ) → ℕ
one k b = cond (eqb k b) 1 0

pub count-insert : (key : ℕ → ℕ) (k b : ℕ) (xs : List ℕ) → count k (insert key b xs) ≡ one k b + count k xs
unfolding count insert
count-insert key k b [] = refl
count-insert key k b (x ∷ xs) = choose (ltb (key b) (key x)) (count-insert key k b xs)
  where
    choose : (u : Bool) → count k (insert key b xs) ≡ one k b + count k xs
        → count k (cond u (b ∷ x ∷ xs) (x ∷ insert key b xs)) ≡ one k b + (one k x + count k xs)
    choose true h = refl
    choose false h = omega arith

pub insert-length : (key : ℕ → ℕ) (b : ℕ) (xs : List ℕ) → length (insert key b xs) ≡ suc (length xs)
insert-length key b [] = rw (insert_nil key b)
insert-length key b (x ∷ xs) =
    elim (lt_or_le (key b) (key x)) [
      | inl h ↦ rw (insert_front key b x xs h)
      | inr h ↦ rw (insert-on key b x xs h) (ap suc (insert-length key b xs))
    ]

pub insert_all : {P : ℕ → Type 0} (key : ℕ → ℕ) (b : ℕ) {xs : List ℕ} → P b → All P xs → All P (insert key b xs)
insert_all key b p all_nil = rw (insert_nil key b) (all_cons p all_nil)
insert_all key b p (all_cons {x} {xs} q qs) =
    elim (lt_or_le (key b) (key x)) [
      | inl h ↦ rw (insert_front key b x xs h) (all_cons p (all_cons q qs))
      | inr h ↦ rw (insert-on key b x xs h) (all_cons q (insert_all key b p qs))
    ]

-- ── order ──

-- a key that is not there yet keeps the keys ascending
pub insert_ascending : (key : ℕ → ℕ) (b : ℕ) {xs : List ℕ} → All (λ x. key x ≢ key b) xs → Ascending key xs → Ascending key (insert key b xs)
insert_ascending key b all_nil pairs_nil = rw (insert_nil key b) (pairs_cons all_nil pairs_nil)
insert_ascending key b (all_cons {x} {xs} n ns) (pairs_cons a p) =
    elim (lt_or_le (key b) (key x)) [
      | inl h ↦ rw (insert_front key b x xs h) (pairs_cons (all_cons h (all_map (λ y l. omega arith) a)) (pairs_cons a p))
      | inr h ↦ rw (insert-on key b x xs h) (pairs_cons (insert_all key b (omega arith) a) (insert_ascending key b ns p))
    ]

-- of two keys the smaller comes first, whichever is put in first
insert_less : (key : ℕ → ℕ) (a b : ℕ) (xs : List ℕ) → key a < key b → insert key a (insert key b xs) ≡ insert key b (insert key a xs)
insert_less key a b [] h =
    ap (insert key a) (insert_nil key b)
    ∙ insert_front key a b [] h
    ∙ sym (ap (insert key b) (insert_nil key a) ∙ insert-on key b a [] (omega arith) ∙ ap (λ (l : List ℕ). a ∷ l) (insert_nil key b))
insert_less key a b (x ∷ xs) h =
    elim (le_or_lt (key x) (key b)) [
      | inl p ↦ elim (le_or_lt (key x) (key a)) [
        | inl q ↦
            ap (insert key a) (insert-on key b x xs p)
            ∙ insert-on key a x (insert key b xs) q
            ∙ ap (λ (l : List ℕ). x ∷ l) (insert_less key a b xs h)
            ∙ sym (ap (insert key b) (insert-on key a x xs q) ∙ insert-on key b x (insert key a xs) p)
        | inr q ↦
            ap (insert key a) (insert-on key b x xs p)
            ∙ insert_front key a x (insert key b xs) q
            ∙ sym (ap (insert key b) (insert_front key a x xs q) ∙ insert-on key b a (x ∷ xs) (omega arith) ∙ ap (λ (l : List ℕ). a ∷ l) (insert-on key b x xs p))
      ]
      | inr p ↦
          ap (insert key a) (insert_front key b x xs p)
          ∙ insert_front key a b (x ∷ xs) h
          ∙ sym (ap (insert key b) (insert_front key a x xs (omega arith)) ∙ insert-on key b a (x ∷ xs) (omega arith) ∙ ap (λ (l : List ℕ). a ∷ l) (insert_front key b x xs p))
    ]

pub insert-two : (key : ℕ → ℕ) (a b : ℕ) (xs : List ℕ) → key a ≢ key b → insert key a (insert key b xs) ≡ insert key b (insert key a xs)
insert-two key a b xs n =
    elim (le_or_lt (key b) (key a)) [
      | inl p ↦ sym (insert_less key b a xs (omega arith))
      | inr p ↦ insert_less key a b xs p
    ]
