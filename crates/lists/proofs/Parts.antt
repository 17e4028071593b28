-- Parts of a list, `take m (drop k l)`: of a part, of an appended list, and beside what is written. Assumes nothing.
use mathlib.Core.Path.{◌≡◌, refl, sym, ◌∙◌, ap}
use mathlib.Core.List.{List, [], ◌∷◌, ◌++◌}
use Prim.Native.Nat.{ℕ, zero, suc, ◌+◌, ◌-◌, ◌≤◌}
use native.Mathlib.Omega.{arith}
use lib.ListN.{length, set, take, drop, length-drop}
use lib.Seq.{sets, take-take, drop-drop, take-nil, take-append-le, drop-append-le, take-set-le}

module _ {A : Type 0} where
  pub drop-take : (d n : ℕ) (l : List A) → drop d (take n l) ≡ take (n - d) (drop d l)
  drop-take zero n l = let e : n - 0 ≡ n = omega arith in rw e
  drop-take (suc d) zero l = let e : 0 - suc d ≡ 0 = omega arith in rw e
  drop-take (suc d) (suc n) [] = sym (take-nil (suc n - suc d))
  drop-take (suc d) (suc n) (x ∷ l) = let e : suc n - suc d ≡ n - d = omega arith in rw e (drop-take d n l)

  -- a part of a part is a part
  pub part-part : (k n d m : ℕ) (l : List A) → d + m ≤ n → take m (drop d (take n (drop k l))) ≡ take m (drop (k + d) l)
  part-part k n d m l h =
      ap (λ (r : List A). take m r) (drop-take d n (drop k l))
      ∙ take-take m (n - d) (drop d (drop k l)) (omega arith)
      ∙ ap (λ (r : List A). take m r) (drop-drop d k l)

  -- a part of the front of a list is a part of the list
  pub part-append : (k m : ℕ) (l r : List A) → k + m ≤ length l → take m (drop k (l ++ r)) ≡ take m (drop k l)
  part-append k m l r h =
      ap (λ (x : List A). take m x) (drop-append-le k l r (omega arith))
      ∙ take-append-le m (drop k l) r (omega (arith, length-drop k l))

-- ── in front of what is written ──

part-set : (n p : ℕ) (l : List ℕ) (i x : ℕ) → p + n ≤ i → take n (drop p (set l i x)) ≡ take n (drop p l)
part-set n zero l i x h = take-set-le n l i x (omega arith)
part-set n (suc p) [] i x h = refl
part-set n (suc p) (y ∷ l) zero x h = absurd (omega arith)
part-set n (suc p) (y ∷ l) (suc i) x h = part-set n p l i x (omega arith)

pub part-sets : (n p : ℕ) (l : List ℕ) (i : ℕ) (xs : List ℕ) → p + n ≤ i → take n (drop p (sets l i xs)) ≡ take n (drop p l)
part-sets n p l i [] h = refl
part-sets n p l i (x ∷ xs) h = part-sets n p (set l i x) (suc i) xs (omega arith) ∙ part-set n p l i x h
