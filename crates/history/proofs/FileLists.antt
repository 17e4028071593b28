-- Laws of lists, and of tests over lists, that the file's laws use. Assumes nothing.
use mathlib.Core.Path.{◌≡◌, refl, ap₂}
use mathlib.Core.Bool.{Bool, ◌&&◌}
use mathlib.Core.List.{List, map}
use Prim.Native.Nat.{ℕ}
use lib.Dec.{ltb}
use Rattle.lists.specs.Lists.{All, all_nil, all_cons}
use Rattle.lists.proofs.Lists.{all_map}
use Rattle.history.specs.Rules.{every, ascends}

-- ── tests of a mapped list ──

module _ {A B : Type 0} where
  -- a test of what a function makes of the elements
  pub every_map : (f : A → B) (p : B → Bool) (q : A → Bool) {xs : List A} → All (λ x. p (f x) ≡ q x) xs → every p (map f xs) ≡ every q xs
  unfolding every
  every_map f p q all_nil = refl
  every_map f p q (all_cons e es) = ap₂ (λ (a b : Bool). a && b) e (every_map f p q es)

-- keys that are kept
pub ascends-map : (f : ℕ → ℕ) (key' key : ℕ → ℕ) {xs : List ℕ} → All (λ x. key' (f x) ≡ key x) xs → ascends key' (map f xs) ≡ ascends key xs
unfolding ascends
ascends-map f key' key all_nil = refl
ascends-map f key' key (all_cons {x} {xs} e es) =
    ap₂ (λ (a b : Bool). a && b)
    (every_map f (λ y. ltb (key' (f x)) (key' y)) (λ y. ltb (key x) (key y)) (all_map (λ y d. ap₂ ltb e d) es))
    (ascends-map f key' key es)
