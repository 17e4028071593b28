-- Laws of map and filter_map. Assumes nothing.
use mathlib.Core.Path.{◌≡◌, refl, sym, ◌∙◌, ap, ap₂, fun_ext}
use mathlib.Core.Bool.{Bool, true, false, cond}
use mathlib.Core.Option.{Option, none, some, Option-elim}
use mathlib.Core.List.{List, [], ◌∷◌, ◌++◌, map, filter_map, Option-to_list}
use Prim.Native.Nat.{ℕ, zero, suc, ◌<◌}
use native.Mathlib.Omega.{arith}
use lib.ListN.{length, get_or}
use Rattle.lists.specs.Lists.{All, all_nil, all_cons, Pairs, pairs_nil, pairs_cons}
use Rattle.lists.proofs.Lists.{all_of_map}

-- ── map ──

module _ {A B : Type 0} where
  pub map-append : (f : A → B) (xs ys : List A) → map f (xs ++ ys) ≡ map f xs ++ map f ys
  map-append f [] ys = refl
  map-append f (x ∷ xs) ys = ap (λ (r : List B). f x ∷ r) (map-append f xs ys)

  pub length_of_map : (f : A → B) (xs : List A) → length (map f xs) ≡ length xs
  length_of_map f [] = refl
  length_of_map f (x ∷ xs) = ap suc (length_of_map f xs)

  pub get_d_of_map : (f : A → B) (xs : List A) (i : ℕ) (a : A) (b : B) → i < length xs → get_or (map f xs) i b ≡ f (get_or xs i a)
  get_d_of_map f [] i a b h = absurd (omega arith)
  get_d_of_map f (x ∷ xs) zero a b h = refl
  get_d_of_map f (x ∷ xs) (suc i) a b h = get_d_of_map f xs i a b (omega arith)

  -- two functions that agree on the elements
  pub map_all : (f g : A → B) {xs : List A} → All (λ (x : A). f x ≡ g x) xs → map f xs ≡ map g xs
  map_all f g all_nil = refl
  map_all f g (all_cons e es) = ap₂ (λ (y : B) (r : List B). y ∷ r) e (map_all f g es)

module _ {A : Type 0} where
  -- a function that changes nothing
  pub map_same : (f : A → A) {xs : List A} → All (λ x. f x ≡ x) xs → map f xs ≡ xs
  map_same f all_nil = refl
  map_same f (all_cons p ps) = ap₂ (λ (y : A) (ys : List A). y ∷ ys) p (map_same f ps)

module _ {A B C : Type 0} where
  -- one after the other
  pub map-map : (g : B → C) (f : A → B) (xs : List A) → map g (map f xs) ≡ map (λ (x : A). g (f x)) xs
  map-map g f [] = refl
  map-map g f (x ∷ xs) = ap (λ (r : List C). g (f x) ∷ r) (map-map g f xs)

  pub filter_map_map : (g : B → Option C) (f : A → B) (xs : List A) → filter_map g (map f xs) ≡ filter_map (λ (x : A). g (f x)) xs
  unfolding filter_map
  filter_map_map g f [] = refl
  filter_map_map g f (x ∷ xs) = ap (λ (r : List C). Option-elim (g (f x)) r (λ c. c ∷ r)) (filter_map_map g f xs)

module _ {A B : Type 0} where
  -- of a choice
  pub map-cond : (f : A → B) (t : Bool) (xs ys : List A) → map f (cond t xs ys) ≡ cond t (map f xs) (map f ys)
  map-cond f true xs ys = refl
  map-cond f false xs ys = refl

  pub pairs_of_map : {R : B → B → Type 0} (f : A → B) {xs : List A} → Pairs (λ (x y : A). R (f x) (f y)) xs → Pairs R (map f xs)
  pairs_of_map f pairs_nil = pairs_nil
  pairs_of_map f (pairs_cons a p) = pairs_cons (all_of_map f a) (pairs_of_map f p)

-- ── filter_map ──

module _ {A B : Type 0} where
  pub filter_map_ext : {f g : A → Option B} (l : List A) → ((x : A) → f x ≡ g x) → filter_map f l ≡ filter_map g l
  filter_map_ext l h = ap (λ (f : A → Option B). filter_map f l) (fun_ext h)

  pub filter_map_none : (l : List A) → filter_map {B = B} (λ (x : A). none) l ≡ []
  unfolding filter_map
  filter_map_none [] = refl
  filter_map_none (x ∷ xs) = filter_map_none xs

  -- a test that does not look at the element
  pub filter_map-cond : (t : Bool) (f : A → Option B) (l : List A) → filter_map (λ (x : A). cond t (f x) none) l ≡ cond t (filter_map f l) []
  filter_map-cond true f l = refl
  filter_map-cond false f l = filter_map_none l

  pub filter_map_cons : (f : A → Option B) (x : A) (l : List A) → filter_map f (x ∷ l) ≡ Option-to_list (f x) ++ filter_map f l
  unfolding filter_map Option-to_list
  filter_map_cons f x l = go (f x)
    where
      go : (o : Option B) → Option-elim o (filter_map f l) (λ b. b ∷ filter_map f l) ≡ Option-to_list o ++ filter_map f l
      go none = refl
      go (some b) = refl

  -- two functions that agree on the elements
  pub filter_map_all : (f g : A → Option B) {xs : List A} → All (λ (x : A). f x ≡ g x) xs → filter_map f xs ≡ filter_map g xs
  unfolding filter_map
  filter_map_all f g all_nil = refl
  filter_map_all f g (all_cons {x} {xs} e es) =
      filter_map_cons f x xs ∙ ap₂ (λ (o : Option B) (r : List B). Option-to_list o ++ r) e (filter_map_all f g es) ∙ sym (filter_map_cons g x xs)

  pub all_filter_map : {P : A → Type 0} {Q : B → Type 0} (f : A → Option B) {xs : List A} → ((x : A) (y : B) → f x ≡ some y → P x → Q y) → All P xs → All Q (filter_map f xs)
  unfolding filter_map
  all_filter_map f h all_nil = all_nil
  all_filter_map {P} {Q} f h (all_cons {x} {xs} p ps) = go (f x) refl (all_filter_map f h ps)
    where
      go : (o : Option B) → f x ≡ o → All Q (filter_map f xs) → All Q (Option-elim o (filter_map f xs) (λ b. b ∷ filter_map f xs))
      go none e r = r
      go (some y) e r = all_cons (h x y e p) r

  pub pairs-filter_map : {R : A → A → Type 0} {S : B → B → Type 0} (f : A → Option B) {xs : List A}
      → ((x y : A) (x' y' : B) → f x ≡ some x' → f y ≡ some y' → R x y → S x' y') → Pairs R xs → Pairs S (filter_map f xs)
  unfolding filter_map
  pairs-filter_map f h pairs_nil = pairs_nil
  pairs-filter_map {R} {S} f h (pairs_cons {x} {xs} a w) = go (f x) refl (pairs-filter_map f h w)
    where
      go : (o : Option B) → f x ≡ o → Pairs S (filter_map f xs) → Pairs S (Option-elim o (filter_map f xs) (λ b. b ∷ filter_map f xs))
      go none e r = r
      go (some x') e r = pairs_cons (all_filter_map f (λ y y' e'. h x y x' y' e e') a) r
