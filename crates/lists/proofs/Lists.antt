-- Laws of All, Pairs, Mem and Distinct. Assumes nothing.
use mathlib.Core.Path.{◌≡◌, refl, sym, ap, ◌∙◌}
use mathlib.Core.Logic.{◌⊎◌, inl, inr, ⊎_elim}
use mathlib.Core.List.{List, [], ◌∷◌, ◌++◌, map}
use Prim.Native.Nat.{ℕ, zero, suc, ◌+◌, ◌<◌}
use native.Mathlib.Omega.{arith}
use lib.ListN.{length, get_or}
use Rattle.lists.specs.Lists.{All, all_nil, all_cons, Pairs, pairs_nil, pairs_cons, Ascending, Mem, here, there, Distinct, count, count_from, sum_of}

-- ── All ──

module _ {A : Type 0} where
  pub all_append : {P : A → Type 0} {xs ys : List A} → All P xs → All P ys → All P (xs ++ ys)
  all_append all_nil b = b
  all_append (all_cons p ps) b = all_cons p (all_append ps b)

  pub all_left : {P : A → Type 0} (xs ys : List A) → All P (xs ++ ys) → All P xs
  all_left [] ys h = all_nil
  all_left (x ∷ xs) ys (all_cons p ps) = all_cons p (all_left xs ys ps)

  pub all_right : {P : A → Type 0} (xs ys : List A) → All P (xs ++ ys) → All P ys
  all_right [] ys h = h
  all_right (x ∷ xs) ys (all_cons p ps) = all_right xs ys ps

  pub all_head : {P : A → Type 0} {x : A} {xs : List A} → All P (x ∷ xs) → P x
  all_head (all_cons p ps) = p

  pub all_tail : {P : A → Type 0} {x : A} {xs : List A} → All P (x ∷ xs) → All P xs
  all_tail (all_cons p ps) = ps

  pub all_map : {P Q : A → Type 0} {xs : List A} → ((x : A) → P x → Q x) → All P xs → All Q xs
  all_map f all_nil = all_nil
  all_map f (all_cons {x} p ps) = all_cons (f x p) (all_map f ps)

  pub all_both : {P Q R : A → Type 0} {xs : List A} → ((x : A) → P x → Q x → R x) → All P xs → All Q xs → All R xs
  all_both f all_nil all_nil = all_nil
  all_both f (all_cons {x} p ps) (all_cons q qs) = all_cons (f x p q) (all_both f ps qs)

  pub all_any : {P : A → Type 0} (xs : List A) → ((x : A) → P x) → All P xs
  all_any [] f = all_nil
  all_any (x ∷ xs) f = all_cons (f x) (all_any xs f)

  -- what holds of all holds of a member, and what holds of every member holds of all
  pub all_mem : {P : A → Type 0} {x : A} {xs : List A} → All P xs → Mem x xs → P x
  all_mem {P = P} all_nil x4 = elim x4 [ ]
  all_mem {P} (all_cons p ps) (here e) = rw e p
  all_mem (all_cons p ps) (there m) = all_mem ps m

  pub all_of_mem : {P : A → Type 0} (xs : List A) → ((x : A) → Mem x xs → P x) → All P xs
  all_of_mem [] f = all_nil
  all_of_mem (x ∷ xs) f = all_cons (f x (here refl)) (all_of_mem xs (λ y m. f y (there m)))

  -- what holds of all holds at each place
  pub all_at : {P : A → Type 0} {xs : List A} (d : A) → All P xs → (i : ℕ) → i < length xs → P (get_or xs i d)
  all_at d all_nil i h = absurd (omega arith)
  all_at d (all_cons p ps) zero h = p
  all_at d (all_cons p ps) (suc i) h = all_at d ps i (omega arith)

  pub all_of_at : {P : A → Type 0} (d : A) (xs : List A) → ((i : ℕ) → i < length xs → P (get_or xs i d)) → All P xs
  all_of_at d [] f = all_nil
  all_of_at d (x ∷ xs) f = all_cons (f 0 (omega arith)) (all_of_at d xs (λ i h. f (suc i) (omega arith)))

module _ {A B : Type 0} where
  -- of what a function makes of the elements
  pub all_of_map : {Q : B → Type 0} (f : A → B) {xs : List A} → All (λ (x : A). Q (f x)) xs → All Q (map f xs)
  all_of_map f all_nil = all_nil
  all_of_map f (all_cons p ps) = all_cons p (all_of_map f ps)

  pub all_un_map : {Q : B → Type 0} (f : A → B) (xs : List A) → All Q (map f xs) → All (λ (x : A). Q (f x)) xs
  all_un_map f [] h = all_nil
  all_un_map f (x ∷ xs) (all_cons p ps) = all_cons p (all_un_map f xs ps)

-- ── Pairs ──

module _ {A : Type 0} where
  pub pairs-append : {R : A → A → Type 0} {xs ys : List A} → Pairs R xs → Pairs R ys → All (λ x. All (R x) ys) xs → Pairs R (xs ++ ys)
  pairs-append pairs_nil b all_nil = b
  pairs-append (pairs_cons a r) b (all_cons c cs) = pairs_cons (all_append a c) (pairs-append r b cs)

  pub pairs_left : {R : A → A → Type 0} (xs ys : List A) → Pairs R (xs ++ ys) → Pairs R xs
  pairs_left [] ys h = pairs_nil
  pairs_left (x ∷ xs) ys (pairs_cons a r) = pairs_cons (all_left xs ys a) (pairs_left xs ys r)

  pub pairs_right : {R : A → A → Type 0} (xs ys : List A) → Pairs R (xs ++ ys) → Pairs R ys
  pairs_right [] ys h = h
  pairs_right (x ∷ xs) ys (pairs_cons a r) = pairs_right xs ys r

  -- each of the first against each of the second
  pub pairs_across : {R : A → A → Type 0} (xs ys : List A) → Pairs R (xs ++ ys) → All (λ x. All (R x) ys) xs
  pairs_across [] ys h = all_nil
  pairs_across (x ∷ xs) ys (pairs_cons a r) = all_cons (all_right xs ys a) (pairs_across xs ys r)

  pub pairs-map : {R S : A → A → Type 0} {xs : List A} → ((x y : A) → R x y → S x y) → Pairs R xs → Pairs S xs
  pairs-map f pairs_nil = pairs_nil
  pairs-map f (pairs_cons {x} a r) = pairs_cons (all_map (f x) a) (pairs-map f r)

  -- the earlier place against the later one
  pub pairs_at : {R : A → A → Type 0} {xs : List A} (d : A) → Pairs R xs → (i j : ℕ) → i < j → j < length xs → R (get_or xs i d) (get_or xs j d)
  pairs_at d pairs_nil i j h z = absurd (omega arith)
  pairs_at d (pairs_cons a r) i zero h z = absurd (omega arith)
  pairs_at d (pairs_cons a r) zero (suc j) h z = all_at d a j (omega arith)
  pairs_at d (pairs_cons a r) (suc i) (suc j) h z = pairs_at d r i j (omega arith) (omega arith)

  pub pairs_of_at : {R : A → A → Type 0} (d : A) (xs : List A) → ((i j : ℕ) → i < j → j < length xs → R (get_or xs i d) (get_or xs j d)) → Pairs R xs
  pairs_of_at d [] f = pairs_nil
  pairs_of_at d (x ∷ xs) f =
      pairs_cons (all_of_at d xs (λ j h. f 0 (suc j) (omega arith) (omega arith))) (pairs_of_at d xs (λ i j h z. f (suc i) (suc j) (omega arith) (omega arith)))

-- ── Mem ──

module _ {A : Type 0} where
  pub mem_left : {k : A} (xs ys : List A) → Mem k xs → Mem k (xs ++ ys)
  mem_left {k = k} [] ys x' = elim x' [ ]
  mem_left (x ∷ xs) ys (here e) = here e
  mem_left (x ∷ xs) ys (there m) = there (mem_left xs ys m)

  pub mem_right : {k : A} (xs ys : List A) → Mem k ys → Mem k (xs ++ ys)
  mem_right [] ys m = m
  mem_right (x ∷ xs) ys m = there (mem_right xs ys m)

  pub mem_split : {k : A} (xs ys : List A) → Mem k (xs ++ ys) → Mem k xs ⊎ Mem k ys
  mem_split [] ys m = inr m
  mem_split (x ∷ xs) ys (here e) = inl (here e)
  mem_split (x ∷ xs) ys (there m) = ⊎_elim (λ n. inl (there n)) (λ n. inr n) (mem_split xs ys m)

  pub mem_at : (d : A) (xs : List A) (i : ℕ) → i < length xs → Mem (get_or xs i d) xs
  mem_at d [] i h = absurd (omega arith)
  mem_at d (x ∷ xs) zero h = here refl
  mem_at d (x ∷ xs) (suc i) h = there (mem_at d xs i (omega arith))

  -- where a member stands
  pub mem_place : (d : A) {x : A} {xs : List A} → Mem x xs → (i : ℕ) × (i < length xs) × (get_or xs i d ≡ x)
  mem_place d (here e) = (0, omega arith, sym e)
  mem_place d (there m) = let p = mem_place d m in (suc p.0, omega (arith, p.1), p.2)

module _ {A B : Type 0} where
  pub mem_map : (f : A → B) {k : A} {xs : List A} → Mem k xs → Mem (f k) (map f xs)
  mem_map f (here e) = here (ap f e)
  mem_map f (there m) = there (mem_map f m)

-- ── Distinct ──

module _ {A : Type 0} where
  pub distinct_left : (xs ys : List A) → Distinct (xs ++ ys) → Distinct xs
  distinct_left [] ys d = tt
  distinct_left (x ∷ xs) ys d = ((λ m. d.0 (mem_left xs ys m)), distinct_left xs ys d.1)

  pub distinct_right : (xs ys : List A) → Distinct (xs ++ ys) → Distinct ys
  distinct_right [] ys d = d
  distinct_right (x ∷ xs) ys d = distinct_right xs ys d.1

  pub distinct_append : (xs ys : List A) → Distinct xs → Distinct ys → ((k : A) → Mem k xs → Mem k ys → ⊥) → Distinct (xs ++ ys)
  distinct_append [] ys d e f = e
  distinct_append (x ∷ xs) ys d e f =
      ((λ m. ⊎_elim d.0 (λ z. f x (here refl) z) (mem_split xs ys m)), distinct_append xs ys d.1 e (λ k m z. f k (there m) z))

  -- keys that ascend strictly are those of distinct elements
  pub ascending_distinct : (key : A → ℕ) {xs : List A} → Ascending key xs → Distinct xs
  ascending_distinct key pairs_nil = tt
  ascending_distinct key (pairs_cons {x} a p) = ((λ m. omega (arith, all_mem {P = λ y. key x < key y} a m)), ascending_distinct key p)

  pub distinct_apart : {k : A} (xs ys : List A) → Distinct (xs ++ ys) → Mem k xs → Mem k ys → ⊥
  distinct_apart {k = k} [] ys d x3 n = elim x3 [ ]
  distinct_apart (x ∷ xs) ys d (here e) n = d.0 (mem_right xs ys (rw (← e) n))
  distinct_apart (x ∷ xs) ys d (there m) n = distinct_apart xs ys d.1 m n

-- ── counting ──

pub count-append : (k : ℕ) (xs ys : List ℕ) → count k (xs ++ ys) ≡ count k xs + count k ys
unfolding count
count-append k [] ys = omega arith
count-append k (x ∷ xs) ys = omega (arith, count-append k xs ys)

pub count_from_length : (n many : ℕ) → length (count_from n many) ≡ many
unfolding count_from
count_from_length n zero = refl
count_from_length n (suc many) = ap suc (count_from_length (suc n) many)

pub count_from_at : (n many i : ℕ) → i < many → get_or (count_from n many) i 0 ≡ n + i
unfolding count_from
count_from_at n zero i h = absurd (omega arith)
count_from_at n (suc many) zero h = omega arith
count_from_at n (suc many) (suc i) h = count_from_at (suc n) many i (omega arith) ∙ omega arith

pub sum-append : (xs ys : List ℕ) → sum_of (xs ++ ys) ≡ sum_of xs + sum_of ys
unfolding sum_of
sum-append [] ys = omega arith
sum-append (x ∷ xs) ys = omega (arith, sum-append xs ys)
