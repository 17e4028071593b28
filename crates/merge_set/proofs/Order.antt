-- The operations of the model keep the order of the links. Assumes nothing.
use mathlib.Core.Bool.{Bool, true, false, cond}
use mathlib.Core.List.{List, [], ◌∷◌, ◌++◌, append_assoc, append-nil}
use mathlib.Core.Logic.{◌⊎◌, inl, inr}
use mathlib.Core.Path.{◌≡◌, refl, sym, ap, ◌∙◌}
use Prim.Native.Nat.{ℕ, zero, suc, ◌+◌, ◌<◌, ◌≤◌}
use native.Mathlib.Omega.{arith}
use lib.Dec.{ltb, eqb}
use borrow.Author.Tests.{lt-ltb, le-ltb, ltb-true, ltb-false, eqb-true, eqb-false}
use Rattle.lists.proofs.Lists.{mem_split, pairs_across, pairs_right, all_mem, pairs_left}
use Rattle.lists.specs.Lists.{Mem, here, there, Ascending, pairs_cons}
use Rattle.merge_set.proofs.Links.{Put, put_left, put_right, Less, all, but, less_left, less_right, Swapped, kept, swap, swapped_left, swapped_right, Exchanged, exchanged_left, exchanged_right}
use Rattle.merge_set.specs.Tree.{Tree, leaf, node, height, rows, Maker, rotated_left, rotated_right, straight_right, straight_left, updated, inserted, in_order, least, without_least, glued, removed, relinked}

-- ── keys that ascend ──

module _ (key : ℕ → ℕ) where
  -- parts of a list that ascends
  pub ascending_left : (xs ys : List ℕ) → Ascending key (xs ++ ys) → Ascending key xs
  ascending_left xs ys a = pairs_left xs ys a

  pub ascending_right : (xs ys : List ℕ) → Ascending key (xs ++ ys) → Ascending key ys
  ascending_right xs ys a = pairs_right xs ys a

  pub ascending_head : {x : ℕ} {xs : List ℕ} → Ascending key (x ∷ xs) → (k : ℕ) → Mem k xs → key x < key k
  ascending_head (pairs_cons a r) k m = all_mem a m

  pub ascending_tail : {x : ℕ} {xs : List ℕ} → Ascending key (x ∷ xs) → Ascending key xs
  ascending_tail (pairs_cons a r) = r

  -- each of the first is below each of the second
  pub ascending_across : (xs ys : List ℕ) → Ascending key (xs ++ ys) → (j k : ℕ) → Mem j xs → Mem k ys → key j < key k
  ascending_across xs ys a j k i m = all_mem (all_mem (pairs_across xs ys a) i) m

-- ── update and the rotations keep the list of links ──

-- a maker that keeps the order
pub record Orderly (u : Maker) : Type 0 where
  pub order : (a : Tree) (x : ℕ) (b : Tree) → rows (u a x b) ≡ rows a ++ x ∷ rows b

-- either way of a choice
cond-rows : (q : Bool) (S T : Tree) {zs : List ℕ} → rows S ≡ zs → rows T ≡ zs → rows (cond q S T) ≡ zs
cond-rows true S T e f = e
cond-rows false S T e f = f

module _ (u : Maker) (o : Orderly u) where
  -- rotations keep the list
  rotated_left-rows : (a : Tree) (x : ℕ) (b : Tree) → rows (rotated_left u a x b) ≡ rows a ++ x ∷ rows b
  unfolding rows rotated_left
  rotated_left-rows a x leaf = refl
  rotated_left-rows a x (node b y c) = rw (o.order (u a x b) y c, o.order a x b) (append_assoc (rows a) (x ∷ rows b) (y ∷ rows c))

  rotated_right-rows : (a : Tree) (x : ℕ) (b : Tree) → rows (rotated_right u a x b) ≡ rows a ++ x ∷ rows b
  unfolding rows rotated_right
  rotated_right-rows leaf x c = refl
  rotated_right-rows (node a y b) x c = rw (o.order a y (u b x c), o.order b x c) (sym (append_assoc (rows a) (y ∷ rows b) (x ∷ rows c)))

  pub rotated_left_orderly : Orderly (rotated_left u)
  rotated_left_orderly = record { order = rotated_left-rows }

  pub rotated_right_orderly : Orderly (rotated_right u)
  rotated_right_orderly = record { order = rotated_right-rows }

  -- and so does turning a subtree first
  straight_right-rows : (b : Tree) → rows (straight_right u b) ≡ rows b
  unfolding straight_right rows
  straight_right-rows leaf = refl
  straight_right-rows (node b y c) = cond-rows (ltb (height c + 0) (height b)) (rotated_right u b y c) (node b y c) (rotated_right-rows b y c) refl

  straight_left-rows : (b : Tree) → rows (straight_left u b) ≡ rows b
  unfolding straight_left rows
  straight_left-rows leaf = refl
  straight_left-rows (node b y c) = cond-rows (ltb (height b + 0) (height c)) (rotated_left u b y c) (node b y c) (rotated_left-rows b y c) refl

-- so update keeps it, however many rotations are left
pub updated_orderly : (k : ℕ) → Orderly (updated k)
unfolding updated rows
updated_orderly zero = record { order = λ a x b. refl }
updated_orderly (suc k) =
    let o : Orderly (updated k) = updated_orderly k in
    record {
      order = λ a x b.
          cond-rows (ltb (height a + 1) (height b)) _ _
          (rotated_left-rows (updated k) o a x (straight_right (updated k) b) ∙ ap (λ l. rows a ++ x ∷ l) (straight_right-rows (updated k) o b))
          (cond-rows (ltb (height b + 1) (height a)) _ _
          (rotated_right-rows (updated k) o (straight_left (updated k) a) x b ∙ ap (λ l. l ++ x ∷ rows b) (straight_left-rows (updated k) o a))
          refl);
    }

-- ── insertion ──

cond_put : {n : ℕ} {xs : List ℕ} (q : Bool) (S T : Tree) → Put n xs (rows S) → Put n xs (rows T) → Put n xs (rows (cond q S T))
cond_put true S T p r = p
cond_put false S T p r = r

-- insertion puts the link somewhere
pub inserted_put : (key : ℕ → ℕ) (n : ℕ) (T : Tree) → Put n (rows T) (rows (inserted key n T))
unfolding inserted rows
inserted_put key n leaf = record { front = []; back = []; without = refl; with_it = refl }
inserted_put key n (node a x b) =
    cond_put (ltb (key n) (key x)) (updated 1 (inserted key n a) x b) (updated 1 a x (inserted key n b))
    (rw ((updated_orderly 1).order (inserted key n a) x b) (put_left (x ∷ rows b) (inserted_put key n a)))
    (rw ((updated_orderly 1).order a x (inserted key n b)) (put_right (rows a) (put_right (x ∷ []) (inserted_put key n b))))

-- insertion on the list: in front of the first with a greater key
in_order_left : (key : ℕ → ℕ) (n x : ℕ) (xs ys : List ℕ) → key n < key x → in_order key n (xs ++ x ∷ ys) ≡ in_order key n xs ++ x ∷ ys
unfolding in_order
in_order_left key n x [] ys h = rw (lt-ltb (key n) (key x) h)
in_order_left key n x (w ∷ xs) ys h = go (ltb (key n) (key w)) (in_order_left key n x xs ys h)
  where
    go : (q : Bool) → in_order key n (xs ++ x ∷ ys) ≡ in_order key n xs ++ x ∷ ys
        → cond q (n ∷ w ∷ (xs ++ x ∷ ys)) (w ∷ in_order key n (xs ++ x ∷ ys)) ≡ cond q (n ∷ w ∷ xs) (w ∷ in_order key n xs) ++ x ∷ ys
    go true e = refl
    go false e = rw e

-- behind all whose keys are not greater
in_order_right : (key : ℕ → ℕ) (n x : ℕ) (xs ys : List ℕ) → ((k : ℕ) → Mem k xs → key k < key x) → key x ≤ key n
    → in_order key n (xs ++ x ∷ ys) ≡ xs ++ x ∷ in_order key n ys
unfolding in_order
in_order_right key n x [] ys f h = rw (le-ltb (key n) (key x) h)
in_order_right key n x (w ∷ xs) ys f h =
    rw (le-ltb (key n) (key w) (omega (arith, f w (here refl))), in_order_right key n x xs ys (λ k m. f k (there m)) h)

-- in a tree in order, the new link is put in order
pub inserted-rows : (key : ℕ → ℕ) (n : ℕ) (T : Tree) → Ascending key (rows T) → rows (inserted key n T) ≡ in_order key n (rows T)
unfolding inserted rows in_order
inserted-rows key n leaf a = refl
inserted-rows key n (node S x T) a =
    go (ltb (key n) (key x)) refl (inserted-rows key n S (ascending_left key (rows S) (x ∷ rows T) a)) (inserted-rows key n T (ascending_tail key (ascending_right key (rows S) (x ∷ rows T) a)))
  where
    go : (q : Bool) → ltb (key n) (key x) ≡ q → rows (inserted key n S) ≡ in_order key n (rows S) → rows (inserted key n T) ≡ in_order key n (rows T)
        → rows (cond q (updated 1 (inserted key n S) x T) (updated 1 S x (inserted key n T))) ≡ in_order key n (rows S ++ x ∷ rows T)
    go true e f g = rw ((updated_orderly 1).order (inserted key n S) x T, f) (sym (in_order_left key n x (rows S) (rows T) (ltb-true (key n) (key x) e)))
    go false e f g =
        rw ((updated_orderly 1).order S x (inserted key n T), g)
        (sym (in_order_right key n x (rows S) (rows T) (λ k m. ascending_across key (rows S) (x ∷ rows T) a k x m (here refl)) (ltb-false (key n) (key x) e)))

-- ── removal ──

-- a tree that is no leaf is its first link and the without_least
pub without_least-rows : (a : Tree) (x : ℕ) (b : Tree) → rows (node a x b) ≡ least (node a x b) ∷ rows (without_least (node a x b))
unfolding rows least without_least
without_least-rows leaf x b = refl
without_least-rows (node a y c) x b = rw ((updated_orderly 1).order (without_least (node a y c)) x b) (ap (λ l. l ++ x ∷ rows b) (without_least-rows a y c))

-- two trees as one
pub glued-rows : (a b : Tree) → rows (glued a b) ≡ rows a ++ rows b
unfolding glued rows
glued-rows a leaf = sym (append-nil (rows a))
glued-rows a (node b x c) = rw ((updated_orderly 1).order a (least (node b x c)) (without_least (node b x c))) (ap (λ l. rows a ++ l) (sym (without_least-rows b x c)))

-- either way of a choice
cond_less : {zs : List ℕ} (q : Bool) (S T : Tree) → Less (rows S) zs → Less (rows T) zs → Less (rows (cond q S T)) zs
cond_less true S T p r = p
cond_less false S T p r = r

-- without the link between them
glued_put : (a : Tree) (y : ℕ) (b : Tree) → Put y (rows (glued a b)) (rows a ++ y ∷ rows b)
glued_put a y b = record { front = rows a; back = rows b; without = glued-rows a b; with_it = refl }

-- removal leaves out one link at most
pub removed_less : (key : ℕ → ℕ) (x : ℕ) (T : Tree) → Less (rows (removed key x T)) (rows T)
unfolding removed rows
removed_less key x leaf = all refl
removed_less key x (node a y b) =
    cond_less (ltb (key x) (key y)) (updated 1 (removed key x a) y b) (cond (ltb (key y) (key x)) (updated 1 a y (removed key x b)) (glued a b))
    (rw ((updated_orderly 1).order (removed key x a) y b) (less_left (y ∷ rows b) (removed_less key x a)))
    (cond_less (ltb (key y) (key x)) (updated 1 a y (removed key x b)) (glued a b)
    (rw ((updated_orderly 1).order a y (removed key x b)) (less_right (rows a) (less_right (y ∷ []) (removed_less key x b))))
    (but y (glued_put a y b)))

-- in a tree in order the link that goes is the one that was asked for
pub removed_put : (key : ℕ → ℕ) (x : ℕ) (T : Tree) → Ascending key (rows T) → Mem x (rows T) → Put x (rows (removed key x T)) (rows T)
unfolding removed rows
removed_put key x leaf asc m = elim m [ ]
removed_put key x (node a y b) asc m =
    go (ltb (key x) (key y)) refl (ltb (key y) (key x)) refl (mem_split (rows a) (y ∷ rows b) m)
    (removed_put key x a (ascending_left key (rows a) (y ∷ rows b) asc)) (removed_put key x b (ascending_tail key (ascending_right key (rows a) (y ∷ rows b) asc)))
  where
    before : (j : ℕ) → Mem j (rows a) → key j < key y
    before j i = ascending_across key (rows a) (y ∷ rows b) asc j y i (here refl)

    after : (j : ℕ) → Mem j (rows b) → key y < key j
    after j i = ascending_head key (ascending_right key (rows a) (y ∷ rows b) asc) j i

    on_l : Put x (rows (removed key x a)) (rows a) → Put x (rows (updated 1 (removed key x a) y b)) (rows a ++ y ∷ rows b)
    on_l p = rw ((updated_orderly 1).order (removed key x a) y b) (put_left (y ∷ rows b) p)

    on_r : Put x (rows (removed key x b)) (rows b) → Put x (rows (updated 1 a y (removed key x b))) (rows a ++ y ∷ rows b)
    on_r p = rw ((updated_orderly 1).order a y (removed key x b)) (put_right (rows a) (put_right (y ∷ []) p))

    Goal : Bool → Bool → Type 0
    Goal q r = Put x (rows (cond q (updated 1 (removed key x a) y b) (cond r (updated 1 a y (removed key x b)) (glued a b)))) (rows a ++ y ∷ rows b)

    right : (q : Bool) → ltb (key x) (key y) ≡ q → (r : Bool) → ltb (key y) (key x) ≡ r → Mem x (y ∷ rows b) → (Mem x (rows b) → Put x (rows (removed key x b)) (rows b)) → Goal q r
    right true e r f (here z) g = absurd (omega (arith, ltb-true (key x) (key y) e, ap key z))
    right true e r f (there i) g = absurd (omega (arith, ltb-true (key x) (key y) e, after x i))
    right false e true f (here z) g = absurd (omega (arith, ltb-true (key y) (key x) f, ap key z))
    right false e true f (there i) g = on_r (g i)
    right false e false f (here z) g = rw z (glued_put a y b)
    right false e false f (there i) g = absurd (omega (arith, ltb-false (key y) (key x) f, after x i))

    go : (q : Bool) → ltb (key x) (key y) ≡ q → (r : Bool) → ltb (key y) (key x) ≡ r → Mem x (rows a) ⊎ Mem x (y ∷ rows b)
        → (Mem x (rows a) → Put x (rows (removed key x a)) (rows a)) → (Mem x (rows b) → Put x (rows (removed key x b)) (rows b)) → Goal q r
    go true e r f (inl i) h g = on_l (h i)
    go false e r f (inl i) h g = absurd (omega (arith, ltb-false (key x) (key y) e, before x i))
    go q e r f (inr i) h g = right q e r f i g

-- ── relinking ──

pub relinked_swapped : (key : ℕ → ℕ) (y x : ℕ) (T : Tree) → Swapped y x (rows T) (rows (relinked key y x T))
unfolding relinked rows
relinked_swapped key y x leaf = kept refl
relinked_swapped key y x (node a z b) = go (eqb z y) refl (ltb (key y) (key z)) (relinked_swapped key y x a) (relinked_swapped key y x b)
  where
    go : (q : Bool) → eqb z y ≡ q → (r : Bool) → Swapped y x (rows a) (rows (relinked key y x a)) → Swapped y x (rows b) (rows (relinked key y x b))
        → Swapped y x (rows a ++ z ∷ rows b) (rows (cond q (node a x b) (cond r (node (relinked key y x a) z b) (node a z (relinked key y x b)))))
    go true e r f g = swap (rows a) (rows b) (ap (λ j. rows a ++ j ∷ rows b) (eqb-true z y e)) refl
    go false e true f g = swapped_left (z ∷ rows b) f
    go false e false f g = swapped_right (rows a) (swapped_right (z ∷ []) g)

-- in a tree in order it exchanges the one that was asked for
pub relinked_finds : (key : ℕ → ℕ) (y x : ℕ) (T : Tree) → Ascending key (rows T) → Mem y (rows T) → Exchanged y x (rows T) (rows (relinked key y x T))
unfolding relinked rows
relinked_finds key y x leaf asc m = elim m [ ]
relinked_finds key y x (node a z b) asc m =
    go (eqb z y) refl (ltb (key y) (key z)) refl (mem_split (rows a) (z ∷ rows b) m)
    (relinked_finds key y x a (ascending_left key (rows a) (z ∷ rows b) asc)) (relinked_finds key y x b (ascending_tail key (ascending_right key (rows a) (z ∷ rows b) asc)))
  where
    before : (j : ℕ) → Mem j (rows a) → key j < key z
    before j i = ascending_across key (rows a) (z ∷ rows b) asc j z i (here refl)

    after : (j : ℕ) → Mem j (rows b) → key z < key j
    after j i = ascending_head key (ascending_right key (rows a) (z ∷ rows b) asc) j i

    Goal : Bool → Bool → Type 0
    Goal q r = Exchanged y x (rows a ++ z ∷ rows b) (rows (cond q (node a x b) (cond r (node (relinked key y x a) z b) (node a z (relinked key y x b)))))

    right : (r : Bool) → eqb z y ≡ false → ltb (key y) (key z) ≡ r → Mem y (z ∷ rows b) → (Mem y (rows b) → Exchanged y x (rows b) (rows (relinked key y x b))) → Goal false r
    right r e f (here h) g = absurd (eqb-false z y e (sym h))
    right true e f (there i) g = absurd (omega (arith, ltb-true (key y) (key z) f, after y i))
    right false e f (there i) g = exchanged_right (rows a) (exchanged_right (z ∷ []) (g i))

    go : (q : Bool) → eqb z y ≡ q → (r : Bool) → ltb (key y) (key z) ≡ r → Mem y (rows a) ⊎ Mem y (z ∷ rows b)
        → (Mem y (rows a) → Exchanged y x (rows a) (rows (relinked key y x a))) → (Mem y (rows b) → Exchanged y x (rows b) (rows (relinked key y x b))) → Goal q r
    go true e r f i h g = record { front = rows a; back = rows b; old = ap (λ j. rows a ++ j ∷ rows b) (eqb-true z y e); new = refl }
    go false e true f (inl i) h g = exchanged_left (z ∷ rows b) (h i)
    go false e false f (inl i) h g = absurd (omega (arith, ltb-false (key y) (key z) f, before y i))
    go false e r f (inr i) h g = right r e f i g
