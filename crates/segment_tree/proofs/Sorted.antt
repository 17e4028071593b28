-- The tree whose runs are sorted: blocks that are added to the ends of runs, in recorded order, give the tree of finish once every run is sorted.
-- Assumes nothing.
use mathlib.Core.Path.{◌≡◌, refl, ap, sym, ◌∙◌}
use mathlib.Core.Logic.{inl, inr}
use mathlib.Core.Bool.{Bool, true, false, cond, ◌&&◌}
use mathlib.Core.List.{List, [], ◌∷◌, ◌++◌, map}
use Prim.Native.Nat.{ℕ, zero, suc, ◌+◌, ◌≤◌, ◌<◌}
use native.Mathlib.Omega.{arith}
use lib.ListN.{length}
use lib.Dec.{ltb}
use Rattle.lists.specs.Lists.{All, all_nil, all_cons, Pairs, pairs_nil, pairs_cons}
use Rattle.lists.proofs.Numbers.{bool_cases, lt_or_le}
use Rattle.lists.proofs.Lists.{all_map, all_append, pairs-append}
use Rattle.history.specs.Words.{Block}
use Rattle.history.specs.Tree.{Tree, hole, node, mid, halves, covers, entries_of, left_of, right_of, insert, add_location}
use Rattle.history.proofs.TreeInserting.{insert_nil, insert_front, insert-on, insert-length, insert_all}
use Rattle.history.proofs.TreeAdding.{add_here, add_last, add_below, add_block}
use Rattle.history.proofs.TreeOrder.{add_each}
use Rattle.entry_sort.specs.Rows.{Row, a_row, Less, by_key, by_block, le_key, insert_row, sort_rows}
use Rattle.entry_sort.proofs.Order as rows
use Rattle.segment_tree.proofs.Presence.{bare}

-- ── a run ──

-- each number of the second list put at its place, one after the other
unfoldable sorted_onto : (key : ℕ → ℕ) (sorted numbers : List ℕ) → List ℕ
sorted_onto key ys [] = ys
sorted_onto key ys (x ∷ xs) = sorted_onto key (insert key x ys) xs

pub sorted_by : (key : ℕ → ℕ) → List ℕ → List ℕ
sorted_by key xs = sorted_onto key [] xs

sorted_nil : (key : ℕ → ℕ) → sorted_by key [] ≡ []
unfolding sorted_by sorted_onto
sorted_nil key = refl

-- with the keys all the same a number goes to the end
pub insert_last : (b : ℕ) (xs : List ℕ) → insert (λ _. 0) b xs ≡ xs ++ b ∷ []
insert_last b [] = insert_nil (λ _. 0) b
insert_last b (x ∷ xs) = insert-on (λ _. 0) b x xs (omega arith) ∙ ap (λ (l : List ℕ). x ∷ l) (insert_last b xs)

onto_last : (key : ℕ → ℕ) (b : ℕ) (ys xs : List ℕ) → sorted_onto key ys (xs ++ b ∷ []) ≡ insert key b (sorted_onto key ys xs)
unfolding sorted_onto
onto_last key b ys [] = refl
onto_last key b ys (x ∷ xs) = onto_last key b (insert key x ys) xs

sorted_insert : (key : ℕ → ℕ) (b : ℕ) (xs : List ℕ) → sorted_by key (insert (λ _. 0) b xs) ≡ insert key b (sorted_by key xs)
unfolding sorted_by
sorted_insert key b xs = ap (sorted_onto key []) (insert_last b xs) ∙ onto_last key b [] xs

pub sorted-length : (key : ℕ → ℕ) (xs : List ℕ) → length (sorted_by key xs) ≡ length xs
unfolding sorted_by sorted_onto
sorted-length key xs = go [] xs ∙ omega arith
  where
    go : (ys xs : List ℕ) → length (sorted_onto key ys xs) ≡ length ys + length xs
    go ys [] = omega arith
    go ys (x ∷ xs) = go (insert key x ys) xs ∙ omega (arith, insert-length key x ys)

pub sorted_all : {P : ℕ → Type 0} (key : ℕ → ℕ) {xs : List ℕ} → All P xs → All P (sorted_by key xs)
unfolding sorted_by sorted_onto
sorted_all {P} key h = go all_nil h
  where
    go : {ys xs : List ℕ} → All P ys → All P xs → All P (sorted_onto key ys xs)
    go a all_nil = a
    go {ys = ys} a (all_cons {x} p ps) = go {ys = insert key x ys} (insert_all key x p a) ps

-- ── its rows ──

-- the entry of a block
abbrev pub row_of : (key : ℕ → ℕ) (x : ℕ) → Row
row_of key x = a_row x (key x)

-- each row of the second list at its place among the first
unfoldable onto : (sorted rows : List Row) → List Row
onto ys [] = ys
onto ys (x ∷ xs) = insert_row x (onto ys xs)

onto-insert : (r : Row) (ys xs : List Row) → onto (insert_row r ys) xs ≡ insert_row r (onto ys xs)
unfolding onto
onto-insert r ys [] = refl
onto-insert r ys (x ∷ xs) = ap (insert_row x) (onto-insert r ys xs) ∙ rows.insert-two x r (onto ys xs)

onto-none : (xs : List Row) → onto [] xs ≡ sort_rows xs
unfolding onto sort_rows
onto-none [] = refl
onto-none (x ∷ xs) = ap (insert_row x) (onto-none xs)

-- a number behind all others: where keys are the same, its row is behind theirs
insert_row_lem : (key : ℕ → ℕ) (x : ℕ) {ys : List ℕ} → All (λ y. y < x) ys → map (row_of key) (insert key x ys) ≡ insert_row (row_of key x) (map (row_of key) ys)
unfolding insert_row
insert_row_lem key x all_nil = ap (map (row_of key)) (insert_nil key x)
insert_row_lem key x (all_cons {x = y} {xs = ys} h hs) =
    elim (lt_or_le (key x) (key y)) [
      | inl l ↦ ap (map (row_of key)) (insert_front key x y ys l) ∙ sym (rows.insert_front (row_of key x) (row_of key y) (map (row_of key) ys) (le_key l))
      | inr l ↦
          ap (map (row_of key)) (insert-on key x y ys l)
          ∙ ap (λ (l : List Row). row_of key y ∷ l) (insert_row_lem key x hs)
          ∙ sym (rows.insert-on (row_of key x) (row_of key y) (map (row_of key) ys) (before l))
    ]
  where
    before : key y ≤ key x → Less (row_of key y) (row_of key x)
    before l = elim (lt_or_le (key y) (key x)) [ inl g ↦ by_key g | inr g ↦ by_block (omega arith) h ]

-- Numbers that ascend, sorted by key, are their rows sorted.
pub sorted-rows : (key : ℕ → ℕ) {xs : List ℕ} → Pairs (λ x y. x < y) xs → sort_rows (map (row_of key) xs) ≡ map (row_of key) (sorted_by key xs)
unfolding sorted_by sorted_onto onto
sorted-rows key {xs} p = sym (go [] p (all_nil) ∙ onto-none (map (row_of key) xs))
  where
    go : (ys : List ℕ) {xs : List ℕ} → Pairs (λ x y. x < y) xs → All (λ y. All (λ x. y < x) xs) ys
        → map (row_of key) (sorted_onto key ys xs) ≡ onto (map (row_of key) ys) (map (row_of key) xs)
    go ys pairs_nil h = refl
    go ys (pairs_cons {x} {xs} a p) h =
        go (insert key x ys) p (insert_all key x a (all_map (λ y all. tail all) h))
        ∙ ap (λ (l : List Row). onto l (map (row_of key) xs)) (insert_row_lem key x (all_map (λ y all. head all) h))
        ∙ onto-insert (row_of key x) (map (row_of key) ys) (map (row_of key) xs)
      where
        head : {y : ℕ} → All (λ x. y < x) (x ∷ xs) → y < x
        head (all_cons h hs) = h

        tail : {y : ℕ} → All (λ x. y < x) (x ∷ xs) → All (λ x. y < x) xs
        tail (all_cons h hs) = hs

-- ── the tree ──

unfoldable pub sort_tree : (key : ℕ → ℕ) → Tree → Tree
sort_tree key hole = hole
sort_tree key (node xs l r) = node (sorted_by key xs) (sort_tree key l) (sort_tree key r)

module _ (key : ℕ → ℕ) where
  sort_entries : (T : Tree) → entries_of (sort_tree key T) ≡ sorted_by key (entries_of T)
  unfolding sort_tree
  sort_entries hole = sym (sorted_nil key)
  sort_entries (node xs l r) = refl

  sort_left : (T : Tree) → left_of (sort_tree key T) ≡ sort_tree key (left_of T)
  unfolding sort_tree
  sort_left hole = refl
  sort_left (node xs l r) = refl

  sort_right : (T : Tree) → right_of (sort_tree key T) ≡ sort_tree key (right_of T)
  unfolding sort_tree
  sort_right hole = refl
  sort_right (node xs l r) = refl

  pub bare_sort : (T : Tree) → bare (sort_tree key T) ≡ bare T
  unfolding sort_tree bare
  bare_sort hole = refl
  bare_sort (node xs l r) = rw (bare_sort l, bare_sort r)

  sort_cond : (u : Bool) (X Y : Tree) → sort_tree key (cond u X Y) ≡ cond u (sort_tree key X) (sort_tree key Y)
  sort_cond true X Y = refl
  sort_cond false X Y = refl

  -- a block at the ends of runs, which are sorted then, or at its place in sorted runs
  pub sort_add : (n b c d lo hi : ℕ) (T : Tree) → sort_tree key (add_location (λ _. 0) n b c d lo hi T) ≡ add_location key n b c d lo hi (sort_tree key T)
  unfolding sort_tree
  sort_add zero b c d lo hi T =
      elim (bool_cases (covers c d lo hi)) [
        | inl e ↦ rw (add_here (λ _. 0) b c d lo hi T 0 e, add_here key b c d lo hi (sort_tree key T) 0 e, sort_entries T, sort_left T, sort_right T, sorted_insert key b (entries_of T))
        | inr e ↦ rw (add_last (λ _. 0) b c d lo hi T e, add_last key b c d lo hi (sort_tree key T) e, sort_entries T, sort_left T, sort_right T)
      ]
  sort_add (suc n) b c d lo hi T =
      elim (bool_cases (covers c d lo hi)) [
        | inl e ↦ rw (add_here (λ _. 0) b c d lo hi T (suc n) e, add_here key b c d lo hi (sort_tree key T) (suc n) e, sort_entries T, sort_left T, sort_right T, sorted_insert key b (entries_of T))
        | inr e ↦ rw (
          add_below (λ _. 0) b c d lo hi T n e,
          add_below key b c d lo hi (sort_tree key T) n e,
          sort_entries T,
          sort_left T,
          sort_right T,
          sort_cond (halves lo hi && ltb c (mid lo hi)) (add_location (λ _. 0) n b c d lo (mid lo hi) (left_of T)) (left_of T),
          sort_cond (halves lo hi && ltb (mid lo hi) d) (add_location (λ _. 0) n b c d (mid lo hi) hi (right_of T)) (right_of T),
          sort_add n b c d lo (mid lo hi) (left_of T),
          sort_add n b c d (mid lo hi) hi (right_of T),
        )
      ]

  pub sort_each : (at : ℕ → Block) (e : ℕ) (ks : List ℕ) (T : Tree) → sort_tree key (add_each at (λ _. 0) e ks T) ≡ add_each at key e ks (sort_tree key T)
  unfolding add_each
  sort_each at e [] T = refl
  sort_each at e (k ∷ ks) T =
      sort_each at e ks (add_block at (λ _. 0) e k T) ∙ ap (add_each at key e ks) (sort_add 63 k (at k).created (at k).destroyed 0 e T)

-- ── in recorded order ──

-- the numbers of every run ascend, and are below a bound
pub data Rising (n : ℕ) : Tree → Type 0 where
  no_node : Rising n hole
  a_node : {xs : List ℕ} {l r : Tree} → Pairs (λ x y. x < y) xs → All (λ x. x < n) xs → Rising n l → Rising n r → Rising n (node xs l r)

rising_made : {n : ℕ} (T : Tree) → Rising n T → Rising n (node (entries_of T) (left_of T) (right_of T))
rising_made hole no_node = a_node pairs_nil all_nil no_node no_node
rising_made (node xs l r) h = h

-- a higher bound
rising_up : {n m : ℕ} {T : Tree} → n ≤ m → Rising n T → Rising m T
rising_up h no_node = no_node
rising_up h (a_node p a l r) = a_node p (all_map (λ x q. omega arith) a) (rising_up h l) (rising_up h r)

rising_more : {n : ℕ} {T : Tree} → Rising n T → Rising (suc n) T
rising_more r = rising_up (omega arith) r

rising_cond : {n : ℕ} (u : Bool) (X Y : Tree) → Rising n X → Rising n Y → Rising n (cond u X Y)
rising_cond true X Y p q = p
rising_cond false X Y p q = q

rising_here : {n : ℕ} {xs : List ℕ} {l r : Tree} → Rising n (node xs l r) → Rising (suc n) (node (insert (λ _. 0) n xs) l r)
rising_here {n} {xs} (a_node p a l r) =
    let pairs : Pairs (λ x y. x < y) (xs ++ n ∷ []) = pairs-append p (pairs_cons all_nil pairs_nil) (all_map (λ x h. all_cons h all_nil) a) in
    let below : All (λ x. x < suc n) (xs ++ n ∷ []) = all_append (all_map (λ x h. omega arith) a) (all_cons (omega arith) all_nil) in
    a_node {xs = insert (λ _. 0) n xs} (rw (insert_last n xs) pairs) (rw (insert_last n xs) below) (rising_more l) (rising_more r)

rising_add : (n c d levels lo hi : ℕ) (T : Tree) → Rising n T → Rising (suc n) (add_location (λ _. 0) levels n c d lo hi T)
rising_add b c d zero lo hi T h =
    elim (bool_cases (covers c d lo hi)) [
      | inl e ↦ rw (add_here (λ _. 0) b c d lo hi T 0 e) (rising_here (rising_made T h))
      | inr e ↦ rw (add_last (λ _. 0) b c d lo hi T e) (rising_more (rising_made T h))
    ]
rising_add b c d (suc n) lo hi T h =
    elim (bool_cases (covers c d lo hi)) [
      | inl e ↦ rw (add_here (λ _. 0) b c d lo hi T (suc n) e) (rising_here (rising_made T h))
      | inr e ↦ rw (add_below (λ _. 0) b c d lo hi T n e)
          (below (halves lo hi && ltb c (mid lo hi)) (halves lo hi && ltb (mid lo hi) d) (rising_made T h) (rising_add b c d n lo (mid lo hi) (left_of T)) (rising_add b c d n (mid lo hi) hi (right_of T)))
    ]
  where
    below : {xs : List ℕ} {l r X Y : Tree} (u v : Bool) → Rising b (node xs l r) → (Rising b l → Rising (suc b) X) → (Rising b r → Rising (suc b) Y)
        → Rising (suc b) (node xs (cond u X l) (cond v Y r))
    below {xs} {l} {r} {X} {Y} u v (a_node p a g k) left right =
        a_node p (all_map (λ x h. omega arith) a) (rising_cond u X l (left g) (rising_more g)) (rising_cond v Y r (right k) (rising_more k))

-- Blocks that are added in the order of their numbers ascend in every run.
pub rising_each : (at : ℕ → Block) (e bound n : ℕ) {ks : List ℕ} (T : Tree) → n ≤ bound → All (λ k. n ≤ k) ks → All (λ k. k < bound) ks → Pairs (λ x y. x < y) ks → Rising n T
    → Rising bound (add_each at (λ _. 0) e ks T)
unfolding add_each
rising_each at e bound n T w all_nil all_nil pairs_nil h = rising_up w h
rising_each at e bound n T w (all_cons {x = k} low lows) (all_cons high highs) (pairs_cons more p) h =
    rising_each at e bound (suc k) (add_block at (λ _. 0) e k T) high more highs p (rising_add k (at k).created (at k).destroyed 63 0 e T (rising_up low h))
