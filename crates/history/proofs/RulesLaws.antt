-- The tests of specs/Rules decide what document 01 says: each turned into a fact, and back. Assumes nothing.
use mathlib.Core.Path.{◌≡◌, refl, ◌∙◌}
use mathlib.Core.Logic.{inl, inr}
use mathlib.Core.Bool.{Bool, true, false, false≢true, ◌&&◌, ◌||◌, not}
use mathlib.Core.List.{List, [], ◌∷◌, ◌++◌}
use Prim.Native.Nat.{ℕ, ◌+◌, ◌-◌, ◌^◌, ◌≤◌, ◌<◌, min, max}
use native.Mathlib.Omega.{arith}
use lib.ListN.{length, get_or}
use lib.Dec.{leb, ltb, eqb}
use borrow.Author.Tests.{ltb-true, ltb-false, eqb-true, not-true}
use Rattle.lists.specs.Tests.{Decides}
use Rattle.lists.specs.Lists.{All, all_nil, all_cons, pairs_nil, pairs_cons, Ascending, count, count_from}
use Rattle.lists.proofs.Numbers.{bool_cases, and_left, and_right, and_both, or_cases, confirm, decides_iff, decides_leb, decides_ltb, decides_eqb, decides_and, decides_not, decides_itself}
use Rattle.lists.proofs.Lists.{all_append, all_left, all_right, all_at, all_of_at, count_from_length, count_from_at}
use Rattle.history.specs.Words.{size, ends, Block, first_cell, life, Holds}
use Rattle.history.specs.Tree.{Tree, hole, node, mid, halves, covers, block_at, key_in, widths, entries_in}
use Rattle.history.specs.Rules.{every, is_hole, halved, filled, lived, numbered, placed, ascends, sorted, summed, rule23, shares, apart, Apart}

-- ── every ──

module _ {A : Type 0} where
  pub every_decides : {P : A → Type 0} (f : A → Bool) → ((x : A) → Decides (f x) (P x)) → (xs : List A) → Decides (every f xs) (All P xs)
  unfolding every
  every_decides f d [] = confirm all_nil
  every_decides {P} f d (x ∷ xs) = decides_iff (f x && every f xs) join split (decides_and (f x) (every f xs) (d x) (every_decides f d xs))
    where
      join : P x × All P xs → All P (x ∷ xs)
      join z = all_cons z.0 z.1

      split : All P (x ∷ xs) → P x × All P xs
      split (all_cons p ps) = (p, ps)

  pub every_all : (f : A → Bool) (xs : List A) → every f xs ≡ true → All (λ (x : A). f x ≡ true) xs
  unfolding every
  every_all f [] e = all_nil
  every_all f (x ∷ xs) e = all_cons (and_left (f x) (every f xs) e) (every_all f xs (and_right (f x) (every f xs) e))

  pub all_every : (f : A → Bool) {xs : List A} → All (λ (x : A). f x ≡ true) xs → every f xs ≡ true
  unfolding every
  all_every f all_nil = refl
  all_every f (all_cons {x} {xs} p ps) = and_both (f x) (every f xs) p (all_every f ps)

-- a number that stands in the list passes the test
pub every-count : (f : ℕ → Bool) (k : ℕ) (xs : List ℕ) → every f xs ≡ true → 0 < count k xs → f k ≡ true
unfolding every count
every-count f k [] e h = absurd (omega arith)
every-count f k (x ∷ xs) e h =
    elim (bool_cases (eqb k x)) [
      | inl q ↦ rw (eqb-true k x q) (and_left (f x) (every f xs) e)
      | inr q ↦ every-count f k xs (and_right (f x) (every f xs) e) (let z : 0 < 0 + count k xs = rw q at h in omega arith)
    ]

-- ── 21: halved ──

-- what is true of a node that has halves, or of one that has none
pub halved_node : (lo hi : ℕ) (es : List ℕ) (l r : Tree) → (hi ≤ lo + 1 → (l ≡ hole) × (r ≡ hole)) → halved lo (mid lo hi) l ≡ true → halved (mid lo hi) hi r ≡ true
    → halved lo hi (node es l r) ≡ true
unfolding halved
halved_node lo hi es l r narrow p q =
    and_both (halves lo hi || (is_hole l && is_hole r)) (halved lo (mid lo hi) l && halved (mid lo hi) hi r)
    (elim (bool_cases (halves lo hi)) [
      | inl e ↦ rw e
      | inr e ↦ (let z = narrow (ltb-false (lo + 1) hi e) in rw (e, z.0, z.1))
    ])
    (and_both (halved lo (mid lo hi) l) (halved (mid lo hi) hi r) p q)

pub halved_left : (lo hi : ℕ) (es : List ℕ) (l r : Tree) → halved lo hi (node es l r) ≡ true → halved lo (mid lo hi) l ≡ true
unfolding halved
halved_left lo hi es l r e = and_left (halved lo (mid lo hi) l) (halved (mid lo hi) hi r) (and_right (halves lo hi || (is_hole l && is_hole r)) _ e)

pub halved_right : (lo hi : ℕ) (es : List ℕ) (l r : Tree) → halved lo hi (node es l r) ≡ true → halved (mid lo hi) hi r ≡ true
unfolding halved
halved_right lo hi es l r e = and_right (halved lo (mid lo hi) l) (halved (mid lo hi) hi r) (and_right (halves lo hi || (is_hole l && is_hole r)) _ e)

-- a node of width 1 has no child
pub halved_narrow : (lo hi : ℕ) (es : List ℕ) (l r : Tree) → halved lo hi (node es l r) ≡ true → hi ≤ lo + 1 → (l ≡ hole) × (r ≡ hole)
unfolding halved
halved_narrow lo hi es l r e n =
    elim (or_cases (halves lo hi) (is_hole l && is_hole r) (and_left (halves lo hi || (is_hole l && is_hole r)) _ e)) [
      | inl q ↦ absurd (omega (arith, ltb-true (lo + 1) hi q))
      | inr q ↦ (is_hole_lem l (and_left (is_hole l) (is_hole r) q), is_hole_lem r (and_right (is_hole l) (is_hole r) q))
    ]
  where
    is_hole_lem : (t : Tree) → is_hole t ≡ true → t ≡ hole
    is_hole_lem hole p = refl
    is_hole_lem (node xs a b) p = absurd (false≢true p)

-- ── 22: filled, lived ──

pub filled_decides : (b : Block) → Decides (filled b) ((0 < size b.stretch) × (first_cell b + size b.stretch ≤ 2 ^ 64 - 1))
unfolding filled
filled_decides b =
    decides_and (ltb 0 (size b.stretch)) (leb (first_cell b + size b.stretch) (2 ^ 64 - 1)) (decides_ltb 0 (size b.stretch))
    (decides_leb (first_cell b + size b.stretch) (2 ^ 64 - 1))

pub lived_decides : (end : ℕ) (b : Block) → Decides (lived end b) ((b.created < b.destroyed) × (b.destroyed ≤ end))
unfolding lived
lived_decides end b = decides_and (ltb b.created b.destroyed) (leb b.destroyed end) (decides_ltb b.created b.destroyed) (decides_leb b.destroyed end)

-- ── 23: numbered ──

-- the entries of all nodes are below n
pub numbered_decides : (n : ℕ) (tree : Tree) → Decides (numbered n tree) (All (λ k. k < n) (entries_in tree))
unfolding numbered entries_in
numbered_decides n hole = confirm all_nil
numbered_decides n (node es l r) =
    decides_iff (numbered n (node es l r))
    (λ z. all_append z.0 (all_append z.1.0 z.1.1))
    (λ a. let rest = all_right es (entries_in l ++ entries_in r) a in
    (all_left es (entries_in l ++ entries_in r) a, (all_left (entries_in l) (entries_in r) rest, all_right (entries_in l) (entries_in r) rest)))
    (decides_and (every (λ k. ltb k n) es) (numbered n l && numbered n r) (every_decides (λ k. ltb k n) (λ k. decides_ltb k n) es)
    (decides_and (numbered n l) (numbered n r) (numbered_decides n l) (numbered_decides n r)))

-- a node's part and its halves' parts
pub numbered_node : (n : ℕ) (es : List ℕ) (l r : Tree) → every (λ k. ltb k n) es ≡ true → numbered n l ≡ true → numbered n r ≡ true → numbered n (node es l r) ≡ true
unfolding numbered
numbered_node n es l r a p q = and_both (every (λ k. ltb k n) es) (numbered n l && numbered n r) a (and_both (numbered n l) (numbered n r) p q)

pub numbered_here : (n : ℕ) (es : List ℕ) (l r : Tree) → numbered n (node es l r) ≡ true → every (λ k. ltb k n) es ≡ true
unfolding numbered
numbered_here n es l r e = and_left (every (λ k. ltb k n) es) (numbered n l && numbered n r) e

pub numbered_left : (n : ℕ) (es : List ℕ) (l r : Tree) → numbered n (node es l r) ≡ true → numbered n l ≡ true
unfolding numbered
numbered_left n es l r e = and_left (numbered n l) (numbered n r) (and_right (every (λ k. ltb k n) es) (numbered n l && numbered n r) e)

pub numbered_right : (n : ℕ) (es : List ℕ) (l r : Tree) → numbered n (node es l r) ≡ true → numbered n r ≡ true
unfolding numbered
numbered_right n es l r e = and_right (numbered n l) (numbered n r) (and_right (every (λ k. ltb k n) es) (numbered n l && numbered n r) e)

-- ── 23: placed ──

-- block k covers the node [lo, hi)
abbrev pub covers_node : (at : ℕ → Block) (lo hi k : ℕ) → Bool
covers_node at lo hi k = covers (at k).created (at k).destroyed lo hi

-- an entry's block covers the node, and not the node above
module _ (at : ℕ → Block) (above : ℕ → Bool) (lo hi : ℕ) (es : List ℕ) (l r : Tree) where
  abbrev placed_left_lem : Bool
  placed_left_lem = placed at (covers_node at lo hi) lo (mid lo hi) l

  abbrev placed_right_lem : Bool
  placed_right_lem = placed at (covers_node at lo hi) (mid lo hi) hi r

  pub placed_node : every (λ k. covers_node at lo hi k && not (above k)) es ≡ true → placed at (covers_node at lo hi) lo (mid lo hi) l ≡ true → placed at (covers_node at lo hi) (mid lo hi) hi r ≡ true
      → placed at above lo hi (node es l r) ≡ true
  unfolding placed
  placed_node a p q = and_both (every (λ k. covers_node at lo hi k && not (above k)) es) (placed_left_lem && placed_right_lem) a (and_both placed_left_lem placed_right_lem p q)

  pub placed_here : placed at above lo hi (node es l r) ≡ true → every (λ k. covers_node at lo hi k && not (above k)) es ≡ true
  unfolding placed
  placed_here e = and_left (every (λ k. covers_node at lo hi k && not (above k)) es) (placed_left_lem && placed_right_lem) e

  pub placed_left : placed at above lo hi (node es l r) ≡ true → placed at (covers_node at lo hi) lo (mid lo hi) l ≡ true
  unfolding placed
  placed_left e = and_left placed_left_lem placed_right_lem (and_right (every (λ k. covers_node at lo hi k && not (above k)) es) (placed_left_lem && placed_right_lem) e)

  pub placed_right : placed at above lo hi (node es l r) ≡ true → placed at (covers_node at lo hi) (mid lo hi) hi r ≡ true
  unfolding placed
  placed_right e = and_right placed_left_lem placed_right_lem (and_right (every (λ k. covers_node at lo hi k && not (above k)) es) (placed_left_lem && placed_right_lem) e)

  -- of one entry
  pub placed-covers : (k : ℕ) → placed at above lo hi (node es l r) ≡ true → 0 < count k es → covers (at k).created (at k).destroyed lo hi ≡ true
  placed-covers k e h = and_left (covers_node at lo hi k) (not (above k)) (every-count (λ k. covers_node at lo hi k && not (above k)) k es (placed_here e) h)

  pub placed-above : (k : ℕ) → placed at above lo hi (node es l r) ≡ true → 0 < count k es → above k ≡ false
  placed-above k e h = not-true (above k) (and_right (covers_node at lo hi k) (not (above k)) (every-count (λ k. covers_node at lo hi k && not (above k)) k es (placed_here e) h))

-- ── 23: sorted ──

pub ascends_decides : (key : ℕ → ℕ) (xs : List ℕ) → Decides (ascends key xs) (Ascending key xs)
unfolding ascends
ascends_decides key [] = confirm pairs_nil
ascends_decides key (x ∷ xs) =
    decides_iff (ascends key (x ∷ xs)) join split
    (decides_and (every (λ y. ltb (key x) (key y)) xs) (ascends key xs) (every_decides (λ y. ltb (key x) (key y)) (λ y. decides_ltb (key x) (key y)) xs) (ascends_decides key xs))
  where
    join : All (λ y. key x < key y) xs × Ascending key xs → Ascending key (x ∷ xs)
    join z = pairs_cons z.0 z.1

    split : Ascending key (x ∷ xs) → All (λ y. key x < key y) xs × Ascending key xs
    split (pairs_cons a p) = (a, p)

pub sorted_node : (key : ℕ → ℕ) (es : List ℕ) (l r : Tree) → ascends key es ≡ true → sorted key l ≡ true → sorted key r ≡ true → sorted key (node es l r) ≡ true
unfolding sorted
sorted_node key es l r a p q = and_both (ascends key es) (sorted key l && sorted key r) a (and_both (sorted key l) (sorted key r) p q)

pub sorted_here : (key : ℕ → ℕ) (es : List ℕ) (l r : Tree) → sorted key (node es l r) ≡ true → ascends key es ≡ true
unfolding sorted
sorted_here key es l r e = and_left (ascends key es) (sorted key l && sorted key r) e

pub sorted_left : (key : ℕ → ℕ) (es : List ℕ) (l r : Tree) → sorted key (node es l r) ≡ true → sorted key l ≡ true
unfolding sorted
sorted_left key es l r e = and_left (sorted key l) (sorted key r) (and_right (ascends key es) (sorted key l && sorted key r) e)

pub sorted_right : (key : ℕ → ℕ) (es : List ℕ) (l r : Tree) → sorted key (node es l r) ≡ true → sorted key r ≡ true
unfolding sorted
sorted_right key es l r e = and_right (sorted key l) (sorted key r) (and_right (ascends key es) (sorted key l && sorted key r) e)

-- ── 23: summed, and all of it ──

pub summed_decides : (end : ℕ) (bs : List Block) (tree : Tree)
    → Decides (summed end bs tree) ((k : ℕ) → k < length bs → widths k 0 end tree ≡ life (block_at bs k))
unfolding summed
summed_decides end bs tree =
    decides_iff (every test numbers) at_each of_each (every_decides test (λ k. decides_eqb (widths k 0 end tree) (life (block_at bs k))) numbers)
  where
    test : ℕ → Bool
    test k = eqb (widths k 0 end tree) (life (block_at bs k))

    numbers : List ℕ
    numbers = count_from 0 (length bs)

    nth : (k : ℕ) → k < length bs → get_or numbers k 0 ≡ k
    nth k h = count_from_at 0 (length bs) k h ∙ omega arith

    at_each : All (λ k. widths k 0 end tree ≡ life (block_at bs k)) numbers → (k : ℕ) → k < length bs → widths k 0 end tree ≡ life (block_at bs k)
    at_each a k h = rw (nth k h) at (all_at 0 a k (rw (count_from_length 0 (length bs)) h))

    of_each : ((k : ℕ) → k < length bs → widths k 0 end tree ≡ life (block_at bs k)) → All (λ k. widths k 0 end tree ≡ life (block_at bs k)) numbers
    of_each f = all_of_at 0 numbers (λ i h. let z : i < length bs = rw (count_from_length 0 (length bs)) at h in rw (nth i z) (f i z))

-- the four parts of rule 23
pub record Rule23 (end : ℕ) (bs : List Block) (tree : Tree) : Type 0 where
  pub numbers : numbered (length bs) tree ≡ true
  pub places : placed (block_at bs) (λ k. false) 0 end tree ≡ true
  pub order : sorted (key_in bs) tree ≡ true
  pub sums : (k : ℕ) → k < length bs → widths k 0 end tree ≡ life (block_at bs k)

pub rule23_decides : (end : ℕ) (bs : List Block) (tree : Tree) → Decides (rule23 end bs tree) (Rule23 end bs tree)
unfolding rule23
rule23_decides end bs tree =
    decides_iff (n && (p && (s && w)))
    (λ z. record { numbers = z.0; places = z.1.0; order = z.1.1.0; sums = z.1.1.1 })
    (λ r. (r.numbers, (r.places, (r.order, r.sums))))
    (decides_and n (p && (s && w)) (decides_itself n) (decides_and p (s && w) (decides_itself p) (decides_and s w (decides_itself s) (summed_decides end bs tree))))
  where
    n : Bool
    n = numbered (length bs) tree

    p : Bool
    p = placed (block_at bs) (λ k. false) 0 end tree

    s : Bool
    s = sorted (key_in bs) tree

    w : Bool
    w = summed end bs tree

-- ── 24 ──

-- a tick and a cell at which both blocks are live and hold the cell
pub record Shared (a b : Block) : Type 0 where
  pub tick : ℕ
  pub cell : ℕ
  pub one : Holds tick cell a
  pub other : Holds tick cell b

pub shares_decides : (a b : Block) → Decides (shares a b) (Shared a b)
unfolding shares
shares_decides a b =
    decides_iff (shares a b) into out
    (decides_and (ltb (max a.stretch.first b.stretch.first) (min (ends a.stretch) (ends b.stretch))) (ltb (max a.created b.created) (min a.destroyed b.destroyed))
    (decides_ltb (max a.stretch.first b.stretch.first) (min (ends a.stretch) (ends b.stretch))) (decides_ltb (max a.created b.created) (min a.destroyed b.destroyed)))
  where
    into : (max a.stretch.first b.stretch.first < min (ends a.stretch) (ends b.stretch)) × (max a.created b.created < min a.destroyed b.destroyed) → Shared a b
    into z = record {
      tick = max a.created b.created;
      cell = max a.stretch.first b.stretch.first;
      one = record { born = omega arith; alive = omega arith; has = record { from = omega arith; below = omega arith } };
      other = record { born = omega arith; alive = omega arith; has = record { from = omega arith; below = omega arith } };
    }

    out : Shared a b → (max a.stretch.first b.stretch.first < min (ends a.stretch) (ends b.stretch)) × (max a.created b.created < min a.destroyed b.destroyed)
    out h = (omega (arith, h.one.has.from), omega (arith, h.one.born))

pub apart_decides : (bs : List Block) → Decides (apart bs) (Apart bs)
unfolding apart
apart_decides [] = confirm pairs_nil
apart_decides (b ∷ bs) =
    decides_iff (apart (b ∷ bs)) join split (decides_and (every (λ c. not (shares b c)) bs) (apart bs) (every_decides (λ c. not (shares b c)) each bs) (apart_decides bs))
  where
    each : (c : Block) → Decides (not (shares b c)) ((t cell : ℕ) → Holds t cell b → Holds t cell c → ⊥)
    each c =
        decides_iff (not (shares b c)) (λ f t cell p q. f (record { tick = t; cell = cell; one = p; other = q })) (λ f h. f h.tick h.cell h.one h.other)
        (decides_not (shares b c) (shares_decides b c))

    join : All (λ c. (t cell : ℕ) → Holds t cell b → Holds t cell c → ⊥) bs × Apart bs → Apart (b ∷ bs)
    join z = pairs_cons z.0 z.1

    split : Apart (b ∷ bs) → All (λ c. (t cell : ℕ) → Holds t cell b → Holds t cell c → ⊥) bs × Apart bs
    split (pairs_cons a p) = (a, p)
