-- The tree of a kind keeps the rules: a root exactly where there is a block of the kind, no child of a node of width 1, no number too high, each entry's
-- block covers its node and not the node's parent. (Strict ascent needs rule 24: TreeSorted.) Assumes nothing.
use mathlib.Core.Path.{◌≡◌, refl, sym, ◌∙◌, subst}
use mathlib.Core.Bool.{Bool, true, false, cond, ◌&&◌, not}
use mathlib.Core.List.{List, [], ◌∷◌}
use Prim.Native.Nat.{ℕ, zero, suc, ◌+◌, ◌-◌, ◌^◌, ◌≤◌, ◌<◌}
use native.Mathlib.Omega.{arith}
use lib.ListN.{length}
use lib.Dec.{ltb}
use borrow.Author.Tests.{lt-ltb, ltb-true}
use Rattle.lists.proofs.Lists.{all_map}
use Rattle.history.specs.Words.{Block, of_kind, only_kind}
use Rattle.history.specs.Tree.{Tree, hole, node, mid, covers, entries_of, left_of, right_of, insert, add_location, add_all, block_at, key_in, tree_of}
use Rattle.history.specs.Rules.{every, is_hole, halved, numbered, placed}
use Rattle.history.specs.Sound.{none_of}
use Rattle.history.proofs.ByKind.{only_at, own_same}
use Rattle.history.proofs.RulesLaws.{every_all, all_every, halved_node, halved_left, halved_right, numbered_node, numbered_here, numbered_left, numbered_right, covers_node, placed_node, placed_here, placed_left, placed_right}
use Rattle.history.proofs.TreeInserting.{insert_all}
use Rattle.history.proofs.TreeAdding.{Half, went, kept, half_keeps, made, listed, add_by, tree_by}

-- a test that holds of a list and of b holds of the list with b put in
every-insert : (f : ℕ → Bool) (key : ℕ → ℕ) (b : ℕ) (xs : List ℕ) → f b ≡ true → every f xs ≡ true → every f (insert key b xs) ≡ true
every-insert f key b xs p h = all_every f (insert_all {P = λ x. f x ≡ true} key b p (every_all f xs h))

-- ── there is a root ──

-- a block makes nodes on its way, of no life too
pub add_some : (key : ℕ → ℕ) (n b c d lo hi : ℕ) (T : Tree) → is_hole (add_location key n b c d lo hi T) ≡ false
unfolding add_location
add_some key zero b c d lo hi T = choose (covers c d lo hi)
  where
    choose : (u : Bool) → is_hole (cond u (listed key b T) (made T)) ≡ false
    choose true = refl
    choose false = refl
add_some key (suc n) b c d lo hi T = choose (covers c d lo hi) _ _
  where
    choose : (u : Bool) (l r : Tree) → is_hole (cond u (listed key b T) (node (entries_of T) l r)) ≡ false
    choose true l r = refl
    choose false l r = refl

-- a root exactly where there is a block of the kind
pub tree_of_rooted : (kind e : ℕ) (bs : List Block) → is_hole (tree_of kind e bs) ≡ none_of kind bs
unfolding tree_of add_all every
tree_of_rooted kind e bs = go 0 bs hole
  where
    go : (n : ℕ) (cs : List Block) (T : Tree) → is_hole (add_all (key_in bs) kind e n cs T) ≡ (is_hole T && none_of kind cs)
    go n [] T = sym (and_true (is_hole T))
      where
        and_true : (u : Bool) → (u && true) ≡ u
        and_true true = refl
        and_true false = refl
    go n (c ∷ cs) T =
        go (suc n) cs (cond (of_kind kind c) (add_location (key_in bs) 63 n c.created c.destroyed 0 e T) T)
        ∙ choose (of_kind kind c) _ (add_some (key_in bs) 63 n c.created c.destroyed 0 e T)
      where
        choose : (u : Bool) (X : Tree) → is_hole X ≡ false → (is_hole (cond u X T) && none_of kind cs) ≡ (is_hole T && (not u && none_of kind cs))
        choose true X e = rw e (sym (and_false (is_hole T)))
          where
            and_false : (u : Bool) → (u && false) ≡ false
            and_false true = refl
            and_false false = refl
        choose false X e = refl

-- ── halved ──

pub halved_made : (lo hi : ℕ) (T : Tree) → halved lo hi T ≡ true → halved lo hi (made T) ≡ true
unfolding halved
halved_made lo hi hole h = halved_node lo hi [] hole hole (λ _. (refl, refl)) refl refl
halved_made lo hi (node es l r) h = h

module _ (key : ℕ → ℕ) (b c d : ℕ) where
  Halves : (lo hi : ℕ) (before after : Tree) → Type 0
  Halves lo hi T U = halved lo hi T ≡ true → halved lo hi U ≡ true

  halved_here : (lo hi : ℕ) (T : Tree) → halved lo hi T ≡ true → halved lo hi (listed key b T) ≡ true
  unfolding halved
  halved_here lo hi T h = halved_made lo hi T h

  halved_down : (lo hi : ℕ) (T L R : Tree) → lo + 1 < hi → Half (c < mid lo hi) (mid lo hi ≤ c) (Halves lo (mid lo hi)) (left_of T) L
      → Half (mid lo hi < d) (d ≤ mid lo hi) (Halves (mid lo hi) hi) (right_of T) R → Halves lo hi T (node (entries_of T) L R)
  unfolding Halves
  halved_down lo hi T L R w left right h =
      let whole = halved_made lo hi T h in
      halved_node lo hi (entries_of T) L R (λ n. absurd (omega arith))
      (half_keeps (λ X. halved lo (mid lo hi) X ≡ true) left (halved_left lo hi (entries_of T) (left_of T) (right_of T) whole))
      (half_keeps (λ X. halved (mid lo hi) hi X ≡ true) right (halved_right lo hi (entries_of T) (left_of T) (right_of T) whole))

  pub halved_add : (n lo hi : ℕ) (T : Tree) → lo ≤ hi → hi - lo ≤ 2 ^ n → halved lo hi T ≡ true → halved lo hi (add_location key n b c d lo hi T) ≡ true
  unfolding Halves
  halved_add =
      add_by key b c d Halves (λ lo hi T w p q e. halved_here lo hi T) (λ lo hi T w n o. halved_made lo hi T) (λ lo hi T L R w e. halved_down lo hi T L R w)

pub tree_of-halved : (kind e : ℕ) (bs : List Block) → e ≤ 2 ^ 63 → halved 0 e (tree_of kind e bs) ≡ true
unfolding halved
tree_of-halved kind e bs z =
    tree_by kind e bs (λ n T. halved 0 e T ≡ true)
    (λ k T h own q. halved_add (key_in bs) k (block_at bs k).created (block_at bs k).destroyed 63 0 e T (omega arith) (omega arith) q) (λ k T h other q. q) refl

-- ── numbered ──

every_more : (n m : ℕ) (xs : List ℕ) → n ≤ m → every (λ k. ltb k n) xs ≡ true → every (λ k. ltb k m) xs ≡ true
every_more n m xs w h = all_every (λ k. ltb k m) (all_map (λ k e. lt-ltb k m (omega (arith, ltb-true k n e))) (every_all (λ k. ltb k n) xs h))

-- numbers below n are below what is no less
pub numbered_more : (n m : ℕ) (T : Tree) → n ≤ m → numbered n T ≡ true → numbered m T ≡ true
unfolding numbered
numbered_more n m hole w h = refl
numbered_more n m (node es l r) w h =
    numbered_node m es l r (every_more n m es w (numbered_here n es l r h)) (numbered_more n m l w (numbered_left n es l r h)) (numbered_more n m r w (numbered_right n es l r h))

pub numbered-made : (max : ℕ) (T : Tree) → numbered max T ≡ true → numbered max (made T) ≡ true
unfolding numbered every
numbered-made max hole h = refl
numbered-made max (node es l r) h = h

module _ (key : ℕ → ℕ) (b c d max : ℕ) (low : b < max) where
  numbered-listed : (T : Tree) → numbered max T ≡ true → numbered max (listed key b T) ≡ true
  numbered-listed T h =
      let whole = numbered-made max T h in
      numbered_node max (insert key b (entries_of T)) (left_of T) (right_of T)
      (every-insert (λ k. ltb k max) key b (entries_of T) (lt-ltb b max low) (numbered_here max (entries_of T) (left_of T) (right_of T) whole))
      (numbered_left max (entries_of T) (left_of T) (right_of T) whole) (numbered_right max (entries_of T) (left_of T) (right_of T) whole)

  Numbers : (lo hi : ℕ) (before after : Tree) → Type 0
  Numbers lo hi T U = numbered max T ≡ true → numbered max U ≡ true

  numbered_down : (lo hi : ℕ) (T L R : Tree) → Half (c < mid lo hi) (mid lo hi ≤ c) (Numbers lo (mid lo hi)) (left_of T) L
      → Half (mid lo hi < d) (d ≤ mid lo hi) (Numbers (mid lo hi) hi) (right_of T) R → Numbers lo hi T (node (entries_of T) L R)
  unfolding Numbers
  numbered_down lo hi T L R left right h =
      let whole = numbered-made max T h in
      numbered_node max (entries_of T) L R (numbered_here max (entries_of T) (left_of T) (right_of T) whole)
      (half_keeps (λ X. numbered max X ≡ true) left (numbered_left max (entries_of T) (left_of T) (right_of T) whole))
      (half_keeps (λ X. numbered max X ≡ true) right (numbered_right max (entries_of T) (left_of T) (right_of T) whole))

  pub numbered_add : (n lo hi : ℕ) (T : Tree) → lo ≤ hi → hi - lo ≤ 2 ^ n → numbered max T ≡ true → numbered max (add_location key n b c d lo hi T) ≡ true
  unfolding Numbers
  numbered_add =
      add_by key b c d Numbers (λ lo hi T w p q e. numbered-listed T) (λ lo hi T w n o. numbered-made max T) (λ lo hi T L R w e. numbered_down lo hi T L R)

pub tree_of-numbered : (kind e : ℕ) (bs : List Block) → e ≤ 2 ^ 63 → numbered (length bs) (tree_of kind e bs) ≡ true
unfolding numbered
tree_of-numbered kind e bs z =
    tree_by kind e bs (λ n T. numbered n T ≡ true)
    (λ k T h own q. numbered_add (key_in bs) k (block_at bs k).created (block_at bs k).destroyed (suc k) (omega arith) 63 0 e T (omega arith) (omega arith) (numbered_more k (suc k) T (omega arith) q))
    (λ k T h other q. numbered_more k (suc k) T (omega arith) q) refl

-- ── placed ──

pub placed-made : (at : ℕ → Block) (above : ℕ → Bool) (lo hi : ℕ) (T : Tree) → placed at above lo hi T ≡ true → placed at above lo hi (made T) ≡ true
unfolding placed every
placed-made at above lo hi hole h = refl
placed-made at above lo hi (node es l r) h = h

module _ (at : ℕ → Block) (key : ℕ → ℕ) (b : ℕ) where
  -- whichever is the node above, if block b does not cover it
  Places : (lo hi : ℕ) (before after : Tree) → Type 0
  Places lo hi T U = (above : ℕ → Bool) → above b ≡ false → placed at above lo hi T ≡ true → placed at above lo hi U ≡ true

  placed-listed : (lo hi : ℕ) (T : Tree) → covers_node at lo hi b ≡ true → Places lo hi T (listed key b T)
  unfolding Places
  placed-listed lo hi T e above u h =
      let whole = placed-made at above lo hi T h in
      placed_node at above lo hi (insert key b (entries_of T)) (left_of T) (right_of T)
      (every-insert (λ k. covers_node at lo hi k && not (above k)) key b (entries_of T) (rw (e, u)) (placed_here at above lo hi (entries_of T) (left_of T) (right_of T) whole))
      (placed_left at above lo hi (entries_of T) (left_of T) (right_of T) whole) (placed_right at above lo hi (entries_of T) (left_of T) (right_of T) whole)

  abbrev Goes : (goes stays : Type 0) (lo hi : ℕ) (T L : Tree) → Type 0
  Goes goes stays lo hi T L = Half goes stays (Places lo hi) T L

  half_placed : {goes stays : Type 0} (lo hi : ℕ) (above : ℕ → Bool) {T L : Tree} → Goes goes stays lo hi T L → above b ≡ false → placed at above lo hi T ≡ true → placed at above lo hi L ≡ true
  unfolding Places
  half_placed lo hi above (went g p) u q = p above u q
  half_placed lo hi above (kept g) u q = q

  placed_down : {c d : ℕ} (lo hi : ℕ) (T L R : Tree) → covers_node at lo hi b ≡ false → Goes (c < mid lo hi) (mid lo hi ≤ c) lo (mid lo hi) (left_of T) L
      → Goes (mid lo hi < d) (d ≤ mid lo hi) (mid lo hi) hi (right_of T) R → Places lo hi T (node (entries_of T) L R)
  unfolding Places
  placed_down lo hi T L R e left right above u h =
      let whole = placed-made at above lo hi T h in
      placed_node at above lo hi (entries_of T) L R (placed_here at above lo hi (entries_of T) (left_of T) (right_of T) whole)
      (half_placed lo (mid lo hi) (covers_node at lo hi) left e (placed_left at above lo hi (entries_of T) (left_of T) (right_of T) whole))
      (half_placed (mid lo hi) hi (covers_node at lo hi) right e (placed_right at above lo hi (entries_of T) (left_of T) (right_of T) whole))

  pub placed_add : (n lo hi : ℕ) (T : Tree) → lo ≤ hi → hi - lo ≤ 2 ^ n → (above : ℕ → Bool) → above b ≡ false → placed at above lo hi T ≡ true
      → placed at above lo hi (add_location key n b (at b).created (at b).destroyed lo hi T) ≡ true
  unfolding Places
  placed_add =
      add_by key b (at b).created (at b).destroyed Places (λ lo hi T w p q e. placed-listed lo hi T e)
      (λ lo hi T w n o above u h. placed-made at above lo hi T h) (λ lo hi T L R w e. placed_down lo hi T L R e)

-- the blocks of another kind have no life here, and no entry
pub placed-own : (kind e : ℕ) (bs : List Block) (k : ℕ) (T : Tree) → e ≤ 2 ^ 63 → (block_at bs k).kind ≡ kind
    → placed (block_at (only_kind kind bs)) (λ k. false) 0 e T ≡ true
    → placed (block_at (only_kind kind bs)) (λ k. false) 0 e (add_location (key_in bs) 63 k (block_at bs k).created (block_at bs k).destroyed 0 e T) ≡ true
placed-own kind e bs k T z own q =
    subst (λ (b : Block). placed (block_at (only_kind kind bs)) (λ k. false) 0 e (add_location (key_in bs) 63 k b.created b.destroyed 0 e T) ≡ true)
    (only_at kind bs k ∙ own_same kind (block_at bs k) own)
    (placed_add (block_at (only_kind kind bs)) (key_in bs) k 63 0 e T (omega arith) (omega arith) (λ k. false) refl q)

pub tree_of-placed : (kind e : ℕ) (bs : List Block) → e ≤ 2 ^ 63 → placed (block_at (only_kind kind bs)) (λ k. false) 0 e (tree_of kind e bs) ≡ true
unfolding placed
tree_of-placed kind e bs z =
    tree_by kind e bs (λ n T. placed (block_at (only_kind kind bs)) (λ k. false) 0 e T ≡ true)
    (λ k T h own q. placed-own kind e bs k T z own q) (λ k T h other q. q) refl
