-- A tree with other block numbers: where the blocks behind the numbers are the same, every rule holds as before. Assumes nothing.
use mathlib.Core.Path.{◌≡◌, refl, sym, ◌∙◌, ap, ap₂}
use mathlib.Core.Bool.{Bool, true, cond, ◌&&◌, not}
use mathlib.Core.List.{List, [], map, ◌∷◌, ◌++◌}
use Prim.Native.Nat.{ℕ, ◌<◌}
use lib.Dec.{ltb, eqb}
use Rattle.lists.specs.Lists.{All, all_nil, all_cons}
use Rattle.lists.proofs.Lists.{all_map, all_of_map, all_both, all_left, all_right}
use Rattle.lists.proofs.Maps.{length_of_map, map-append, map_same, map-cond}
use Rattle.lists.proofs.Numbers.{decided}
use Rattle.lists.proofs.Counting.{count_map}
use Rattle.history.specs.Words.{Block, within}
use Rattle.history.specs.Tree.{Tree, hole, node, mid, halves, entries_in, node_count, entry_count, widths, covers}
use Rattle.history.specs.Find.{path, visited, window}
use Rattle.history.specs.File.{map_tree}
use Rattle.history.specs.Rules.{numbered, halved, placed, sorted, is_hole}
use Rattle.history.proofs.RulesLaws.{numbered_decides}
use Rattle.history.proofs.FileLists.{every_map, ascends-map}

-- ── entries ──

-- what holds of all entries holds of a node's own, and of those of its halves
module _ {P : ℕ → Type 0} (es : List ℕ) (l r : Tree) where
  pub entries_here : All P (entries_in (node es l r)) → All P es
  unfolding entries_in
  entries_here h = all_left es (entries_in l ++ entries_in r) h

  pub entries_left : All P (entries_in (node es l r)) → All P (entries_in l)
  unfolding entries_in
  entries_left h = all_left (entries_in l) (entries_in r) (all_right es (entries_in l ++ entries_in r) h)

  pub entries_right : All P (entries_in (node es l r)) → All P (entries_in r)
  unfolding entries_in
  entries_right h = all_right (entries_in l) (entries_in r) (all_right es (entries_in l ++ entries_in r) h)

-- ── the tree with numbers mapped ──

module _ (f : ℕ → ℕ) where
  -- the entries, mapped
  pub map_tree_entries : (t : Tree) → entries_in (map_tree f t) ≡ map f (entries_in t)
  unfolding map_tree entries_in
  map_tree_entries hole = refl
  map_tree_entries (node es l r) =
      rw (map_tree_entries l, map_tree_entries r) (sym (map-append f es (entries_in l ++ entries_in r) ∙ ap (λ (v : List ℕ). map f es ++ v) (map-append f (entries_in l) (entries_in r))))

  pub map_tree-node_count : (t : Tree) → node_count (map_tree f t) ≡ node_count t
  unfolding map_tree node_count
  map_tree-node_count hole = refl
  map_tree-node_count (node es l r) = rw (map_tree-node_count l, map_tree-node_count r) refl

  pub map_tree-entry_count : (t : Tree) → entry_count (map_tree f t) ≡ entry_count t
  unfolding map_tree entry_count
  map_tree-entry_count hole = refl
  map_tree-entry_count (node es l r) = rw (map_tree-entry_count l, map_tree-entry_count r, length_of_map f es) refl

  pub map_tree-is_hole : (t : Tree) → is_hole (map_tree f t) ≡ is_hole t
  unfolding map_tree
  map_tree-is_hole hole = refl
  map_tree-is_hole (node es l r) = refl

  -- 21
  pub map_tree-halved : (lo hi : ℕ) (t : Tree) → halved lo hi (map_tree f t) ≡ halved lo hi t
  unfolding map_tree halved
  map_tree-halved lo hi hole = refl
  map_tree-halved lo hi (node es l r) =
      rw (map_tree-is_hole l, map_tree-is_hole r, map_tree-halved lo (mid lo hi) l, map_tree-halved (mid lo hi) hi r) refl

  -- 23: no number too high
  pub map_tree-numbered : (n : ℕ) (t : Tree) → All (λ k. f k < n) (entries_in t) → numbered n (map_tree f t) ≡ true
  map_tree-numbered n t h = decided (numbered n (map_tree f t)) (numbered_decides n (map_tree f t)) (rw (map_tree_entries t) (all_of_map f h))

  -- 23: each entry covers its node and not the parent
  pub map_tree-placed : (at' at : ℕ → Block) (above' above : ℕ → Bool) (lo hi : ℕ) (t : Tree) → All (λ k. at' (f k) ≡ at k) (entries_in t)
      → All (λ k. above' (f k) ≡ above k) (entries_in t) → placed at' above' lo hi (map_tree f t) ≡ placed at above lo hi t
  unfolding map_tree placed
  map_tree-placed at' at above' above lo hi hole h z = refl
  map_tree-placed at' at above' above lo hi (node es l r) h z =
      let over : (ks : List ℕ) → All (λ k. at' (f k) ≡ at k) ks → All (λ k. covers (at' (f k)).created (at' (f k)).destroyed lo hi ≡ covers (at k).created (at k).destroyed lo hi) ks =
      λ ks. all_map (λ k p. ap (λ (b : Block). covers b.created b.destroyed lo hi) p) in
      ap₂ (λ (a b : Bool). a && b)
      (every_map f _ _ (all_both (λ k p q. ap₂ (λ (a b : Bool). a && not b) p q) (over _ (entries_here es l r h)) (entries_here es l r z)))
      (ap₂ (λ (a b : Bool). a && b)
      (map_tree-placed at' at (λ x. covers (at' x).created (at' x).destroyed lo hi) _ lo (mid lo hi) l (entries_left es l r h) (over _ (entries_left es l r h)))
      (map_tree-placed at' at (λ x. covers (at' x).created (at' x).destroyed lo hi) _ (mid lo hi) hi r (entries_right es l r h) (over _ (entries_right es l r h))))

  -- 23: first cells ascend
  pub map_tree-sorted : (key' key : ℕ → ℕ) (t : Tree) → All (λ k. key' (f k) ≡ key k) (entries_in t) → sorted key' (map_tree f t) ≡ sorted key t
  unfolding map_tree sorted
  map_tree-sorted key' key hole h = refl
  map_tree-sorted key' key (node es l r) h =
      rw (ascends-map f key' key (entries_here es l r h), map_tree-sorted key' key l (entries_left es l r h), map_tree-sorted key' key r (entries_right es l r h)) refl

  -- 23: a block's widths
  pub map_tree-widths : (j i lo hi : ℕ) (t : Tree) → All (λ k. eqb j (f k) ≡ eqb i k) (entries_in t) → widths j lo hi (map_tree f t) ≡ widths i lo hi t
  unfolding map_tree widths
  map_tree-widths j i lo hi hole h = refl
  map_tree-widths j i lo hi (node es l r) h =
      rw (count_map f j i (entries_here es l r h), map_tree-widths j i lo (mid lo hi) l (entries_left es l r h), map_tree-widths j i (mid lo hi) hi r (entries_right es l r h)) refl

  -- ── find ──

  -- the way down
  pub map_tree-path : (t lo hi : ℕ) (T : Tree) → path t lo hi (map_tree f T) ≡ map f (path t lo hi T)
  unfolding map_tree path
  map_tree-path t lo hi hole = refl
  map_tree-path t lo hi (node es l r) =
      let a : List ℕ = path t lo (mid lo hi) l in
      let b : List ℕ = path t (mid lo hi) hi r in
      let below : map f (cond (halves lo hi) (cond (ltb t (mid lo hi)) a b) []) ≡ cond (halves lo hi) (cond (ltb t (mid lo hi)) (map f a) (map f b)) [] =
      map-cond f (halves lo hi) (cond (ltb t (mid lo hi)) a b) [] ∙ ap (λ (v : List ℕ). cond (halves lo hi) v []) (map-cond f (ltb t (mid lo hi)) a b) in
      rw (map_tree-path t lo (mid lo hi) l, map_tree-path t (mid lo hi) hi r)
      (sym (map-append f es (cond (halves lo hi) (cond (ltb t (mid lo hi)) a b) []) ∙ ap (λ (v : List ℕ). map f es ++ v) below))

  -- as many nodes
  pub map_tree-visited : (t lo hi : ℕ) (T : Tree) → visited t lo hi (map_tree f T) ≡ visited t lo hi T
  unfolding map_tree visited
  map_tree-visited t lo hi hole = refl
  map_tree-visited t lo hi (node es l r) = rw (map_tree-visited t lo (mid lo hi) l, map_tree-visited t (mid lo hi) hi r) refl

  -- the same first cells in the window
  pub window-map : (key' key : ℕ → ℕ) (s e : ℕ) {ks : List ℕ} → All (λ k. key' (f k) ≡ key k) ks → window key' s e (map f ks) ≡ map f (window key s e ks)
  unfolding window
  window-map key' key s e all_nil = refl
  window-map key' key s e (all_cons {x} {xs} d ds) =
      rw (d, window-map key' key s e ds) (sym (map-cond f (within s e (key x)) (x ∷ window key s e xs) (window key s e xs)))

-- numbers that stay leave the tree as it is
pub map_tree_same : (f : ℕ → ℕ) (t : Tree) → All (λ k. f k ≡ k) (entries_in t) → map_tree f t ≡ t
unfolding map_tree
map_tree_same f hole h = refl
map_tree_same f (node es l r) h =
    rw (map_same f (entries_here es l r h), map_tree_same f l (entries_left es l r h), map_tree_same f r (entries_right es l r h)) refl
