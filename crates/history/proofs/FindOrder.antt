-- The order of find's list: node by node on the way down, root first, and ascending by first cell within a node; and the nodes of that way are
-- those that are counted as visited. Assumes nothing.
use mathlib.Core.Path.{◌≡◌, refl, ap, ◌∙◌}
use mathlib.Core.Bool.{Bool, true, false, cond, not, ◌&&◌}
use mathlib.Core.List.{List, [], ◌∷◌, ◌++◌, map, flatten}
use Prim.Native.Nat.{ℕ, zero, suc, ◌<◌}
use lib.ListN.{length, get_or}
use lib.Dec.{ltb}
use borrow.Author.Tests.{not-true}
use Rattle.lists.specs.Lists.{All, all_nil, all_cons, Ascending, pairs_nil, pairs_cons}
use Rattle.lists.proofs.Numbers.{and_left, and_right}
use Rattle.lists.proofs.Lists.{all_map, all_of_map}
use Rattle.history.specs.Words.{within, Block}
use Rattle.history.specs.Tree.{Tree, hole, node, mid, halves, block_at, key_in}
use Rattle.history.specs.Find.{path, visited, Interval, way_to, covers_at, window, find}
use Rattle.history.specs.Rules.{placed, sorted, rule23}
use Rattle.history.proofs.RulesLaws.{every_all, covers_node, placed_here, placed_left, placed_right, ascends_decides, sorted_here, sorted_left, sorted_right, rule23_decides}

-- ── the nodes on the way ──

-- the entries of each node on the way down to tick t, root first
unfoldable pub nodes_to : (t lo hi : ℕ) → Tree → List (List ℕ)
nodes_to t lo hi hole = []
nodes_to t lo hi (node es l r) =
    let a = nodes_to t lo (mid lo hi) l in
    let b = nodes_to t (mid lo hi) hi r in
    es ∷ cond (halves lo hi) (cond (ltb t (mid lo hi)) a b) []

-- the path is their entries, one node after the other
pub path_nodes : (t lo hi : ℕ) (T : Tree) → path t lo hi T ≡ flatten (nodes_to t lo hi T)
unfolding path nodes_to flatten
path_nodes t lo hi hole = refl
path_nodes t lo hi (node es l r) =
    ap (λ (x : List ℕ). es ++ x) (choose (halves lo hi) (ltb t (mid lo hi)) (nodes_to t lo (mid lo hi) l) (nodes_to t (mid lo hi) hi r) (path_nodes t lo (mid lo hi) l) (path_nodes t (mid lo hi) hi r))
  where
    choose : (u v : Bool) (a b : List (List ℕ)) {x y : List ℕ} → x ≡ flatten a → y ≡ flatten b → cond u (cond v x y) [] ≡ flatten (cond u (cond v a b) [])
    choose true true a b p q = p
    choose true false a b p q = q
    choose false v a b p q = refl

-- as many as are visited
pub visited_nodes : (t lo hi : ℕ) (T : Tree) → visited t lo hi T ≡ length (nodes_to t lo hi T)
unfolding visited nodes_to
visited_nodes t lo hi hole = refl
visited_nodes t lo hi (node es l r) =
    ap suc (choose (halves lo hi) (ltb t (mid lo hi)) (nodes_to t lo (mid lo hi) l) (nodes_to t (mid lo hi) hi r) (visited_nodes t lo (mid lo hi) l) (visited_nodes t (mid lo hi) hi r))
  where
    choose : (u v : Bool) (a b : List (List ℕ)) {x y : ℕ} → x ≡ length a → y ≡ length b → cond u (cond v x y) 0 ≡ length (cond u (cond v a b) [])
    choose true true a b p q = p
    choose true false a b p q = q
    choose false v a b p q = refl

-- keys ascend in each
pub nodes_ascend : (key : ℕ → ℕ) (t lo hi : ℕ) (T : Tree) → sorted key T ≡ true → All (Ascending key) (nodes_to t lo hi T)
unfolding nodes_to
nodes_ascend key t lo hi hole h = all_nil
nodes_ascend key t lo hi (node es l r) h =
    all_cons ((ascends_decides key es).yes (sorted_here key es l r h))
    (choose (halves lo hi) (ltb t (mid lo hi)) (nodes_ascend key t lo (mid lo hi) l (sorted_left key es l r h)) (nodes_ascend key t (mid lo hi) hi r (sorted_right key es l r h)))
  where
    choose : (u v : Bool) {a b : List (List ℕ)} → All (Ascending key) a → All (Ascending key) b → All (Ascending key) (cond u (cond v a b) [])
    choose true true p q = p
    choose true false p q = q
    choose false v p q = all_nil

-- ── which node of the way lists a block ──

-- of the lists of the half that has the tick, or of none
in-half : (P : Interval → ℕ → Type 0) (depth : ℕ) (u v : Bool) (x y : Interval) (a b : List (List ℕ)) → All (P x) (get_or a depth []) → All (P y) (get_or b depth [])
    → All (P (cond v x y)) (get_or (cond u (cond v a b) []) depth [])
in-half P depth true true x y a b p q = p
in-half P depth true false x y a b p q = q
in-half P depth false v x y a b p q = all_nil

module _ (at : ℕ → Block) (t : ℕ) where
  -- the life of a listed block covers the node ..
  pub nodes_cover : (above : ℕ → Bool) (lo hi : ℕ) (T : Tree) → placed at above lo hi T ≡ true → (depth : ℕ)
      → All (λ k. covers_at (way_to t lo hi depth) (at k) ≡ true) (get_or (nodes_to t lo hi T) depth [])
  unfolding nodes_to way_to
  nodes_cover above lo hi hole p depth = all_nil
  nodes_cover above lo hi (node es l r) p zero =
      all_map (λ k h. and_left (covers_node at lo hi k) (not (above k)) h) (every_all (λ k. covers_node at lo hi k && not (above k)) es (placed_here at above lo hi es l r p))
  nodes_cover above lo hi (node es l r) p (suc depth) =
      in-half (λ x k. covers_at x (at k) ≡ true) depth (halves lo hi) (ltb t (mid lo hi)) (way_to t lo (mid lo hi) depth) (way_to t (mid lo hi) hi depth) (nodes_to t lo (mid lo hi) l) (nodes_to t (mid lo hi) hi r)
      (nodes_cover (covers_node at lo hi) lo (mid lo hi) l (placed_left at above lo hi es l r p) depth)
      (nodes_cover (covers_node at lo hi) (mid lo hi) hi r (placed_right at above lo hi es l r p) depth)

  -- .. and not the one above it
  first_under : (above : ℕ → Bool) (lo hi : ℕ) (T : Tree) → placed at above lo hi T ≡ true → All (λ k. above k ≡ false) (get_or (nodes_to t lo hi T) 0 [])
  unfolding nodes_to
  first_under above lo hi hole p = all_nil
  first_under above lo hi (node es l r) p =
      all_map (λ k h. not-true (above k) (and_right (covers_node at lo hi k) (not (above k)) h))
      (every_all (λ k. covers_node at lo hi k && not (above k)) es (placed_here at above lo hi es l r p))

  pub nodes_under : (above : ℕ → Bool) (lo hi : ℕ) (T : Tree) → placed at above lo hi T ≡ true → (depth : ℕ)
      → All (λ k. covers_at (way_to t lo hi depth) (at k) ≡ false) (get_or (nodes_to t lo hi T) (suc depth) [])
  unfolding nodes_to way_to
  nodes_under above lo hi hole p depth = all_nil
  nodes_under above lo hi (node es l r) p zero =
      in-half (λ _ k. covers_node at lo hi k ≡ false) 0 (halves lo hi) (ltb t (mid lo hi)) (way_to t lo hi 0) (way_to t lo hi 0) (nodes_to t lo (mid lo hi) l) (nodes_to t (mid lo hi) hi r)
      (first_under (covers_node at lo hi) lo (mid lo hi) l (placed_left at above lo hi es l r p))
      (first_under (covers_node at lo hi) (mid lo hi) hi r (placed_right at above lo hi es l r p))
  nodes_under above lo hi (node es l r) p (suc depth) =
      in-half (λ x k. covers_at x (at k) ≡ false) (suc depth) (halves lo hi) (ltb t (mid lo hi)) (way_to t lo (mid lo hi) depth) (way_to t (mid lo hi) hi depth) (nodes_to t lo (mid lo hi) l) (nodes_to t (mid lo hi) hi r)
      (nodes_under (covers_node at lo hi) lo (mid lo hi) l (placed_left at above lo hi es l r p) depth)
      (nodes_under (covers_node at lo hi) (mid lo hi) hi r (placed_right at above lo hi es l r p) depth)

-- ── the window of each ──

module _ (key : ℕ → ℕ) (s n : ℕ) where
  pub window-append : (xs ys : List ℕ) → window key s n (xs ++ ys) ≡ window key s n xs ++ window key s n ys
  unfolding window
  window-append [] ys = refl
  window-append (x ∷ xs) ys = choose (within s n (key x)) (window key s n xs) (window key s n ys) (window-append xs ys)
    where
      choose : (u : Bool) (b c : List ℕ) {a : List ℕ} → a ≡ b ++ c → cond u (x ∷ a) a ≡ cond u (x ∷ b) b ++ c
      choose true b c p = ap (λ (l : List ℕ). x ∷ l) p
      choose false b c p = p

  pub window_flatten : (xss : List (List ℕ)) → window key s n (flatten xss) ≡ flatten (map (window key s n) xss)
  unfolding window flatten
  window_flatten [] = refl
  window_flatten (xs ∷ xss) = window-append xs (flatten xss) ∙ ap (λ (l : List ℕ). window key s n xs ++ l) (window_flatten xss)

  window_all : {P : ℕ → Type 0} {xs : List ℕ} → All P xs → All P (window key s n xs)
  unfolding window
  window_all all_nil = all_nil
  window_all {P} (all_cons {x} {xs} p ps) = choose (within s n (key x)) (window_all ps)
    where
      choose : (u : Bool) {ys : List ℕ} → All P ys → All P (cond u (x ∷ ys) ys)
      choose true a = all_cons p a
      choose false a = a

  -- of the node at a depth
  pub window_at_lem : {P : ℕ → Type 0} (xss : List (List ℕ)) (depth : ℕ) → All P (get_or xss depth []) → All P (get_or (map (window key s n) xss) depth [])
  window_at_lem [] depth h = h
  window_at_lem (xs ∷ xss) zero h = window_all h
  window_at_lem (xs ∷ xss) (suc depth) h = window_at_lem xss depth h

  pub window_ascending : {xs : List ℕ} → Ascending key xs → Ascending key (window key s n xs)
  unfolding window
  window_ascending pairs_nil = pairs_nil
  window_ascending (pairs_cons {x} {xs} a p) = choose (within s n (key x)) (window_all a) (window_ascending p)
    where
      choose : (u : Bool) {ys : List ℕ} → All (λ y. key x < key y) ys → Ascending key ys → Ascending key (cond u (x ∷ ys) ys)
      choose true a p = pairs_cons a p
      choose false a p = p

-- ── find ──

-- what find lists at each node, root first
abbrev pub found_at : (end : ℕ) → List Block → Tree → (t start stop : ℕ) → List (List ℕ)
found_at e bs tree t s n = map (window (key_in bs) s n) (nodes_to t 0 e tree)

-- Root first: the list is what is found at each node, one after the other.
pub find_nodes : (e : ℕ) (bs : List Block) (tree : Tree) (t s n : ℕ) → find e bs tree t s n ≡ flatten (found_at e bs tree t s n)
unfolding find
find_nodes e bs tree t s n = ap (window (key_in bs) s n) (path_nodes t 0 e tree) ∙ window_flatten (key_in bs) s n (nodes_to t 0 e tree)

-- Down the way to the tick: a block stands at the first node of that way that its life covers.
pub find-covered : (e : ℕ) (bs : List Block) (tree : Tree) (t s n : ℕ) → rule23 e bs tree ≡ true → (depth : ℕ)
    → All (λ k. covers_at (way_to t 0 e depth) (block_at bs k) ≡ true) (get_or (found_at e bs tree t s n) depth [])
find-covered e bs tree t s n rule depth =
    window_at_lem (key_in bs) s n (nodes_to t 0 e tree) depth (nodes_cover (block_at bs) t (λ k. false) 0 e tree ((rule23_decides e bs tree).yes rule).places depth)

pub find-not-above : (e : ℕ) (bs : List Block) (tree : Tree) (t s n : ℕ) → rule23 e bs tree ≡ true → (depth : ℕ)
    → All (λ k. covers_at (way_to t 0 e depth) (block_at bs k) ≡ false) (get_or (found_at e bs tree t s n) (suc depth) [])
find-not-above e bs tree t s n rule depth =
    window_at_lem (key_in bs) s n (nodes_to t 0 e tree) (suc depth) (nodes_under (block_at bs) t (λ k. false) 0 e tree ((rule23_decides e bs tree).yes rule).places depth)

-- Ascending within a node.
pub find_ascending : (e : ℕ) (bs : List Block) (tree : Tree) (t s n : ℕ) → rule23 e bs tree ≡ true → All (Ascending (key_in bs)) (found_at e bs tree t s n)
find_ascending e bs tree t s n rule =
    all_of_map (window (key_in bs) s n)
    (all_map (λ xs a. window_ascending (key_in bs) s n a) (nodes_ascend (key_in bs) t 0 e tree ((rule23_decides e bs tree).yes rule).order))
