-- The nodes of a tree with their intervals, as they are written, and rule 21. Assumes nothing.
use mathlib.Core.Path.{◌≡◌, refl, ap₂}
use mathlib.Core.Bool.{Bool, true, false, ◌&&◌, true≢false}
use Prim.Native.Nat.{ℕ, ◌<◌, ◌≤◌, ◌^◌}
use native.Mathlib.Omega.{arith}
use lib.Dec.{eqb}
use borrow.Author.Tests.{eqb-true, eq-eqb}
use Rattle.lists.proofs.Numbers.{and_right, and_left, decided}
use Rattle.history.specs.Tree.{Tree, hole, node, mid}
use Rattle.history.specs.File.{nodes_of, tree_from, rule21, Nodes, end_of, absent, present, placed_in}
use Rattle.history.specs.Rules.{halved, is_hole}
use Rattle.history.proofs.FileRules.{rule21_decides}

-- the tree without its intervals is the tree
pub tree_from-nodes_of : (lo hi : ℕ) (t : Tree) → tree_from (nodes_of lo hi t) ≡ t
unfolding tree_from nodes_of
tree_from-nodes_of lo hi hole = refl
tree_from-nodes_of lo hi (node es l r) = ap₂ (node es) (tree_from-nodes_of lo (mid lo hi) l) (tree_from-nodes_of (mid lo hi) hi r)

-- the intervals are those that they should be
pub placed_in-nodes_of : (lo hi : ℕ) (t : Tree) → placed_in lo hi (nodes_of lo hi t) ≡ true
unfolding placed_in nodes_of
placed_in-nodes_of lo hi hole = refl
placed_in-nodes_of lo hi (node es l r) =
    rw (eq-eqb lo lo refl, eq-eqb hi hi refl, eq-eqb (mid lo hi) (mid lo hi) refl, placed_in-nodes_of lo (mid lo hi) l, placed_in-nodes_of (mid lo hi) hi r) refl

-- nodes that stand in their intervals are those of their tree
pub nodes_of-tree_from : (lo hi : ℕ) (t : Nodes) → placed_in lo hi t ≡ true → nodes_of lo hi (tree_from t) ≡ t
unfolding tree_from nodes_of placed_in
nodes_of-tree_from lo hi absent h = refl
nodes_of-tree_from lo hi (present min max middle es l r) h =
    let (own, below) = both (eqb min lo && (eqb max hi && eqb middle (mid lo hi))) (placed_in lo (mid lo hi) l && placed_in (mid lo hi) hi r) h in
    let (p, q) = both (placed_in lo (mid lo hi) l) (placed_in (mid lo hi) hi r) below in
    let (a, ends) = both (eqb min lo) (eqb max hi && eqb middle (mid lo hi)) own in
    let (b, c) = both (eqb max hi) (eqb middle (mid lo hi)) ends in
    rw (eqb-true min lo a, eqb-true max hi b, eqb-true middle (mid lo hi) c)
    (ap₂ (present lo hi (mid lo hi) es) (nodes_of-tree_from lo (mid lo hi) l p) (nodes_of-tree_from (mid lo hi) hi r q))
  where
    both : (s t : Bool) → (s && t) ≡ true → (s ≡ true) × (t ≡ true)
    both s t e = (and_left s t e, and_right s t e)

-- where E is above 0 there is a root
pub tree_from_rooted : (t : Nodes) → 0 < end_of t → is_hole (tree_from t) ≡ false
unfolding tree_from
tree_from_rooted absent h = absurd (omega arith)
tree_from_rooted (present min max middle es l r) h = refl

-- E is the root's max
pub end_of-nodes_of : (lo hi : ℕ) (t : Tree) → is_hole t ≡ false → end_of (nodes_of lo hi t) ≡ hi
unfolding nodes_of
end_of-nodes_of lo hi hole h = absurd (true≢false h)
end_of-nodes_of lo hi (node es l r) h = refl

-- a tree with a root, halved where it has halves, is written as rule 21 wants it
pub nodes_of-rule21 : (e : ℕ) (t : Tree) → 0 < e → e ≤ 2 ^ 63 → is_hole t ≡ false → halved 0 e t ≡ true → rule21 (nodes_of 0 e t) ≡ true
nodes_of-rule21 e t some_tick end_most root halves =
    decided (rule21 (nodes_of 0 e t)) (rule21_decides (nodes_of 0 e t))
    (record { some_tick = rw (end_of-nodes_of 0 e t root) some_tick; end_most = rw (end_of-nodes_of 0 e t root) end_most; places = rw (end_of-nodes_of 0 e t root) (placed_in-nodes_of 0 e t); halves = rw (end_of-nodes_of 0 e t root, tree_from-nodes_of 0 e t) halves })
