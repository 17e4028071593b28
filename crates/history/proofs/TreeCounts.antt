-- How many nodes and entries adding a block makes: the nodes that were not there yet, and as many entries as its life has pieces, whatever the
-- tree. So both counts only grow, in whatever order blocks are added. Assumes nothing.
use mathlib.Core.Path.{◌≡◌, refl, ◌∙◌}
use mathlib.Core.Logic.{inl, inr}
use mathlib.Core.Bool.{Bool, true, false, cond, ◌&&◌}
use mathlib.Core.List.{List, [], ◌∷◌, ◌++◌, map}
use Prim.Native.Nat.{ℕ, zero, suc, ◌+◌}
use native.Mathlib.Omega.{arith}
use lib.ListN.{length, length-append}
use lib.Dec.{ltb}
use Rattle.lists.specs.Lists.{sum_of}
use Rattle.lists.proofs.Numbers.{bool_cases}
use Rattle.history.specs.Words.{Block, of_kind}
use Rattle.history.specs.Tree.{Tree, hole, node, mid, halves, covers, entries_of, left_of, right_of, add_location, add_all, key_in, tree_of, node_count, entry_count, entries_in}
use Rattle.history.proofs.TreeInserting.{insert-length}
use Rattle.history.proofs.TreeAdding.{add_here, add_last, add_below}

-- ── what adding makes ──

-- 1 where there is no node yet
abbrev pub is_new : Tree → ℕ
is_new hole = 1
is_new (node es l r) = 0

-- how many nodes adding the life [c, d) makes
unfoldable pub new_nodes : (levels c d lo hi : ℕ) → Tree → ℕ
new_nodes zero c d lo hi t = is_new t
new_nodes (suc n) c d lo hi t =
    let l = new_nodes n c d lo (mid lo hi) (left_of t) in
    let r = new_nodes n c d (mid lo hi) hi (right_of t) in
    let below = cond (halves lo hi && ltb c (mid lo hi)) l 0 + cond (halves lo hi && ltb (mid lo hi) d) r 0 in
    is_new t + cond (covers c d lo hi) 0 below

-- how many entries it makes, in whatever tree
unfoldable pub new_entries : (levels c d lo hi : ℕ) → ℕ
new_entries zero c d lo hi = cond (covers c d lo hi) 1 0
new_entries (suc n) c d lo hi =
    let l = new_entries n c d lo (mid lo hi) in
    let r = new_entries n c d (mid lo hi) hi in
    let below = cond (halves lo hi && ltb c (mid lo hi)) l 0 + cond (halves lo hi && ltb (mid lo hi) d) r 0 in
    cond (covers c d lo hi) 1 below

-- a count of a half that the block goes to, or does not
half_count : (count : Tree → ℕ) (u : Bool) (X Y : Tree) (n : ℕ) → count X ≡ count Y + n → count (cond u X Y) ≡ count Y + cond u n 0
half_count count true X Y n h = h
half_count count false X Y n h = omega arith

-- ── nodes ──

nodes_made : (T : Tree) → suc (node_count (left_of T) + node_count (right_of T)) ≡ node_count T + is_new T
unfolding node_count
nodes_made hole = refl
nodes_made (node es l r) = omega arith

pub node_count_add : (key : ℕ → ℕ) (n b c d lo hi : ℕ) (T : Tree) → node_count (add_location key n b c d lo hi T) ≡ node_count T + new_nodes n c d lo hi T
unfolding node_count new_nodes
node_count_add key zero b c d lo hi T =
    elim (bool_cases (covers c d lo hi)) [
      | inl e ↦ rw (add_here key b c d lo hi T 0 e) (nodes_made T)
      | inr e ↦ rw (add_last key b c d lo hi T e) (nodes_made T)
    ]
node_count_add key (suc n) b c d lo hi T =
    let left = half_count node_count (halves lo hi && ltb c (mid lo hi)) (add_location key n b c d lo (mid lo hi) (left_of T)) (left_of T) _ (node_count_add key n b c d lo (mid lo hi) (left_of T)) in
    let right = half_count node_count (halves lo hi && ltb (mid lo hi) d) (add_location key n b c d (mid lo hi) hi (right_of T)) (right_of T) _ (node_count_add key n b c d (mid lo hi) hi (right_of T)) in
    elim (bool_cases (covers c d lo hi)) [
      | inl e ↦ rw (add_here key b c d lo hi T (suc n) e, e) (omega (arith, nodes_made T))
      | inr e ↦ rw (add_below key b c d lo hi T n e, e, left, right) (omega (arith, nodes_made T))
    ]

-- ── entries ──

entries_made : (T : Tree) → length (entries_of T) + (entry_count (left_of T) + entry_count (right_of T)) ≡ entry_count T
unfolding entry_count
entries_made hole = refl
entries_made (node es l r) = refl

pub entry_count_add : (key : ℕ → ℕ) (n b c d lo hi : ℕ) (T : Tree) → entry_count (add_location key n b c d lo hi T) ≡ entry_count T + new_entries n c d lo hi
unfolding entry_count new_entries
entry_count_add key zero b c d lo hi T =
    elim (bool_cases (covers c d lo hi)) [
      | inl e ↦ rw (add_here key b c d lo hi T 0 e, e, insert-length key b (entries_of T)) (omega (arith, entries_made T))
      | inr e ↦ rw (add_last key b c d lo hi T e, e) (omega (arith, entries_made T))
    ]
entry_count_add key (suc n) b c d lo hi T =
    let left = half_count entry_count (halves lo hi && ltb c (mid lo hi)) (add_location key n b c d lo (mid lo hi) (left_of T)) (left_of T) _ (entry_count_add key n b c d lo (mid lo hi) (left_of T)) in
    let right = half_count entry_count (halves lo hi && ltb (mid lo hi) d) (add_location key n b c d (mid lo hi) hi (right_of T)) (right_of T) _ (entry_count_add key n b c d (mid lo hi) hi (right_of T)) in
    elim (bool_cases (covers c d lo hi)) [
      | inl e ↦ rw (add_here key b c d lo hi T (suc n) e, e, insert-length key b (entries_of T)) (omega (arith, entries_made T))
      | inr e ↦ rw (add_below key b c d lo hi T n e, e, left, right) (omega (arith, entries_made T))
    ]

-- the count of entries is the length of their list
pub entry_count_in : (T : Tree) → entry_count T ≡ length (entries_in T)
unfolding entry_count entries_in
entry_count_in hole = refl
entry_count_in (node es l r) = rw (length-append es (entries_in l ++ entries_in r), length-append (entries_in l) (entries_in r), entry_count_in l, entry_count_in r)

-- ── all blocks ──

-- the tree of a kind has the entries of each of its blocks
pub tree_of_entries : (kind e : ℕ) (bs : List Block)
    → entry_count (tree_of kind e bs) ≡ sum_of (map (λ b. cond (of_kind kind b) (new_entries 63 b.created b.destroyed 0 e) 0) bs)
unfolding tree_of add_all sum_of entry_count
tree_of_entries kind e bs = go 0 bs hole ∙ omega arith
  where
    go : (n : ℕ) (cs : List Block) (T : Tree)
        → entry_count (add_all (key_in bs) kind e n cs T) ≡ entry_count T + sum_of (map (λ b. cond (of_kind kind b) (new_entries 63 b.created b.destroyed 0 e) 0) cs)
    go n [] T = omega arith
    go n (c ∷ cs) T =
        let added = add_location (key_in bs) 63 n c.created c.destroyed 0 e T in
        let grown = half_count entry_count (of_kind kind c) added T (new_entries 63 c.created c.destroyed 0 e) (entry_count_add (key_in bs) 63 n c.created c.destroyed 0 e T) in
        omega (arith, go (suc n) cs (cond (of_kind kind c) added T))
