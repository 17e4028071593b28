-- The segment tree as plain data, and what adding a block does to it (01, "segment_tree.rs"). The interval of a node is passed down from the root.
use Rattle.std.specs.Prelude.{Bool, cond, ◌&&◌, List, [], ◌∷◌, ◌++◌, map, ℕ, zero, suc, ◌+◌, ◌*◌, ◌-◌, ◌/◌, length, get_or, leb, ltb}
use Rattle.lists.specs.Lists.{count, sum_of}
use Rattle.history.specs.Words.{Block, a_block, first_cell, of_kind, all_kinds}

-- no node; or a node: its entries, which are block numbers, and its two halves
pub data Tree : Type 0 where
  hole : Tree
  node : (entries : List ℕ) (left right : Tree) → Tree

-- ── intervals ──

-- A node [min, max) has mid = (min + max) / 2 ..
abbrev pub mid : (lo hi : ℕ) → ℕ
mid lo hi = (lo + hi) / 2

-- .. and halves, if its width is above 1
abbrev pub halves : (lo hi : ℕ) → Bool
halves lo hi = ltb (lo + 1) hi

-- the life [created, destroyed) covers the node [lo, hi)
abbrev pub covers : (created destroyed lo hi : ℕ) → Bool
covers c d lo hi = leb c lo && leb hi d

-- ── adding ──

abbrev pub entries_of : Tree → List ℕ
entries_of hole = []
entries_of (node es l r) = es

abbrev pub left_of : Tree → Tree
left_of hole = hole
left_of (node es l r) = l

abbrev pub right_of : Tree → Tree
right_of hole = hole
right_of (node es l r) = r

-- a block number at its place: entries in a node ascend by first cell, which is the key
unfoldable pub insert : (key : ℕ → ℕ) (block : ℕ) → List ℕ → List ℕ
insert key b [] = b ∷ []
insert key b (x ∷ xs) =
    let later = x ∷ insert key b xs in
    cond (ltb (key b) (key x)) (b ∷ x ∷ xs) later

-- `add_location` puts a block into a node that its life covers; else into the left half if created < mid, and the right if destroyed > mid, making
-- nodes as it goes. At most `levels` more levels follow.
unfoldable pub add_location : (key : ℕ → ℕ) (levels block created destroyed lo hi : ℕ) → Tree → Tree
add_location key zero b c d lo hi t =
    cond (covers c d lo hi) (node (insert key b (entries_of t)) (left_of t) (right_of t))
    (node (entries_of t) (left_of t) (right_of t))
add_location key (suc n) b c d lo hi t =
    let l = add_location key n b c d lo (mid lo hi) (left_of t) in
    let r = add_location key n b c d (mid lo hi) hi (right_of t) in
    let below =
    node (entries_of t) (cond (halves lo hi && ltb c (mid lo hi)) l (left_of t))
    (cond (halves lo hi && ltb (mid lo hi) d) r (right_of t)) in
    cond (covers c d lo hi) (node (insert key b (entries_of t)) (left_of t) (right_of t)) below

-- those of a kind among the blocks from number n on, added in recorded order; 2^63 ticks have 63 levels below the root
unfoldable pub add_all : (key : ℕ → ℕ) (kind end n : ℕ) → List Block → Tree → Tree
add_all key kind e n [] t = t
add_all key kind e n (b ∷ bs) t =
    let added = add_location key 63 n b.created b.destroyed 0 e t in
    add_all key kind e (suc n) bs (cond (of_kind kind b) added t)

abbrev pub no_block : Block
no_block = a_block 0 0 [] 0 0

-- block k, and its first cell
abbrev pub block_at : List Block → (k : ℕ) → Block
block_at bs k = get_or bs k no_block

abbrev pub key_in : List Block → (k : ℕ) → ℕ
key_in bs k = first_cell (block_at bs k)

-- the tree of a kind's blocks, under their common numbers: the root is [0, E); without blocks of the kind there is no node
unfoldable pub tree_of : (kind end : ℕ) → List Block → Tree
tree_of kind e bs = add_all (key_in bs) kind e 0 bs hole

-- a tree for each kind, by kind code
unfoldable pub trees_of : (end : ℕ) → List Block → List Tree
trees_of e bs = map (λ kind. tree_of kind e bs) all_kinds

-- the tree of a kind
abbrev pub tree_at : List Tree → (kind : ℕ) → Tree
tree_at trees kind = get_or trees kind hole

-- ── counts ──

unfoldable pub node_count : Tree → ℕ
node_count hole = 0
node_count (node es l r) = suc (node_count l + node_count r)

unfoldable pub entry_count : Tree → ℕ
entry_count hole = 0
entry_count (node es l r) = length es + (entry_count l + entry_count r)

-- of all trees together
abbrev pub nodes_in : List Tree → ℕ
nodes_in trees = sum_of (map node_count trees)

abbrev pub entries_all : List Tree → ℕ
entries_all trees = sum_of (map entry_count trees)

-- the entries of all nodes, root first, left before right
unfoldable pub entries_in : Tree → List ℕ
entries_in hole = []
entries_in (node es l r) = es ++ (entries_in l ++ entries_in r)

-- the widths of the nodes that list block k, added up
unfoldable pub widths : (k lo hi : ℕ) → Tree → ℕ
widths k lo hi hole = 0
widths k lo hi (node es l r) = count k es * (hi - lo) + (widths k lo (mid lo hi) l + widths k (mid lo hi) hi r)
