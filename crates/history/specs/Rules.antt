-- The rules of a closed index as tests over lists: refusals 21 to 24 of document 01 without the loader's own part, which is in File.
use Rattle.std.specs.Prelude.{Bool, true, false, ◌&&◌, ◌||◌, not, List, [], ◌∷◌, ℕ, ◌+◌, ◌-◌, ◌^◌, min, max, length, leb, ltb, eqb}
use Rattle.lists.specs.Lists.{Pairs, count_from}
use Rattle.history.specs.Words.{size, ends, Block, first_cell, life, Holds}
use Rattle.history.specs.Tree.{Tree, hole, node, mid, halves, covers, block_at, key_in, widths}

-- the test holds of every element
unfoldable pub every : {A : Type 0} → (A → Bool) → List A → Bool
every f [] = true
every f (x ∷ xs) = f x && every f xs

-- ── 21, what is left of it where intervals are passed down ──

abbrev pub is_hole : Tree → Bool
is_hole hole = true
is_hole (node es l r) = false

-- no child of a node of width 1
unfoldable pub halved : (lo hi : ℕ) → Tree → Bool
halved lo hi hole = true
halved lo hi (node es l r) =
    (halves lo hi || (is_hole l && is_hole r)) && (halved lo (mid lo hi) l && halved (mid lo hi) hi r)

-- ── 22 ──

-- not empty, and no end above 2^64 − 1
unfoldable pub filled : Block → Bool
filled b = ltb 0 (size b.stretch) && leb (first_cell b + size b.stretch) (2 ^ 64 - 1)

-- created < destroyed ≤ E
unfoldable pub lived : (end : ℕ) → Block → Bool
lived e b = ltb b.created b.destroyed && leb b.destroyed e

-- ── 23 ──

-- no block number too high
unfoldable pub numbered : (blocks : ℕ) → Tree → Bool
numbered n hole = true
numbered n (node es l r) = every (λ k. ltb k n) es && (numbered n l && numbered n r)

-- each entry's block covers its node and not the node's parent, of which `above` says whether a block covers it
unfoldable pub placed : (at : ℕ → Block) (above : ℕ → Bool) (lo hi : ℕ) → Tree → Bool
placed at above lo hi hole = true
placed at above lo hi (node es l r) =
    every (λ k. covers (at k).created (at k).destroyed lo hi && not (above k)) es
    && (placed at (λ k. covers (at k).created (at k).destroyed lo hi) lo (mid lo hi) l
    && placed at (λ k. covers (at k).created (at k).destroyed lo hi) (mid lo hi) hi r)

-- the keys of a list ascend strictly
unfoldable pub ascends : (key : ℕ → ℕ) → List ℕ → Bool
ascends key [] = true
ascends key (x ∷ xs) = every (λ y. ltb (key x) (key y)) xs && ascends key xs

-- first cells ascend strictly in every node
unfoldable pub sorted : (key : ℕ → ℕ) → Tree → Bool
sorted key hole = true
sorted key (node es l r) = ascends key es && (sorted key l && sorted key r)

-- each block's node widths sum to its life
unfoldable pub summed : (end : ℕ) → List Block → Tree → Bool
summed e bs tree = every (λ k. eqb (widths k 0 e tree) (life (block_at bs k))) (count_from 0 (length bs))

unfoldable pub rule23 : (end : ℕ) → List Block → Tree → Bool
rule23 e bs tree =
    numbered (length bs) tree && (placed (block_at bs) (λ k. false) 0 e tree && (sorted (key_in bs) tree && summed e bs tree))

-- ── 24 ──

-- two blocks share a cell at a tick
unfoldable pub shares : (a b : Block) → Bool
shares a b =
    ltb (max a.stretch.first b.stretch.first) (min (ends a.stretch) (ends b.stretch))
    && ltb (max a.created b.created) (min a.destroyed b.destroyed)

-- no two of them do: each against every later one
unfoldable pub apart : List Block → Bool
apart [] = true
apart (b ∷ bs) = every (λ c. not (shares b c)) bs && apart bs

-- the same in the words of demand 3: no two live blocks share a cell
abbrev pub Apart : List Block → Type 0
Apart bs = Pairs (λ a b. (t cell : ℕ) → Holds t cell a → Holds t cell b → ⊥) bs
