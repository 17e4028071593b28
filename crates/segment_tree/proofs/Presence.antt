-- Which nodes a life goes to are there: a tree to which blocks were added has them, and adding to its bare nodes gives its entries back. Assumes nothing.
use mathlib.Core.Path.{◌≡◌, refl, ap, sym, ◌∙◌}
use mathlib.Core.Logic.{inl, inr}
use mathlib.Core.Bool.{Bool, true, false, true≢false, cond, ◌&&◌}
use mathlib.Core.List.{List, [], ◌∷◌}
use Prim.Native.Nat.{ℕ, zero, suc, ◌+◌, ◌<◌}
use native.Mathlib.Omega.{arith}
use lib.Dec.{ltb}
use Rattle.lists.specs.Lists.{All, all_nil, all_cons}
use Rattle.lists.proofs.Numbers.{bool_cases}
use Rattle.lists.proofs.Lists.{all_map}
use Rattle.history.specs.Words.{Block}
use Rattle.history.specs.Tree.{Tree, hole, node, mid, halves, covers, entries_of, left_of, right_of, add_location, node_count}
use Rattle.history.proofs.TreeAdding.{add_here, add_last, add_below, add_block}
use Rattle.history.proofs.TreeOrder.{add_each}
use Rattle.history.proofs.TreeCounts.{is_new, new_nodes, node_count_add}

-- ── nodes that are there ──

pub new_hole : (n c d lo hi : ℕ) → 0 < new_nodes n c d lo hi hole
unfolding new_nodes
new_hole zero c d lo hi = omega arith
new_hole (suc n) c d lo hi = omega arith

-- said by the count of nodes
pub none_new : (b n c d lo hi : ℕ) (T : Tree) → node_count (add_location (λ _. 0) n b c d lo hi T) ≡ node_count T → new_nodes n c d lo hi T ≡ 0
none_new b n c d lo hi T h = omega (arith, node_count_add (λ _. 0) n b c d lo hi T)

pub new_none-count : (b n c d lo hi : ℕ) (T : Tree) → new_nodes n c d lo hi T ≡ 0 → node_count (add_location (λ _. 0) n b c d lo hi T) ≡ node_count T
new_none-count b n c d lo hi T h = omega (arith, node_count_add (λ _. 0) n b c d lo hi T)

-- at a node that the life does not cover, its halves have theirs
pub record Below (n c d lo hi : ℕ) (T : Tree) : Type 0 where
  pub left : (halves lo hi && ltb c (mid lo hi)) ≡ true → new_nodes n c d lo (mid lo hi) (left_of T) ≡ 0
  pub right : (halves lo hi && ltb (mid lo hi) d) ≡ true → new_nodes n c d (mid lo hi) hi (right_of T) ≡ 0

pub new_below : (n c d lo hi : ℕ) (T : Tree) → covers c d lo hi ≡ false → new_nodes (suc n) c d lo hi T ≡ 0 → Below n c d lo hi T
unfolding new_nodes
new_below n c d lo hi T e none =
    let u : Bool = halves lo hi && ltb c (mid lo hi) in
    let v : Bool = halves lo hi && ltb (mid lo hi) d in
    let sum : is_new T + (cond u (new_nodes n c d lo (mid lo hi) (left_of T)) 0 + cond v (new_nodes n c d (mid lo hi) hi (right_of T)) 0) ≡ 0 = rw e at none in
    record { left = λ y. went u _ y (omega arith); right = λ y. went v _ y (omega arith) }
  where
    went : (u : Bool) (m : ℕ) → u ≡ true → cond u m 0 ≡ 0 → m ≡ 0
    went true m y h = h
    went false m y h = absurd (true≢false (sym y))

-- and so has the node, where it is there itself
pub new_none : (n c d lo hi : ℕ) (xs : List ℕ) (l r : Tree) → covers c d lo hi ≡ false → Below n c d lo hi (node xs l r) → new_nodes (suc n) c d lo hi (node xs l r) ≡ 0
unfolding new_nodes
new_none n c d lo hi xs l r e b = rw (e, stay (halves lo hi && ltb c (mid lo hi)) _ b.left, stay (halves lo hi && ltb (mid lo hi) d) _ b.right)
  where
    stay : (u : Bool) (m : ℕ) → (u ≡ true → m ≡ 0) → cond u m 0 ≡ 0
    stay true m h = h refl
    stay false m h = refl

new_covered : (n c d lo hi : ℕ) (xs : List ℕ) (l r : Tree) → covers c d lo hi ≡ true → new_nodes n c d lo hi (node xs l r) ≡ 0
unfolding new_nodes
new_covered zero c d lo hi xs l r e = refl
new_covered (suc n) c d lo hi xs l r e = rw e

new_last : (c d lo hi : ℕ) (xs : List ℕ) (l r : Tree) → new_nodes 0 c d lo hi (node xs l r) ≡ 0
unfolding new_nodes
new_last c d lo hi xs l r = refl

-- ── after blocks were added ──

module _ (key : ℕ → ℕ) (b : ℕ) where
  -- the block's own nodes
  pub new_again : (n c d lo hi : ℕ) (T : Tree) → new_nodes n c d lo hi (add_location key n b c d lo hi T) ≡ 0
  new_again zero c d lo hi T =
      elim (bool_cases (covers c d lo hi)) [
        | inl e ↦ rw (add_here key b c d lo hi T 0 e) (new_covered 0 c d lo hi _ _ _ e)
        | inr e ↦ rw (add_last key b c d lo hi T e) (new_last c d lo hi _ _ _)
      ]
  new_again (suc n) c d lo hi T =
      elim (bool_cases (covers c d lo hi)) [
        | inl e ↦ rw (add_here key b c d lo hi T (suc n) e) (new_covered (suc n) c d lo hi _ _ _ e)
        | inr e ↦ rw (add_below key b c d lo hi T n e) (new_none n c d lo hi _ _ _ e (record {
          left = λ y. rw y (new_again n c d lo (mid lo hi) (left_of T));
          right = λ y. rw y (new_again n c d (mid lo hi) hi (right_of T));
        }))
      ]

  -- and those of another
  pub new_keep : (n c d c' d' lo hi : ℕ) (T : Tree) → new_nodes n c d lo hi T ≡ 0 → new_nodes n c d lo hi (add_location key n b c' d' lo hi T) ≡ 0
  new_keep zero c d c' d' lo hi T h =
      elim (bool_cases (covers c' d' lo hi)) [
        | inl e ↦ rw (add_here key b c' d' lo hi T 0 e) (new_last c d lo hi _ _ _)
        | inr e ↦ rw (add_last key b c' d' lo hi T e) (new_last c d lo hi _ _ _)
      ]
  new_keep (suc n) c d c' d' lo hi T h =
      elim (bool_cases (covers c d lo hi)) [
        | inl w ↦ elim (bool_cases (covers c' d' lo hi)) [
          | inl e ↦ rw (add_here key b c' d' lo hi T (suc n) e) (new_covered (suc n) c d lo hi _ _ _ w)
          | inr e ↦ rw (add_below key b c' d' lo hi T n e) (new_covered (suc n) c d lo hi _ _ _ w)
        ]
        | inr w ↦ (let p : Below n c d lo hi T = new_below n c d lo hi T w h in elim (bool_cases (covers c' d' lo hi)) [
          | inl e ↦ rw (add_here key b c' d' lo hi T (suc n) e) (new_none n c d lo hi _ _ _ w (record { left = p.left; right = p.right }))
          | inr e ↦ rw (add_below key b c' d' lo hi T n e) (new_none n c d lo hi _ _ _ w (record {
            left = λ y. half (halves lo hi && ltb c' (mid lo hi)) n lo (mid lo hi) (left_of T) _ (p.left y) (new_keep n c d c' d' lo (mid lo hi) (left_of T) (p.left y));
            right = λ y. half (halves lo hi && ltb (mid lo hi) d') n (mid lo hi) hi (right_of T) _ (p.right y) (new_keep n c d c' d' (mid lo hi) hi (right_of T) (p.right y));
          }))
        ])
      ]
    where
      half : (u : Bool) (n lo hi : ℕ) (X Y : Tree) → new_nodes n c d lo hi X ≡ 0 → new_nodes n c d lo hi Y ≡ 0 → new_nodes n c d lo hi (cond u Y X) ≡ 0
      half true n lo hi X Y p q = q
      half false n lo hi X Y p q = p

-- the nodes of a block are there in a tree
abbrev pub NodesOf : (at : ℕ → Block) (e : ℕ) (T : Tree) (k : ℕ) → Type 0
NodesOf at e T k = new_nodes 63 (at k).created (at k).destroyed 0 e T ≡ 0

module _ (at : ℕ → Block) (key : ℕ → ℕ) (e : ℕ) where
  keep_each : (k : ℕ) (ks : List ℕ) (T : Tree) → NodesOf at e T k → NodesOf at e (add_each at key e ks T) k
  unfolding add_each
  keep_each k [] T h = h
  keep_each k (x ∷ ks) T h =
      keep_each k ks (add_block at key e x T) (new_keep key x 63 (at k).created (at k).destroyed (at x).created (at x).destroyed 0 e T h)

  -- all blocks that were added find their nodes
  pub each_present : (ks : List ℕ) (T : Tree) → All (NodesOf at e (add_each at key e ks T)) ks
  unfolding add_each
  each_present [] T = all_nil
  each_present (k ∷ ks) T = all_cons (keep_each k ks (add_block at key e k T) (new_again key k 63 (at k).created (at k).destroyed 0 e T)) (each_present ks (add_block at key e k T))

-- ── bare nodes ──

-- the same nodes, none of which lists anything
unfoldable pub bare : Tree → Tree
bare hole = hole
bare (node xs l r) = node [] (bare l) (bare r)

-- the nodes of both, with the entries of the second
unfoldable pub over : (nodes tree : Tree) → Tree
over hole T = T
over (node ys l r) T = node (entries_of T) (over l (left_of T)) (over r (right_of T))

over_self : (T : Tree) → over (bare T) T ≡ T
unfolding over bare
over_self hole = refl
over_self (node xs l r) = rw (over_self l, over_self r)

over_none : (T : Tree) → over (bare T) hole ≡ bare T
unfolding over bare
over_none hole = refl
over_none (node xs l r) = rw (over_none l, over_none r)

pub new_bare : (n c d lo hi : ℕ) (T : Tree) → new_nodes n c d lo hi (bare T) ≡ new_nodes n c d lo hi T
unfolding new_nodes bare
new_bare zero c d lo hi hole = refl
new_bare zero c d lo hi (node xs l r) = refl
new_bare (suc n) c d lo hi hole = refl
new_bare (suc n) c d lo hi (node xs l r) = rw (new_bare n c d lo (mid lo hi) l, new_bare n c d (mid lo hi) hi r)

module _ (key : ℕ → ℕ) (b c d : ℕ) where
  -- a half that the block goes to, or does not
  half_over : (u : Bool) (U A T : Tree) (B : Tree) → (u ≡ true → B ≡ over U A) → cond u B (over U T) ≡ over U (cond u A T)
  half_over true U A T B h = h refl
  half_over false U A T B h = refl

  -- where its nodes are there, adding makes none
  pub add_over : (n lo hi : ℕ) (U T : Tree) → new_nodes n c d lo hi U ≡ 0 → add_location key n b c d lo hi (over U T) ≡ over U (add_location key n b c d lo hi T)
  unfolding over
  add_over n lo hi hole T h = absurd (omega (arith, new_hole n c d lo hi))
  add_over zero lo hi (node ys l r) T h =
      elim (bool_cases (covers c d lo hi)) [
        | inl e ↦ rw (add_here key b c d lo hi T 0 e, add_here key b c d lo hi (over (node ys l r) T) 0 e)
        | inr e ↦ rw (add_last key b c d lo hi T e, add_last key b c d lo hi (over (node ys l r) T) e)
      ]
  add_over (suc n) lo hi (node ys l r) T h =
      elim (bool_cases (covers c d lo hi)) [
        | inl e ↦ rw (add_here key b c d lo hi T (suc n) e, add_here key b c d lo hi (over (node ys l r) T) (suc n) e)
        | inr e ↦
            let p : Below n c d lo hi (node ys l r) = new_below n c d lo hi (node ys l r) e h in
            let left = half_over (halves lo hi && ltb c (mid lo hi)) l (add_location key n b c d lo (mid lo hi) (left_of T)) (left_of T) _ (λ y. add_over n lo (mid lo hi) l (left_of T) (p.left y)) in
            let right = half_over (halves lo hi && ltb (mid lo hi) d) r (add_location key n b c d (mid lo hi) hi (right_of T)) (right_of T) _ (λ y. add_over n (mid lo hi) hi r (right_of T) (p.right y)) in
            rw (add_below key b c d lo hi T n e, add_below key b c d lo hi (over (node ys l r) T) n e, left, right)
      ]

module _ (at : ℕ → Block) (key : ℕ → ℕ) (e : ℕ) where
  each_over : (ks : List ℕ) (U T : Tree) → All (NodesOf at e U) ks → add_each at key e ks (over U T) ≡ over U (add_each at key e ks T)
  unfolding add_each
  each_over [] U T all_nil = refl
  each_over (k ∷ ks) U T (all_cons h hs) =
      ap (add_each at key e ks) (add_over key k (at k).created (at k).destroyed 63 0 e U T h) ∙ each_over ks U (add_block at key e k T) hs

  -- Adding to the bare nodes of a tree what was added to make it gives the tree.
  pub each_bare : (ks : List ℕ) (U : Tree) → U ≡ add_each at key e ks hole → add_each at key e ks (bare U) ≡ U
  each_bare ks U is =
      let there : All (NodesOf at e U) ks = rw is (each_present at key e ks hole) in
      let bare_there : All (NodesOf at e (bare U)) ks = all_map (λ k h. new_bare 63 (at k).created (at k).destroyed 0 e U ∙ h) there in
      ap (add_each at key e ks) (sym (over_none U)) ∙ each_over ks (bare U) hole bare_there ∙ ap (over (bare U)) (sym is) ∙ over_self U
