-- Over any sound tree, tree_of's or a file's, the way down to a tick meets a block once if it is live then and never else. Assumes nothing.
--
-- An entry's block covers its node and not the parent, so below a node that lists it nobody lists it again, and the widths of its nodes lie side by
-- side within its life: in any interval they are at most the life's part there. They add up to the whole life, so in every half they are all of
-- the part there, and at the end of the way to a tick of its life a node lists it.
use mathlib.Core.Path.{◌≡◌, refl, ap, sym, ◌∙◌}
use mathlib.Core.Logic.{◌⊎◌, inl, inr}
use mathlib.Core.Bool.{Bool, true, false, true≢false, cond}
use mathlib.Core.List.{List}
use Prim.Native.Nat.{ℕ, ◌+◌, ◌-◌, ◌*◌, ◌≤◌, ◌<◌}
use native.Mathlib.Nat.{zero-add}
use native.Mathlib.Omega.{arith}
use lib.ListN.{length}
use borrow.Author.Tests.{eq-eqb, ne_eqb}
use Rattle.lists.specs.Lists.{All, Ascending, pairs_nil, pairs_cons, count}
use Rattle.lists.proofs.Numbers.{le_or_lt, lt_or_le, eq_or_ne}
use Rattle.lists.proofs.Lists.{count-append, all_at, all_map}
use Rattle.lists.proofs.Counting.{count_none}
use Rattle.history.specs.Words.{within, Block, live}
use Rattle.history.specs.Tree.{Tree, hole, node, mid, no_block, block_at, key_in, widths}
use Rattle.history.specs.Find.{path}
use Rattle.history.specs.Rules.{halved, placed, sorted, rule23}
use Rattle.history.proofs.Within.{within_in, within_low, within_high}
use Rattle.history.proofs.RulesLaws.{halved_left, halved_right, halved_narrow, covers_node, placed_left, placed_right, placed-covers, placed-above, ascends_decides, sorted_here, sorted_left, sorted_right, Rule23, rule23_decides}
use Rattle.history.proofs.TreeAdding.{covers_yes, covers-inside}
use Rattle.history.proofs.TreePath.{block_none, path_below, path-below_left, path-below_right, path-below-none}
use Rattle.history.proofs.TreeWidths.{overlap, overlap_split}

-- ── no repetition in a node ──

-- where keys ascend strictly no number stands twice
pub ascending_once : (key : ℕ → ℕ) (k : ℕ) {xs : List ℕ} → Ascending key xs → count k xs ≤ 1
unfolding count
ascending_once key k pairs_nil = omega arith
ascending_once key k (pairs_cons {x} {xs} a p) =
    elim (eq_or_ne k x) [
      | inl e ↦ rw (eq-eqb k x e) (omega (arith, count_none k (all_map (λ y l q. omega (arith, ap key e, ap key q)) a)))
      | inr n ↦ rw (ne_eqb k x n) (omega (arith, ascending_once key k p))
    ]

-- ── below a node ──

-- the way goes on in the left half, in the right one, or ends
below_by : (k t lo hi : ℕ) (l r : Tree) (x : ℕ) → (lo + 1 < hi → t < mid lo hi → count k (path t lo (mid lo hi) l) ≡ x)
    → (lo + 1 < hi → mid lo hi ≤ t → count k (path t (mid lo hi) hi r) ≡ x) → (hi ≤ lo + 1 → x ≡ 0) → count k (path_below t lo hi l r) ≡ x
unfolding count
below_by k t lo hi l r x left right none =
    elim (lt_or_le (lo + 1) hi) [
      | inl v ↦ elim (lt_or_le t (mid lo hi)) [
        | inl h ↦ rw (path-below_left t lo hi l r v h) (left v h)
        | inr h ↦ rw (path-below_right t lo hi l r v h) (right v h)
      ]
      | inr v ↦ rw (path-below-none t lo hi l r v) (sym (none v))
    ]

-- ── one block in a sound tree ──

-- a sound tree at [lo, hi)
pub record SoundAt (at : ℕ → Block) (key : ℕ → ℕ) (above : ℕ → Bool) (lo hi : ℕ) (tree : Tree) : Type 0 where
  pub halves : halved lo hi tree ≡ true
  pub places : placed at above lo hi tree ≡ true
  pub order : sorted key tree ≡ true

module _ (at : ℕ → Block) (key : ℕ → ℕ) where
  pub sound_left : (above : ℕ → Bool) (lo hi : ℕ) (es : List ℕ) (l r : Tree) → SoundAt at key above lo hi (node es l r) → SoundAt at key (covers_node at lo hi) lo (mid lo hi) l
  sound_left above lo hi es l r s = record {
    halves = halved_left lo hi es l r s.halves;
    places = placed_left at above lo hi es l r s.places;
    order = sorted_left key es l r s.order;
  }

  pub sound_right : (above : ℕ → Bool) (lo hi : ℕ) (es : List ℕ) (l r : Tree) → SoundAt at key above lo hi (node es l r) → SoundAt at key (covers_node at lo hi) (mid lo hi) hi r
  sound_right above lo hi es l r s = record {
    halves = halved_right lo hi es l r s.halves;
    places = placed_right at above lo hi es l r s.places;
    order = sorted_right key es l r s.order;
  }

  module _ (k : ℕ) where
    abbrev c : ℕ
    c = (at k).created

    abbrev d : ℕ
    d = (at k).destroyed

    -- a node lists the block at most once
    node_once : (above : ℕ → Bool) (lo hi : ℕ) (es : List ℕ) (l r : Tree) → SoundAt at key above lo hi (node es l r) → (count k es ≡ 0) ⊎ (count k es ≡ 1)
    node_once above lo hi es l r s =
        let most : count k es ≤ 1 = ascending_once key k ((ascends_decides key es).yes (sorted_here key es l r s.order)) in
        elim (le_or_lt (count k es) 0) [ inl h ↦ inl (omega arith) | inr h ↦ inr (omega arith) ]

    -- below a node that the block covers nobody lists it
    unlisted : (above : ℕ → Bool) (lo hi : ℕ) (es : List ℕ) (l r : Tree) → above k ≡ true → placed at above lo hi (node es l r) ≡ true → count k es ≡ 0
    unlisted above lo hi es l r u p =
        elim (le_or_lt (count k es) 0) [
          | inl h ↦ omega arith
          | inr h ↦ absurd (true≢false (sym u ∙ placed-above at above lo hi es l r k p h))
        ]

    widths_under : (above : ℕ → Bool) (lo hi : ℕ) (T : Tree) → lo ≤ hi → above k ≡ true → c ≤ lo → hi ≤ d → placed at above lo hi T ≡ true → widths k lo hi T ≡ 0
    unfolding widths
    widths_under above lo hi hole w u a z p = refl
    widths_under above lo hi (node es l r) w u a z p =
        let here = covers_yes c d lo hi a z in
        rw (
          unlisted above lo hi es l r u p,
          widths_under (covers_node at lo hi) lo (mid lo hi) l (omega arith) here a (omega arith) (placed_left at above lo hi es l r p),
          widths_under (covers_node at lo hi) (mid lo hi) hi r (omega arith) here (omega arith) z (placed_right at above lo hi es l r p),
        )
        (omega arith)

    path_under : (t : ℕ) (above : ℕ → Bool) (lo hi : ℕ) (T : Tree) → lo ≤ hi → above k ≡ true → c ≤ lo → hi ≤ d → placed at above lo hi T ≡ true → count k (path t lo hi T) ≡ 0
    unfolding path count
    path_under t above lo hi hole w u a z p = refl
    path_under t above lo hi (node es l r) w u a z p =
        let here = covers_yes c d lo hi a z in
        let below =
        below_by k t lo hi l r 0
        (λ v h. path_under t (covers_node at lo hi) lo (mid lo hi) l (omega arith) here a (omega arith) (placed_left at above lo hi es l r p))
        (λ v h. path_under t (covers_node at lo hi) (mid lo hi) hi r (omega arith) here (omega arith) z (placed_right at above lo hi es l r p)) (λ v. refl) in
        count-append k es (path_below t lo hi l r) ∙ rw (unlisted above lo hi es l r u p, below)

    -- the widths of the block's nodes are at most its life's part in the interval
    pub widths-most : (above : ℕ → Bool) (lo hi : ℕ) (T : Tree) → lo ≤ hi → SoundAt at key above lo hi T → widths k lo hi T ≤ overlap c d lo hi
    unfolding widths
    widths-most above lo hi hole w s = omega arith
    widths-most above lo hi (node es l r) w s =
        elim (node_once above lo hi es l r s) [
          | inl none ↦ rw none
              (omega (
                arith,
                widths-most (covers_node at lo hi) lo (mid lo hi) l (omega arith) (sound_left above lo hi es l r s),
                widths-most (covers_node at lo hi) (mid lo hi) hi r (omega arith) (sound_right above lo hi es l r s),
                overlap_split c d lo (mid lo hi) hi (omega arith) (omega arith),
              ))
          | inr once ↦
              let here = placed-covers at above lo hi es l r k s.places (omega arith) in
              let in-life = covers-inside c d lo hi here in
              rw (
                once,
                widths_under (covers_node at lo hi) lo (mid lo hi) l (omega arith) here in-life.0 (omega (arith, in-life.1)) (placed_left at above lo hi es l r s.places),
                widths_under (covers_node at lo hi) (mid lo hi) hi r (omega arith) here (omega (arith, in-life.0)) in-life.1 (placed_right at above lo hi es l r s.places),
              )
              (omega (arith, in-life))
        ]

    -- no part of the life in the interval: not live there
    no_part : (t lo hi : ℕ) → lo ≤ t → t < hi → overlap c d lo hi ≡ 0 → within c d t ≡ false
    no_part t lo hi a z none =
        elim (lt_or_le t c) [
          | inl p ↦ within_low c d t p
          | inr p ↦ elim (lt_or_le t d) [
            | inl q ↦ absurd (omega arith)
            | inr q ↦ within_high c d t q
          ]
        ]

    -- Where the widths are all of the life's part, the way meets the block once if it is live and never else.
    pub path_tight : (t : ℕ) (above : ℕ → Bool) (lo hi : ℕ) (T : Tree) → lo ≤ t → t < hi → SoundAt at key above lo hi T → widths k lo hi T ≡ overlap c d lo hi
        → count k (path t lo hi T) ≡ cond (within c d t) 1 0
    unfolding widths path count
    path_tight t above lo hi hole a z s tight = rw (no_part t lo hi a z (omega arith))
    path_tight t above lo hi (node es l r) a z s tight =
        count-append k es (path_below t lo hi l r)
        ∙ (elim (node_once above lo hi es l r s) [
          | inl none ↦
              let total : 0 * (hi - lo) + (widths k lo (mid lo hi) l + widths k (mid lo hi) hi r) ≡ overlap c d lo hi = rw none at tight in
              let most-left = widths-most (covers_node at lo hi) lo (mid lo hi) l (omega arith) lefts in
              let most-right = widths-most (covers_node at lo hi) (mid lo hi) hi r (omega arith) rights in
              let split = overlap_split c d lo (mid lo hi) hi (omega arith) (omega arith) in
              rw (none, zero-add)
              (below_by k t lo hi l r (cond (within c d t) 1 0)
              (λ v h. path_tight t (covers_node at lo hi) lo (mid lo hi) l a h lefts (only_left _ _ _ _ _ total split most-left most-right))
              (λ v h. path_tight t (covers_node at lo hi) (mid lo hi) hi r h z rights (only_right _ _ _ _ _ total split most-left most-right)) (λ v. narrow none v))
          | inr once ↦ rw once (listed_here once)
        ])
      where
        lefts : SoundAt at key (covers_node at lo hi) lo (mid lo hi) l
        lefts = sound_left above lo hi es l r s

        rights : SoundAt at key (covers_node at lo hi) (mid lo hi) hi r
        rights = sound_right above lo hi es l r s

        only_left : (x y u v o : ℕ) → 0 * (hi - lo) + (x + y) ≡ o → o ≡ u + v → x ≤ u → y ≤ v → x ≡ u
        only_left x y u v o p q f g = omega arith

        only_right : (x y u v o : ℕ) → 0 * (hi - lo) + (x + y) ≡ o → o ≡ u + v → x ≤ u → y ≤ v → y ≡ v
        only_right x y u v o p q f g = omega arith

        -- a node of width 1 that does not list it: it has no part there
        narrow : count k es ≡ 0 → hi ≤ lo + 1 → ◌≡◌ {A = ℕ} (cond (within c d t) 1 0) 0
        narrow none v =
            let holes = halved_narrow lo hi es l r s.halves v in
            let total : 0 * (hi - lo) + (0 + 0) ≡ overlap c d lo hi = rw (none, holes.0, holes.1) at tight in
            rw (no_part t lo hi a z (sym total ∙ omega arith))

        -- a node that lists it covers the tick, and nothing below lists it again
        listed_here : count k es ≡ 1 → 1 + count k (path_below t lo hi l r) ≡ cond (within c d t) 1 0
        listed_here once =
            let here = placed-covers at above lo hi es l r k s.places (omega arith) in
            let in-life = covers-inside c d lo hi here in
            let below =
            below_by k t lo hi l r 0
            (λ v h. path_under t (covers_node at lo hi) lo (mid lo hi) l (omega arith) here in-life.0 (omega (arith, in-life.1)) lefts.places)
            (λ v h. path_under t (covers_node at lo hi) (mid lo hi) hi r (omega arith) here (omega (arith, in-life.0)) in-life.1 rights.places) (λ v. refl) in
            rw (below, within_in c d t (omega (arith, in-life.0)) (omega (arith, in-life.1)))

-- ── a sound tree ──

module _ (e : ℕ) (bs : List Block) (tree : Tree) (halves : halved 0 e tree ≡ true) (rule : rule23 e bs tree ≡ true)
    (ends : All (λ (b : Block). b.destroyed ≤ e) bs) where
  parts : Rule23 e bs tree
  parts = (rule23_decides e bs tree).yes rule

  sound : SoundAt (block_at bs) (key_in bs) (λ k. false) 0 e tree
  sound = record { halves = halves; places = parts.places; order = parts.order }

  -- all of a block's life is in its nodes; no block has none
  all_part : (k : ℕ) → widths k 0 e tree ≡ overlap (block_at bs k).created (block_at bs k).destroyed 0 e
  all_part k =
      elim (lt_or_le k (length bs)) [
        | inl h ↦ (let end : (block_at bs k).destroyed ≤ e = all_at no_block ends k h in parts.sums k h ∙ omega arith)
        | inr h ↦
            let most = widths-most (block_at bs) (key_in bs) k (λ k. false) 0 e tree (omega arith) sound in
            let none : (block_at bs k).destroyed ≡ 0 = rw (block_none k bs h) in
            omega arith
      ]

  -- A block is met exactly once on the way to a tick at which it is live, and never on any other.
  pub path-met : (t k : ℕ) → t < e → count k (path t 0 e tree) ≡ cond (live t (block_at bs k)) 1 0
  path-met t k h = path_tight (block_at bs) (key_in bs) k t (λ k. false) 0 e tree (omega arith) h sound (all_part k)
