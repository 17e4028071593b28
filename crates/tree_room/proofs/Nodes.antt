-- The nodes of all blocks: one has halves only where one of the blocks' ticks is inside it. So on each level there are two for each tick, and no more. Assumes
-- nothing.
use mathlib.Core.Path.{◌≡◌, refl, ap, sym, ◌∙◌}
use mathlib.Core.Logic.{◌⊎◌, inl, inr}
use mathlib.Core.Bool.{true, false, true≢false}
use mathlib.Core.List.{List}
use Prim.Native.Nat.{ℕ, zero, suc, ◌+◌, ◌*◌, ◌-◌, ◌^◌, ◌≤◌, ◌<◌}
use native.Mathlib.Nat.{mul-add, suc-mul, mul-le-mul_left}
use native.Mathlib.Omega.{arith}
use lib.ListN.{length}
use Rattle.lists.specs.Lists.{All}
use Rattle.lists.proofs.Lists.{all_at}
use Rattle.history.specs.Words.{Block}
use Rattle.history.specs.Tree.{Tree, hole, node, mid, covers, entries_of, left_of, right_of, add_location, no_block, block_at, key_in, tree_of, node_count}
use Rattle.history.specs.Refusals.{max_end_tick}
use Rattle.history.proofs.TreeAdding.{all, part, covering, half_left, half_right, made, listed, Half, went, kept, add_by, tree_by}
use Rattle.tree_room.specs.Room.{nodes_for, TicksAmong}
use Rattle.tree_room.proofs.Ticks.{ticks_in, ticks_split, ticks_some, ticks_most}

-- ── cut at ticks ──

module _ (ts : List ℕ) where
  -- the halves of a node: none, or it has halves and a tick
  data Halves (lo hi : ℕ) : (left right : Tree) → Type 0 where
    none : Halves lo hi hole hole
    some : {l r : Tree} → lo + 1 < hi → 1 ≤ ticks_in lo hi ts → Halves lo hi l r

  unfoldable Cut : (lo hi : ℕ) → Tree → Type 0
  Cut lo hi hole = Unit {0}
  Cut lo hi (node es l r) = Halves lo hi l r × Cut lo (mid lo hi) l × Cut (mid lo hi) hi r

  -- two on each level for each tick of two halves, and one for each half, make two on one level more
  step : (n w v u : ℕ) → u ≡ w + v → 1 ≤ u → suc ((1 + n * (2 * w)) + (1 + n * (2 * v))) ≤ 1 + suc n * (2 * u)
  step n w v u e h =
      let two : 2 * u ≡ 2 * w + 2 * v = omega arith in
      let split : n * (2 * u) ≡ n * (2 * w) + n * (2 * v) = ap (λ (k : ℕ). n * k) two ∙ mul-add n (2 * w) (2 * v) in
      omega (arith, suc-mul n (2 * u))

  nodes_most : (n lo hi : ℕ) (T : Tree) → lo ≤ hi → hi - lo ≤ 2 ^ n → Cut lo hi T → node_count T ≤ 1 + n * (2 * ticks_in lo hi ts)
  unfolding Cut node_count
  nodes_most n lo hi hole a w c = omega arith
  nodes_most n lo hi (node es l r) a w (none, cl, cr) = omega arith
  nodes_most zero lo hi (node es l r) a w (some v u, cl, cr) = absurd (omega arith)
  nodes_most (suc n) lo hi (node es l r) a w (some v u, cl, cr) =
      omega (
        arith,
        nodes_most n lo (mid lo hi) l (omega arith) (half_left lo hi n w) cl,
        nodes_most n (mid lo hi) hi r (omega arith) (half_right lo hi n w) cr,
        step n (ticks_in lo (mid lo hi) ts) (ticks_in (mid lo hi) hi ts) (ticks_in lo hi ts) (ticks_split lo (mid lo hi) hi ts (omega arith) (omega arith)) u,
      )

  -- ── adding a block ──

  cut-made : (lo hi : ℕ) (es : List ℕ) (T : Tree) → Cut lo hi T → Cut lo hi (node es (left_of T) (right_of T))
  unfolding Cut
  cut-made lo hi es hole c = (none, tt, tt)
  cut-made lo hi es (node xs l r) c = c

  cut_left : (lo hi : ℕ) (T : Tree) → Cut lo hi T → Cut lo (mid lo hi) (left_of T)
  unfolding Cut
  cut_left lo hi hole c = tt
  cut_left lo hi (node xs l r) c = c.1

  cut_right : (lo hi : ℕ) (T : Tree) → Cut lo hi T → Cut (mid lo hi) hi (right_of T)
  unfolding Cut
  cut_right lo hi hole c = tt
  cut_right lo hi (node xs l r) c = c.2

  module _ (key : ℕ → ℕ) (k e : ℕ) (b : Block) (among : TicksAmong e ts b) where
    -- of a node that the block's life meets
    Keeps : (lo hi : ℕ) (before after : Tree) → Type 0
    Keeps lo hi T U = b.created < hi → lo ≤ b.destroyed → hi ≤ e → Cut lo hi T → Cut lo hi U

    keeps_here : (lo hi : ℕ) (T : Tree) → lo ≤ hi → b.created ≤ lo → hi ≤ b.destroyed → covers b.created b.destroyed lo hi ≡ true → Keeps lo hi T (listed key k T)
    unfolding Keeps
    keeps_here lo hi T w p q o x y z c = cut-made lo hi _ T c

    keeps_stop : (lo hi : ℕ) (T : Tree) → lo ≤ hi → hi ≤ lo + 1 → (lo < b.created) ⊎ (b.destroyed < hi) → Keeps lo hi T (made T)
    unfolding Keeps
    keeps_stop lo hi T w n o x y z c = cut-made lo hi _ T c

    -- a life that does not cover the node begins or ends in it
    has_tick : (lo hi : ℕ) → covers b.created b.destroyed lo hi ≡ false → b.created < hi → lo ≤ b.destroyed → hi ≤ e → 1 ≤ ticks_in lo hi ts
    has_tick lo hi o x y z =
        elim (covering b.created b.destroyed lo hi) [
          | all p q u ↦ absurd (true≢false (sym u ∙ o))
          | part (inl p) _ ↦ ticks_some lo hi b.created ts (among.created (omega arith)) (omega arith) x
          | part (inr p) _ ↦ ticks_some lo hi b.destroyed ts (among.destroyed (omega arith)) y p
        ]

    keeps_down : (lo hi : ℕ) (T L R : Tree) → lo + 1 < hi → covers b.created b.destroyed lo hi ≡ false
        → Half (b.created < mid lo hi) (mid lo hi ≤ b.created) (Keeps lo (mid lo hi)) (left_of T) L
        → Half (mid lo hi < b.destroyed) (b.destroyed ≤ mid lo hi) (Keeps (mid lo hi) hi) (right_of T) R → Keeps lo hi T (node (entries_of T) L R)
    unfolding Keeps Cut
    keeps_down lo hi T L R w o left right x y z c = (some w (has_tick lo hi o x y z), in_left left, in_right right)
      where
        in_left : {L : Tree} → Half (b.created < mid lo hi) (mid lo hi ≤ b.created) (Keeps lo (mid lo hi)) (left_of T) L → Cut lo (mid lo hi) L
        in_left (went g p) = p g y (omega arith) (cut_left lo hi T c)
        in_left (kept g) = cut_left lo hi T c

        in_right : {R : Tree} → Half (mid lo hi < b.destroyed) (b.destroyed ≤ mid lo hi) (Keeps (mid lo hi) hi) (right_of T) R → Cut (mid lo hi) hi R
        in_right (went g p) = p x (omega arith) z (cut_right lo hi T c)
        in_right (kept g) = cut_right lo hi T c

    cut_add : (n : ℕ) (T : Tree) → e ≤ 2 ^ n → Cut 0 e T → Cut 0 e (add_location key n k b.created b.destroyed 0 e T)
    unfolding Keeps
    cut_add n T w c =
        add_by key k b.created b.destroyed Keeps keeps_here keeps_stop keeps_down n 0 e T (omega arith) (omega arith) among.in-time (omega arith) (omega arith) c

  -- ── all blocks ──

  pub tree_nodes : (n kind e : ℕ) (bs : List Block) → e ≤ max_end_tick → e ≤ 2 ^ n → All (λ (b : Block). b.kind ≡ kind → TicksAmong e ts b) bs
      → node_count (tree_of kind e bs) ≤ nodes_for n 1 (length ts)
  unfolding Cut
  tree_nodes n kind e bs top w among =
      let cut : Cut 0 e (tree_of kind e bs) =
      tree_by kind e bs (λ _ T. Cut 0 e T) (λ k T h own c. cut_add (key_in bs) k e (block_at bs k) (all_at no_block among k h own) 63 T top c) (λ k T h other c. c) tt in
      let few : 2 * ticks_in 0 e ts ≤ 2 * length ts = omega (arith, ticks_most 0 e ts) in
      omega (arith, nodes_most n 0 e (tree_of kind e bs) (omega arith) (omega arith) cut, mul-le-mul_left n few)

-- without blocks of the kind there is no node
pub tree_none : (kind e : ℕ) (bs : List Block) → All (λ (b : Block). b.kind ≡ kind → ⊥) bs → node_count (tree_of kind e bs) ≡ 0
unfolding node_count
tree_none kind e bs other =
    ap node_count (tree_by kind e bs (λ _ T. T ≡ hole) (λ k T h own q. absurd (all_at no_block other k h own)) (λ k T h another q. q) refl)
