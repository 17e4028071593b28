-- A walk over the segment tree that takes the right half first. What is created at mid is counted when the left half is looked at, so each block that is
-- destroyed at mid is held against the slots at once. Those that are destroyed at one tick stand in nodes that end then, one below the other: each is held
-- against the blocks of those above its own. Definitions alone: their laws stand in proofs/RightFirst.
use Rattle.std.specs.Prelude.{◌≡◌, ◌⊎◌, List, [], ◌∷◌, ◌++◌, ℕ, ◌+◌, ◌≤◌, ◌<◌}
use Rattle.lists.specs.Lists.{All, Pairs}
use Rattle.history.specs.Words.{Block}
use Rattle.history.specs.Tree.{Tree, hole, node, mid, block_at}
use Rattle.apart_laws.specs.Ticks.{Disjoint}
use Rattle.apart_laws.specs.Slots.{stretch_at, Slot, Unused, ComesFrom, Refilled}

-- Block k is looked at in the node [lo, hi), of which `after` has the slots for hi, and `above` the blocks of the nodes above it that end at hi too. If it is created
-- at lo, any slot for lo may take it in, or none. If it is destroyed at hi, it shares no cell with the others above; and below the end it lies in a full slot for hi, or is
-- left open.
pub record Held (bs : List Block) (end : ℕ) (Open : (t k : ℕ) → Type 0) (lo hi : ℕ) (above : List ℕ) (after : List Slot) (k : ℕ) (born born' : List Slot) : Type 0 where
  pub slots : All (ComesFrom bs lo k born) born'
  pub clear : (block_at bs k).destroyed ≡ hi → All (λ j. (j ≡ k → ⊥) → Disjoint (stretch_at bs k) (stretch_at bs j)) above
  pub owes : (block_at bs k).destroyed ≡ hi → hi < end → Refilled after (stretch_at bs k) ⊎ Open hi k

-- the entries of a node, one after the other
pub data HeldAll (bs : List Block) (end : ℕ) (Open : (t k : ℕ) → Type 0) (lo hi : ℕ) (above : List ℕ) (after : List Slot) : List ℕ → (born born' : List Slot) → Type 0 where
  held_none : {born : List Slot} → HeldAll bs end Open lo hi above after [] born born
  held_next : {k : ℕ} {ks : List ℕ} {born own born' : List Slot} → Held bs end Open lo hi above after k born own → HeldAll bs end Open lo hi above after ks own born'
      → HeldAll bs end Open lo hi above after (k ∷ ks) born born'

-- no two blocks of the numbers share a cell
abbrev pub RunApart : List Block → List ℕ → Type 0
RunApart bs es = Pairs (λ j k. Disjoint (stretch_at bs j) (stretch_at bs k)) es

-- a tree of which every block is held so, and of which no node's blocks share a cell; the right half ends where the node does
pub data RightFirst (bs : List Block) (end : ℕ) (Open : (t k : ℕ) → Type 0) : (lo hi : ℕ) → Tree → (above : List ℕ) (after born born' : List Slot) → Type 0 where
  right_hole : {lo hi : ℕ} {above : List ℕ} {after born : List Slot} → RightFirst bs end Open lo hi hole above after born born
  right_narrow : {lo hi : ℕ} {es above : List ℕ} {after born born' : List Slot} → hi ≤ lo + 1 → RunApart bs es → HeldAll bs end Open lo hi above after es born born'
      → RightFirst bs end Open lo hi (node es hole hole) above after born born'
  right_wide : {lo hi : ℕ} {es above : List ℕ} {l r : Tree} {after born own born' slots mids : List Slot} → lo + 1 < hi → RunApart bs es
      → HeldAll bs end Open lo hi above after es born own → All Unused slots → RightFirst bs end Open (mid lo hi) hi r (above ++ es) after slots mids
      → RightFirst bs end Open lo (mid lo hi) l [] mids own born' → RightFirst bs end Open lo hi (node es l r) above after born born'
