-- The way to a tick: in a subtree, where it is a spine, and over any tree with rules 21 and 23, where the blocks that are live then stand on it, each
-- once, and no others. Assumes nothing.
use mathlib.Core.Path.{◌≡◌, ◌∙◌}
use mathlib.Core.Bool.{false, cond}
use mathlib.Core.List.{List, [], ◌++◌}
use Prim.Native.Nat.{ℕ, ◌+◌, ◌-◌, ◌≤◌, ◌<◌}
use native.Mathlib.Omega.{arith}
use Rattle.lists.proofs.Numbers.{counts_one}
use Rattle.lists.specs.Lists.{Mem, count}
use Rattle.history.specs.Words.{Block, live}
use Rattle.history.specs.Tree.{Tree, node, mid, no_block, block_at}
use Rattle.history.specs.Find.{path}
use Rattle.history.proofs.Within.{within_in, within_high, within_true}
use Rattle.history.proofs.TreePath.{path_node, path-below_left, path-below_right, path-below-none}
use Rattle.history.proofs.FindMet.{path-met}
use Rattle.history.proofs.Counted.{counted_holds, counted_mem}
use Rattle.apart_laws.specs.Ruled.{Ruled}

-- ── spines ──

-- the left spine of a subtree is the way to its min, the right spine the way to its last tick
pub left_spine : (lo hi : ℕ) (es : List ℕ) (l r : Tree) → lo + 1 < hi → path lo lo hi (node es l r) ≡ es ++ path lo lo (mid lo hi) l
left_spine lo hi es l r w = path_node lo lo hi es l r ∙ rw (path-below_left lo lo hi l r w (omega arith))

pub right_spine : (lo hi : ℕ) (es : List ℕ) (l r : Tree) → lo + 1 < hi → path (hi - 1) lo hi (node es l r) ≡ es ++ path (hi - 1) (mid lo hi) hi r
right_spine lo hi es l r w = path_node (hi - 1) lo hi es l r ∙ rw (path-below_right (hi - 1) lo hi l r w (omega arith))

pub narrow_way : (t lo hi : ℕ) (es : List ℕ) (l r : Tree) → hi ≤ lo + 1 → path t lo hi (node es l r) ≡ es ++ []
narrow_way t lo hi es l r w = path_node t lo hi es l r ∙ rw (path-below-none t lo hi l r w)

-- ── from the root ──

module _ (end : ℕ) (bs : List Block) (tree : Tree) (ruled : Ruled end bs tree) (t : ℕ) (below : t < end) where
  met : (k : ℕ) → count k (path t 0 end tree) ≡ cond (live t (block_at bs k)) 1 0
  met k = path-met end bs tree ruled.rule_21 ruled.rule_23 ruled.by_end t k below

  no_block_lem : live t no_block ≡ false
  no_block_lem = within_high 0 0 t (omega arith)

  pub way_once : (k : ℕ) → count k (path t 0 end tree) ≤ 1
  way_once k = rw (met k) (counts_one (live t (block_at bs k)))

  pub way_has : (k : ℕ) → (block_at bs k).created ≤ t → t < (block_at bs k).destroyed → Mem k (path t 0 end tree)
  way_has k born alive = counted_mem bs (live t) no_block_lem (path t 0 end tree) met k (within_in _ _ t born alive)

  pub way_live : (k : ℕ) → Mem k (path t 0 end tree) → ((block_at bs k).created ≤ t) × (t < (block_at bs k).destroyed)
  way_live k m = within_true _ _ t (counted_holds bs (live t) no_block_lem (path t 0 end tree) met k m)
