-- The way down to a tick: where it goes on below a node, and how many nodes it meets. Assumes nothing.
use mathlib.Core.Path.{◌≡◌, refl}
use mathlib.Core.Bool.{Bool, true, false, cond}
use mathlib.Core.List.{List, [], ◌∷◌, ◌++◌}
use Prim.Native.Nat.{ℕ, zero, suc, ◌+◌, ◌-◌, ◌^◌, ◌≤◌, ◌<◌}
use native.Mathlib.Omega.{arith}
use lib.ListN.{length}
use lib.Dec.{ltb}
use borrow.Author.Tests.{lt-ltb, le-ltb}
use Rattle.history.specs.Words.{Block, live}
use Rattle.history.specs.Tree.{Tree, hole, node, mid, halves, no_block, block_at}
use Rattle.history.specs.Find.{path, visited}
use Rattle.history.proofs.Within.{within_high}
use Rattle.history.proofs.TreeAdding.{half_left, half_right}

-- ── no block ──

-- no block has a number that is too high
pub block_none : (k : ℕ) (bs : List Block) → length bs ≤ k → block_at bs k ≡ no_block
block_none k [] h = refl
block_none zero (b ∷ bs) h = absurd (omega arith)
block_none (suc k) (b ∷ bs) h = block_none k bs (omega arith)

pub live-none : (t k : ℕ) (bs : List Block) → length bs ≤ k → live t (block_at bs k) ≡ false
live-none t k bs h = rw (block_none k bs h) (within_high 0 0 t (omega arith))

-- ── the way down ──

-- what the way meets below the node
abbrev pub path_below : (t lo hi : ℕ) (l r : Tree) → List ℕ
path_below t lo hi l r = cond (halves lo hi) (cond (ltb t (mid lo hi)) (path t lo (mid lo hi) l) (path t (mid lo hi) hi r)) []

pub path_node : (t lo hi : ℕ) (es : List ℕ) (l r : Tree) → path t lo hi (node es l r) ≡ es ++ path_below t lo hi l r
unfolding path
path_node t lo hi es l r = refl

-- below a node that has halves: by the side of mid on which the tick is
pub path-below_left : (t lo hi : ℕ) (l r : Tree) → lo + 1 < hi → t < mid lo hi → path_below t lo hi l r ≡ path t lo (mid lo hi) l
path-below_left t lo hi l r w h = rw (lt-ltb (lo + 1) hi w, lt-ltb t (mid lo hi) h)

pub path-below_right : (t lo hi : ℕ) (l r : Tree) → lo + 1 < hi → mid lo hi ≤ t → path_below t lo hi l r ≡ path t (mid lo hi) hi r
path-below_right t lo hi l r w h = rw (lt-ltb (lo + 1) hi w, le-ltb t (mid lo hi) h)

pub path-below-none : (t lo hi : ℕ) (l r : Tree) → hi ≤ lo + 1 → path_below t lo hi l r ≡ []
path-below-none t lo hi l r w = rw (le-ltb (lo + 1) hi w)

-- ── the nodes visited ──

pub visited_levels : (t n lo hi : ℕ) (T : Tree) → hi - lo ≤ 2 ^ n → visited t lo hi T ≤ suc n
unfolding visited
visited_levels t n lo hi hole w = omega arith
visited_levels t zero lo hi (node es l r) w = rw (le-ltb (lo + 1) hi (omega arith)) (omega arith)
visited_levels t (suc n) lo hi (node es l r) w =
    choose (halves lo hi) (ltb t (mid lo hi)) _ _ (visited_levels t n lo (mid lo hi) l (half_left lo hi n w)) (visited_levels t n (mid lo hi) hi r (half_right lo hi n w))
  where
    choose : (u v : Bool) (x y : ℕ) → x ≤ suc n → y ≤ suc n → suc (cond u (cond v x y) 0) ≤ suc (suc n)
    choose true true x y a b = omega arith
    choose true false x y a b = omega arith
    choose false v x y a b = omega arith

-- at most 64, in any tree
pub visited_bound : (t e : ℕ) (T : Tree) → e ≤ 2 ^ 63 → visited t 0 e T ≤ 64
visited_bound t e T h = visited_levels t 63 0 e T (omega arith)
