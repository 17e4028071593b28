-- How deep a balanced tree can be. A tree of height h has at least `fewest h` links, since its subtrees are of height h - 1 and at least h - 2; so
-- a tree of fewer than `fewest (h + 1)` links is at most h deep. Assumes nothing.
use mathlib.Core.List.{◌∷◌, ◌++◌}
use mathlib.Core.Path.{◌≡◌}
use Prim.Native.Nat.{ℕ, zero, suc, ◌+◌, ◌≤◌, ◌<◌, ◌^◌, max}
use native.Mathlib.Decide.{dec_le}
use native.Mathlib.Omega.{arith}
use lib.ListN.{length, length-append}
use Rattle.merge_set.specs.Tree.{Tree, leaf, node, height, rows, Balanced, fewest_two, fewest}

-- ── the fewest links of a height ──

fewest_next : (n : ℕ) → fewest n ≤ (fewest_two n).1
unfolding fewest_two
fewest_next zero = omega arith
fewest_next (suc n) = omega arith

fewest-rises : (i j : ℕ) → i ≤ j → fewest i ≤ fewest j
unfolding fewest_two
fewest-rises i zero h = let e : i ≡ 0 = omega arith in rw e (omega arith)
fewest-rises i (suc j) h = go (dec_le i j) (fewest-rises i j)
  where
    go : Dec (i ≤ j) → (i ≤ j → fewest i ≤ fewest j) → fewest i ≤ fewest (suc j)
    go (yes p) f = omega (arith, f p, fewest_next j)
    go (no p) f = let e : i ≡ suc j = omega arith in rw e (omega arith)

-- one level more is reached by a tree of this height and one at most a level lower
fewest-two : (m j : ℕ) → m ≤ j + 1 → (fewest_two m).1 ≤ fewest m + fewest j + 1
unfolding fewest_two
fewest-two zero j h = omega arith
fewest-two (suc i) j h = omega (arith, fewest-rises i j (omega arith))

-- ── the bound ──

-- a balanced tree has at least the fewest links of its height
pub balanced_many : (T : Tree) → Balanced T → fewest (height T) ≤ length (rows T)
unfolding fewest_two height rows Balanced
balanced_many leaf b = omega arith
balanced_many (node A x B) b = go (dec_le (height A) (height B)) (balanced_many A b.0) (balanced_many B b.1)
  where
    n : length (rows A ++ x ∷ rows B) ≡ length (rows A) + suc (length (rows B))
    n = length-append (rows A) (x ∷ rows B)

    go : Dec (height A ≤ height B) → fewest (height A) ≤ length (rows A) → fewest (height B) ≤ length (rows B) → (fewest_two (max (height A) (height B))).1 ≤ length (rows A ++ x ∷ rows B)
    go (yes l) p q =
        let e : max (height A) (height B) ≡ height B = omega arith in
        rw e (omega (arith, fewest-two (height B) (height A) b.3, n))
    go (no l) p q =
        let e : max (height A) (height B) ≡ height A = omega arith in
        rw e (omega (arith, fewest-two (height A) (height B) b.2, n))

-- so one that has fewer than a higher tree needs is not that high
pub balanced_height : (h : ℕ) (T : Tree) → Balanced T → length (rows T) < fewest (suc h) → height T ≤ h
balanced_height h T b few = go (dec_le (height T) h)
  where
    go : Dec (height T ≤ h) → height T ≤ h
    go (yes l) = l
    go (no l) = absurd (omega (arith, balanced_many T b, fewest-rises (suc h) (height T) (omega arith)))

-- 4,096 pieces: at most 16 nodes on a path
pub height_4096 : (T : Tree) → Balanced T → length (rows T) ≤ 4096 → height T ≤ 16
unfolding fewest_two
height_4096 T b few = balanced_height 16 T b (omega arith)

-- a table of fewer than 2^63 rows: at most 92
pub height_92 : (T : Tree) → Balanced T → length (rows T) < 2 ^ 63 → height T ≤ 92
unfolding fewest_two
height_92 T b few = balanced_height 92 T b (omega arith)
