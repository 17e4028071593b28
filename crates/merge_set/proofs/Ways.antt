-- Which way `updated` goes, by its tests. Assumes nothing.
use mathlib.Core.Bool.{true, false}
use mathlib.Core.Path.{◌≡◌}
use Prim.Native.Nat.{ℕ, suc, ◌+◌}
use lib.Dec.{ltb}
use Rattle.merge_set.specs.Tree.{Tree, node, height, Maker, rotated_left, rotated_right, straight_right, straight_left, updated}

-- which way update goes, by its tests
module _ (k : ℕ) (a : Tree) (x : ℕ) (b : Tree) where
  pub goes_left : ltb (height a + 1) (height b) ≡ true → updated (suc k) a x b ≡ rotated_left (updated k) a x (straight_right (updated k) b)
  unfolding updated
  goes_left e = rw e

  pub goes_right : ltb (height a + 1) (height b) ≡ false → ltb (height b + 1) (height a) ≡ true → updated (suc k) a x b ≡ rotated_right (updated k) (straight_left (updated k) a) x b
  unfolding updated
  goes_right e f = rw (e, f)

  pub stays_put : ltb (height a + 1) (height b) ≡ false → ltb (height b + 1) (height a) ≡ false → updated (suc k) a x b ≡ node a x b
  unfolding updated
  stays_put e f = rw (e, f)

module _ (u : Maker) (b : Tree) (y : ℕ) (c : Tree) where
  pub leans_left : ltb (height c + 0) (height b) ≡ true → straight_right u (node b y c) ≡ rotated_right u b y c
  unfolding straight_right
  leans_left e = rw e

  pub leans_not_left : ltb (height c + 0) (height b) ≡ false → straight_right u (node b y c) ≡ node b y c
  unfolding straight_right
  leans_not_left e = rw e

  pub leans_right : ltb (height b + 0) (height c) ≡ true → straight_left u (node b y c) ≡ rotated_left u b y c
  unfolding straight_left
  leans_right e = rw e

  pub leans_not_right : ltb (height b + 0) (height c) ≡ false → straight_left u (node b y c) ≡ node b y c
  unfolding straight_left
  leans_not_right e = rw e
