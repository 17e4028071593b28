-- The balance of Adelson-Velsky and Landis: one level of rotations restores it where the subtrees differ by two at most. Assumes nothing.
use mathlib.Core.Bool.{Bool, true, false, cond}
use mathlib.Core.Path.{◌≡◌, refl}
use Prim.Native.Nat.{ℕ, suc, ◌+◌, ◌<◌, ◌≤◌, max}
use native.Mathlib.Decide.{dec_le}
use native.Mathlib.Omega.{arith}
use lib.Dec.{ltb, eqb}
use borrow.Author.Tests.{ltb-true, ltb-false}
use Rattle.merge_set.proofs.Ways.{goes_left, goes_right, stays_put, leans_left, leans_not_left, leans_right, leans_not_right}
use Rattle.merge_set.specs.Tree.{Tree, leaf, node, height, Balanced, rotated_left, rotated_right, straight_right, straight_left, updated, inserted, least, without_least, glued, removed, relinked}

-- T is balanced, and as high as a tree made of trees of the heights h and j can be
pub record Settled (h j : ℕ) (T : Tree) : Type 0 where
  pub balanced : Balanced T
  pub low : max h j ≤ height T
  pub high : height T ≤ suc (max h j)
  pub exact : h ≤ j + 1 → j ≤ h + 1 → height T ≡ suc (max h j)

-- ── one level of rotations ──

-- the right subtree is two levels higher, and does not lean left
left_single : (a : Tree) (x : ℕ) (b : Tree) (y : ℕ) (c : Tree) → Balanced a → Balanced (node b y c) → height (node b y c) ≡ height a + 2 → height b ≤ height c
    → Settled (height a) (height (node b y c)) (rotated_left (updated 0) a x (node b y c))
unfolding height Balanced rotated_left updated
left_single a x b y c ba bb h k =
    record { balanced = ((ba, bb.0, omega (arith, bb.2, bb.3), omega (arith, bb.2, bb.3)), bb.1, omega (arith, bb.2, bb.3), omega (arith, bb.2, bb.3)); low = omega (arith, bb.2, bb.3); high = omega (arith, bb.2, bb.3); exact = λ p q. absurd (omega arith) }

-- and leans left
left_double : (a : Tree) (x : ℕ) (b : Tree) (y : ℕ) (c : Tree) → Balanced a → Balanced (node b y c) → height (node b y c) ≡ height a + 2 → height c < height b
    → Settled (height a) (height (node b y c)) (rotated_left (updated 0) a x (rotated_right (updated 0) b y c))
unfolding height Balanced rotated_left rotated_right updated
left_double a x leaf y c ba bb h k = absurd (omega arith)
left_double a x (node d z e) y c ba bb h k =
    let bd : Balanced (node d z e) = bb.0 in
    record {
      balanced = ((ba, bd.0, omega (arith, bb.2, bb.3, bd.2, bd.3), omega (arith, bb.2, bb.3, bd.2, bd.3)), (bd.1, bb.1, omega (arith, bb.2, bb.3, bd.2, bd.3), omega (arith, bb.2, bb.3, bd.2, bd.3)), omega (arith, bb.2, bb.3, bd.2, bd.3), omega (arith, bb.2, bb.3, bd.2, bd.3));
      low = omega (arith, bb.2, bb.3, bd.2, bd.3);
      high = omega (arith, bb.2, bb.3, bd.2, bd.3);
      exact = λ p q. absurd (omega arith);
    }

-- either way
left_way : (a : Tree) (x : ℕ) (b : Tree) → Balanced a → Balanced b → height b ≡ height a + 2 → Settled (height a) (height b) (rotated_left (updated 0) a x (straight_right (updated 0) b))
unfolding height
left_way a x leaf ba bb h = absurd (omega arith)
left_way a x (node b y c) ba bb h = go (ltb (height c + 0) (height b)) refl
  where
    go : (q : Bool) → ltb (height c + 0) (height b) ≡ q → Settled (height a) (height (node b y c)) (rotated_left (updated 0) a x (straight_right (updated 0) (node b y c)))
    go true e = rw (leans_left (updated 0) b y c e) (left_double a x b y c ba bb h (omega (arith, ltb-true (height c + 0) (height b) e)))
    go false e = rw (leans_not_left (updated 0) b y c e) (left_single a x b y c ba bb h (omega (arith, ltb-false (height c + 0) (height b) e)))

-- the left subtree is two levels higher, and does not lean right
right_single : (a : Tree) (y : ℕ) (b : Tree) (x : ℕ) (c : Tree) → Balanced (node a y b) → Balanced c → height (node a y b) ≡ height c + 2 → height b ≤ height a
    → Settled (height (node a y b)) (height c) (rotated_right (updated 0) (node a y b) x c)
unfolding height Balanced rotated_right updated
right_single a y b x c bl bc h k =
    record { balanced = (bl.0, (bl.1, bc, omega arith, omega arith), omega arith, omega arith); low = omega arith; high = omega arith; exact = λ p q. absurd (omega arith) }

-- and leans right
right_double : (a : Tree) (y : ℕ) (b : Tree) (x : ℕ) (c : Tree) → Balanced (node a y b) → Balanced c → height (node a y b) ≡ height c + 2 → height a < height b
    → Settled (height (node a y b)) (height c) (rotated_right (updated 0) (rotated_left (updated 0) a y b) x c)
unfolding height Balanced rotated_left rotated_right updated
right_double a y leaf x c bl bc h k = absurd (omega arith)
right_double a y (node d z e) x c bl bc h k =
    let bd : Balanced (node d z e) = bl.1 in
    record {
      balanced = ((bl.0, bd.0, omega arith, omega arith), (bd.1, bc, omega arith, omega arith), omega arith, omega arith);
      low = omega arith;
      high = omega arith;
      exact = λ p q. absurd (omega arith);
    }

-- either way
right_way : (a : Tree) (x : ℕ) (b : Tree) → Balanced a → Balanced b → height a ≡ height b + 2 → Settled (height a) (height b) (rotated_right (updated 0) (straight_left (updated 0) a) x b)
unfolding height
right_way leaf x c ba bb h = absurd (omega arith)
right_way (node a y b) x c ba bb h = go (ltb (height a + 0) (height b)) refl
  where
    go : (q : Bool) → ltb (height a + 0) (height b) ≡ q → Settled (height (node a y b)) (height c) (rotated_right (updated 0) (straight_left (updated 0) (node a y b)) x c)
    go true e = rw (leans_right (updated 0) a y b e) (right_double a y b x c ba bb h (omega (arith, ltb-true (height a + 0) (height b) e)))
    go false e = rw (leans_not_right (updated 0) a y b e) (right_single a y b x c ba bb h (omega (arith, ltb-false (height a + 0) (height b) e)))

-- update with one level of rotations makes a balanced tree of two balanced trees whose heights differ by two at most
pub settles : (a : Tree) (x : ℕ) (b : Tree) → Balanced a → Balanced b → height a ≤ height b + 2 → height b ≤ height a + 2 → Settled (height a) (height b) (updated 1 a x b)
unfolding height Balanced
settles a x b ba bb h k = go (ltb (height a + 1) (height b)) refl (ltb (height b + 1) (height a)) refl
  where
    go : (q : Bool) → ltb (height a + 1) (height b) ≡ q → (r : Bool) → ltb (height b + 1) (height a) ≡ r → Settled (height a) (height b) (updated 1 a x b)
    go true e r f = rw (goes_left 0 a x b e) (left_way a x b ba bb (omega (arith, ltb-true (height a + 1) (height b) e)))
    go false e true f = rw (goes_right 0 a x b e f) (right_way a x b ba bb (omega (arith, ltb-true (height b + 1) (height a) f)))
    go false e false f =
        let p : height b ≤ height a + 1 = ltb-false (height a + 1) (height b) e in
        let q : height a ≤ height b + 1 = ltb-false (height b + 1) (height a) f in
        rw (stays_put 0 a x b e f) (record { balanced = (ba, bb, q, p); low = omega arith; high = omega arith; exact = λ _ _. refl })

-- what an insertion does to a balanced tree
pub record Grown (T T' : Tree) : Type 0 where
  pub balanced : Balanced T'
  pub low : height T ≤ height T'
  pub high : height T' ≤ height T + 1

-- one subtree grew from h to h', by one level at most: so does the whole
raised : (h j h' H : ℕ) → h ≤ j + 1 → j ≤ h + 1 → h ≤ h' → max h' j ≤ H → (h' ≤ j + 1 → j ≤ h' + 1 → H ≡ suc (max h' j)) → suc (max h j) ≤ H
raised h j h' H p q g low exact = go (dec_le h' (j + 1))
  where
    go : Dec (h' ≤ j + 1) → suc (max h j) ≤ H
    go (yes k) = omega (arith, exact k (omega arith))
    go (no k) = omega arith

-- insertion keeps the balance
pub inserted_balanced : (key : ℕ → ℕ) (n : ℕ) (T : Tree) → Balanced T → Grown T (inserted key n T)
unfolding height Balanced inserted
inserted_balanced key n leaf b = record { balanced = (tt, tt, omega arith, omega arith); low = omega arith; high = omega arith }
inserted_balanced key n (node a x b) bT = go (ltb (key n) (key x)) (inserted_balanced key n a bT.0) (inserted_balanced key n b bT.1)
  where
    on_l : Grown a (inserted key n a) → Settled (height (inserted key n a)) (height b) (updated 1 (inserted key n a) x b) → Grown (node a x b) (updated 1 (inserted key n a) x b)
    on_l ga s =
        record {
          balanced = s.balanced;
          low = raised (height a) (height b) (height (inserted key n a)) (height (updated 1 (inserted key n a) x b)) (omega arith) (omega arith) ga.low s.low s.exact;
          high = omega arith;
        }

    on_r : Grown b (inserted key n b) → Settled (height a) (height (inserted key n b)) (updated 1 a x (inserted key n b)) → Grown (node a x b) (updated 1 a x (inserted key n b))
    on_r gb s =
        let e : height (inserted key n b) ≤ height a + 1 → height a ≤ height (inserted key n b) + 1 → height (updated 1 a x (inserted key n b)) ≡ suc (max (height (inserted key n b)) (height a))
        = λ p q. omega (arith, s.exact q p) in
        record {
          balanced = s.balanced;
          low = omega (arith, raised (height b) (height a) (height (inserted key n b)) (height (updated 1 a x (inserted key n b))) (omega arith) (omega arith) gb.low (omega arith) e);
          high = omega arith;
        }

    go : (q : Bool) → Grown a (inserted key n a) → Grown b (inserted key n b) → Grown (node a x b) (cond q (updated 1 (inserted key n a) x b) (updated 1 a x (inserted key n b)))
    go true ga gb = on_l ga (settles (inserted key n a) x b ga.balanced bT.1 (omega arith) (omega arith))
    go false ga gb = on_r gb (settles a x (inserted key n b) bT.0 gb.balanced (omega arith) (omega arith))

-- what a removal does to a balanced tree
pub record Shrunk (T T' : Tree) : Type 0 where
  pub balanced : Balanced T'
  pub high : height T' ≤ height T
  pub low : height T ≤ height T' + 1

-- one subtree shrank from h to h', by one level at most: so does the whole
lowered : (h j h' H : ℕ) → h ≤ j + 1 → j ≤ h + 1 → h' ≤ h → h ≤ h' + 1 → max h' j ≤ H → (h' ≤ j + 1 → j ≤ h' + 1 → H ≡ suc (max h' j)) → suc (max h j) ≤ H + 1
lowered h j h' H p q g k low exact = go (dec_le j (h' + 1))
  where
    go : Dec (j ≤ h' + 1) → suc (max h j) ≤ H + 1
    go (yes y) = omega (arith, exact (omega arith) y)
    go (no y) = omega arith

-- the left subtree shrank, or the right one
shrunk_left : (a a' : Tree) (x : ℕ) (b : Tree) → Balanced (node a x b) → Shrunk a a' → Shrunk (node a x b) (updated 1 a' x b)
unfolding height Balanced
shrunk_left a a' x b bT s =
    let u : Settled (height a') (height b) (updated 1 a' x b) = settles a' x b s.balanced bT.1 (omega arith) (omega arith) in
    record {
      balanced = u.balanced;
      high = omega arith;
      low = lowered (height a) (height b) (height a') (height (updated 1 a' x b)) (omega arith) (omega arith) s.high s.low u.low u.exact;
    }

shrunk_right : (a : Tree) (x : ℕ) (b b' : Tree) → Balanced (node a x b) → Shrunk b b' → Shrunk (node a x b) (updated 1 a x b')
unfolding height Balanced
shrunk_right a x b b' bT s =
    let u : Settled (height a) (height b') (updated 1 a x b') = settles a x b' bT.0 s.balanced (omega arith) (omega arith) in
    let e : height b' ≤ height a + 1 → height a ≤ height b' + 1 → height (updated 1 a x b') ≡ suc (max (height b') (height a)) = λ p q. omega (arith, u.exact q p) in
    record {
      balanced = u.balanced;
      high = omega arith;
      low = omega (arith, lowered (height b) (height a) (height b') (height (updated 1 a x b')) (omega arith) (omega arith) s.high s.low (omega arith) e);
    }

-- without its first link, and glued
without_least_balanced : (a : Tree) (x : ℕ) (b : Tree) → Balanced (node a x b) → Shrunk (node a x b) (without_least (node a x b))
unfolding height Balanced without_least
without_least_balanced leaf x b bT = record { balanced = bT.1; high = omega arith; low = omega arith }
without_least_balanced (node a y c) x b bT = shrunk_left (node a y c) (without_least (node a y c)) x b bT (without_least_balanced a y c bT.0)

glued_balanced : (a : Tree) (x : ℕ) (b : Tree) → Balanced (node a x b) → Shrunk (node a x b) (glued a b)
unfolding height Balanced glued
glued_balanced a x leaf bT = record { balanced = bT.0; high = omega arith; low = omega arith }
glued_balanced a x (node c y d) bT =
    let s : Shrunk (node a (least (node c y d)) (node c y d)) (updated 1 a (least (node c y d)) (without_least (node c y d)))
    = shrunk_right a (least (node c y d)) (node c y d) (without_least (node c y d)) bT (without_least_balanced c y d bT.1) in
    record { balanced = s.balanced; high = s.high; low = s.low }

-- removal keeps the balance
pub removed_balanced : (key : ℕ → ℕ) (n : ℕ) (T : Tree) → Balanced T → Shrunk T (removed key n T)
unfolding removed Balanced
removed_balanced key n leaf b = record { balanced = b; high = omega arith; low = omega arith }
removed_balanced key n (node a x b) bT = go (ltb (key n) (key x)) (ltb (key x) (key n)) (removed_balanced key n a bT.0) (removed_balanced key n b bT.1)
  where
    go : (q r : Bool) → Shrunk a (removed key n a) → Shrunk b (removed key n b)
        → Shrunk (node a x b) (cond q (updated 1 (removed key n a) x b) (cond r (updated 1 a x (removed key n b)) (glued a b)))
    go true r p q = shrunk_left a (removed key n a) x b bT p
    go false true p q = shrunk_right a x b (removed key n b) bT q
    go false false p q = glued_balanced a x b bT

-- the same heights, and the same balance
pub record AsHigh (T T' : Tree) : Type 0 where
  pub same : height T' ≡ height T
  pub balanced : Balanced T → Balanced T'

pub relinked_high : (key : ℕ → ℕ) (y x : ℕ) (T : Tree) → AsHigh T (relinked key y x T)
unfolding relinked height Balanced
relinked_high key y x leaf = record { same = refl; balanced = λ b. b }
relinked_high key y x (node A z B) = go (eqb z y) (ltb (key y) (key z)) (relinked_high key y x A) (relinked_high key y x B)
  where
    go : (q r : Bool) → AsHigh A (relinked key y x A) → AsHigh B (relinked key y x B) → AsHigh (node A z B) (cond q (node A x B) (cond r (node (relinked key y x A) z B) (node A z (relinked key y x B))))
    go true r p q = record { same = refl; balanced = λ b. b }
    go false true p q = record { same = rw p.same; balanced = λ b. (p.balanced b.0, b.1, omega (arith, b.2, p.same), omega (arith, b.3, p.same)) }
    go false false p q = record { same = rw q.same; balanced = λ b. (b.0, q.balanced b.1, omega (arith, b.2, q.same), omega (arith, b.3, q.same)) }
