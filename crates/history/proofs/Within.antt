-- A number in a range: the test `within`, case by case. Assumes nothing.
use mathlib.Core.Path.{◌≡◌, refl}
use mathlib.Core.Bool.{Bool, true, false, ◌&&◌}
use Prim.Native.Nat.{ℕ, ◌≤◌, ◌<◌}
use lib.Dec.{leb, ltb}
use borrow.Author.Tests.{le-leb, lt-leb, lt-ltb, le-ltb, leb-true, ltb-true}
use Rattle.lists.proofs.Numbers.{and_left, and_right}
use Rattle.history.specs.Words.{within}

pub within_in : (from to n : ℕ) → from ≤ n → n < to → within from to n ≡ true
within_in from to n p q = rw (le-leb from n p, lt-ltb n to q)

pub within_low : (from to n : ℕ) → n < from → within from to n ≡ false
within_low from to n p = rw (lt-leb from n p)

pub within_high : (from to n : ℕ) → to ≤ n → within from to n ≡ false
within_high from to n p = go (leb from n) (le-ltb n to p)
  where
    go : (b : Bool) → ltb n to ≡ false → (b && ltb n to) ≡ false
    go true e = e
    go false e = refl

pub within_true : (from to n : ℕ) → within from to n ≡ true → (from ≤ n) × (n < to)
within_true from to n e = (leb-true from n (and_left (leb from n) (ltb n to) e), ltb-true n to (and_right (leb from n) (ltb n to) e))
