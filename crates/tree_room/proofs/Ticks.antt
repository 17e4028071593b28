-- How many of some ticks are in an interval. Assumes nothing.
use mathlib.Core.Path.{◌≡◌}
use mathlib.Core.Logic.{inl, inr}
use mathlib.Core.Bool.{cond}
use mathlib.Core.List.{List, [], ◌∷◌}
use Prim.Native.Nat.{ℕ, ◌+◌, ◌≤◌, ◌<◌}
use native.Mathlib.Omega.{arith}
use lib.ListN.{length}
use borrow.Author.Tests.{le-leb, lt-leb, lt-ltb, le-ltb}
use Rattle.lists.specs.Lists.{Mem, here, there}
use Rattle.lists.proofs.Numbers.{lt_or_le}
use Rattle.history.specs.Words.{within}

-- 1 where the tick is in [lo, hi)
abbrev one : (lo hi tick : ℕ) → ℕ
one lo hi t = cond (within lo hi t) 1 0

unfoldable pub ticks_in : (lo hi : ℕ) → List ℕ → ℕ
ticks_in lo hi [] = 0
ticks_in lo hi (t ∷ ts) = one lo hi t + ticks_in lo hi ts

one_in : (lo hi t : ℕ) → lo ≤ t → t < hi → one lo hi t ≡ 1
one_in lo hi t a b = rw (le-leb lo t a, lt-ltb t hi b)

one_low : (lo hi t : ℕ) → t < lo → one lo hi t ≡ 0
one_low lo hi t a = rw (lt-leb lo t a)

one_high : (lo hi t : ℕ) → lo ≤ t → hi ≤ t → one lo hi t ≡ 0
one_high lo hi t a b = rw (le-leb lo t a, le-ltb t hi b)

one_split : (lo m hi t : ℕ) → lo ≤ m → m ≤ hi → one lo hi t ≡ one lo m t + one m hi t
one_split lo m hi t a b =
    elim (lt_or_le t lo) [
      | inl p ↦ rw (one_low lo hi t p, one_low lo m t p, one_low m hi t (omega arith))
      | inr p ↦ elim (lt_or_le t m) [
        | inl q ↦ rw (one_in lo hi t p (omega arith), one_in lo m t p q, one_low m hi t q)
        | inr q ↦ elim (lt_or_le t hi) [
          | inl r ↦ rw (one_in lo hi t p r, one_high lo m t p q, one_in m hi t q r)
          | inr r ↦ rw (one_high lo hi t p r, one_high lo m t p q, one_high m hi t q r)
        ]
      ]
    ]

-- an interval has the ticks of its halves
pub ticks_split : (lo m hi : ℕ) (ts : List ℕ) → lo ≤ m → m ≤ hi → ticks_in lo hi ts ≡ ticks_in lo m ts + ticks_in m hi ts
unfolding ticks_in
ticks_split lo m hi [] a b = omega arith
ticks_split lo m hi (t ∷ ts) a b = omega (arith, one_split lo m hi t a b, ticks_split lo m hi ts a b)

pub ticks_some : (lo hi t : ℕ) (ts : List ℕ) → Mem t ts → lo ≤ t → t < hi → 1 ≤ ticks_in lo hi ts
unfolding ticks_in
ticks_some lo hi t [] x3 a b = elim x3 [ ]
ticks_some lo hi t (x ∷ ts) (here e) a b = rw (← e) (omega (arith, one_in lo hi t a b))
ticks_some lo hi t (x ∷ ts) (there m) a b = omega (arith, ticks_some lo hi t ts m a b)

pub ticks_most : (lo hi : ℕ) (ts : List ℕ) → ticks_in lo hi ts ≤ length ts
unfolding ticks_in
ticks_most lo hi [] = omega arith
ticks_most lo hi (t ∷ ts) = omega (arith, most, ticks_most lo hi ts)
  where
    most : one lo hi t ≤ 1
    most =
        elim (lt_or_le t lo) [
          | inl p ↦ rw (one_low lo hi t p) (omega arith)
          | inr p ↦ elim (lt_or_le t hi) [
            | inl q ↦ rw (one_in lo hi t p q) (omega arith)
            | inr q ↦ rw (one_high lo hi t p q) (omega arith)
          ]
        ]
