-- The divisor that Euclid's loop ends with, and the tenths.
use mathlib.Core.Path.{◌≡◌}
use Prim.Native.Nat.{ℕ, ◌+◌, ◌*◌, ◌/◌, ◌%◌, ◌≤◌, ◌<◌}
use native.Mathlib.Omega.{arith}
use borrow.Author.Tests.{lt-ltb, le-ltb}
use Rattle.history.specs.Occupation.{divisor, tenths_of}
use Rattle.history.proofs.OccupationLaws.{divisor_some, quotient-most}

pub divisor_positive : (a b d : ℕ) → d ≡ divisor a b → 0 < b → 0 < d
divisor_positive a b d e h = omega (arith, divisor_some a b h)

-- the quotient of a part of at most 2^32
pub tenths_small : (part whole q : ℕ) → 0 < whole → part ≤ whole → q ≡ 1000 * part / whole → q ≤ 1000
tenths_small p w q h k e = omega (arith, quotient-most (1000 * p) w 1000 h (omega arith))

module _ (p w : ℕ) where
  pub rounded_down : 2 * (1000 * p % w) < w → 1000 * p / w ≡ tenths_of p w
  unfolding tenths_of
  rounded_down h = rw (lt-ltb (2 * (1000 * p % w)) w h)

  pub rounded_up : w < 2 * (1000 * p % w) → 1000 * p / w + 1 ≡ tenths_of p w
  unfolding tenths_of
  rounded_up h = rw (le-ltb (2 * (1000 * p % w)) w (omega arith), lt-ltb w (2 * (1000 * p % w)) h)

  pub rounded_even : w ≤ 2 * (1000 * p % w) → 2 * (1000 * p % w) ≤ w → 1000 * p / w + 1000 * p / w % 2 ≡ tenths_of p w
  unfolding tenths_of
  rounded_even h k = rw (le-ltb (2 * (1000 * p % w)) w h, le-ltb w (2 * (1000 * p % w)) k)
