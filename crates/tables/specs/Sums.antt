-- Sums that do not pass 64 bits. Definitions alone.
use Rattle.std.specs.Prelude.{ℕ, ◌+◌, ◌-◌, ◌^◌, min}

-- the largest number
abbrev pub most : ℕ
most = 2 ^ 64 - 1

-- the sum, or the largest number where that is passed
abbrev pub plus_up_to : (a b : ℕ) → ℕ
plus_up_to a b = min (a + b) most
