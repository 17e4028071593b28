-- Numbers in bytes, for every width: the number of a number's bytes is the number, and the bytes of a number that was read are those read.
-- Assumes nothing.
use mathlib.Core.Path.{◌≡◌, refl, ◌∙◌, ap, ap₂}
use mathlib.Core.List.{List, [], ◌∷◌}
use Prim.Native.Nat.{ℕ, ◌<◌, ◌^◌, ◌+◌, zero, suc, ◌*◌, ◌/◌, ◌%◌}
use native.Mathlib.Omega.{arith}
use native.Mathlib.Nat.{pow-suc}
use lib.ListN.{length}
use Rattle.lists.specs.Lists.{All, all_nil, all_cons}
use Rattle.history.specs.File.{bytes_of, number_of}

-- every number is a byte
abbrev pub Bytes : List ℕ → Type 0
Bytes bs = All (λ b. b < 256) bs

-- as many as the width
pub bytes_of-length : (width n : ℕ) → length (bytes_of width n) ≡ width
unfolding bytes_of
bytes_of-length zero n = refl
bytes_of-length (suc w) n = ap suc (bytes_of-length w (n / 256))

-- the number of its bytes
pub number_of-bytes_of : (width n : ℕ) → n < 256 ^ width → number_of (bytes_of width n) ≡ n
unfolding bytes_of number_of
number_of-bytes_of zero n h = omega arith
number_of-bytes_of (suc w) n h =
    let less : n / 256 < 256 ^ w = omega (arith, pow-suc 256 w) in
    rw (number_of-bytes_of w (n / 256) less) (omega arith)

-- a number fits the bytes that it was read from
pub number_of-below : (bs : List ℕ) → Bytes bs → number_of bs < 256 ^ length bs
unfolding number_of
number_of-below [] all_nil = omega arith
number_of-below (b ∷ bs) (all_cons p ps) = omega (arith, pow-suc 256 (length bs), number_of-below bs ps)

-- the bytes of that number
pub bytes_of-number_of : (bs : List ℕ) → Bytes bs → bytes_of (length bs) (number_of bs) ≡ bs
unfolding bytes_of number_of
bytes_of-number_of [] all_nil = refl
bytes_of-number_of (b ∷ bs) (all_cons p ps) =
    let low : (b + 256 * number_of bs) % 256 ≡ b = omega arith in
    let high : (b + 256 * number_of bs) / 256 ≡ number_of bs = omega arith in
    ap₂ (λ (x : ℕ) (xs : List ℕ). x ∷ xs) low (ap (bytes_of (length bs)) high ∙ bytes_of-number_of bs ps)
