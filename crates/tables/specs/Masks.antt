-- A set of kinds as a mask. Definitions alone.
use Rattle.std.specs.Prelude.{◌≡◌, Bool, cond, ◌&&◌, List, [], ◌∷◌, ℕ, ◌/◌, ◌%◌, ◌^◌, ltb, eqb}
use Rattle.history.specs.Words.{all_kinds}

-- the mask has a kind: its bit is set
abbrev pub opens : (mask kind : ℕ) → Bool
opens mask kind = ltb kind 5 && eqb (mask / 2 ^ kind % 2) 1

-- `kinds::has`
pub record Opens (mask kind : ℕ) (out : Bool) : Type 0 where
  pub is : out ≡ opens mask kind

-- the kinds of a list that a mask has
unfoldable pub those_of : (mask : ℕ) → List ℕ → List ℕ
those_of mask [] = []
those_of mask (k ∷ ks) =
    let rest = those_of mask ks in
    cond (opens mask k) (k ∷ rest) rest

-- the set that a mask stands for, ascending
abbrev pub kinds_in : (mask : ℕ) → List ℕ
kinds_in mask = those_of mask all_kinds
