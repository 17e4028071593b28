-- Places in order. Definitions alone.
use Rattle.std.specs.Prelude.{◌≡◌, Bool, ℕ, ltb}
use Rattle.history.specs.Words.{cell_place}

-- `place::below`: the place of a kind's cell is below that of another's
pub record PlaceBelow (kind cell other limit : ℕ) (out : Bool) : Type 0 where
  pub is : out ≡ ltb (cell_place kind cell) (cell_place other limit)
