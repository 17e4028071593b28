-- What it means that a test decides. Definitions alone.
use Rattle.std.specs.Prelude.{◌≡◌, Bool, true, false}

-- the test r is true exactly when P holds
pub record Decides (r : Bool) (P : Type 0) : Type 0 where
  pub yes : r ≡ true → P
  pub not : r ≡ false → P → ⊥
