-- A state that is true of an index's tables is true of longer ones, so calls with it may go on. Statement alone.
use Rattle.std.specs.Prelude.{◌≡◌}
use Rattle.history.specs.Lent.{Lent}
use Rattle.layout.specs.Tables.{Tables}
use Rattle.growth.specs.Longer.{longer}
use Rattle.index_test.specs.declared.State.{State}
use Rattle.index_test.specs.declared.State.TheVariants.{Bad}
use Rattle.index_tested.specs.Kept.{Kept}

-- Open or closed. Tables that are not well formed may be so for want of room alone, so longer ones ask for a new test.
abbrev pub GrowthKeeps : Type 0
GrowthKeeps = (s : State) (more : Lent) (t : Tables) → (s ≡ Bad → ⊥) → Kept s t → Kept s (longer more t)
