-- A state that is true of an index's tables is true of longer ones. Assumes nothing.
use mathlib.Core.Path.{◌∙◌}
use Prim.Native.Nat.{ℕ}
use Rattle.history.specs.Lent.{Lent}
use Rattle.tables.specs.Columns.{head_state}
use Rattle.layout.specs.Tables.{Tables}
use Rattle.growth.specs.Longer.{longer}
use Rattle.growth.proofs.Longer.{longer-tables}
use Rattle.index_tested.specs.Kept.{StandsIn}
use Rattle.sessions.specs.Growth.{GrowthKeeps}

longer_stands : {head : ℕ} (more : Lent) (t : Tables) → StandsIn head t → StandsIn head (longer more t)
longer_stands more t s = record { formed = longer-tables.formed more t s.formed; state = longer-tables.head more t head_state ∙ s.state }

pub growth_keeps : GrowthKeeps
growth_keeps s more t known k = record {
  unformed = λ bad. absurd (known bad);
  opened = λ e. longer_stands more t (k.opened e);
  closed = λ e. longer_stands more t (k.closed e);
}
