-- Next and last by the side on which they look. Definitions alone.
use Rattle.std.specs.Prelude.{ℕ}
use Rattle.history.specs.Refusals.{Answer}
use Rattle.layout.specs.Tables.{Tables}
use Rattle.layout.specs.Relations.{Near, NextGivenBy, LastGivenBy}
use Rattle.segment_near.specs.declared.Side.{Side}
use Rattle.segment_near.specs.declared.Side.TheVariants.{From, Before}

abbrev pub NearGivenBy : Side → (t : Tables) (kind tick cell : ℕ) (answer : Answer Near) → Type 0
NearGivenBy From t kind tick cell answer = NextGivenBy t kind tick cell answer
NearGivenBy Before t kind tick cell answer = LastGivenBy t kind tick cell answer
