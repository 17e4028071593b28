-- What next and last give in document 02's two values: 1 and the number of a block, or 0 and 0.
use Rattle.std.specs.Prelude.{ℕ, Option, Some, None}
use Rattle.layout.specs.Relations.{Near}

abbrev pub near_told : Option ℕ → Near
near_told (Some number) = record { found = 1; number = number }
near_told None = record { found = 0; number = 0 }
