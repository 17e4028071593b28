-- What an accepted call gives that changes an index: one type for all of them (02, Item 2). Definitions alone.
use Rattle.std.proofs.Math.Option.{Option, none, some}
use Rattle.std.specs.Prelude.{ℕ}
use Rattle.history.specs.Words.{cell_of}

-- that it is done; of record a read, or an update with the lowest cell that was unknown or had another byte; a number
pub data Result : Type 0 where
  done read : Result
  update : (cell : ℕ) → Result
  number : ℕ → Result

-- of an operation of a kind, by the first place that it changes
abbrev pub result_of : (kind : ℕ) (change : Option ℕ) → Result
result_of kind none = read
result_of kind (some place) = update (cell_of kind place)
