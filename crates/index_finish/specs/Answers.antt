-- What finish does to the tables of an open index. Definitions alone.
use Rattle.std.specs.Prelude.{◌≡◌, List, ℕ, ◌<◌, ◌^◌, length}
use Rattle.history.specs.Results.{Result}
use Rattle.history.specs.Refusals.{Answer}
use Rattle.tables.specs.Columns.{head_state}
use Rattle.layout.specs.Tables.{tables, head_at}
use Rattle.layout.specs.Encodes.{open_state}
use Rattle.layout.specs.Formed.{WellFormed}
use Rattle.layout.specs.Relations.{FinishedBy}

-- `finish_open`: finish's relation, of well-formed tables whose state is open, with whatever store
pub record FinishesOpen (pieces blocks nodes entries pieces' blocks' nodes' entries' : List ℕ) (answer : Answer Result) : Type 0 where
  pub done : (store : List ℕ) → length store < 2 ^ 64 → head_at (tables pieces blocks store nodes entries) head_state ≡ open_state → WellFormed (tables pieces blocks store nodes entries)
      → FinishedBy (tables pieces blocks store nodes entries) (tables pieces' blocks' store nodes' entries') answer
