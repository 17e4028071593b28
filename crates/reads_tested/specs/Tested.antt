-- What the reads with a state do: of tables of which the state is true, what the public call does, whatever tables are not lent. Definitions alone.
use Rattle.std.specs.Prelude.{List, ℕ}
use Rattle.history.specs.Refusals.{Answer}
use Rattle.layout.specs.Tables.{tables}
use Rattle.layout.specs.Relations.{TouchedBy, Near, NextGivenBy, LastGivenBy, ClockGivenBy}
use Rattle.layout.specs.Files.{WrittenBy}
use Rattle.info.specs.Info.{Summary, InfoGivenBy}
use Rattle.cells.specs.Answers.{CellsReadBy}
use Rattle.segment_near.specs.declared.Side.{Side}
use Rattle.segment_near.specs.declared.Side.TheVariants.{From, Before}
use Rattle.index_test.specs.declared.State.{State}
use Rattle.index_tested.specs.Kept.{Kept}

-- `touching_tested`
pub record TouchedTested (s : State) (blocks nodes entries : List ℕ) (kind tick start stop : ℕ) (out out' : List ℕ) (answer : Answer ℕ) : Type 0 where
  pub done : (pieces store : List ℕ) → Kept s (tables pieces blocks store nodes entries) → TouchedBy (tables pieces blocks store nodes entries) kind tick start stop out out' answer

-- next and last
pub record NextTested (s : State) (blocks nodes entries : List ℕ) (kind tick cell : ℕ) (answer : Answer Near) : Type 0 where
  pub done : (pieces store : List ℕ) → Kept s (tables pieces blocks store nodes entries) → NextGivenBy (tables pieces blocks store nodes entries) kind tick cell answer

pub record LastTested (s : State) (blocks nodes entries : List ℕ) (kind tick cell : ℕ) (answer : Answer Near) : Type 0 where
  pub done : (pieces store : List ℕ) → Kept s (tables pieces blocks store nodes entries) → LastGivenBy (tables pieces blocks store nodes entries) kind tick cell answer

-- `near_tested`: one of them, by the side
abbrev pub NearTested : Side → (s : State) (blocks nodes entries : List ℕ) (kind tick cell : ℕ) (answer : Answer Near) → Type 0
NearTested From s blocks nodes entries kind tick cell answer = NextTested s blocks nodes entries kind tick cell answer
NearTested Before s blocks nodes entries kind tick cell answer = LastTested s blocks nodes entries kind tick cell answer

-- `cells_tested`
pub record CellsTested (s : State) (blocks store nodes entries : List ℕ) (kind tick start stop : ℕ) (bytes bytes' held held' : List ℕ) (answer : Answer Unit) : Type 0 where
  pub done : (pieces : List ℕ) → Kept s (tables pieces blocks store nodes entries)
      → CellsReadBy (tables pieces blocks store nodes entries) kind tick start stop bytes bytes' held held' answer

-- `write_tested`
pub record WrittenTested (s : State) (blocks store nodes entries out out' : List ℕ) (answer : Answer ℕ) : Type 0 where
  pub done : (pieces : List ℕ) → Kept s (tables pieces blocks store nodes entries) → WrittenBy (tables pieces blocks store nodes entries) out out' answer

-- `clock_tested`
pub record ClockTested (s : State) (blocks : List ℕ) (cell : ℕ) (answer : Answer ℕ) : Type 0 where
  pub done : (pieces store nodes entries : List ℕ) → Kept s (tables pieces blocks store nodes entries) → ClockGivenBy (tables pieces blocks store nodes entries) cell answer

-- `info_tested`
pub record InfoTested (s : State) (pieces blocks nodes entries : List ℕ) (answer : Answer Summary) : Type 0 where
  pub done : (store : List ℕ) → Kept s (tables pieces blocks store nodes entries) → InfoGivenBy (tables pieces blocks store nodes entries) answer
