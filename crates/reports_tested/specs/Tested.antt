-- What the reports with a state do: of tables of which the state is true, what the public call does, whatever pieces are lent with them.
use Rattle.std.specs.Prelude.{List, ℕ}
use Rattle.history.specs.Occupation.{Report}
use Rattle.history.specs.Refusals.{Answer}
use Rattle.layout.specs.Tables.{tables}
use Rattle.index_test.specs.declared.State.{State}
use Rattle.index_tested.specs.Kept.{Kept}
use Rattle.occupation_read.specs.Answers.{OccupationReportedBy}

-- `occupation_tested`
pub record OccupationTested (s : State) (blocks store nodes entries : List ℕ) (kind tick : ℕ) (windows : List ℕ) (answer : Answer Report) : Type 0 where
  pub done : (pieces : List ℕ) → Kept s (tables pieces blocks store nodes entries)
      → OccupationReportedBy (tables pieces blocks store nodes entries) kind tick windows answer
