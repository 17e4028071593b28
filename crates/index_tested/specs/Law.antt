-- Where a state comes from: the test, and an accepted finish. Statements alone: their proofs stand in proofs/Keeping and proofs/Closing.
use Rattle.std.specs.Prelude.{ℕ}
use Rattle.history.specs.Results.{Result}
use Rattle.history.specs.Refusals.{accepted, refused}
use Rattle.layout.specs.Tables.{Tables}
use Rattle.layout.specs.Relations.{FinishedBy}
use Rattle.index_test.specs.Board.{Outcome}
use Rattle.index_test.specs.declared.State.{State}
use Rattle.index_test.specs.declared.State.TheVariants.{Open, Closed}
use Rattle.index_tested.specs.Kept.{Kept}

-- what the test finds is true
abbrev pub TestKeeps : Type 0
TestKeeps = (s : State) (t : Tables) → Outcome s t → Kept s t

-- an accepted finish of an open index leaves a closed one; a refused finish leaves the state as it was
pub record FinishCloses : Type 0 where
  pub closes : (t t' : Tables) (r : Result) → Kept Open t → FinishedBy t t' (accepted r) → Kept Closed t'
  pub stays : (s : State) (t t' : Tables) (n : ℕ) → Kept s t → FinishedBy t t' (refused n) → Kept s t'
