-- The returns of the reports with a state: 4 by the state, else what the inner call answers.
use mathlib.Core.Path.{◌≡◌, refl, sym, ◌∙◌}
use mathlib.Core.List.{List}
use Prim.Native.Nat.{ℕ}
use Rattle.std.specs.Prelude.{Result, Ok, Err}
use Rattle.history.specs.Occupation.{Report, occupation_refusals}
use Rattle.history.specs.Refusals.{Answer, refused, first_of}
use Rattle.refusals.specs.declared.Refusal.{Refusal}
use Rattle.refusals.specs.Numbers.{number_of}
use Rattle.index_test.specs.declared.State.{State}
use Rattle.index_test.specs.States.{when_closed}
use Rattle.index_test.proofs.Told.{closed_read}
use Rattle.index_tested.proofs.Keeping.{kept_not_closed, kept_closed_taken}
use Rattle.occupation_read.specs.Answers.{ReportClosed}
use Rattle.reports_tested.specs.Tested.{OccupationTested}

module _ {blocks store nodes entries : List ℕ} {kind tick : ℕ} {windows : List ℕ} (s : State) {x : Result Unit Refusal} (is : x ≡ when_closed s) where
  pub occupation_refused : {e : Refusal} → x ≡ Err e → OccupationTested s blocks store nodes entries kind tick windows (refused (number_of e))
  unfolding occupation_refusals first_of
  occupation_refused {e} q = record {
    done = λ pieces k. record { read = kept_not_closed e s k (sym is ∙ q) (λ n y. refused n ≡ y) (λ l heads still. rw (heads, still)) (λ n. refl) };
  }

  pub occupation_given : {u : Unit} {answer : Answer Report} → x ≡ Ok u → ReportClosed blocks store nodes entries kind tick windows answer
      → OccupationTested s blocks store nodes entries kind tick windows answer
  occupation_given q f = record { done = λ pieces k. record { read = closed_read (kept_closed_taken s k (sym is ∙ q)) (f.read pieces) } }
