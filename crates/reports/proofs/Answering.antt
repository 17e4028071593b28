-- The returns of the reports: 2 and 4 by the state of the tables, else what the inner call answers.
use mathlib.Core.Path.{◌≡◌, refl, sym, ◌∙◌}
use mathlib.Core.List.{List}
use Prim.Native.Nat.{ℕ}
use Rattle.std.specs.Prelude.{Result, Ok, Err}
use Rattle.history.specs.Occupation.{Report, occupation_refusals}
use Rattle.history.specs.Refusals.{Answer, refused, first_of}
use Rattle.refusals.specs.declared.Refusal.{Refusal}
use Rattle.refusals.specs.Numbers.{number_of}
use Rattle.layout.specs.Tables.{tables}
use Rattle.index_test.specs.Board.{Outcome}
use Rattle.index_test.specs.declared.State.{State}
use Rattle.index_test.specs.States.{when_closed}
use Rattle.index_test.proofs.Told.{closed_taken, read_not_closed, closed_read}
use Rattle.occupation_read.specs.Answers.{ReportClosed, OccupationReportedBy}

module _ {pieces blocks store nodes entries : List ℕ} {kind tick : ℕ} {windows : List ℕ} (r : State) {x : Result Unit Refusal}
    (told : Outcome r (tables pieces blocks store nodes entries)) (is : x ≡ when_closed r) where
  pub occupation_refused : {e : Refusal} → x ≡ Err e → OccupationReportedBy (tables pieces blocks store nodes entries) kind tick windows (refused (number_of e))
  unfolding occupation_refusals first_of
  occupation_refused q = record { read = read_not_closed (λ n y. refused n ≡ y) r told (sym is ∙ q) (λ l heads still. rw (heads, still)) (λ n. refl) }

  pub occupation_given : {u : Unit} {answer : Answer Report} → x ≡ Ok u → ReportClosed blocks store nodes entries kind tick windows answer
      → OccupationReportedBy (tables pieces blocks store nodes entries) kind tick windows answer
  occupation_given q f = record { read = closed_read (closed_taken r told (sym is ∙ q)) (f.read pieces) }
