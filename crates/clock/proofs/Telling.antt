-- The returns of `clock_formed` and `clock`. Assumes nothing.
use mathlib.Core.Path.{◌≡◌, refl, sym, ap, ◌∙◌}
use mathlib.Core.List.{List}
use Prim.Native.Nat.{ℕ}
use Rattle.history.specs.Days.{Day, days_of}
use Rattle.history.specs.Reads.{clock_label}
use Rattle.history.specs.Refusals.{Answer, accepted, refused}
use Rattle.day_table.specs.DayLists.{list_in}
use Rattle.layout.specs.Tables.{tables}
use Rattle.layout.specs.Reads.{HandedOut}
use Rattle.layout.specs.Formed.{WellFormed}
use Rattle.layout.specs.Relations.{ClockGivenBy}
use Rattle.layout.proofs.ReadLaws.{clock_there, out_refused}
use Rattle.index_test.specs.Board.{Outcome}
use Rattle.index_test.specs.declared.State.{State}
use Rattle.index_test.specs.States.{when_formed}
use Rattle.index_test.proofs.Told.{formed_taken, read_not_formed}
use Rattle.std.specs.Prelude.{Result, Ok, Err}
use Rattle.refusals.specs.declared.Refusal.{Refusal}
use Rattle.refusals.specs.Numbers.{number_of}
use Rattle.clock.specs.Answers.{ClockTold}

-- ── `clock_formed` ──

pub label_told : (blocks list : List ℕ) (cell n : ℕ) → list ≡ list_in blocks → n ≡ clock_label (days_of list) cell → ClockTold blocks cell n
label_told blocks list cell n e is = record {
  given = λ pieces store nodes entries l enc.
      rw (clock_there enc cell)
      (record { answered = ap accepted (is ∙ ap (λ (days : List Day). clock_label days cell) (ap days_of e ∙ enc.days.is)) });
}

-- ── `clock` ──

pub formed_told : {pieces blocks store nodes entries : List ℕ} {cell n : ℕ} → WellFormed (tables pieces blocks store nodes entries) → ClockTold blocks cell n
    → ClockGivenBy (tables pieces blocks store nodes entries) cell (accepted n)
formed_told {pieces} {blocks} {store} {nodes} {entries} w f =
    record { read = record { formed = λ l enc _. f.given pieces store nodes entries l enc; unformed = λ n. absurd (n w) } }

module _ {pieces blocks store nodes entries : List ℕ} {cell : ℕ} (r : State) {s : Result Unit Refusal} (told : Outcome r (tables pieces blocks store nodes entries)) (is : s ≡ when_formed r) where
  pub clock_refused : {e : Refusal} → s ≡ Err e → ClockGivenBy (tables pieces blocks store nodes entries) cell (refused (number_of e))
  clock_refused q = record { read = read_not_formed (λ n. HandedOut (λ (x : ℕ). x) (refused n)) r told (sym is ∙ q) out_refused }

  pub clock_told : {u : Unit} {n : ℕ} → s ≡ Ok u → ClockTold blocks cell n → ClockGivenBy (tables pieces blocks store nodes entries) cell (accepted n)
  clock_told q f = formed_told (formed_taken r told (sym is ∙ q)) f
