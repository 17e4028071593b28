-- The returns of `install_days_formed` and `install_days`. Assumes nothing.
use mathlib.Core.Path.{◌≡◌, refl, sym, ap, subst, ◌∙◌}
use mathlib.Core.Bool.{Bool, true, false, not}
use mathlib.Core.List.{List}
use Prim.Native.Nat.{ℕ, ◌≤◌}
use lib.ListN.{length}
use lib.Dec.{leb}
use borrow.Author.Rules.{rules}
use borrow.Author.Tests.{leb-true, not-true, not-false}
use Rattle.lists.proofs.Numbers.{and_left}
use Rattle.history.specs.Lent.{too_short}
use Rattle.history.specs.Days.{most_days, days_of, rises_from, days_taken}
use Rattle.history.specs.Ledger.{Ledger, install_days_by}
use Rattle.history.specs.Results.{Result, done}
use Rattle.history.specs.Refusals.{Answer, accepted, refused, first_of, days_refusals, days_answer}
use Rattle.day_table.specs.DayLists.{days_installed_in}
use Rattle.layout.specs.Tables.{Tables, tables}
use Rattle.layout.specs.Encodes.{Encodes}
use Rattle.layout.specs.Formed.{WellFormed}
use Rattle.layout.specs.Relations.{days_tables, DaysLeave, DaysInstalledBy}
use Rattle.layout.proofs.ReadLaws.{heads-held}
use Rattle.layout.proofs.Installing.{days_installed_encodes}
use Rattle.index_test.specs.Board.{Outcome}
use Rattle.index_test.specs.declared.State.{State}
use Rattle.index_test.specs.States.{when_formed}
use Rattle.index_test.proofs.Told.{formed_refused, formed_taken}
use Rattle.install.specs.Answers.{DaysInstalled}
use Rattle.std.specs.Prelude.{Ok, Err, Result as Told}
use Rattle.refusals.specs.declared.Refusal.{Refusal}
use Rattle.refusals.specs.declared.Refusal.TheVariants.{BadCalendar, BadDays}
use Rattle.refusals.specs.Numbers.{number_of, answer_by}

-- ── the ledger's answer ──

module _ (l : Ledger) (numbers : List ℕ) (held : too_short l.opening.lent ≡ false) where
  days_28 : days_taken (days_of numbers) ≡ false → days_answer l numbers ≡ refused 28
  unfolding days_refusals first_of
  days_28 bad = rw (held, bad)

  days_accepted : days_taken (days_of numbers) ≡ true → days_answer l numbers ≡ accepted done
  unfolding days_refusals first_of
  days_accepted good = rw (held, good)

-- a list that is taken has a place for each of its days
taken_few : (numbers : List ℕ) → days_taken (days_of numbers) ≡ true → length (days_of numbers) ≤ most_days
unfolding days_taken
taken_few numbers t =
    leb-true (length (days_of numbers)) most_days (and_left (leb (length (days_of numbers)) most_days) (rises_from 0 (days_of numbers)) t)

-- ── `install_days_formed` ──

module _ {blocks numbers : List ℕ} {r : Bool} (is : r ≡ days_taken (days_of numbers)) where
  pub formed_28 : not r ≡ true → DaysInstalled blocks blocks numbers (Err BadDays)
  formed_28 bad = record {
    formed = λ pieces store nodes entries l e.
        let q : days_answer l numbers ≡ refused 28 = days_28 l numbers (heads-held e) (sym is ∙ not-true r bad) in
        (sym q, subst (λ (x : Answer Result). DaysLeave x l numbers (tables pieces blocks store nodes entries) (tables pieces blocks store nodes entries)) (sym q) refl);
  }

  pub formed_done : {blocks' : List ℕ} → not r ≡ false → blocks' ≡ days_installed_in blocks numbers → DaysInstalled blocks blocks' numbers (Ok tt)
  formed_done {blocks'} good e' = record {
    formed = λ pieces store nodes entries l e.
        let t : Tables = tables pieces blocks store nodes entries in
        let taken : days_taken (days_of numbers) ≡ true = sym is ∙ not-false r good in
        let q : days_answer l numbers ≡ accepted done = days_accepted l numbers (heads-held e) taken in
        let same : tables pieces blocks' store nodes entries ≡ days_tables numbers t = ap (λ (b : List ℕ). tables pieces b store nodes entries) e' in
        let left : DaysLeave (accepted done) l numbers t (tables pieces blocks' store nodes entries)
        = (subst (λ (x : Tables). Encodes x (install_days_by l numbers)) (sym same) (days_installed_encodes t l numbers e (taken_few numbers taken)), same) in
        (sym q, subst (λ (x : Answer Result). DaysLeave x l numbers t (tables pieces blocks' store nodes entries)) (sym q) left);
  }

pub ruleset formed = (formed_28, formed_done, rules)

-- ── `install_days` ──

module _ {pieces blocks store nodes entries numbers : List ℕ} (r : State) {s : Told Unit Refusal} (told : Outcome r (tables pieces blocks store nodes entries)) (is : s ≡ when_formed r) where
  pub days_refused : {e : Refusal} → s ≡ Err e
      → DaysInstalledBy numbers (tables pieces blocks store nodes entries) (tables pieces blocks store nodes entries) (refused (number_of e))
  days_refused {e} q =
      let p = formed_refused e r told (sym is ∙ q) in
      rw p.1 (record { formed = λ l enc sound. absurd (p.0 (record { ledger = l; encodes = enc; sound = sound })); unformed = λ _. (refl, refl) })

  pub days_formed : {u : Unit} {blocks' : List ℕ} {a : Told Unit Refusal} → s ≡ Ok u → DaysInstalled blocks blocks' numbers a
      → DaysInstalledBy numbers (tables pieces blocks store nodes entries) (tables pieces blocks' store nodes entries) (answer_by (λ _. done) a)
  days_formed q f =
      let w = formed_taken r told (sym is ∙ q) in
      record { formed = λ l enc _. f.formed pieces store nodes entries l enc; unformed = λ n. absurd (n w) }
