-- The returns of `install_open` and `install_calendar`. Assumes nothing.
use mathlib.Core.Logic.{inl, inr}
use mathlib.Core.Path.{◌≡◌, refl, sym, ap, subst, ◌∙◌}
use mathlib.Core.Bool.{Bool, true, false, not}
use mathlib.Core.List.{List}
use Prim.Native.Nat.{ℕ}
use borrow.Author.Rules.{rules}
use borrow.Author.Tests.{not-true, not-false}
use Rattle.history.specs.Hours.{calendar_of, calendar_taken}
use Rattle.history.specs.Lent.{too_short}
use Rattle.history.specs.Ledger.{Ledger, finished, install_by}
use Rattle.history.specs.Results.{Result, done}
use Rattle.history.specs.Refusals.{Answer, accepted, refused, first_of, install_refusals, install_answer}
use Rattle.calendar_table.specs.Calendars.{installed_in}
use Rattle.layout.specs.Tables.{Tables, tables}
use Rattle.layout.specs.Encodes.{Encodes}
use Rattle.layout.specs.Relations.{installed_tables, InstallLeaves, InstalledBy}
use Rattle.layout.proofs.ReadLaws.{heads-held}
use Rattle.layout.proofs.Installing.{installed_encodes}
use Rattle.index_test.specs.Board.{Outcome}
use Rattle.index_test.specs.declared.State.{State}
use Rattle.index_test.specs.States.{when_open}
use Rattle.index_test.proofs.Told.{Refuses, stands_refuses, open_refused, open_taken}
use Rattle.install.specs.Answers.{InstalledOpen}
use Rattle.std.specs.Prelude.{Ok, Err, Result as Told}
use Rattle.refusals.specs.declared.Refusal.{Refusal}
use Rattle.refusals.specs.declared.Refusal.TheVariants.{BadCalendar, BadDays}
use Rattle.refusals.specs.Numbers.{number_of, answer_by}

-- ── the ledger's answer ──

install_3 : (numbers : List ℕ) → Refuses (λ l. install_answer l numbers) true 3
unfolding install_refusals first_of
install_3 numbers l held closed = rw (held, closed)

module _ (l : Ledger) (numbers : List ℕ) (held : too_short l.opening.lent ≡ false) (still : finished l ≡ false) where
  install_27 : calendar_taken (calendar_of numbers) ≡ false → install_answer l numbers ≡ refused 27
  unfolding install_refusals first_of
  install_27 bad = rw (held, still, bad)

  install_accepted : calendar_taken (calendar_of numbers) ≡ true → install_answer l numbers ≡ accepted done
  unfolding install_refusals first_of
  install_accepted good = rw (held, still, good)

-- ── `install_open` ──

module _ {blocks numbers : List ℕ} {r : Bool} (is : r ≡ calendar_taken (calendar_of numbers)) where
  pub open_27 : not r ≡ true → InstalledOpen blocks blocks numbers (Err BadCalendar)
  open_27 bad = record {
    formed = λ pieces store nodes entries l e still.
        let q : install_answer l numbers ≡ refused 27 = install_27 l numbers (heads-held e) still (sym is ∙ not-true r bad) in
        (sym q, subst (λ (x : Answer Result). InstallLeaves x l numbers (tables pieces blocks store nodes entries) (tables pieces blocks store nodes entries)) (sym q) refl);
  }

  pub open_done : {blocks' : List ℕ} → not r ≡ false → blocks' ≡ installed_in blocks numbers → InstalledOpen blocks blocks' numbers (Ok tt)
  open_done {blocks'} good e' = record {
    formed = λ pieces store nodes entries l e still.
        let t : Tables = tables pieces blocks store nodes entries in
        let q : install_answer l numbers ≡ accepted done = install_accepted l numbers (heads-held e) still (sym is ∙ not-false r good) in
        let same : tables pieces blocks' store nodes entries ≡ installed_tables numbers t = ap (λ (b : List ℕ). tables pieces b store nodes entries) e' in
        let left : InstallLeaves (accepted done) l numbers t (tables pieces blocks' store nodes entries)
        = (subst (λ (x : Tables). Encodes x (install_by l numbers)) (sym same) (installed_encodes t l numbers e), same) in
        (sym q, subst (λ (x : Answer Result). InstallLeaves x l numbers t (tables pieces blocks' store nodes entries)) (sym q) left);
  }

pub ruleset openings = (open_27, open_done, rules)

-- ── `install_calendar` ──

module _ {pieces blocks store nodes entries numbers : List ℕ} (r : State) {s : Told Unit Refusal} (told : Outcome r (tables pieces blocks store nodes entries)) (is : s ≡ when_open r) where
  pub install_refused : {e : Refusal} → s ≡ Err e
      → InstalledBy numbers (tables pieces blocks store nodes entries) (tables pieces blocks store nodes entries) (refused (number_of e))
  install_refused {e} q = elim (open_refused e r told (sym is ∙ q)) [
    | inl p ↦ rw p.1 (record { formed = λ l enc sound. absurd (p.0 (record { ledger = l; encodes = enc; sound = sound })); unformed = λ _. (refl, refl) })
    | inr p ↦ rw p.1 (record {
      formed = λ l enc _. let asked = stands_refuses p.0 (install_3 numbers) l enc in (sym asked, rw asked refl);
      unformed = λ n. absurd (n p.0.formed);
    })
  ]

  pub install_opened : {u : Unit} {blocks' : List ℕ} {a : Told Unit Refusal} → s ≡ Ok u → InstalledOpen blocks blocks' numbers a
      → InstalledBy numbers (tables pieces blocks store nodes entries) (tables pieces blocks' store nodes entries) (answer_by (λ _. done) a)
  install_opened q f =
      let p = open_taken r told (sym is ∙ q) in
      record { formed = λ l enc sound. f.formed pieces store nodes entries l enc (p.state l enc); unformed = λ n. absurd (n p.formed) }
