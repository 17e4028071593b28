-- The returns of `record_op`. Assumes nothing.
use mathlib.Core.Logic.{inl, inr}
use mathlib.Core.Path.{◌≡◌, refl, sym, ap, ◌∙◌}
use mathlib.Core.Bool.{true, false}
use mathlib.Core.List.{List}
use Prim.Native.Nat.{ℕ, ◌≤◌, ◌<◌}
use borrow.Author.Tests.{lt-ltb, le-ltb}
use Rattle.history.specs.Words.{Operation}
use Rattle.history.specs.Lent.{too_short, least_scratch}
use Rattle.history.specs.Ledger.{Ledger}
use Rattle.history.specs.Refusals.{refused, first_of, record_refusals, record_answer}
use Rattle.layout.specs.Tables.{Tables, tables}
use Rattle.layout.specs.Relations.{RecordedBy}
use Rattle.std.specs.Prelude.{Option, Ok, Err, Result as Told}
use Rattle.refusals.specs.declared.Refusal.{Refusal}
use Rattle.refusals.specs.Numbers.{number_of, answer_by}
use Rattle.index_record.specs.Calls.{recorded, RecordedOpen}
use Rattle.index_test.specs.Board.{Outcome}
use Rattle.index_test.specs.declared.State.{State}
use Rattle.index_test.specs.States.{when_open}
use Rattle.index_test.proofs.Told.{Refuses, stands_refuses, open_refused, open_taken}

-- every ledger answers 2 where the scratch is too short
record_2 : (l : Ledger) (scratch : ℕ) (o : Operation) → too_short l.opening.lent ≡ false → scratch < least_scratch → record_answer l scratch o ≡ refused 2
unfolding record_refusals first_of
record_2 l scratch o held short = rw (held, lt-ltb scratch least_scratch short)

pub record_short : {t : Tables} {scratch : ℕ} {o : Operation} → scratch < least_scratch → RecordedBy scratch o t t (refused 2)
record_short {t} {scratch} {o} short = record {
  formed = λ l enc s. let q = record_2 l scratch o (ap too_short enc.lengths ∙ enc.heads) short in (sym q, rw q refl);
  unformed = λ _. (refl, refl);
}

-- a finished ledger answers 3 where it is not
pub record_3 : (scratch : ℕ) (o : Operation) → least_scratch ≤ scratch → Refuses (λ l. record_answer l scratch o) true 3
unfolding record_refusals first_of
record_3 scratch o long l held done = rw (held, le-ltb scratch least_scratch long, done)

module _ {pieces blocks store nodes entries : List ℕ} {scratch : ℕ} {o : Operation} (r : State) {s : Told Unit Refusal} (long : least_scratch ≤ scratch)
    (told : Outcome r (tables pieces blocks store nodes entries)) (is : s ≡ when_open r) where
  pub record_refused : {e : Refusal} → s ≡ Err e → RecordedBy scratch o (tables pieces blocks store nodes entries) (tables pieces blocks store nodes entries) (refused (number_of e))
  record_refused {e} q = elim (open_refused e r told (sym is ∙ q)) [
    | inl p ↦ rw p.1 (record { formed = λ l enc sound. absurd (p.0 (record { ledger = l; encodes = enc; sound = sound })); unformed = λ _. (refl, refl) })
    | inr p ↦ rw p.1 (record {
      formed = λ l enc _. let asked = stands_refuses p.0 (record_3 scratch o long) l enc in (sym asked, rw asked refl);
      unformed = λ n. absurd (n p.0.formed);
    })
  ]

  pub record_opened : {u : Unit} {pieces' blocks' store' : List ℕ} {a : Told (Option ℕ) Refusal} → s ≡ Ok u → RecordedOpen pieces blocks store pieces' blocks' store' o a
      → RecordedBy scratch o (tables pieces blocks store nodes entries) (tables pieces' blocks' store' nodes entries) (answer_by recorded a)
  record_opened q f =
      let p = open_taken r told (sym is ∙ q) in
      record { formed = λ l enc sound. f.formed nodes entries l scratch (le-ltb scratch least_scratch long) enc sound (p.state l enc); unformed = λ n. absurd (n p.formed) }
