-- The returns of `record_tested`. Assumes nothing.
use mathlib.Core.Logic.{◌⊎◌, inl, inr}
use mathlib.Core.Path.{◌≡◌, refl, sym, ◌∙◌}
use mathlib.Core.Bool.{Bool, false}
use mathlib.Core.List.{List}
use Prim.Native.Nat.{ℕ, ◌≤◌, ◌<◌}
use borrow.Author.Tests.{le-ltb}
use Rattle.lists.specs.Tests.{Decides}
use Rattle.history.specs.Words.{Operation}
use Rattle.history.specs.Lent.{least_scratch}
use Rattle.history.specs.Ledger.{Ledger, record_by}
use Rattle.history.specs.Results.{Result}
use Rattle.history.specs.Refusals.{Answer, accepted, refused, record_answer}
use Rattle.history.specs.Sound.{Sound}
use Rattle.history.proofs.EveryList.{record_sound}
use Rattle.tables.specs.Columns.{head_state}
use Rattle.layout.specs.Tables.{Tables, tables, head_at}
use Rattle.layout.specs.Encodes.{Encodes, state_of}
use Rattle.layout.specs.Relations.{RecordLeaves}
use Rattle.std.specs.Prelude.{Option, Ok, Err, Result as Told}
use Rattle.refusals.specs.declared.Refusal.{Refusal}
use Rattle.refusals.specs.declared.Refusal.TheVariants.{Malformed, Finished}
use Rattle.refusals.specs.Numbers.{number_of, answer_by}
use Rattle.index_record.specs.Calls.{recorded, RecordedOpen}
use Rattle.index_test.specs.declared.State.{State}
use Rattle.index_test.specs.declared.State.TheVariants.{Bad, Open, Closed}
use Rattle.index_test.specs.States.{when_open}
use Rattle.index_test.proofs.Told.{stands_refuses}
use Rattle.index.proofs.Recording.{record_short, record_3}
use Rattle.index.proofs.Finishing.{is_open}
use Rattle.index_tested.specs.Kept.{StandsIn, CountsFit}
use Rattle.index_tested.specs.Tested.{RecordedTested}
use Rattle.index_tested.proofs.Keeping.{stands_open, stands_closed, kept_open, formed_fits}

-- ── the state stays ──

-- what a call leaves stands in the state of before, where it is a sound ledger with trees as before
pub goes_on : {head : ℕ} {t t' : Tables} {l l' : Ledger} → Encodes t l → Encodes t' l' → Sound l' → state_of l'.trees ≡ state_of l.trees → head_at t head_state ≡ head
    → StandsIn head t'
goes_on {l' = l'} before after s same h = record {
  formed = record { ledger = l'; encodes = after; sound = s };
  state = after.state ∙ same ∙ sym before.state ∙ h;
}

record_state : (l : Ledger) (o : Operation) → state_of (record_by l o).trees ≡ state_of l.trees
unfolding record_by
record_state l o = refl

-- so does what record leaves
pub record_stays : {head : ℕ} (scratch : ℕ) (o : Operation) (t t' : Tables) (l : Ledger) → Encodes t l → Sound l → head_at t head_state ≡ head
    → (a : Answer Result) → record_answer l scratch o ≡ a → RecordLeaves a l o t t' → StandsIn head t'
record_stays scratch o t t' l enc s h (accepted r) q left = goes_on enc left.0 (record_sound l scratch o q s) (record_state l o) h
record_stays scratch o t t' l enc s h (refused n) q left = rw left (goes_on enc enc s refl h)

-- ── the returns ──

module _ {s : State} {pieces blocks store : List ℕ} {scratch : ℕ} {o : Operation} where
  pub tested_short : scratch < least_scratch → RecordedTested s pieces blocks store pieces blocks store scratch o (refused 2)
  tested_short short = record { done = λ nodes entries k. (record_short short, k) }

  tested_bad : s ≡ Bad → RecordedTested s pieces blocks store pieces blocks store scratch o (refused 2)
  tested_bad e = record {
    done = λ nodes entries k. (
      record { formed = λ l enc sound. absurd (k.unformed e (record { ledger = l; encodes = enc; sound = sound })); unformed = λ _. (refl, refl) },
      k,
    );
  }

  tested_closed : least_scratch ≤ scratch → s ≡ Closed → RecordedTested s pieces blocks store pieces blocks store scratch o (refused 3)
  tested_closed long e = record {
    done = λ nodes entries k.
        let here = stands_closed (k.closed e) in (
          record {
            formed = λ l enc _. let q = stands_refuses here (record_3 scratch o long) l enc in (sym q, rw q refl);
            unformed = λ n. absurd (n here.formed);
          },
          k,
        );
  }

  -- no true state has counts that do not fit
  tested_unfit : {b : Bool} → s ≡ Open → Decides b (CountsFit pieces blocks) → b ≡ false → RecordedTested s pieces blocks store pieces blocks store scratch o (refused 2)
  tested_unfit {b} e d unfit = record { done = λ nodes entries k. absurd (d.not unfit (formed_fits (k.opened e).formed)) }

  tested_open : {pieces' blocks' store' : List ℕ} {a : Told (Option ℕ) Refusal} → least_scratch ≤ scratch → s ≡ Open → RecordedOpen pieces blocks store pieces' blocks' store' o a
      → RecordedTested s pieces blocks store pieces' blocks' store' scratch o (answer_by recorded a)
  tested_open {pieces'} {blocks'} {store'} long e f = record {
    done = λ nodes entries k.
        let t = tables pieces blocks store nodes entries in
        let t' = tables pieces' blocks' store' nodes entries in
        let here = stands_open (k.opened e) in
        let w = here.formed in
        let enough = le-ltb scratch least_scratch long in
        let one = f.formed nodes entries w.ledger scratch enough w.encodes w.sound (here.state w.ledger w.encodes) in (
          record {
            formed = λ l enc sound. f.formed nodes entries l scratch enough enc sound (here.state l enc);
            unformed = λ n. absurd (n w);
          },
          kept_open e (record_stays scratch o t t' w.ledger w.encodes w.sound (k.opened e).state (record_answer w.ledger scratch o) refl one.1),
        );
  }

-- by what the state refuses
not_open : (e : Refusal) (s : State) → when_open s ≡ Err e → ((s ≡ Bad) × (number_of e ≡ 2)) ⊎ ((s ≡ Closed) × (number_of e ≡ 3))
not_open e Bad is = let q : e ≡ Malformed = cc in inl (refl, rw q refl)
not_open e Closed is = let q : e ≡ Finished = cc in inr (refl, rw q refl)
not_open e Open is = cc

module _ (s : State) {x : Told Unit Refusal} {pieces blocks store : List ℕ} {scratch : ℕ} {o : Operation} (long : least_scratch ≤ scratch) (is : x ≡ when_open s) where
  pub state_refused : {e : Refusal} → x ≡ Err e → RecordedTested s pieces blocks store pieces blocks store scratch o (refused (number_of e))
  state_refused {e} q = elim (not_open e s (sym is ∙ q)) [
    | inl p ↦ rw p.1 (tested_bad p.0)
    | inr p ↦ rw p.1 (tested_closed long p.0)
  ]

  pub counts_unfit : {u : Unit} {b : Bool} → x ≡ Ok u → Decides b (CountsFit pieces blocks) → b ≡ false
      → RecordedTested s pieces blocks store pieces blocks store scratch o (refused 2)
  counts_unfit q d unfit = tested_unfit (is_open s (sym is ∙ q)) d unfit

  pub recorded_open : {u : Unit} {pieces' blocks' store' : List ℕ} {a : Told (Option ℕ) Refusal} → x ≡ Ok u → RecordedOpen pieces blocks store pieces' blocks' store' o a
      → RecordedTested s pieces blocks store pieces' blocks' store' scratch o (answer_by recorded a)
  recorded_open q f = tested_open long (is_open s (sym is ∙ q)) f
