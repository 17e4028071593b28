-- The returns of the reads at a state: 2 and 4 by it, else what the inner call hands out. Assumes nothing.
use mathlib.Core.Path.{◌≡◌, sym, ◌∙◌}
use mathlib.Core.Path.{refl}
use mathlib.Core.Bool.{Bool, false}
use mathlib.Core.List.{List}
use Prim.Native.Nat.{ℕ}
use Rattle.lists.specs.Tests.{Decides}
use Rattle.std.specs.Prelude.{Result, Ok, Err}
use Rattle.history.specs.Refusals.{Answer, accepted, refused, first_of, window_refusals, neighbour_refusals, write_refusals}
use Rattle.layout.specs.Relations.{Near}
use Rattle.layout.specs.Reads.{HandedOut}
use Rattle.layout.proofs.ReadLaws.{out_refused, into_refused}
use Rattle.refusals.specs.declared.Refusal.{Refusal}
use Rattle.refusals.specs.Numbers.{number_of}
use Rattle.index_test.specs.States.{when_formed}
use lib.ListN.{length}
use Rattle.layout.specs.Reads.{HandedInto}
use Rattle.layout.specs.Relations.{near_of}
use Rattle.index_test.specs.States.{when_closed}
use Rattle.index_test.proofs.Told.{closed_read}
use Rattle.index_tested.proofs.Keeping.{kept_not_closed, kept_closed_taken}
use Rattle.cells_read.specs.Answers.{CellsHanded}
use Rattle.segment_near.specs.declared.Side.{Side}
use Rattle.segment_near.specs.declared.Side.TheVariants.{From, Before}
use Rattle.touching_read.specs.Reads.{TouchingClosed, NearClosed}
use Rattle.cells_read.specs.Answers.{ReadClosed}
use Rattle.cells_read.proofs.Reading.{cells_refused}
use Rattle.file_write.specs.Answers.{WrittenClosed}
use Rattle.clock.specs.Answers.{ClockTold}
use Rattle.clock.proofs.Telling.{formed_told}
use Rattle.info.specs.Info.{Summary}
use Rattle.info.specs.Answers.{InfoTold, summary_given}
use Rattle.info.specs.declared.Summary.{Summary as Given}
use Rattle.info.proofs.Telling.{formed_told as summary_told}
use Rattle.index_test.specs.declared.State.{State}
use Rattle.index_tested.specs.Kept.{BlocksFit}
use Rattle.index_tested.proofs.Keeping.{kept_formed, kept_not_formed, formed_fits}
use Rattle.reads_tested.specs.Tested.{TouchedTested, NearTested, CellsTested, WrittenTested, ClockTested, InfoTested}

-- ── touching, next, last and read cells ──

module _ (s : State) {x : Result Unit Refusal} (is : x ≡ when_closed s) where
  module _ {blocks nodes entries : List ℕ} {kind tick start stop : ℕ} {out : List ℕ} where
    pub touching_refused : {e : Refusal} → x ≡ Err e → TouchedTested s blocks nodes entries kind tick start stop out out (refused (number_of e))
    unfolding window_refusals first_of
    touching_refused {e} q = record {
      done = λ pieces store k.
          record { read = kept_not_closed e s k (sym is ∙ q) (λ n. HandedInto length (λ ks. ks) out out (refused n)) (λ l heads still. rw (heads, still)) (λ n. into_refused) };
    }

    pub touching_taken : {u : Unit} {out' : List ℕ} {a : Answer ℕ} → x ≡ Ok u → TouchingClosed blocks nodes entries kind tick start stop out out' a
        → TouchedTested s blocks nodes entries kind tick start stop out out' a
    touching_taken q f = record { done = λ pieces store k. record { read = closed_read (kept_closed_taken s k (sym is ∙ q)) (f.touched pieces store) } }

  module _ (blocks nodes entries : List ℕ) (kind tick cell : ℕ) where
    pub near_refused : {e : Refusal} (side : Side) → x ≡ Err e → NearTested side s blocks nodes entries kind tick cell (refused (number_of e))
    unfolding neighbour_refusals first_of
    near_refused {e} From q = record {
      done = λ pieces store k. record { read = kept_not_closed e s k (sym is ∙ q) (λ n. HandedOut near_of (refused n)) (λ l heads still. rw (heads, still)) (λ n. out_refused) };
    }
    near_refused {e} Before q = record {
      done = λ pieces store k. record { read = kept_not_closed e s k (sym is ∙ q) (λ n. HandedOut near_of (refused n)) (λ l heads still. rw (heads, still)) (λ n. out_refused) };
    }

    pub near_taken : {u : Unit} (a : Answer Near) (side : Side) → x ≡ Ok u → NearClosed side blocks nodes entries kind tick cell a → NearTested side s blocks nodes entries kind tick cell a
    near_taken a From q f = record { done = λ pieces store k. record { read = closed_read (kept_closed_taken s k (sym is ∙ q)) (f.given pieces store) } }
    near_taken a Before q f = record { done = λ pieces store k. record { read = closed_read (kept_closed_taken s k (sym is ∙ q)) (f.given pieces store) } }

  module _ {blocks store nodes entries : List ℕ} {kind tick start stop : ℕ} {bytes held : List ℕ} where
    pub cells_not_closed : {e : Refusal} → x ≡ Err e → CellsTested s blocks store nodes entries kind tick start stop bytes bytes held held (refused (number_of e))
    unfolding window_refusals first_of
    cells_not_closed {e} q = record {
      done = λ pieces k.
          record { read = kept_not_closed e s k (sym is ∙ q) (λ n. CellsHanded bytes bytes held held (refused n)) (λ l heads still. rw (heads, still)) (λ n. cells_refused) };
    }

    pub cells_taken : {u : Unit} {bytes' held' : List ℕ} {a : Answer Unit} → x ≡ Ok u → ReadClosed blocks store nodes entries kind tick start stop bytes bytes' held held' a
        → CellsTested s blocks store nodes entries kind tick start stop bytes bytes' held held' a
    cells_taken q f = record { done = λ pieces k. record { read = closed_read (kept_closed_taken s k (sym is ∙ q)) (f.read pieces) } }

-- ── write ──

module _ (s : State) {x : Result Unit Refusal} {blocks store nodes entries out : List ℕ} (is : x ≡ when_closed s) where
  pub write_refused : {e : Refusal} → x ≡ Err e → WrittenTested s blocks store nodes entries out out (refused (number_of e))
  unfolding write_refusals first_of
  write_refused {e} q = record {
    done = λ pieces k.
        record { read = kept_not_closed e s k (sym is ∙ q) (λ n. HandedInto length (λ file. file) out out (refused n)) (λ l heads still. rw (heads, still)) (λ n. into_refused) };
  }

  -- no true state has a count that does not fit
  pub write_unfit : {u : Unit} {b : Bool} → x ≡ Ok u → Decides b (BlocksFit blocks) → b ≡ false → WrittenTested s blocks store nodes entries out out (refused 2)
  write_unfit q d unfit = record { done = λ pieces k. absurd (d.not unfit (formed_fits (kept_closed_taken s k (sym is ∙ q)).formed).blocks_fit) }

  pub write_closed : {u : Unit} {out' : List ℕ} {a : Answer ℕ} → x ≡ Ok u → WrittenClosed blocks store nodes entries out out' a
      → WrittenTested s blocks store nodes entries out out' a
  write_closed q f = record { done = λ pieces k. record { read = closed_read (kept_closed_taken s k (sym is ∙ q)) (f.written pieces) } }

-- ── clock ──

module _ (s : State) {x : Result Unit Refusal} {blocks : List ℕ} {cell : ℕ} (is : x ≡ when_formed s) where
  pub clock_refused : {e : Refusal} → x ≡ Err e → ClockTested s blocks cell (refused (number_of e))
  clock_refused {e} q = record { done = λ pieces store nodes entries k. record { read = kept_not_formed e s k (sym is ∙ q) (λ n. HandedOut (λ (y : ℕ). y) (refused n)) out_refused } }

  pub clock_told : {u : Unit} {n : ℕ} → x ≡ Ok u → ClockTold blocks cell n → ClockTested s blocks cell (accepted n)
  clock_told q f = record { done = λ pieces store nodes entries k. formed_told (kept_formed s k (sym is ∙ q)) f }

-- ── info ──

module _ (s : State) {x : Result Unit Refusal} {pieces blocks nodes entries : List ℕ} (is : x ≡ when_formed s) where
  pub info_refused : {e : Refusal} → x ≡ Err e → InfoTested s pieces blocks nodes entries (refused (number_of e))
  info_refused {e} q = record { done = λ store k. record { read = kept_not_formed e s k (sym is ∙ q) (λ n. HandedOut (λ (y : Summary). y) (refused n)) out_refused } }

  pub info_told : {u : Unit} {given : Given} → x ≡ Ok u → InfoTold pieces blocks nodes entries given → InfoTested s pieces blocks nodes entries (accepted (summary_given given))
  info_told q f = record { done = λ store k. summary_told (kept_formed s k (sym is ∙ q)) f }
