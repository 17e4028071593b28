-- The returns of the exported calls with a state: an answer as its number, wherever the state is true. Assumes nothing.
use mathlib.Core.Path.{◌≡◌, sym, subst}
use mathlib.Core.List.{List}
use Prim.Native.Nat.{ℕ, ◌≤◌}
use native.Mathlib.Omega.{arith}
use Rattle.history.specs.Words.{Operation}
use Rattle.layout.specs.Tables.{Tables}
use Rattle.layout.specs.Relations.{Counts, Fields}
use Rattle.index_test.specs.Board.{Outcome}
use Rattle.index_test.specs.declared.State.{State}
use Rattle.index_test.specs.declared.State.TheVariants.{Bad, Open, Closed}
use Rattle.index_test.specs.States.{state_number, state_numbered}
use Rattle.index_test.proofs.Numbers.{number_back}
use Rattle.index_record.specs.Calls.{recorded}
use Rattle.index_read.specs.Answers.{counts_given, fields_given}
use Rattle.index_read.specs.declared.Block.{Block}
use Rattle.index_read.specs.declared.Found.{Found}
use Rattle.std.specs.Prelude.{Option}
use Rattle.touching_read.specs.Answers.{near_told}
use Rattle.info.specs.Info.{Summary}
use Rattle.info.specs.Answers.{summary_given}
use Rattle.info.specs.declared.Summary.{Summary as Given}
use Rattle.std.specs.Prelude.{Result}
use Rattle.refusals.specs.declared.Refusal.{Refusal}
use Rattle.refusals.specs.Numbers.{answer_by}
use Rattle.index_tested.specs.Kept.{Kept}
use Rattle.index_tested.specs.Tested.{RecordedTested, FoundTested, BlockTested}
use Rattle.index_tested.proofs.Keeping.{test_keeps}
use Rattle.reads_tested.specs.Tested.{TouchedTested, NextTested, LastTested, CellsTested, WrittenTested, ClockTested, InfoTested}
use Rattle.servercape.specs.Numbers.{Handed, told_by, flagged, changes, near}
use Rattle.servercape.proofs.Answering.{by_number, by_done, by_near, by_change}
use Rattle.servercape_tested.specs.States.{StateTold, RecordedAs, FoundAs, BlockAs, TouchedAs, NextAs, LastAs, CellsAs, WrittenAs, ClockAs, InfoAs, OccupationAs}
use Rattle.history.specs.Occupation as history
use Rattle.occupation.specs.declared.Report.{Report}
use Rattle.occupation.specs.Windows.{report_given}
use Rattle.reports_tested.specs.Tested.{OccupationTested}

-- ── the state ──

few : (s : State) → state_number s ≤ 2
few Bad = omega arith
few Open = omega arith
few Closed = omega arith

-- a number is told of the state that it stands for
pub state_told : {t : Tables} {n : ℕ} (s : State) → Outcome s t → n ≡ state_number s → StateTold t n
state_told {t} s told e = rw e (record { known = few s; kept = subst (λ (x : State). Kept x t) (sym (number_back s)) (test_keeps s t told) })

-- what is true at a state is true at the same state
into : {s s' : State} {t : Tables} → s ≡ s' → Kept s' t → Kept s t
into {t = t} is = subst (λ (x : State). Kept x t) (sym is)

out_of : {s s' : State} {t : Tables} → s ≡ s' → Kept s t → Kept s' t
out_of {t = t} is = subst (λ (x : State). Kept x t) is

-- ── record ──

module _ {n : ℕ} {s : State} (at : s ≡ state_numbered n) where
  pub record_by : {p b st p' b' st' : List ℕ} {scratch : ℕ} {o : Operation} {x : Result (Option ℕ) Refusal} {m u c u' c' : ℕ}
      → RecordedTested s p b st p' b' st' scratch o (answer_by recorded x) → Handed flagged x m (u, c) (u', c')
      → RecordedAs n p b st p' b' st' scratch o m (changes u c) (changes u' c')
  record_by {x = x} told h = record { done = λ no e k. let d = told.done no e (into at k) in (by_change x d.0 h, out_of at d.1) }

  -- ── the reads ──

  pub block_by : {b st : List ℕ} {k m : ℕ} {before after : Fields} {x : Result Block Refusal} → BlockTested s b st k (answer_by fields_given x) → Handed fields_given x m before after
      → BlockAs n b st k m before after
  block_by {x = x} told h = record { done = λ p no e known. by_number fields_given x (told.done p no e (into at known)) h }

  pub find_by : {b no e : List ℕ} {kind tick start stop : ℕ} {out out' : List ℕ} {m : ℕ} {before after : Counts} {x : Result Found Refusal}
      → FoundTested s b no e kind tick start stop out out' (answer_by counts_given x) → Handed counts_given x m before after → FoundAs n b no e kind tick start stop out out' m before after
  find_by {x = x} told h = record { done = λ p st k. by_number counts_given x (told.done p st (into at k)) h }

  pub touching_by : {b no e : List ℕ} {kind tick start stop : ℕ} {out out' : List ℕ} {m before after : ℕ} {x : Result ℕ Refusal}
      → TouchedTested s b no e kind tick start stop out out' (answer_by (λ i. i) x) → Handed (λ i. i) x m before after → TouchedAs n b no e kind tick start stop out out' m before after
  touching_by {x = x} told h = record { done = λ p st k. by_number (λ i. i) x (told.done p st (into at k)) h }

  pub next_by : {b no e : List ℕ} {kind tick cell m f k f' k' : ℕ} {x : Result (Option ℕ) Refusal}
      → NextTested s b no e kind tick cell (answer_by near_told x) → Handed flagged x m (f, k) (f', k') → NextAs n b no e kind tick cell m (near f k) (near f' k')
  next_by {x = x} told h = record { done = λ p st known. by_near x (told.done p st (into at known)) h }

  pub last_by : {b no e : List ℕ} {kind tick cell m f k f' k' : ℕ} {x : Result (Option ℕ) Refusal}
      → LastTested s b no e kind tick cell (answer_by near_told x) → Handed flagged x m (f, k) (f', k') → LastAs n b no e kind tick cell m (near f k) (near f' k')
  last_by {x = x} told h = record { done = λ p st known. by_near x (told.done p st (into at known)) h }

  pub cells_by : {b st no e : List ℕ} {kind tick start stop : ℕ} {bytes bytes' held held' : List ℕ} {m : ℕ} (x : Result Unit Refusal)
      → CellsTested s b st no e kind tick start stop bytes bytes' held held' (answer_by (λ _. tt) x) → m ≡ told_by x → CellsAs n b st no e kind tick start stop bytes bytes' held held' m
  cells_by x told h = record { done = λ p k. by_done x (told.done p (into at k)) h }

  pub occupation_by : {b st no e : List ℕ} {kind tick : ℕ} {windows : List ℕ} {m : ℕ} {before after : history.Report} {x : Result Report Refusal}
      → OccupationTested s b st no e kind tick windows (answer_by report_given x) → Handed report_given x m before after
      → OccupationAs n b st no e kind tick windows m before after
  occupation_by {x = x} told h = record { done = λ p k. by_number report_given x (told.done p (into at k)) h }

  pub write_by : {b st no e out out' : List ℕ} {m before after : ℕ} {x : Result ℕ Refusal}
      → WrittenTested s b st no e out out' (answer_by (λ i. i) x) → Handed (λ i. i) x m before after → WrittenAs n b st no e out out' m before after
  write_by {x = x} told h = record { done = λ p k. by_number (λ i. i) x (told.done p (into at k)) h }

  pub clock_by : {b : List ℕ} {cell m before after : ℕ} {x : Result ℕ Refusal}
      → ClockTested s b cell (answer_by (λ i. i) x) → Handed (λ i. i) x m before after → ClockAs n b cell m before after
  clock_by {x = x} told h = record { done = λ p st no e k. by_number (λ i. i) x (told.done p st no e (into at k)) h }

  pub info_by : {p b no e : List ℕ} {m : ℕ} {before after : Summary} {x : Result Given Refusal}
      → InfoTested s p b no e (answer_by summary_given x) → Handed summary_given x m before after → InfoAs n p b no e m before after
  info_by {x = x} told h = record { done = λ st k. by_number summary_given x (told.done st (into at k)) h }
