-- What finish does to tables of an open index is its public relation; the returns of `finish_open`. Assumes nothing.
use mathlib.Core.Path.{◌≡◌}
use mathlib.Core.List.{List}
use Prim.Native.Nat.{ℕ, ◌<◌, ◌^◌}
use lib.ListN.{length}
use Rattle.history.specs.Ledger.{Ledger}
use Rattle.history.specs.Results.{Result, done}
use Rattle.history.specs.Refusals.{Answer, accepted, refused, finish_answer}
use Rattle.history.specs.Sound.{Sound}
use Rattle.tables.specs.Columns.{head_state}
use Rattle.std.specs.Prelude.{Ok, Err, Result as Told}
use Rattle.refusals.specs.declared.Refusal.{Refusal}
use Rattle.refusals.specs.Numbers.{number_of, answer_by}
use Rattle.layout.specs.Tables.{Tables, tables, head_at}
use Rattle.layout.specs.Encodes.{Encodes, open_state}
use Rattle.layout.specs.Formed.{WellFormed, WellFormedForFinish}
use Rattle.layout.specs.Relations.{FinishLeaves, FinishedBy}
use Rattle.layout.proofs.ReadLaws.{still_open}
use Rattle.index_finish.specs.Finish.{StandsOpen, FinishedOpen, Prepared, SettledTables}
use Rattle.index_finish.specs.Answers.{FinishesOpen}
use Rattle.index_finish.proofs.Finishing.{finish_refused, finish_done}

-- a ledger that the tables stand for is not finished, as their state says
stands_open : {t : Tables} {l : Ledger} → length t.store < 2 ^ 64 → head_at t head_state ≡ open_state → Encodes t l → Sound l → StandsOpen t l
stands_open few state e s = record { encodes = e; sound = s; still_open = still_open e state; few = few }

-- THE RELATION: of well-formed tables whose state is open
pub finished_by : (store : List ℕ) {pieces blocks nodes entries pieces' blocks' nodes' entries' : List ℕ} {answer : Answer Result} → length store < 2 ^ 64
    → head_at (tables pieces blocks store nodes entries) head_state ≡ open_state → WellFormed (tables pieces blocks store nodes entries)
    → FinishedOpen pieces blocks nodes entries pieces' blocks' nodes' entries' answer
    → FinishedBy (tables pieces blocks store nodes entries) (tables pieces' blocks' store nodes' entries') answer
finished_by store {pieces} {blocks} {nodes} {entries} {pieces'} {blocks'} {nodes'} {entries'} {answer} few state v p = record { formed = formed; unformed = unformed }
  where
    t : Tables
    t = tables pieces blocks store nodes entries

    t' : Tables
    t' = tables pieces' blocks' store nodes' entries'

    formed : (w : WellFormedForFinish t) → (answer ≡ finish_answer w.ledger) × FinishLeaves (finish_answer w.ledger) w.ledger t t'
    formed w =
        let s : StandsOpen t w.ledger = stands_open few state w.encodes w.sound.sound in
        (p.done store w.ledger s).formed (record { blank = w.blank s.still_open; apart = w.sound.apart })

    unformed : (WellFormedForFinish t → ⊥) → (answer ≡ refused 2) × (t' ≡ t)
    unformed never =
        let s : StandsOpen t v.ledger = stands_open few state v.encodes v.sound in
        (p.done store v.ledger s).unformed (λ x.
        never (record { ledger = v.ledger; encodes = v.encodes; sound = record { sound = v.sound; apart = x.apart }; blank = λ _. x.blank }))

-- ── the returns of `finish_open` ──

module _ {pieces blocks nodes entries blocks₁ nodes₁ entries₁ : List ℕ} {r : Told Unit Refusal}
    (prepared : Prepared pieces blocks nodes entries blocks₁ nodes₁ entries₁ (answer_by (λ _. done) r)) where
  pub open_refused : {x : Refusal} → r ≡ Err x → FinishesOpen pieces blocks nodes entries pieces blocks₁ nodes₁ entries₁ (refused (number_of x))
  open_refused is = record { done = λ store few state w. finished_by store few state w (finish_refused (rw is at prepared)) }

  pub open_done : {u : Unit} {pieces' blocks' nodes' entries' : List ℕ} → r ≡ Ok u → SettledTables pieces blocks₁ nodes₁ entries₁ pieces' blocks' nodes' entries'
      → FinishesOpen pieces blocks nodes entries pieces' blocks' nodes' entries' (accepted done)
  open_done is settled = record { done = λ store few state w. finished_by store few state w (finish_done (rw is at prepared) settled) }
