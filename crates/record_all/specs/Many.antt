-- What `record_all` does: record calls one after the other. Definitions alone.
use Rattle.std.specs.Prelude.{◌≡◌, List, [], ◌∷◌, map, ℕ, suc, ◌/◌, length, Option}
use Rattle.std.specs.Prelude.{Result as Told}
use Rattle.std.proofs.lemmas.List.Edits.{sets}
use Rattle.history.specs.Words.{Operation}
use Rattle.history.specs.Results.{Result, done, read, update, number}
use Rattle.history.specs.Refusals.{Answer, accepted, refused}
use Rattle.history.specs.File.{got, fault}
use Rattle.history.specs.Printed.{Booking, operation_of}
use Rattle.layout.specs.Tables.{Tables}
use Rattle.layout.specs.Relations.{RecordedBy}
use Rattle.refusals.specs.declared.Refusal.{Refusal}
use Rattle.refusals.specs.Numbers.{answer_by}
use Rattle.index_record.specs.Calls.{recorded}
use Rattle.index_test.specs.declared.State.{State}
use Rattle.index_tested.specs.Tested.{RecordedTested}
use Rattle.call_lists.specs.Operations.{read_operation}
use Rattle.call_lists.specs.Threes.{Three, three, threes}

-- ── the answers ──

-- the refusal or 0; 1 of an update; its lowest changed cell
abbrev pub result_shown : Result → Three
result_shown (update c) = three 0 1 c
result_shown read = three 0 0 0
result_shown done = three 0 0 0
result_shown (number n) = three 0 0 0

abbrev pub shown_of : Answer Result → Three
shown_of (accepted r) = result_shown r
shown_of (refused n) = three n 0 0

-- `put_answer`
pub record AnswerPut (r : Told (Option ℕ) Refusal) (answers : List ℕ) (at : ℕ) (answers' : List ℕ) : Type 0 where
  pub is : answers' ≡ sets answers at ((shown_of (answer_by recorded r)).refusal ∷ (shown_of (answer_by recorded r)).one ∷ (shown_of (answer_by recorded r)).other ∷ [])

-- ── the calls ──

-- Calls of `record_op` with the operations of the list from a position on, all of one kind and at most so many: each finds the tables as the one before
-- left them. A list that is cut short ends them. Their answers, and the position behind them.
pub data Plays (scratch kind : ℕ) (list : List ℕ) : (most at : ℕ) (t : Tables) (given : List (Answer Result)) (next : ℕ) (t' : Tables) → Type 0 where
  plays_full : {at : ℕ} {t : Tables} → Plays scratch kind list 0 at t [] at t
  plays_end : {most at n : ℕ} {t : Tables} → read_operation list at ≡ fault n → Plays scratch kind list most at t [] at t
  plays_more : {most at behind next : ℕ} {b : Booking} {a : Answer Result} {given : List (Answer Result)} {t t₁ t' : Tables}
      → read_operation list at ≡ got b behind → RecordedBy scratch (operation_of kind b) t t₁ a → Plays scratch kind list most behind t₁ given next t'
      → Plays scratch kind list (suc most) at t (a ∷ given) next t'

-- `record_all`: from the list's start on, as many as there are places for answers, three numbers each
pub record RecordedAll (scratch kind : ℕ) (list : List ℕ) (t t' : Tables) (answers answers' : List ℕ) (count next : ℕ) : Type 0 where
  pub given : List (Answer Result)
  pub calls : Plays scratch kind list (length answers / 3) 0 t given next t'
  pub shown : answers' ≡ sets answers 0 (threes (map shown_of given))
  pub counted : count ≡ length given

-- `record_one`: record at a state, its answer at a place
pub record RecordedOne (s : State) (pieces blocks store pieces' blocks' store' : List ℕ) (scratch : ℕ) (o : Operation) (answers : List ℕ) (at : ℕ) (answers' : List ℕ) : Type 0 where
  pub answer : Told (Option ℕ) Refusal
  pub tested : RecordedTested s pieces blocks store pieces' blocks' store' scratch o (answer_by recorded answer)
  pub put : AnswerPut answer answers at answers'
