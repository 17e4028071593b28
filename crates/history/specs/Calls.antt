-- A call that can change an opened index, a list of calls, and the history that they leave (01, "mod.rs", demand 3's ledger).
use Rattle.std.specs.Prelude.{cond, ◌&&◌, List, [], ◌∷◌, ℕ, leb, eqb}
use Rattle.std.proofs.Math.Option.{Option, none, or_else}
use Rattle.history.specs.Words.{Operation, cells_of, byte_at}
use Rattle.history.specs.Ledger.{Ledger, record_by, finish_by, install_by, install_days_by}
use Rattle.history.specs.Days.{Day, days_of}
use Rattle.history.specs.Results.{Result}
use Rattle.history.specs.Refusals.{Answer, accepted, refused, record_answer, finish_answer, install_answer, days_answer}

-- Record is lent a scratch, of which the length is fed; a calendar and a list of days are installed as numbers, the list into a closed index too.
pub data Call : Type 0 where
  record_call : (scratch : ℕ) → Operation → Call
  finish_call : Call
  calendar_call : (numbers : List ℕ) → Call
  days_call : (numbers : List ℕ) → Call

-- ── answers, and what is left ──

-- A call gets the first refusal whose condition holds of what is fed and kept; else it is accepted.
unfoldable pub answer_to : Ledger → Call → Answer Result
answer_to l (record_call scratch o) = record_answer l scratch o
answer_to l finish_call = finish_answer l
answer_to l (calendar_call numbers) = install_answer l numbers
answer_to l (days_call numbers) = days_answer l numbers

unfoldable pub accepted_by : Ledger → Call → Ledger
accepted_by l (record_call scratch o) = record_by l o
accepted_by l finish_call = finish_by l
accepted_by l (calendar_call numbers) = install_by l numbers
accepted_by l (days_call numbers) = install_days_by l numbers

-- after a refusal nothing changes
unfoldable pub leaves : {A : Type 0} → Answer A → (before after : Ledger) → Ledger
leaves (accepted a) l next = next
leaves (refused n) l next = l

unfoldable pub after : Ledger → Call → Ledger
after l k = leaves (answer_to l k) l (accepted_by l k)

-- the answers to a list of calls, and the ledger that it leaves
unfoldable pub answers : Ledger → List Call → List (Answer Result)
answers l [] = []
answers l (k ∷ ks) = answer_to l k ∷ answers (after l k) ks

unfoldable pub after_all : Ledger → List Call → Ledger
after_all l [] = l
after_all l (k ∷ ks) = after_all (after l k) ks

-- ── the history ──

-- the history after a call: an accepted record stands in front
unfoldable pub noted : List Operation → Call → Answer Result → List Operation
noted h (record_call scratch o) (accepted a) = o ∷ h
noted h (record_call scratch o) (refused n) = h
noted h finish_call a = h
noted h (calendar_call numbers) a = h
noted h (days_call numbers) a = h

-- the accepted record calls of a list, newest first, in front of those that were accepted already
unfoldable pub history : List Operation → Ledger → List Call → List Operation
history h l [] = h
history h l (k ∷ ks) = history (noted h k (answer_to l k)) (after l k) ks

-- What a kind's cell holds at a tick by the history: the byte of the newest call of that kind with a tick up to t that covers the cell, or none.
unfoldable pub value_at : List Operation → (kind t cell : ℕ) → Option ℕ
value_at [] kind t c = none
value_at (o ∷ h) kind t c = or_else (cond (eqb o.kind kind && leb o.tick t) (byte_at c (cells_of o)) none) (value_at h kind t c)

-- ── the list of days ──

-- the one that a call leaves: an accepted one replaces the one before
unfoldable pub days_left : List Day → Call → Answer Result → List Day
days_left days (days_call numbers) (accepted a) = days_of numbers
days_left days (days_call numbers) (refused n) = days
days_left days (record_call scratch o) a = days
days_left days finish_call a = days
days_left days (calendar_call numbers) a = days

-- the one that was accepted last, or the one that was there already
unfoldable pub last_days : List Day → Ledger → List Call → List Day
last_days days l [] = days
last_days days l (k ∷ ks) = last_days (days_left days k (answer_to l k)) (after l k) ks
