-- `record_all` among other calls: every list of calls with it is the list with its record calls written out. Statements alone: the proof stands in
-- proofs/Written.
use Rattle.std.specs.Prelude.{List, [], ◌∷◌, ◌++◌, map, ℕ, zero, suc, ◌/◌, length}
use Rattle.history.specs.Results.{Result}
use Rattle.history.specs.Refusals.{Answer}
use Rattle.history.specs.Calls.{Call, record_call}
use Rattle.history.specs.File.{Read, got, fault}
use Rattle.history.specs.Printed.{Booking, operation_of}
use Rattle.layout.specs.Tables.{Tables}
use Rattle.demand.specs.Theorem.{CallDone, Run}
use Rattle.call_lists.specs.Operations.{read_operation}
use Rattle.record_all.specs.Many.{RecordedAll}

-- ── written out ──

-- an operation that was read, and those behind it; a list that is cut short ends them
abbrev pub and_behind : Read Booking → (ℕ → List Booking) → List Booking
and_behind (got b next) behind = b ∷ behind next
and_behind (fault n) behind = []

-- the operations of a list of bytes from a position on, at most so many
unfoldable pub operations_in : (list : List ℕ) (most at : ℕ) → List Booking
operations_in list zero at = []
operations_in list (suc most) at = and_behind (read_operation list at) (operations_in list most)

-- a call of demand 3; or `record_all`, with the length of the scratch, a kind, a list of bytes, and how many answers there are places for
pub data Step : Type 0 where
  one : Call → Step
  all : (scratch kind : ℕ) (list : List ℕ) (most : ℕ) → Step

unfoldable pub written_out : List Step → List Call
written_out [] = []
written_out (one k ∷ ss) = k ∷ written_out ss
written_out (all scratch kind list most ∷ ss) = map (λ b. record_call scratch (operation_of kind b)) (operations_in list most 0) ++ written_out ss

-- ── the theorem ──

-- calls one after the other, each done by its contract, and the answers of all
pub data Steps : Tables → List Step → List (Answer Result) → Tables → Type 0 where
  steps_none : {t : Tables} → Steps t [] [] t
  steps_one : {t t₁ t' : Tables} {k : Call} {ss : List Step} {a : Answer Result} {given : List (Answer Result)}
      → CallDone k t t₁ a → Steps t₁ ss given t' → Steps t (one k ∷ ss) (a ∷ given) t'
  steps_all : {t t₁ t' : Tables} {scratch kind count next : ℕ} {list answers answers' : List ℕ} {ss : List Step} {given : List (Answer Result)}
      → (r : RecordedAll scratch kind list t t₁ answers answers' count next) → Steps t₁ ss given t'
      → Steps t (all scratch kind list (length answers / 3) ∷ ss) (r.given ++ given) t'

-- So demand 3 speaks of them, and so does whatever is proved of every list of calls.
abbrev pub WrittenOut : Type 0
WrittenOut = (t t' : Tables) (ss : List Step) (given : List (Answer Result)) → Steps t ss given t' → Run t (written_out ss) given t'
