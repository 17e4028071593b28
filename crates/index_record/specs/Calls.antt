-- What the functions ensure, for every ledger that the lent tables stand for, whatever nodes and entries are lent with them. A name with a prime is the
-- slice at exit. Definitions alone.
use Rattle.std.specs.Prelude.{◌≡◌, true, false, List, ℕ, set, ltb, Option, Some, None, Ok, Err}
use Rattle.std.specs.Prelude.{Result as Told}
use Rattle.history.specs.Words.{Operation}
use Rattle.history.specs.Lent.{least_scratch}
use Rattle.history.specs.Ledger.{Ledger, finished, is_read, record_by}
use Rattle.history.specs.Results.{Result, read, update}
use Rattle.history.specs.Refusals.{accepted, refused, record_answer}
use Rattle.history.specs.Sound.{Sound}
use Rattle.tables.specs.Columns.{head_last}
use Rattle.block_table.specs.Blocks.{head_place}
use Rattle.layout.specs.Tables.{tables}
use Rattle.layout.specs.Encodes.{Encodes}
use Rattle.layout.specs.Relations.{UpdatedTables, RecordLeaves}
use Rattle.refusals.specs.declared.Refusal.{Refusal}
use Rattle.refusals.specs.Numbers.{number_of, answer_by}
use Rattle.index_record.specs.declared.Change.{Change}
use Rattle.index_record.specs.declared.Operation.{Operation as LentOperation}

abbrev pub operation : (kind tick first : ℕ) (bytes : List ℕ) → Operation
operation kind tick first bytes = record { kind = kind; tick = tick; first = first; bytes = bytes }

-- the operation that a call is lent
abbrev pub lent_operation : LentOperation → Operation
lent_operation o = operation o.kind o.tick o.first o.bytes.now

-- ── refusals ──

-- what a verdict says of the ledger's answer
abbrev pub Verdicts : Told (Option Change) Refusal → Ledger → (scratch : ℕ) → Operation → Type 0
Verdicts (Err e) l scratch o = record_answer l scratch o ≡ refused (number_of e)
Verdicts (Ok None) l scratch o = (record_answer l scratch o ≡ accepted read) × (is_read l.now o ≡ true)
Verdicts (Ok (Some c)) l scratch o = (record_answer l scratch o ≡ accepted (update c.cell)) × (is_read l.now o ≡ false)

-- `refusal`
pub record Judged (pieces blocks store : List ℕ) (o : Operation) (v : Told (Option Change) Refusal) : Type 0 where
  pub says : (nodes entries : List ℕ) (l : Ledger) (scratch : ℕ) → ltb scratch least_scratch ≡ false → Encodes (tables pieces blocks store nodes entries) l → Sound l → finished l ≡ false → Verdicts v l scratch o

-- ── what an accepted operation does ──

-- `enter_read`
pub record ReadApplied (blocks blocks' : List ℕ) (tick : ℕ) : Type 0 where
  pub is : blocks' ≡ set blocks (head_place head_last) tick

-- `enter_update`
pub record UpdateApplied (pieces blocks store pieces' blocks' store' : List ℕ) (o : Operation) : Type 0 where
  pub done : (nodes entries : List ℕ) (l : Ledger) (scratch : ℕ) (r : Result) → Encodes (tables pieces blocks store nodes entries) l → Sound l
      → record_answer l scratch o ≡ accepted r → is_read l.now o ≡ false
      → Encodes (tables pieces' blocks' store' nodes entries) (record_by l o)
      × UpdatedTables l o (tables pieces blocks store nodes entries) (tables pieces' blocks' store' nodes entries)

-- what an accepted operation gives: it was a read, or an update with the lowest cell that changed
abbrev pub recorded : Option ℕ → Result
recorded None = read
recorded (Some c) = update c

-- `record_open`: of an open index and a scratch that is long enough, what layout's `RecordedBy` says of well-formed tables
pub record RecordedOpen (pieces blocks store pieces' blocks' store' : List ℕ) (o : Operation) (r : Told (Option ℕ) Refusal) : Type 0 where
  pub formed : (nodes entries : List ℕ) (l : Ledger) (scratch : ℕ) → ltb scratch least_scratch ≡ false → Encodes (tables pieces blocks store nodes entries) l → Sound l → finished l ≡ false
      → (answer_by recorded r ≡ record_answer l scratch o)
      × RecordLeaves (record_answer l scratch o) l o (tables pieces blocks store nodes entries) (tables pieces' blocks' store' nodes entries)
