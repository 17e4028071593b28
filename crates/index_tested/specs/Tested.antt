-- What the calls with a state do: of tables of which the state is true, what the public call does, whatever tables are not lent. A record keeps the
-- state true; a read changes no table. Definitions alone.
use Rattle.std.specs.Prelude.{◌≡◌, List, ℕ, ◌+◌, ◌≤◌, length, Ok, Result as Told}
use Rattle.history.specs.Words.{Operation}
use Rattle.history.specs.Results.{Result}
use Rattle.history.specs.Refusals.{Answer, accepted}
use Rattle.layout.specs.Tables.{tables}
use Rattle.layout.specs.Relations.{RecordedBy, Counts, FoundBy, Fields, BlockGivenBy}
use Rattle.refusals.specs.declared.Refusal.{Refusal}
use Rattle.refusals.specs.Numbers.{answer_by}
use Rattle.index_read.specs.Answers.{fields_given}
use Rattle.index_read.specs.declared.Block.{Block}
use Rattle.index.specs.Answers.{BytesGivenBy}
use Rattle.index_test.specs.declared.State.{State}
use Rattle.index_tested.specs.Kept.{Kept}

-- `record_tested`
pub record RecordedTested (s : State) (pieces blocks store pieces' blocks' store' : List ℕ) (scratch : ℕ) (o : Operation) (answer : Answer Result) : Type 0 where
  pub done : (nodes entries : List ℕ) → Kept s (tables pieces blocks store nodes entries)
      → RecordedBy scratch o (tables pieces blocks store nodes entries) (tables pieces' blocks' store' nodes entries) answer
      × Kept s (tables pieces' blocks' store' nodes entries)

-- `find_tested`
pub record FoundTested (s : State) (blocks nodes entries : List ℕ) (kind tick start stop : ℕ) (out out' : List ℕ) (answer : Answer Counts) : Type 0 where
  pub done : (pieces store : List ℕ) → Kept s (tables pieces blocks store nodes entries) → FoundBy (tables pieces blocks store nodes entries) kind tick start stop out out' answer

-- ── block by number ──

-- the bytes of the fields that are given lie in a store of that length
abbrev pub Inside : (room : ℕ) → Answer Fields → Type 0
Inside room answer = (f : Fields) → answer ≡ accepted f → f.offset + f.length ≤ room

-- `in_store`: what is given stays as it is where its bytes lie in the store; whatever comes of it has them there
pub record HeldInside (given : Block) (room : ℕ) (r : Told Block Refusal) : Type 0 where
  pub same : given.offset + given.length ≤ room → r ≡ Ok given
  pub whole : Inside room (answer_by fields_given r)

-- `block_tested`; the bytes lie in the store even where the state is not true
pub record BlockTested (s : State) (blocks store : List ℕ) (k : ℕ) (answer : Answer Fields) : Type 0 where
  pub done : (pieces nodes entries : List ℕ) → Kept s (tables pieces blocks store nodes entries) → BlockGivenBy (tables pieces blocks store nodes entries) k answer
  pub whole : Inside (length store) answer

-- `block_bytes_tested`
pub record BytesTested (s : State) (blocks store : List ℕ) (k : ℕ) (bytes : List ℕ) : Type 0 where
  pub done : (pieces nodes entries : List ℕ) → Kept s (tables pieces blocks store nodes entries) → BytesGivenBy (tables pieces blocks store nodes entries) k bytes
