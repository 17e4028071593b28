-- Calls after one test are the public calls: one statement over every list of them. Statements alone.
use Rattle.std.specs.Prelude.{◌≡◌, List, [], ◌∷◌, ℕ}
use Rattle.history.specs.Words.{Operation}
use Rattle.history.specs.Results.{Result}
use Rattle.history.specs.Refusals.{Answer}
use Rattle.layout.specs.Tables.{Tables}
use Rattle.layout.specs.Relations.{RecordedBy, Counts, FoundBy, Fields, BlockGivenBy, TouchedBy, Near, NextGivenBy, LastGivenBy, ClockGivenBy}
use Rattle.layout.specs.Files.{WrittenBy}
use Rattle.index.specs.Answers.{BytesGivenBy}
use Rattle.cells.specs.Answers.{CellsReadBy}
use Rattle.info.specs.Info.{Summary, InfoGivenBy}
use Rattle.index_test.specs.declared.State.{State}
use Rattle.index_tested.specs.Kept.{Kept}
use Rattle.index_tested.specs.Tested.{RecordedTested, FoundTested, BlockTested, BytesTested}
use Rattle.reads_tested.specs.Tested.{TouchedTested, NextTested, LastTested, CellsTested, WrittenTested, ClockTested, InfoTested}

-- ── calls ──

-- a call, with what it was lent besides the tables and what came of it
pub data Asked : Type 0 where
  recorded : (scratch : ℕ) (o : Operation) (answer : Answer Result) → Asked
  found : (kind tick start stop : ℕ) (out out' : List ℕ) (answer : Answer Counts) → Asked
  block : (k : ℕ) (answer : Answer Fields) → Asked
  carried : (k : ℕ) (bytes : List ℕ) → Asked
  touched : (kind tick start stop : ℕ) (out out' : List ℕ) (answer : Answer ℕ) → Asked
  next : (kind tick cell : ℕ) (answer : Answer Near) → Asked
  last : (kind tick cell : ℕ) (answer : Answer Near) → Asked
  shown : (kind tick start stop : ℕ) (bytes bytes' held held' : List ℕ) (answer : Answer Unit) → Asked
  written : (out out' : List ℕ) (answer : Answer ℕ) → Asked
  clocked : (cell : ℕ) (answer : Answer ℕ) → Asked
  informed : (answer : Answer Summary) → Asked

-- calls one after the other: each finds the tables as the one before left them
pub data Run (Does : Asked → Tables → Tables → Type 0) : Tables → List Asked → Tables → Type 0 where
  run_none : {t : Tables} → Run Does t [] t
  run_more : {t t₁ t' : Tables} {k : Asked} {ks : List Asked} → Does k t t₁ → Run Does t₁ ks t' → Run Does t (k ∷ ks) t'

-- ── the public calls, which test the tables ──

-- a read leaves them as they were
abbrev pub Public : Asked → Tables → Tables → Type 0
Public (recorded scratch o a) t t' = RecordedBy scratch o t t' a
Public (found kind tick start stop out out' a) t t' = FoundBy t kind tick start stop out out' a × (t' ≡ t)
Public (block k a) t t' = BlockGivenBy t k a × (t' ≡ t)
Public (carried k bytes) t t' = BytesGivenBy t k bytes × (t' ≡ t)
Public (touched kind tick start stop out out' a) t t' = TouchedBy t kind tick start stop out out' a × (t' ≡ t)
Public (next kind tick cell a) t t' = NextGivenBy t kind tick cell a × (t' ≡ t)
Public (last kind tick cell a) t t' = LastGivenBy t kind tick cell a × (t' ≡ t)
Public (shown kind tick start stop bytes bytes' held held' a) t t' = CellsReadBy t kind tick start stop bytes bytes' held held' a × (t' ≡ t)
Public (written out out' a) t t' = WrittenBy t out out' a × (t' ≡ t)
Public (clocked cell a) t t' = ClockGivenBy t cell a × (t' ≡ t)
Public (informed a) t t' = InfoGivenBy t a × (t' ≡ t)

-- ── the calls with a state, which do not ──

-- record is lent neither nodes nor entries
pub record RecordStep (s : State) (scratch : ℕ) (o : Operation) (answer : Answer Result) (t t' : Tables) : Type 0 where
  pub tested : RecordedTested s t.pieces t.blocks t.store t'.pieces t'.blocks t'.store scratch o answer
  pub same_nodes : t.nodes ≡ t'.nodes
  pub same_entries : t.entries ≡ t'.entries

abbrev pub Tested : State → Asked → Tables → Tables → Type 0
Tested s (recorded scratch o a) t t' = RecordStep s scratch o a t t'
Tested s (found kind tick start stop out out' a) t t' = FoundTested s t.blocks t.nodes t.entries kind tick start stop out out' a × (t' ≡ t)
Tested s (block k a) t t' = BlockTested s t.blocks t.store k a × (t' ≡ t)
Tested s (carried k bytes) t t' = BytesTested s t.blocks t.store k bytes × (t' ≡ t)
Tested s (touched kind tick start stop out out' a) t t' = TouchedTested s t.blocks t.nodes t.entries kind tick start stop out out' a × (t' ≡ t)
Tested s (next kind tick cell a) t t' = NextTested s t.blocks t.nodes t.entries kind tick cell a × (t' ≡ t)
Tested s (last kind tick cell a) t t' = LastTested s t.blocks t.nodes t.entries kind tick cell a × (t' ≡ t)
Tested s (shown kind tick start stop bytes bytes' held held' a) t t' =
    CellsTested s t.blocks t.store t.nodes t.entries kind tick start stop bytes bytes' held held' a × (t' ≡ t)
Tested s (written out out' a) t t' = WrittenTested s t.blocks t.store t.nodes t.entries out out' a × (t' ≡ t)
Tested s (clocked cell a) t t' = ClockTested s t.blocks cell a × (t' ≡ t)
Tested s (informed a) t t' = InfoTested s t.pieces t.blocks t.nodes t.entries a × (t' ≡ t)

-- ── the theorem ──

-- The state is true of the tables: whatever calls follow with it, they are the public calls, and it is still true.
abbrev pub Sessions : Type 0
Sessions = (s : State) (t t' : Tables) (ks : List Asked) → Kept s t → Run (Tested s) t ks t' → Run Public t ks t' × Kept s t'
