-- What the calls with a state say to Rust and C: where the state is true of the tables, what the public call of that name says by number and values,
-- whatever tables are not lent. A record keeps the state true; a read changes no table. Definitions alone.
use Rattle.std.specs.Prelude.{List, ℕ, ◌≤◌}
use Rattle.history.specs.Words.{Operation}
use Rattle.history.specs.Occupation.{Report}
use Rattle.layout.specs.Tables.{Tables, tables}
use Rattle.layout.specs.Relations.{RecordedBy, Counts, FoundBy, Fields, BlockGivenBy, TouchedBy, Near, NextGivenBy, LastGivenBy, ClockGivenBy}
use Rattle.layout.specs.Files.{WrittenBy}
use Rattle.cells.specs.Answers.{CellsReadBy}
use Rattle.info.specs.Info.{Summary, InfoGivenBy}
use Rattle.occupation_read.specs.Answers.{OccupationReportedBy}
use Rattle.index_test.specs.States.{state_numbered}
use Rattle.index_tested.specs.Kept.{Kept}
use Rattle.servercape.specs.Numbers.{ByNumber, ToldAs, Changes, changes_of}

-- ── the state ──

-- `servercape_state`: 0, 1 or 2, and the state that it stands for is true of the tables
pub record StateTold (t : Tables) (r : ℕ) : Type 0 where
  pub known : r ≤ 2
  pub kept : Kept (state_numbered r) t

-- ── the calls ──

-- `servercape_record_tested`
pub record RecordedAs (state : ℕ) (pieces blocks store pieces' blocks' store' : List ℕ) (scratch : ℕ) (o : Operation) (r : ℕ) (before after : Changes) : Type 0 where
  pub done : (nodes entries : List ℕ) → Kept (state_numbered state) (tables pieces blocks store nodes entries)
      → ByNumber (ToldAs changes_of (RecordedBy scratch o (tables pieces blocks store nodes entries) (tables pieces' blocks' store' nodes entries))) r before after
      × Kept (state_numbered state) (tables pieces' blocks' store' nodes entries)

-- `servercape_block_tested`
pub record BlockAs (state : ℕ) (blocks store : List ℕ) (k r : ℕ) (before after : Fields) : Type 0 where
  pub done : (pieces nodes entries : List ℕ) → Kept (state_numbered state) (tables pieces blocks store nodes entries)
      → ByNumber (BlockGivenBy (tables pieces blocks store nodes entries) k) r before after

-- `servercape_find_tested`
pub record FoundAs (state : ℕ) (blocks nodes entries : List ℕ) (kind tick start stop : ℕ) (out out' : List ℕ) (r : ℕ) (before after : Counts) : Type 0 where
  pub done : (pieces store : List ℕ) → Kept (state_numbered state) (tables pieces blocks store nodes entries)
      → ByNumber (FoundBy (tables pieces blocks store nodes entries) kind tick start stop out out') r before after

-- `servercape_touching_tested`
pub record TouchedAs (state : ℕ) (blocks nodes entries : List ℕ) (kind tick start stop : ℕ) (out out' : List ℕ) (r before after : ℕ) : Type 0 where
  pub done : (pieces store : List ℕ) → Kept (state_numbered state) (tables pieces blocks store nodes entries)
      → ByNumber (TouchedBy (tables pieces blocks store nodes entries) kind tick start stop out out') r before after

-- `servercape_next_tested` and `servercape_last_tested`
pub record NextAs (state : ℕ) (blocks nodes entries : List ℕ) (kind tick cell r : ℕ) (before after : Near) : Type 0 where
  pub done : (pieces store : List ℕ) → Kept (state_numbered state) (tables pieces blocks store nodes entries)
      → ByNumber (NextGivenBy (tables pieces blocks store nodes entries) kind tick cell) r before after

pub record LastAs (state : ℕ) (blocks nodes entries : List ℕ) (kind tick cell r : ℕ) (before after : Near) : Type 0 where
  pub done : (pieces store : List ℕ) → Kept (state_numbered state) (tables pieces blocks store nodes entries)
      → ByNumber (LastGivenBy (tables pieces blocks store nodes entries) kind tick cell) r before after

-- `servercape_read_cells_tested`
pub record CellsAs (state : ℕ) (blocks store nodes entries : List ℕ) (kind tick start stop : ℕ) (bytes bytes' held held' : List ℕ) (r : ℕ) : Type 0 where
  pub done : (pieces : List ℕ) → Kept (state_numbered state) (tables pieces blocks store nodes entries)
      → ByNumber (CellsReadBy (tables pieces blocks store nodes entries) kind tick start stop bytes bytes' held held') r tt tt

-- `servercape_occupation_tested`
pub record OccupationAs (state : ℕ) (blocks store nodes entries : List ℕ) (kind tick : ℕ) (windows : List ℕ) (r : ℕ) (before after : Report) : Type 0 where
  pub done : (pieces : List ℕ) → Kept (state_numbered state) (tables pieces blocks store nodes entries)
      → ByNumber (OccupationReportedBy (tables pieces blocks store nodes entries) kind tick windows) r before after

-- `servercape_write_tested`
pub record WrittenAs (state : ℕ) (blocks store nodes entries out out' : List ℕ) (r before after : ℕ) : Type 0 where
  pub done : (pieces : List ℕ) → Kept (state_numbered state) (tables pieces blocks store nodes entries)
      → ByNumber (WrittenBy (tables pieces blocks store nodes entries) out out') r before after

-- `servercape_clock_tested`
pub record ClockAs (state : ℕ) (blocks : List ℕ) (cell r before after : ℕ) : Type 0 where
  pub done : (pieces store nodes entries : List ℕ) → Kept (state_numbered state) (tables pieces blocks store nodes entries)
      → ByNumber (ClockGivenBy (tables pieces blocks store nodes entries) cell) r before after

-- `servercape_info_tested`
pub record InfoAs (state : ℕ) (pieces blocks nodes entries : List ℕ) (r : ℕ) (before after : Summary) : Type 0 where
  pub done : (store : List ℕ) → Kept (state_numbered state) (tables pieces blocks store nodes entries)
      → ByNumber (InfoGivenBy (tables pieces blocks store nodes entries)) r before after
