-- The contracts of the public calls are the relations by which the theorems link them. Statements alone: the proof stands in proofs/Citing.
use Rattle.std.specs.Prelude.{List, ℕ, length}
use base.Logic.{emp}
use borrow.Fn.Claims.{AllOf}
use borrow.Fn.Read.{ReadAt, no_know, r_top, r_last}
use borrow.Fn.World.{Pr, w₀, ArgsD, ResD}
use contract.Lifetimes.{Lfts}
use denote.Triple.Clauses.{Ended, AtExit, Clauses}
use Rattle.std.specs.Borrow.{Bor, MutBor}
use Rattle.layout.specs.Tables.{Tables, tables, held as read_of}
use Rattle.layout.specs.declared.Tables.{Tables as LentTables}
use Rattle.layout.specs.Relations.{OpenedBy, RecordedBy, FinishedBy, InstalledBy, DaysInstalledBy, ClockGivenBy, FoundBy, TouchedBy, BlockGivenBy}
use Rattle.layout.specs.Files.{WrittenBy, LoadedBy}
use Rattle.info.specs.Info.{InfoGivenBy}
use Rattle.info.specs.Answers.{summary_given}
use Rattle.index_record.specs.Calls.{lent_operation, recorded}
use Rattle.index_read.specs.Answers.{counts_given, fields_given}
use Rattle.index.specs.Answers.{BytesGivenBy}
use Rattle.history.specs.Results.{done}
use Rattle.refusals.specs.Numbers.{answer_by}
use Rattle.touching_read.specs.Answers.{near_told}
use Rattle.touching.specs.Sides.{NearGivenBy}
use Rattle.cells.specs.Answers.{CellsReadBy}
use Rattle.occupation.specs.Windows.{report_given}
use Rattle.occupation_read.specs.Answers.{OccupationReportedBy}
use Rattle.record_all.specs.Many.{RecordedAll}
use Rattle.find_all.specs.Many.{FoundAll}
use Rattle.board_run.specs.Room.{PrintsBoard}
use Rattle.index.specs.contracts.Index.open as open-contract
use Rattle.index.specs.contracts.record_op as record-contract
use Rattle.index.specs.contracts.finalize as finish-contract
use Rattle.index.specs.contracts.block as block-contract
use Rattle.index.specs.contracts.block_bytes as bytes-contract
use Rattle.index.specs.contracts.find as find-contract
use Rattle.install.specs.contracts.install_calendar as install-contract
use Rattle.install.specs.contracts.install_days as days-contract
use Rattle.touching.specs.contracts.touching as touching-contract
use Rattle.touching.specs.contracts.near as near-contract
use Rattle.cells.specs.contracts.read_cells as cells-contract
use Rattle.reports.specs.contracts.occupation as occupation-contract
use Rattle.clock.specs.contracts.clock as clock-contract
use Rattle.info.specs.contracts.info as info-contract
use Rattle.spacetime_file.specs.contracts.serialize_to as write-contract
use Rattle.spacetime_file.specs.contracts.deserialize as load-contract
use Rattle.record_all.specs.contracts.record_all as all-contract
use Rattle.find_all.specs.contracts.find_all as finds-contract
use Rattle.board_run.specs.contracts.run as run-contract

-- A clause of a contract as the check reads it: what it asks of whoever owes it, and what it tells. It is indexed by the clause, so it is the reading of no other.
abbrev pub Reading : Pr w₀ → Type 2
Reading P = ReadAt w₀ (λ w. emp w.𝓤) no_know P

-- A contract as the check reads it: nothing is asked of the caller, and what the caller learns is the relation, no less and no more.
pub record Says (T : Ended) (c : Clauses w₀.𝓤 T) (Asked : (κs : Lfts T.signature.lifetimes) (a : ArgsD T.signature κs) (g : (c κs a).ghost) → Reading ((c κs a).requires g))
    (Learnt : (κs : Lfts T.signature.lifetimes) (a : ArgsD T.signature κs) (g : (c κs a).ghost) (x : ResD T.signature κs) (e : AtExit T κs) → Reading ((c κs a).ensures g x e))
    (Relation : (κs : Lfts T.signature.lifetimes) → ArgsD T.signature κs → ResD T.signature κs → AtExit T κs → Type 0) : Type 0 where
  pub free : (κs : Lfts T.signature.lifetimes) (a : ArgsD T.signature κs) (g : (c κs a).ghost) → AllOf (Asked κs a g).owes
  pub says : (κs : Lfts T.signature.lifetimes) (a : ArgsD T.signature κs) (g : (c κs a).ghost) (x : ResD T.signature κs) (e : AtExit T κs) → AllOf (Learnt κs a g x e).tells
      → Relation κs a x e
  pub whole : (κs : Lfts T.signature.lifetimes) (a : ArgsD T.signature κs) (g : (c κs a).ghost) (x : ResD T.signature κs) (e : AtExit T κs) → Relation κs a x e
      → AllOf (Learnt κs a g x e).tells

-- ── arguments ──

-- The five tables come first in every call, each lent as `&` or `&mut`: what they hold; and the arguments behind them.
abbrev pub Lent : Type 0
Lent = Bor (List ℕ)

abbrev pub LentMut : Type 0
LentMut = MutBor (List ℕ)

abbrev pub held : {X : Type 0} → Lent × (Lent × (Lent × (Lent × (Lent × X)))) → Tables
held a = tables a.0.now a.1.0.now a.1.1.0.now a.1.1.1.0.now a.1.1.1.1.0.now

-- of a call behind that reads: its tables come as one value
abbrev pub held_read : {X : Type 0} → LentTables × X → Tables
held_read a = read_of a.0

-- of a call that opens or finishes an index
abbrev pub held_open : {X : Type 0} → LentMut × (LentMut × (Lent × (LentMut × (LentMut × X)))) → Tables
held_open a = tables a.0.now a.1.0.now a.1.1.0.now a.1.1.1.0.now a.1.1.1.1.0.now

-- of a call that records
abbrev pub held_record : {X : Type 0} → LentMut × (LentMut × (LentMut × (Lent × (Lent × X)))) → Tables
held_record a = tables a.0.now a.1.0.now a.1.1.0.now a.1.1.1.0.now a.1.1.1.1.0.now

-- of a call that installs
abbrev pub held_install : {X : Type 0} → Lent × (LentMut × (Lent × (Lent × (Lent × X)))) → Tables
held_install a = tables a.0.now a.1.0.now a.1.1.0.now a.1.1.1.0.now a.1.1.1.1.0.now

-- of a call that loads
abbrev pub held_load : {X : Type 0} → LentMut × (LentMut × (LentMut × (LentMut × (LentMut × X)))) → Tables
held_load a = tables a.0.now a.1.0.now a.1.1.0.now a.1.1.1.0.now a.1.1.1.1.0.now

abbrev pub behind : {P B S N E X : Type 0} → P × (B × (S × (N × (E × X)))) → X
behind a = a.1.1.1.1.1

-- ── the calls ──

-- `a` has the arguments at entry, `x` is the answer, `e` has what the arguments hold at exit. A table that a call does not change is lent as `&`: at exit
-- it holds what it held at entry.
pub record Contracts : Type 0 where
  pub opening : Says open-contract.ended (open-contract.clauses w₀.𝓛 w₀.𝓜.mem w₀.𝓡.returns) (λ κs a g. r_top) (λ κs a g x e. r_last _)
      (λ κs a x e. OpenedBy (behind a).0 (behind a).1.0.now (held_open a)
      (tables (held_open e).pieces (held_open e).blocks (held_open a).store (held_open e).nodes (held_open e).entries) (answer_by (λ u. u) x))
  pub record_op : Says record-contract.ended (record-contract.clauses w₀.𝓛 w₀.𝓜.mem w₀.𝓡.returns) (λ κs a g. r_top) (λ κs a g x e. r_last _)
      (λ κs a x e. RecordedBy (length (behind a).0.now) (lent_operation (behind a).1.0) (held_record a)
      (tables (held_record e).pieces (held_record e).blocks (held_record e).store (held_record a).nodes (held_record a).entries) (answer_by recorded x))
  pub finalize : Says finish-contract.ended (finish-contract.clauses w₀.𝓛 w₀.𝓜.mem w₀.𝓡.returns) (λ κs a g. r_top) (λ κs a g x e. r_last _)
      (λ κs a x e. FinishedBy (held_open a) (tables (held_open e).pieces (held_open e).blocks (held_open a).store (held_open e).nodes (held_open e).entries) (answer_by (λ _. done) x))
  pub install_calendar : Says install-contract.ended (install-contract.clauses w₀.𝓛 w₀.𝓜.mem w₀.𝓡.returns) (λ κs a g. r_top) (λ κs a g x e. r_last _)
      (λ κs a x e. InstalledBy (behind a).0.now (held_install a) (tables (held_install a).pieces (held_install e).blocks (held_install a).store (held_install a).nodes (held_install a).entries) (answer_by (λ _. done) x))
  pub install_days : Says days-contract.ended (days-contract.clauses w₀.𝓛 w₀.𝓜.mem w₀.𝓡.returns) (λ κs a g. r_top) (λ κs a g x e. r_last _)
      (λ κs a x e. DaysInstalledBy (behind a).0.now (held_install a) (tables (held_install a).pieces (held_install e).blocks (held_install a).store (held_install a).nodes (held_install a).entries) (answer_by (λ _. done) x))
  pub block : Says block-contract.ended (block-contract.clauses w₀.𝓛 w₀.𝓜.mem w₀.𝓡.returns) (λ κs a g. r_top) (λ κs a g x e. r_last _)
      (λ κs a x e. BlockGivenBy (held_read a) a.1.0 (answer_by fields_given x))
  pub block_bytes_lem : Says bytes-contract.ended (bytes-contract.clauses w₀.𝓛 w₀.𝓜.mem w₀.𝓡.returns) (λ κs a g. r_top) (λ κs a g x e. r_last _)
      (λ κs a x e. BytesGivenBy (held a) (behind a).0 x.now)
  pub find : Says find-contract.ended (find-contract.clauses w₀.𝓛 w₀.𝓜.mem w₀.𝓡.returns) (λ κs a g. r_top) (λ κs a g x e. r_last _)
      (λ κs a x e. FoundBy (held_read a) a.1.0 a.1.1.0 a.1.1.1.0 a.1.1.1.1.0 a.1.1.1.1.1.0.now e.1.1.1.1.1.0.now (answer_by counts_given x))
  pub touching : Says touching-contract.ended (touching-contract.clauses w₀.𝓛 w₀.𝓜.mem w₀.𝓡.returns) (λ κs a g. r_top) (λ κs a g x e. r_last _)
      (λ κs a x e. TouchedBy (held_read a) a.1.0 a.1.1.0 a.1.1.1.0 a.1.1.1.1.0 a.1.1.1.1.1.0.now e.1.1.1.1.1.0.now (answer_by (λ n. n) x))
  -- next and last
  pub near : Says near-contract.ended (near-contract.clauses w₀.𝓛 w₀.𝓜.mem w₀.𝓡.returns) (λ κs a g. r_top) (λ κs a g x e. r_last _)
      (λ κs a x e. NearGivenBy a.1.0 (held_read a) a.1.1.0 a.1.1.1.0 a.1.1.1.1.0 (answer_by near_told x))
  pub read_cells : Says cells-contract.ended (cells-contract.clauses w₀.𝓛 w₀.𝓜.mem w₀.𝓡.returns) (λ κs a g. r_top) (λ κs a g x e. r_last _)
      (λ κs a x e. CellsReadBy (held_read a) a.1.0 a.1.1.0 a.1.1.1.0 a.1.1.1.1.0 a.1.1.1.1.1.0.now e.1.1.1.1.1.0.now
      a.1.1.1.1.1.1.0.now e.1.1.1.1.1.1.0.now (answer_by (λ _. tt) x))
  pub occupation : Says occupation-contract.ended (occupation-contract.clauses w₀.𝓛 w₀.𝓜.mem w₀.𝓡.returns) (λ κs a g. r_top) (λ κs a g x e. r_last _)
      (λ κs a x e. OccupationReportedBy (held_read a) a.1.0 a.1.1.0 a.1.1.1.0.now (answer_by report_given x))
  pub clock : Says clock-contract.ended (clock-contract.clauses w₀.𝓛 w₀.𝓜.mem w₀.𝓡.returns) (λ κs a g. r_top) (λ κs a g x e. r_last _)
      (λ κs a x e. ClockGivenBy (held_read a) a.1.0 (answer_by (λ n. n) x))
  pub info : Says info-contract.ended (info-contract.clauses w₀.𝓛 w₀.𝓜.mem w₀.𝓡.returns) (λ κs a g. r_top) (λ κs a g x e. r_last _)
      (λ κs a x e. InfoGivenBy (held_read a) (answer_by summary_given x))
  pub serialize_to : Says write-contract.ended (write-contract.clauses w₀.𝓛 w₀.𝓜.mem w₀.𝓡.returns) (λ κs a g. r_top) (λ κs a g x e. r_last _)
      (λ κs a x e. WrittenBy (held_read a) a.1.0.now e.1.0.now (answer_by (λ n. n) x))
  pub deserialize : Says load-contract.ended (load-contract.clauses w₀.𝓛 w₀.𝓜.mem w₀.𝓡.returns) (λ κs a g. r_top) (λ κs a g x e. r_last _)
      (λ κs a x e. LoadedBy (behind a).0.now (behind a).1.0 (held_load a) (held_load e) (answer_by (λ n. n) x))
  pub record_all : Says all-contract.ended (all-contract.clauses w₀.𝓛 w₀.𝓜.mem w₀.𝓡.returns) (λ κs a g. r_top) (λ κs a g x e. r_last _)
      (λ κs a x e. RecordedAll (length (behind a).0.now) (behind a).1.0 (behind a).1.1.0.now (held_record a)
      (tables (held_record e).pieces (held_record e).blocks (held_record e).store (held_record a).nodes (held_record a).entries) (behind a).1.1.1.0.now (behind e).1.1.1.0.now x.count x.next)
  pub find_all : Says finds-contract.ended (finds-contract.clauses w₀.𝓛 w₀.𝓜.mem w₀.𝓡.returns) (λ κs a g. r_top) (λ κs a g x e. r_last _)
      (λ κs a x e. FoundAll (held_read a) a.1.0 a.1.1.0.now a.1.1.1.0.now e.1.1.1.0.now a.1.1.1.1.0.now e.1.1.1.1.0.now x)
  -- and the program `board`, but for reading and writing
  pub run : Says run-contract.ended (run-contract.clauses w₀.𝓛 w₀.𝓜.mem w₀.𝓡.returns) (λ κs a g. r_top) (λ κs a g x e. r_last _) (λ κs a x e. PrintsBoard a.0.now a.1.0.now e.1.0.now x)
