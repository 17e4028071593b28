-- The calls for Rust and C too have the relations as their contracts, at the answer that a number and the values handed out stand for. Statements alone: the
-- proof stands in proofs/Citing.
use Rattle.std.specs.Prelude.{◌≡◌, ℕ, length}
use borrow.Fn.Read.{r_top, r_last}
use borrow.Fn.World.{w₀}
use Rattle.std.specs.Borrow.{MutBor}
use Rattle.layout.specs.Tables.{tables}
use Rattle.layout.specs.Relations.{OpenedBy, RecordedBy, FinishedBy, InstalledBy, DaysInstalledBy, ClockGivenBy, FoundBy, TouchedBy, NextGivenBy, LastGivenBy, Fields, BlockGivenBy}
use Rattle.history.specs.Results.{done}
use Rattle.history.specs.Occupation.{Report}
use Rattle.layout.specs.Files.{WrittenBy, LoadedBy}
use Rattle.lengths.specs.Lengths.{length_for}
use Rattle.info.specs.Info.{InfoGivenBy}
use Rattle.index_record.specs.Calls.{operation}
use Rattle.cells.specs.Answers.{CellsReadBy}
use Rattle.occupation_read.specs.Answers.{OccupationReportedBy}
use Rattle.record_all.specs.Many.{RecordedAll}
use Rattle.find_all.specs.Many.{FoundAll}
use Rattle.servercape.specs.Numbers.{ByNumber, ToldAs, changes, changes_of, counts, near, fields, summary, report}
use Rattle.servercape.specs.contracts.servercape_version as version-contract
use Rattle.servercape.specs.contracts.servercape_length as length-contract
use Rattle.servercape.specs.contracts.changes.servercape_open as open-contract
use Rattle.servercape.specs.contracts.changes.servercape_record as record-contract
use Rattle.servercape.specs.contracts.changes.servercape_record_all as all-contract
use Rattle.servercape.specs.contracts.changes.servercape_finish as finish-contract
use Rattle.servercape.specs.contracts.changes.servercape_install_calendar as install-contract
use Rattle.servercape.specs.contracts.changes.servercape_install_days as days-contract
use Rattle.servercape.specs.contracts.reads.servercape_block as block-contract
use Rattle.servercape.specs.contracts.reads.servercape_find as find-contract
use Rattle.servercape.specs.contracts.reads.servercape_find_all as finds-contract
use Rattle.servercape.specs.contracts.reads.servercape_touching as touching-contract
use Rattle.servercape.specs.contracts.reads.servercape_next as next-contract
use Rattle.servercape.specs.contracts.reads.servercape_last as last-contract
use Rattle.servercape.specs.contracts.reads.servercape_read_cells as cells-contract
use Rattle.servercape.specs.contracts.reads.servercape_occupation as occupation-contract
use Rattle.servercape.specs.contracts.files.servercape_write as write-contract
use Rattle.servercape.specs.contracts.files.servercape_load as load-contract
use Rattle.servercape.specs.contracts.reads.servercape_clock as clock-contract
use Rattle.servercape.specs.contracts.reads.servercape_info as info-contract
use Rattle.promises.specs.Relations.{Says, held, held_open, held_record, held_install, held_load, behind}

-- the fields of a block, behind six `&mut`
abbrev pub handed_out : {X : Type 0} → MutBor ℕ × (MutBor ℕ × (MutBor ℕ × (MutBor ℕ × (MutBor ℕ × (MutBor ℕ × X))))) → Fields
handed_out a = fields a.0.now a.1.0.now a.1.1.0.now a.1.1.1.0.now a.1.1.1.1.0.now a.1.1.1.1.1.0.now

-- a report, behind three `&mut`
abbrev pub reported : {X : Type 0} → MutBor ℕ × (MutBor ℕ × (MutBor ℕ × X)) → Report
reported a = report a.0.now a.1.0.now a.1.1.0.now

-- arguments as in `Contracts`; `x` is the number
pub record Exported : Type 0 where
  pub version : Says version-contract.ended (version-contract.clauses w₀.𝓛 w₀.𝓜.mem w₀.𝓡.returns) (λ κs a g. r_top) (λ κs a g x e. r_last _) (λ κs a x e. x ≡ 2000)
  pub length_for_lem : Says length-contract.ended (length-contract.clauses w₀.𝓛 w₀.𝓜.mem w₀.𝓡.returns) (λ κs a g. r_top) (λ κs a g x e. r_last _) (λ κs a x e. x ≡ length_for a.0 a.1.0)
  pub opening : Says open-contract.ended (open-contract.clauses w₀.𝓛 w₀.𝓜.mem w₀.𝓡.returns) (λ κs a g. r_top) (λ κs a g x e. r_last _)
      (λ κs a x e. ByNumber (OpenedBy (behind a).0 (behind a).1.0.now (held_open a)
      (tables (held_open e).pieces (held_open e).blocks (held_open a).store (held_open e).nodes (held_open e).entries)) x tt tt)
  pub record_op : Says record-contract.ended (record-contract.clauses w₀.𝓛 w₀.𝓜.mem w₀.𝓡.returns) (λ κs a g. r_top) (λ κs a g x e. r_last _)
      (λ κs a x e. ByNumber (ToldAs changes_of (RecordedBy (length (behind a).0.now) (operation (behind a).1.0 (behind a).1.1.0 (behind a).1.1.1.0 (behind a).1.1.1.1.0.now) (held_record a)
      (tables (held_record e).pieces (held_record e).blocks (held_record e).store (held_record a).nodes (held_record a).entries))) x
      (changes (behind a).1.1.1.1.1.0.now (behind a).1.1.1.1.1.1.0.now) (changes (behind e).1.1.1.1.1.0.now (behind e).1.1.1.1.1.1.0.now))
  pub record_all : Says all-contract.ended (all-contract.clauses w₀.𝓛 w₀.𝓜.mem w₀.𝓡.returns) (λ κs a g. r_top) (λ κs a g x e. r_last _)
      (λ κs a x e. RecordedAll (length (behind a).0.now) (behind a).1.0 (behind a).1.1.0.now (held_record a)
      (tables (held_record e).pieces (held_record e).blocks (held_record e).store (held_record a).nodes (held_record a).entries) (behind a).1.1.1.0.now (behind e).1.1.1.0.now x (behind e).1.1.1.1.0.now)
  pub finish : Says finish-contract.ended (finish-contract.clauses w₀.𝓛 w₀.𝓜.mem w₀.𝓡.returns) (λ κs a g. r_top) (λ κs a g x e. r_last _)
      (λ κs a x e. ByNumber (FinishedBy (held_open a) (tables (held_open e).pieces (held_open e).blocks (held_open a).store (held_open e).nodes (held_open e).entries)) x done done)
  pub install_calendar : Says install-contract.ended (install-contract.clauses w₀.𝓛 w₀.𝓜.mem w₀.𝓡.returns) (λ κs a g. r_top) (λ κs a g x e. r_last _)
      (λ κs a x e. ByNumber (InstalledBy (behind a).0.now (held_install a) (tables (held_install a).pieces (held_install e).blocks (held_install a).store (held_install a).nodes (held_install a).entries)) x done done)
  pub install_days : Says days-contract.ended (days-contract.clauses w₀.𝓛 w₀.𝓜.mem w₀.𝓡.returns) (λ κs a g. r_top) (λ κs a g x e. r_last _)
      (λ κs a x e. ByNumber (DaysInstalledBy (behind a).0.now (held_install a) (tables (held_install a).pieces (held_install e).blocks (held_install a).store (held_install a).nodes (held_install a).entries)) x done done)
  pub block : Says block-contract.ended (block-contract.clauses w₀.𝓛 w₀.𝓜.mem w₀.𝓡.returns) (λ κs a g. r_top) (λ κs a g x e. r_last _)
      (λ κs a x e. ByNumber (BlockGivenBy (held a) (behind a).0) x (handed_out (behind a).1) (handed_out (behind e).1))
  pub find : Says find-contract.ended (find-contract.clauses w₀.𝓛 w₀.𝓜.mem w₀.𝓡.returns) (λ κs a g. r_top) (λ κs a g x e. r_last _)
      (λ κs a x e. ByNumber (FoundBy (held a) (behind a).0 (behind a).1.0 (behind a).1.1.0 (behind a).1.1.1.0 (behind a).1.1.1.1.0.now (behind e).1.1.1.1.0.now) x
      (counts (behind a).1.1.1.1.1.0.now (behind a).1.1.1.1.1.1.0.now) (counts (behind e).1.1.1.1.1.0.now (behind e).1.1.1.1.1.1.0.now))
  pub find_all : Says finds-contract.ended (finds-contract.clauses w₀.𝓛 w₀.𝓜.mem w₀.𝓡.returns) (λ κs a g. r_top) (λ κs a g x e. r_last _)
      (λ κs a x e. FoundAll (held a) (behind a).0 (behind a).1.0.now (behind a).1.1.0.now (behind e).1.1.0.now (behind a).1.1.1.0.now (behind e).1.1.1.0.now x)
  pub touching : Says touching-contract.ended (touching-contract.clauses w₀.𝓛 w₀.𝓜.mem w₀.𝓡.returns) (λ κs a g. r_top) (λ κs a g x e. r_last _)
      (λ κs a x e. ByNumber (TouchedBy (held a) (behind a).0 (behind a).1.0 (behind a).1.1.0 (behind a).1.1.1.0 (behind a).1.1.1.1.0.now (behind e).1.1.1.1.0.now) x
      (behind a).1.1.1.1.1.0.now (behind e).1.1.1.1.1.0.now)
  pub next : Says next-contract.ended (next-contract.clauses w₀.𝓛 w₀.𝓜.mem w₀.𝓡.returns) (λ κs a g. r_top) (λ κs a g x e. r_last _)
      (λ κs a x e. ByNumber (NextGivenBy (held a) (behind a).0 (behind a).1.0 (behind a).1.1.0) x
      (near (behind a).1.1.1.0.now (behind a).1.1.1.1.0.now) (near (behind e).1.1.1.0.now (behind e).1.1.1.1.0.now))
  pub last : Says last-contract.ended (last-contract.clauses w₀.𝓛 w₀.𝓜.mem w₀.𝓡.returns) (λ κs a g. r_top) (λ κs a g x e. r_last _)
      (λ κs a x e. ByNumber (LastGivenBy (held a) (behind a).0 (behind a).1.0 (behind a).1.1.0) x
      (near (behind a).1.1.1.0.now (behind a).1.1.1.1.0.now) (near (behind e).1.1.1.0.now (behind e).1.1.1.1.0.now))
  pub read_cells : Says cells-contract.ended (cells-contract.clauses w₀.𝓛 w₀.𝓜.mem w₀.𝓡.returns) (λ κs a g. r_top) (λ κs a g x e. r_last _)
      (λ κs a x e. ByNumber (CellsReadBy (held a) (behind a).0 (behind a).1.0 (behind a).1.1.0 (behind a).1.1.1.0 (behind a).1.1.1.1.0.now (behind e).1.1.1.1.0.now
      (behind a).1.1.1.1.1.0.now (behind e).1.1.1.1.1.0.now) x tt tt)
  pub occupation : Says occupation-contract.ended (occupation-contract.clauses w₀.𝓛 w₀.𝓜.mem w₀.𝓡.returns) (λ κs a g. r_top) (λ κs a g x e. r_last _)
      (λ κs a x e. ByNumber (OccupationReportedBy (held a) (behind a).0 (behind a).1.0 (behind a).1.1.0.now) x
      (reported (behind a).1.1.1) (reported (behind e).1.1.1))
  pub write : Says write-contract.ended (write-contract.clauses w₀.𝓛 w₀.𝓜.mem w₀.𝓡.returns) (λ κs a g. r_top) (λ κs a g x e. r_last _)
      (λ κs a x e. ByNumber (WrittenBy (held a) (behind a).0.now (behind e).0.now) x (behind a).1.0.now (behind e).1.0.now)
  pub load : Says load-contract.ended (load-contract.clauses w₀.𝓛 w₀.𝓜.mem w₀.𝓡.returns) (λ κs a g. r_top) (λ κs a g x e. r_last _)
      (λ κs a x e. ByNumber (LoadedBy (behind a).0.now (behind a).1.0 (held_load a) (held_load e)) x (behind a).1.1.0.now (behind e).1.1.0.now)
  pub clock : Says clock-contract.ended (clock-contract.clauses w₀.𝓛 w₀.𝓜.mem w₀.𝓡.returns) (λ κs a g. r_top) (λ κs a g x e. r_last _)
      (λ κs a x e. ByNumber (ClockGivenBy (held a) (behind a).0) x (behind a).1.0.now (behind e).1.0.now)
  pub info : Says info-contract.ended (info-contract.clauses w₀.𝓛 w₀.𝓜.mem w₀.𝓡.returns) (λ κs a g. r_top) (λ κs a g x e. r_last _)
      (λ κs a x e. ByNumber (InfoGivenBy (held a)) x (summary (behind a).0.now) (summary (behind e).0.now))
