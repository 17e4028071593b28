-- What is proved, in the order in which README tells it. Each statement stands, in words and clause by clause, in the file that it is taken from.
use Rattle.history.specs.Law.{ValueAt, LawOfChange, LawOfCalls, LawOfFind, LawOfTouching, LawOfNeighbours}
use Rattle.history.specs.HoursLaw.{LawOfHours}
use Rattle.history.specs.DaysLaw.{LawOfDays}
use Rattle.history.specs.SumsLaw.{LawOfSums}
use Rattle.history.specs.OccupationLaw.{LawOfOccupation}
use Rattle.history.specs.ChargesLaw.{LawOfCharges}
use Rattle.history.specs.Boards.{MarkedBoards}
use Rattle.history.specs.Requested.{RequestedBoards}
use Rattle.history.specs.ReportsBoards.{ReportsBoards}
use Rattle.apart_laws.specs.Law.{TheoremH}
use Rattle.tree_room.specs.Room.{LawOfRoom}
use Rattle.layout.specs.Law.{OneLedger, TablesExist, ShallowTrees}
use Rattle.growth.specs.Longer.{LongerTables}
use Rattle.growth.specs.Steps.{GrownBoards}
use Rattle.index_test.specs.Law.{TestDecides}
use Rattle.demand.specs.Theorem.{Demand3}
use Rattle.demand.specs.Cells.{CellsShown}
use Rattle.demand.specs.Touching.{TouchingShown}
use Rattle.reports_law.specs.Occupation.{OccupationShown}
use Rattle.record_all.specs.Law.{WrittenOut}
use Rattle.index_tested.specs.Law.{TestKeeps, FinishCloses}
use Rattle.sessions.specs.Law.{Sessions}
use Rattle.sessions.specs.States.{StatesFollow}
use Rattle.sessions.specs.Growth.{GrowthKeeps}
use Rattle.spacetime_file.specs.Law.{SavedAndLoaded, LoadedAndWritten, TakenAndNotRefused, EmptyFiles}
use Rattle.board_input.specs.Walk.{LawOfInput}
use Rattle.board_text.specs.Line.{LawOfLines}
use Rattle.lengths.specs.Lengths.{LengthsHold}
use Rattle.promises.specs.Relations.{Contracts}
use Rattle.promises.specs.Exported.{Exported}
use Rattle.promises.specs.ExportedTested.{ExportedTested}
use Rattle.promises.specs.Meanings.{Meanings}

-- over every list of calls, by the contracts of the public calls
pub record OfCalls : Type 0 where
  pub demand_3 : Demand3
  pub shows-history : CellsShown
  pub touching_shows-history : TouchingShown
  pub occupation_shows_history : OccupationShown
  pub records_written_out : WrittenOut
  pub contracts_are_relations : Contracts
  pub answers-told : Meanings

-- which tables are well formed
pub record OfTables : Type 0 where
  pub one_ledger : OneLedger
  pub tables_exist : TablesExist
  pub test_decides : TestDecides
  pub shallow_trees : ShallowTrees
  pub longer-tables : LongerTables
  pub grown-boards : GrownBoards

-- of the definitions, over plain lists
pub record OfHistory : Type 0 where
  pub value_at_lem : ValueAt
  pub law_of_change : LawOfChange
  pub law_of_calls : LawOfCalls
  pub law_of_find : LawOfFind
  pub law_of_touching : LawOfTouching
  pub law_of_neighbours : LawOfNeighbours
  pub law_of_hours : LawOfHours
  pub law_of_days : LawOfDays
  pub law_of_sums : LawOfSums
  pub law_of_occupation : LawOfOccupation
  pub law_of_charges : LawOfCharges
  pub marked-boards : MarkedBoards
  pub requested_boards : RequestedBoards
  pub report_boards : ReportsBoards
  pub theorem_h : TheoremH
  pub law_of_room : LawOfRoom

-- of the calls after one test
pub record OfTested : Type 0 where
  pub test_keeps : TestKeeps
  pub finish_closes : FinishCloses
  pub states_follow : StatesFollow
  pub growth_keeps : GrowthKeeps
  pub sessions_hold : Sessions
  pub tested_calls : ExportedTested

-- of write and load together
pub record OfFiles : Type 0 where
  pub saved_and_loaded : SavedAndLoaded
  pub loaded_and_written : LoadedAndWritten
  pub taken_and_not_refused : TakenAndNotRefused
  pub empty_files : EmptyFiles

-- of the program `board`, and of the calls for Rust and C
pub record OfPrograms : Type 0 where
  pub law_of_input : LawOfInput
  pub law_of_lines : LawOfLines
  pub lengths_hold : LengthsHold
  pub exported_calls : Exported
