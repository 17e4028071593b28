-- Read cells shows the history: after the calls the tables stand for the finished ledger. Assumes nothing.
use Rattle.layout.specs.Relations.{opening_of}
use Rattle.layout.proofs.Opening.{open_accepted}
use Rattle.cells.proofs.History.{cells_show_history}
use Rattle.demand.specs.Cells.{CellsShown}
use Rattle.demand.proofs.Runs.{finished_encodes}

pub cells_shown : CellsShown
cells_shown = record {
  reached = cells_show_history;
  called = λ end kinds some_tick end_most given-kinds t t₀ t' opening d ks given r done.
      cells_show_history (opening_of end kinds t) (open_accepted (opening_of end kinds t) some_tick end_most given-kinds.some_kind given-kinds.known) ks done t'
      (finished_encodes end kinds some_tick end_most given-kinds t t₀ opening d r done);
}
