-- Read cells shows the history. A statement alone: its proof stands in proofs/Shown.
use Rattle.std.specs.Prelude.{◌≡◌, true, List, ℕ, ◌≤◌}
use Rattle.history.specs.Ledger.{opened, opens_kind, finished}
use Rattle.history.specs.Results.{Result}
use Rattle.history.specs.Refusals.{Answer, max_end_tick}
use Rattle.history.specs.Calls.{Call, after_all}
use Rattle.kind_mask.specs.Masks.{Taken}
use Rattle.layout.specs.Tables.{Tables}
use Rattle.layout.specs.Relations.{opening_of, OpenedBy}
use Rattle.cells.specs.Law.{ShowsHistory, CellsShowHistory}
use Rattle.demand.specs.Theorem.{Run}

pub record CellsShown : Type 0 where
  -- Over every finished index that calls have reached, whatever tables it stands in;
  pub reached : CellsShowHistory
  -- so over the tables that were opened with any contents and finished by any list of calls, each done by its contract.
  pub called : (end : ℕ) (kinds : List ℕ) → 1 ≤ end → end ≤ max_end_tick → Taken kinds → (t t₀ t' : Tables) (opening : Answer Unit)
      → OpenedBy end kinds t t₀ opening → (ks : List Call) (given : List (Answer Result)) → Run t₀ ks given t'
      → finished (after_all (opened (opening_of end kinds t)) ks) ≡ true → (kind : ℕ) → opens_kind (after_all (opened (opening_of end kinds t)) ks) kind ≡ true
      → ShowsHistory (opening_of end kinds t) ks kind t'
