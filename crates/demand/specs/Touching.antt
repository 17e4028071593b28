-- Touching, next and last after every list of calls. Statements alone: their proof stands in proofs/Touched.
use Rattle.std.specs.Prelude.{◌≡◌, true, List, [], ℕ, ◌≤◌, ◌<◌, length}
use Rattle.std.proofs.Math.Option.{some}
use Rattle.std.proofs.lemmas.List.Edits.{sets}
use Rattle.lists.specs.Lists.{Mem}
use Rattle.history.specs.Words.{Operation, HasCell, cell_place, byte_at}
use Rattle.history.specs.Ledger.{Ledger, opened, opens_kind, finished}
use Rattle.history.specs.Reads.{block_by, touching_by, next_by, last_by}
use Rattle.history.specs.Results.{Result}
use Rattle.history.specs.Refusals.{Answer, accepted, refused, max_end_tick}
use Rattle.history.specs.Calls.{Call, after_all, history, value_at}
use Rattle.history.specs.Law.{TouchingLaw, NeighboursLaw}
use Rattle.kind_mask.specs.Masks.{Taken}
use Rattle.layout.specs.Tables.{Tables}
use Rattle.layout.specs.Relations.{opening_of, OpenedBy, TouchedBy, Near, near_of, NextGivenBy, LastGivenBy}
use Rattle.demand.specs.Theorem.{Run}

-- For each cell of [start, stop) of the kind at the tick the history has a byte exactly when one listed block holds the cell, and then it is that block's byte.
pub record ListShows (l : Ledger) (h : List Operation) (kind tick start stop : ℕ) : Type 0 where
  pub listed : (cell byte : ℕ) → start ≤ cell → cell < stop → value_at h kind tick cell ≡ some byte
      → (k : ℕ) × Mem k (touching_by l kind tick start stop) × (byte_at (cell_place kind cell) (block_by l k).stretch ≡ some byte)
  pub shown : (cell byte k : ℕ) → Mem k (touching_by l kind tick start stop) → byte_at (cell_place kind cell) (block_by l k).stretch ≡ some byte
      → value_at h kind tick cell ≡ some byte
  pub one : (cell j k : ℕ) → Mem j (touching_by l kind tick start stop) → Mem k (touching_by l kind tick start stop)
      → HasCell (block_by l j).stretch (cell_place kind cell) → HasCell (block_by l k).stretch (cell_place kind cell) → j ≡ k

-- the ledger after the calls, the history that they leave, and the tables; every read names an opened kind
pub record TouchingShows (l : Ledger) (h : List Operation) (t : Tables) (kind : ℕ) : Type 0 where
  -- Touching gives the ledger's list, and says how many, if the lent answer holds them, and else refuses 16;
  pub touched : (tick start stop : ℕ) (out out' : List ℕ) (answer : Answer ℕ) → tick < l.opening.end → start ≤ stop
      → TouchedBy t kind tick start stop out out' answer → length (touching_by l kind tick start stop) ≤ length out
      → (answer ≡ accepted (length (touching_by l kind tick start stop))) × (out' ≡ sets out 0 (touching_by l kind tick start stop))
  pub no_room : (tick start stop : ℕ) (out out' : List ℕ) (answer : Answer ℕ) → tick < l.opening.end → start ≤ stop
      → TouchedBy t kind tick start stop out out' answer → length out < length (touching_by l kind tick start stop) → (answer ≡ refused 16) × (out' ≡ out)
  -- the list has each block that touches once and no other, ascending, and shows the history;
  pub touching : (tick start stop : ℕ) → tick < l.opening.end → TouchingLaw l kind tick start stop
  pub shows : (tick start stop : ℕ) → tick < l.opening.end → ListShows l h kind tick start stop
  -- next and last give the ledger's neighbours, which are the nearest live blocks.
  pub next : (tick cell : ℕ) (answer : Answer Near) → tick < l.opening.end → NextGivenBy t kind tick cell answer
      → answer ≡ accepted (near_of (next_by l kind tick cell))
  pub last : (tick cell : ℕ) (answer : Answer Near) → tick < l.opening.end → LastGivenBy t kind tick cell answer
      → answer ≡ accepted (near_of (last_by l kind tick cell))
  pub neighbours : (tick cell : ℕ) → tick < l.opening.end → NeighboursLaw l kind tick cell

-- Over the tables that were opened with any contents and finished by any list of calls, each done by its contract.
abbrev pub TouchingShown : Type 0
TouchingShown =
    (end : ℕ) (kinds : List ℕ) → 1 ≤ end → end ≤ max_end_tick → Taken kinds → (t t₀ t' : Tables) (opening : Answer Unit) → OpenedBy end kinds t t₀ opening
    → (ks : List Call) (given : List (Answer Result)) → Run t₀ ks given t' → finished (after_all (opened (opening_of end kinds t)) ks) ≡ true
    → (kind : ℕ) → opens_kind (after_all (opened (opening_of end kinds t)) ks) kind ≡ true
    → TouchingShows (after_all (opened (opening_of end kinds t)) ks) (history [] (opened (opening_of end kinds t)) ks) t' kind
