-- What read cells shows of an index that any list of calls has reached and finished. A statement alone: its proof stands in proofs/History.
use Rattle.std.specs.Prelude.{◌≡◌, true, List, [], map, ℕ, ◌-◌, ◌^◌, ◌≤◌, ◌<◌, length}
use Rattle.std.proofs.Math.Option.{Option, none, some}
use Rattle.std.proofs.lemmas.List.Edits.{sets}
use Rattle.lists.specs.Lists.{count_from}
use Rattle.history.specs.Ledger.{Opening, opened, opens_kind, finished}
use Rattle.history.specs.Refusals.{Answer, accepted, open_answer}
use Rattle.history.specs.Calls.{Call, after_all, history, value_at}
use Rattle.history.specs.Sums.{byte_of}
use Rattle.layout.specs.Tables.{Tables}
use Rattle.layout.specs.Encodes.{Encodes}
use Rattle.cells.specs.Answers.{CellsReadBy}

-- whether a cell is held, by its value
abbrev pub mark_of : Option ℕ → ℕ
mark_of none = 0
mark_of (some b) = 1

-- The slices hold, for each cell of [start, stop), the value that the accepted calls of the kind leave at the tick; the rest of them is as it was.
pub record HistoryShown (a : Opening) (ks : List Call) (kind tick start stop : ℕ) (bytes bytes' held held' : List ℕ) (answer : Answer Unit) : Type 0 where
  pub answered : answer ≡ accepted tt
  pub in_bytes : bytes' ≡ sets bytes 0 (map (λ c. byte_of (value_at (history [] (opened a) ks) kind tick c)) (count_from start (stop - start)))
  pub in_held : held' ≡ sets held 0 (map (λ c. mark_of (value_at (history [] (opened a) ks) kind tick c)) (count_from start (stop - start)))

-- A read of the kind, of a tick below E and of a range of 64-bit cells that the slices hold shows the history of that kind.
abbrev pub ShowsHistory : (a : Opening) (ks : List Call) (kind : ℕ) → Tables → Type 0
ShowsHistory a ks kind t =
    (tick start stop : ℕ) (bytes bytes' held held' : List ℕ) (answer : Answer Unit) → tick < (after_all (opened a) ks).opening.end → start ≤ stop → stop < 2 ^ 64
    → stop - start ≤ length bytes → stop - start ≤ length held → CellsReadBy t kind tick start stop bytes bytes' held held' answer
    → HistoryShown a ks kind tick start stop bytes bytes' held held' answer

-- For every opening that is taken and every list of calls that leaves a finished index: whatever tables stand for it show the history of each opened kind.
abbrev pub CellsShowHistory : Type 0
CellsShowHistory =
    (a : Opening) → open_answer a ≡ accepted tt → (ks : List Call) → finished (after_all (opened a) ks) ≡ true
    → (t : Tables) → Encodes t (after_all (opened a) ks) → (kind : ℕ) → opens_kind (after_all (opened a) ks) kind ≡ true → ShowsHistory a ks kind t
