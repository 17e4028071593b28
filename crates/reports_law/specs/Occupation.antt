-- What the occupation report tells. The proof stands in proofs/Loaded.
use Rattle.std.specs.Prelude.{◌≡◌, true, false, List, [], ℕ, ◌^◌, ◌≤◌, ◌<◌}
use Rattle.std.specs.List.{list_all}
use Rattle.lists.specs.Lists.{All}
use Rattle.history.specs.Ledger.{Opening, Ledger, opened, opens_kind, finished}
use Rattle.history.specs.Results.{Result}
use Rattle.history.specs.Refusals.{Answer, accepted, refused, open_answer, max_end_tick}
use Rattle.history.specs.Calls.{Call, after_all, history}
use Rattle.history.specs.Sound.{none_of}
use Rattle.history.specs.Occupation.{Report, windows_of, forward, given_by, occupied_by, unreported, report_of}
use Rattle.history.specs.OccupationLaw.{occupied_of}
use Rattle.kind_mask.specs.Masks.{Taken}
use Rattle.layout.specs.Tables.{Tables}
use Rattle.layout.specs.Encodes.{Encodes}
use Rattle.layout.specs.Relations.{opening_of, OpenedBy}
use Rattle.demand.specs.Theorem.{Run}
use Rattle.spacetime_file.specs.Law.{Slices, ClosedIn, Lives, Reloads, RoomFor, AsLong}
use Rattle.occupation_read.specs.Answers.{OccupationReportedBy}

-- windows that are reported on: none ends before it starts, and they are neither too many nor too long nor without cells
pub record Reportable (windows : List ℕ) : Type 0 where
  pub ordered : list_all forward (windows_of windows) ≡ true
  pub reported : unreported (windows_of windows) ≡ false

-- numbers of 64 bits, as a lent slice has them
abbrev pub IsSlice : List ℕ → Type 0
IsSlice numbers = All (λ n. n < 2 ^ 64) numbers

-- ── over any closed index ──

-- of an opened kind: which windows are reported on, and with which counts
pub record OccupationReports (t : Tables) (l : Ledger) (kind : ℕ) : Type 0 where
  pub late : (tick : ℕ) (windows : List ℕ) (answer : Answer Report) → OccupationReportedBy t kind tick windows answer
      → l.opening.end ≤ tick → answer ≡ refused 14
  pub backward : (tick : ℕ) (windows : List ℕ) (answer : Answer Report) → OccupationReportedBy t kind tick windows answer
      → tick < l.opening.end → list_all forward (windows_of windows) ≡ false → answer ≡ refused 15
  pub unreported : (tick : ℕ) (windows : List ℕ) (answer : Answer Report) → OccupationReportedBy t kind tick windows answer
      → tick < l.opening.end → list_all forward (windows_of windows) ≡ true → unreported (windows_of windows) ≡ true → answer ≡ refused 37
  pub reported : (tick : ℕ) (windows : List ℕ) (answer : Answer Report) → OccupationReportedBy t kind tick windows answer
      → tick < l.opening.end → Reportable windows
      → answer ≡ accepted (report_of (occupied_by l kind tick (windows_of windows)) (given_by (windows_of windows)))

-- ── after every list of calls ──

-- the report is that of the cells which the accepted calls of the kind leave with a byte other than 0 at the tick
abbrev pub ShowsOccupation : (a : Opening) (ks : List Call) (kind : ℕ) → Tables → Type 0
ShowsOccupation a ks kind t =
    (tick : ℕ) (windows : List ℕ) (answer : Answer Report) → tick < (after_all (opened a) ks).opening.end → IsSlice windows → Reportable windows
    → OccupationReportedBy t kind tick windows answer
    → answer ≡ accepted (report_of (occupied_of (history [] (opened a) ks) kind tick (windows_of windows)) (given_by (windows_of windows)))

-- ── written and loaded ──

-- two indexes answer alike
abbrev pub SameOccupation : (kind : ℕ) (t u : Tables) → Type 0
SameOccupation kind t u =
    (tick : ℕ) (windows : List ℕ) (a b : Answer Report) → IsSlice windows → OccupationReportedBy t kind tick windows a → OccupationReportedBy u kind tick windows b
    → b ≡ a

-- ── the theorem ──

pub record OccupationShown : Type 0 where
  -- Of any closed index, finished or loaded;
  pub closed : (t : Tables) (l : Ledger) → ClosedIn t l → (kind : ℕ) → opens_kind l kind ≡ true → OccupationReports t l kind
  pub unopened : (t : Tables) (l : Ledger) → ClosedIn t l → (kind tick : ℕ) (windows : List ℕ) (answer : Answer Report) → opens_kind l kind ≡ false
      → OccupationReportedBy t kind tick windows answer → answer ≡ refused 25
  -- for every opening that is taken and every list of calls that leaves a finished index, each opened kind, whatever tables it stands in;
  pub reached : (a : Opening) → open_answer a ≡ accepted tt → (ks : List Call) → finished (after_all (opened a) ks) ≡ true → (t : Tables)
      → Encodes t (after_all (opened a) ks) → (kind : ℕ) → opens_kind (after_all (opened a) ks) kind ≡ true → ShowsOccupation a ks kind t
  -- so over the tables that were opened with any contents and finished by any list of calls, each done by its contract.
  pub called : (end : ℕ) (kinds : List ℕ) → 1 ≤ end → end ≤ max_end_tick → Taken kinds → (t t₀ t' : Tables) (opening : Answer Unit)
      → OpenedBy end kinds t t₀ opening → (ks : List Call) (given : List (Answer Result)) → Run t₀ ks given t'
      → finished (after_all (opened (opening_of end kinds t)) ks) ≡ true → (kind : ℕ) → opens_kind (after_all (opened (opening_of end kinds t)) ks) kind ≡ true
      → ShowsOccupation (opening_of end kinds t) ks kind t'
  -- Written and loaded again, each kind of which a block has a life is reported on alike;
  pub saved : (t : Tables) (l : Ledger) → Slices t → ClosedIn t l → (kind k : ℕ) → Lives l kind k → Reloads t l kind (RoomFor l kind) (SameOccupation kind t)
  -- so each kind that has blocks after a list of calls is reported on by its history.
  pub loaded : (end : ℕ) (kinds : List ℕ) → 1 ≤ end → end ≤ max_end_tick → Taken kinds → (t t₀ t' : Tables) (opening : Answer Unit)
      → OpenedBy end kinds t t₀ opening → (ks : List Call) (given : List (Answer Result)) → Run t₀ ks given t'
      → finished (after_all (opened (opening_of end kinds t)) ks) ≡ true → (kind : ℕ)
      → none_of kind (after_all (opened (opening_of end kinds t)) ks).now.blocks ≡ false → Slices t'
      → Reloads t' (after_all (opened (opening_of end kinds t)) ks) kind (AsLong t') (ShowsOccupation (opening_of end kinds t) ks kind)
