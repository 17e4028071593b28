-- An index that was written and loaded again is reported on alike.
use mathlib.Core.Path.{◌≡◌, refl, sym, ap, ◌∙◌}
use mathlib.Core.Bool.{Bool, true, false, cond, not}
use mathlib.Core.List.{List, [], ◌∷◌}
use Prim.Native.Nat.{ℕ, ◌^◌, ◌<◌}
use lib.ListN.{get_or}
use lib.Dec.{eqb}
use borrow.Author.Tests.{eq-eqb}
use Rattle.lists.specs.Lists.{has}
use Rattle.history.specs.Ledger.{Opening, Ledger, opened, finished}
use Rattle.history.specs.Reads.{trees_or_none}
use Rattle.history.specs.Refusals.{accepted, Refusal, first_of, open_answer}
use Rattle.history.specs.Calls.{Call, after_all}
use Rattle.history.specs.Sound.{none_of, Sound}
use Rattle.history.specs.File.{saved_ledger}
use Rattle.history.specs.Sums.{byte_now, busy}
use Rattle.history.specs.Occupation.{Window, windows_of, occupied_by, given_by, report_of, occupation_by, occupation_refusals, occupation_answer}
use Rattle.history.proofs.EveryList.{every_list}
use Rattle.history.proofs.FileSound.{saved_seen}
use Rattle.history.proofs.OccupationLaws.{windows_same}
use Rattle.layout.specs.Tables.{Tables, lengths_of}
use Rattle.layout.specs.Encodes.{Encodes}
use Rattle.layout.specs.Relations.{opening_of}
use Rattle.layout.proofs.Opening.{open_accepted}
use Rattle.demand.proofs.Runs.{finished_encodes}
use Rattle.spacetime_file.specs.Law.{Slices, ClosedIn, Lives, Reloads, RoomFor, AsLong}
use Rattle.spacetime_file.proofs.Closed.{KindIn, kind_in, trees_are, heads_there}
use Rattle.spacetime_file.proofs.Saving.{some_written, lives-some, reloads}
use Rattle.spacetime_file.proofs.Reached.{reached_reloads}
use Rattle.reports_law.specs.Occupation.{IsSlice, SameOccupation, ShowsOccupation, OccupationShown}
use Rattle.reports_law.proofs.Shown.{stops_fit, unopened, told, reached_shows, shows}

-- a set of one kind has it
one_opened : (kind : ℕ) → has kind (kind ∷ []) ≡ true
unfolding has
one_opened kind = rw (eq-eqb kind kind refl)

module _ {t u : Tables} {l : Ledger} {kind : ℕ} (c : KindIn t l kind) (e : Encodes u (saved_ledger (lengths_of u) l kind)) (s : Sound (saved_ledger (lengths_of u) l kind)) where
  abbrev saved : Ledger
  saved = saved_ledger (lengths_of u) l kind

  -- a cell is busy where it was
  pub busy_saved : (tick cell : ℕ) → cell < 2 ^ 64 → busy saved kind tick cell ≡ busy l kind tick cell
  unfolding byte_now
  busy_saved tick cell below =
      ap (λ (xs : List ℕ). not (eqb (get_or xs 0 0) 0))
      (saved_seen (lengths_of u) l (trees_or_none l.trees) (trees_are c.closed) kind c.known c.can c.closed.sound.board tick cell below)

  same_report : (tick : ℕ) (ns : List ℕ) → IsSlice ns → occupation_by saved kind tick (windows_of ns) ≡ occupation_by l kind tick (windows_of ns)
  unfolding occupation_by occupied_by
  same_report tick ns slice =
      ap (λ (n : ℕ). report_of n (given_by (windows_of ns)))
      (windows_same (λ cell. cond (busy saved kind tick cell) 1 0) (λ cell. cond (busy l kind tick cell) 1 0)
      (λ cell below. ap (λ (b : Bool). cond b 1 0) (busy_saved tick cell below)) (stops_fit slice))

  same_refusals : (tick : ℕ) (ws : List Window) → occupation_refusals saved kind tick ws ≡ occupation_refusals l kind tick ws
  unfolding occupation_refusals
  same_refusals tick ws = rw (e.heads, heads_there c.closed, c.closed.closed, one_opened kind, c.opens) refl

  same_answer : (tick : ℕ) (ns : List ℕ) → IsSlice ns → occupation_answer saved kind tick ns ≡ occupation_answer l kind tick ns
  same_answer tick ns slice =
      ap (λ (rs : List Refusal). first_of rs (occupation_by saved kind tick (windows_of ns))) (same_refusals tick (windows_of ns))
      ∙ ap (first_of (occupation_refusals l kind tick (windows_of ns))) (same_report tick ns slice)

  same : SameOccupation kind t u
  same tick ns a b slice f g =
      g.read.formed saved e s ∙ same_answer tick ns slice ∙ sym (f.read.formed l c.closed.encodes c.closed.sound)

reloads_same : (t : Tables) (l : Ledger) → Slices t → ClosedIn t l → (kind k : ℕ) → Lives l kind k → Reloads t l kind (RoomFor l kind) (SameOccupation kind t)
reloads_same t l slices closed kind k lives =
    let c = kind_in slices closed kind (lives-some l kind k lives) in
    reloads c (some_written c k lives) (λ u stands sound. same c stands sound)

module _ (a : Opening) (taken : open_answer a ≡ accepted tt) (ks : List Call) (done : finished (after_all (opened a) ks) ≡ true) (kind : ℕ)
    (some_block : none_of kind (after_all (opened a) ks).now.blocks ≡ false) (t : Tables) (slices : Slices t) (stands : Encodes t (after_all (opened a) ks)) where
  own : KindIn t (after_all (opened a) ks) kind
  own = kind_in slices (record { encodes = stands; sound = (every_list a taken ks).law.sound.sound; closed = done }) kind some_block

  loaded_shows : (u : Tables) → Encodes u (saved_ledger (lengths_of u) (after_all (opened a) ks) kind) → Sound (saved_ledger (lengths_of u) (after_all (opened a) ks) kind)
      → ShowsOccupation a ks kind u
  loaded_shows u e s tick ns answer in_time slice r g =
      g.read.formed (saved_ledger (lengths_of u) (after_all (opened a) ks) kind) e s
      ∙ same_answer own e s tick ns slice
      ∙ reached_shows a taken ks done t stands kind own.opens tick ns in_time slice r

  reloads_shows : Reloads t (after_all (opened a) ks) kind (AsLong t) (ShowsOccupation a ks kind)
  reloads_shows = reached_reloads a taken ks done kind some_block t slices stands loaded_shows

pub occupation_shown : OccupationShown
occupation_shown = record {
  closed = λ t l c kind k. told c kind k;
  unopened = λ t l c kind tick ns answer k o. unopened c kind tick ns answer k o;
  reached = λ a taken ks done t stands kind k. shows a taken ks done t stands kind k;
  called = λ end kinds some_tick end_most given-kinds t t₀ t' opening d ks given r done kind k.
      shows (opening_of end kinds t) (open_accepted (opening_of end kinds t) some_tick end_most given-kinds.some_kind given-kinds.known) ks done t'
      (finished_encodes end kinds some_tick end_most given-kinds t t₀ opening d r done) kind k;
  saved = reloads_same;
  loaded = λ end kinds some_tick end_most given-kinds t t₀ t' opening d ks given r done kind some_block slices.
      let taken = open_accepted (opening_of end kinds t) some_tick end_most given-kinds.some_kind given-kinds.known in
      let stands = finished_encodes end kinds some_tick end_most given-kinds t t₀ opening d r done in
      reloads_shows (opening_of end kinds t) taken ks done kind some_block t' slices stands;
}
