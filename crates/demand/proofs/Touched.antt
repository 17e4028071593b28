-- Touching, next and last after every list of calls: the tables stand for the finished ledger, whose live blocks show the history. Assumes nothing.
use mathlib.Core.Path.{◌≡◌, refl, sym, ap, ◌∙◌, subst}
use mathlib.Core.Logic.{inl, inr}
use mathlib.Core.Bool.{true}
use mathlib.Core.List.{List, []}
use Prim.Native.Nat.{ℕ, ◌≤◌, ◌<◌}
use native.Mathlib.Omega.{arith}
use lib.ListN.{length}
use borrow.Author.Tests.{le-ltb, lt-ltb, eq-eqb, eqb-true}
use Rattle.lists.specs.Lists.{Mem, here}
use Rattle.lists.proofs.Numbers.{lt_or_le, and_left, and_right, and_both}
use Rattle.lists.proofs.Lists.{all_mem, pairs_at, mem_at, mem_right, mem_place}
use Rattle.history.specs.Words.{Operation, Block, HasCell, HoldsCell, line_of, cell_place, of_kind, live, live_of}
use Rattle.history.specs.Tree.{no_block}
use Rattle.history.specs.Ledger.{Ledger, opened, opens_kind, finished}
use Rattle.history.specs.Reads.{block_by, touches, touching_by, next_by, last_by}
use Rattle.history.specs.Refusals.{accepted, refused, touching_answer}
use Rattle.history.specs.Calls.{after_all, history}
use Rattle.history.specs.Law.{LastCall, Faithful}
use Rattle.history.specs.Sound.{Sound, SoundStretch}
use Rattle.history.proofs.Within.{within_in, within_true}
use Rattle.history.proofs.Value.{byte_cell, value_law}
use Rattle.history.proofs.EveryList.{every_list}
use Rattle.history.proofs.Touching.{live_holds, live_mem, live_numbers, touches_cell, touching_law, neighbours_law}
use Rattle.layout.specs.Tables.{Tables}
use Rattle.layout.specs.Encodes.{Encodes}
use Rattle.layout.specs.Reads.{values_of}
use Rattle.layout.specs.Relations.{opening_of, near_of}
use Rattle.layout.proofs.Opening.{open_accepted}
use Rattle.layout.proofs.ReadLaws.{opens_kind_lem, window_rest, neighbour_rest, into_gives, into_refuses}
use Rattle.demand.specs.Touching.{ListShows, TouchingShows, TouchingShown}
use Rattle.demand.proofs.Runs.{finished_encodes, demand}

-- ── the list shows the history ──

-- the last call that covers a cell is one of the history
last_mem : {h : List Operation} {kind t cell byte : ℕ} (c : LastCall h kind t cell byte) → Mem c.call h
last_mem c = subst (λ (x : List Operation). Mem c.call x) (sym c.is) (mem_right c.newer _ (here refl))

-- a block of the kind that is live and has the place of a cell holds the cell
live_cell : (store : List ℕ) (b : Block) → SoundStretch b.kind store b.stretch → (kind t cell : ℕ) → live_of kind t b ≡ true → HasCell b.stretch (cell_place kind cell)
    → HoldsCell kind t cell b
live_cell store b sound kind t cell mine has =
    let same : b.kind ≡ kind = eqb-true b.kind kind (and_left (of_kind kind b) (live t b) mine) in
    let lives = within_true b.created b.destroyed t (and_right (of_kind kind b) (live t b) mine) in
    let line = ap line_of same in
    record {
      same_kind = same;
      born = lives.0;
      alive = lives.1;
      from = omega (arith, has.from, line);
      below = omega (arith, has.below, sound.from_line, line);
    }

module _ (l : Ledger) (h : List Operation) (sound : Sound l) (done : finished l ≡ true) (faithful : Faithful l.opening.end l.now.blocks h) (kind t : ℕ)
    (before : t < l.opening.end) (s n : ℕ) where
  listed-number : (k : ℕ) → Mem k (touching_by l kind t s n) → k < length l.now.blocks
  listed-number k m = all_mem (live_numbers l sound done kind t (touches s n)) m

  listed_block : (k : ℕ) → Mem k (touching_by l kind t s n) → Mem (block_by l k) l.now.blocks
  listed_block k m = mem_at no_block l.now.blocks k (listed-number k m)

  -- a listed block that has the cell holds it
  listed_holds : (k cell : ℕ) → Mem k (touching_by l kind t s n) → HasCell (block_by l k).stretch (cell_place kind cell) → HoldsCell kind t cell (block_by l k)
  listed_holds k cell m has =
      live_cell l.now.store (block_by l k) (all_mem sound.board.blocks (listed_block k m)).stretch kind t cell
      (and_left (live_of kind t (block_by l k)) (touches s n (block_by l k)) (live_holds l sound done kind t (touches s n) k m)) has

  pub list_shows : ListShows l h kind t s n
  list_shows = record {
    listed = λ cell byte from below e.
        let call = value_law.some_then h kind t cell byte e in
        let holder = faithful.kept kind t cell before call.call (last_mem call) call.covered in
        let place = mem_place no_block holder.1 in
        let b = block_by l place.0 in
        let held : HoldsCell kind t cell b = rw place.2 holder.2 in (
          place.0,
          live_mem l sound done kind t (touches s n) place.0
              (and_both (of_kind kind b) (live t b) (eq-eqb b.kind kind held.same_kind) (within_in b.created b.destroyed t held.born held.alive))
              (touches_cell s n b cell from below held.from held.below),
          faithful.byte kind t cell before b (mem_at no_block l.now.blocks place.0 place.1) held ∙ e,
        );
    shown = λ cell byte k m e.
        sym (faithful.byte kind t cell before (block_by l k) (listed_block k m) (listed_holds k cell m (byte_cell (cell_place kind cell) (block_by l k).stretch byte e))) ∙ e;
    one = λ cell j k a b p q.
        elim (lt_or_le j k) [
          | inl x ↦ absurd (pairs_at no_block faithful.apart j k x (listed-number k b) kind t cell (listed_holds j cell a p) (listed_holds k cell b q))
          | inr x ↦ elim (lt_or_le k j) [
            | inl y ↦ absurd (pairs_at no_block faithful.apart k j y (listed-number j a) kind t cell (listed_holds k cell b q) (listed_holds j cell a p))
            | inr y ↦ omega arith
          ]
        ];
  }

-- ── the calls ──

module _ (l : Ledger) (t : Tables) (e : Encodes t l) (done : finished l ≡ true) (kind : ℕ) (opens : opens_kind l kind ≡ true) (tick start stop room : ℕ)
    (before : tick < l.opening.end) (ordered : start ≤ stop) where
  touching_fits : length (touching_by l kind tick start stop) ≤ room → touching_answer l kind tick start stop room ≡ accepted (touching_by l kind tick start stop)
  touching_fits h =
      window_rest e done _ _ kind tick start stop (sym (opens_kind_lem e kind) ∙ opens) (omega (arith, e.end)) ordered
      ∙ rw (le-ltb room (length (touching_by l kind tick start stop)) h)

  touching_full : room < length (touching_by l kind tick start stop) → touching_answer l kind tick start stop room ≡ refused 16
  touching_full h =
      window_rest e done _ _ kind tick start stop (sym (opens_kind_lem e kind) ∙ opens) (omega (arith, e.end)) ordered
      ∙ rw (lt-ltb room (length (touching_by l kind tick start stop)) h)

-- tables that stand for a closed index whose lists show a history
pub touching_shows : (l : Ledger) (h : List Operation) (t : Tables) → Encodes t l → Sound l → finished l ≡ true → (kind : ℕ) → opens_kind l kind ≡ true
    → ((tick start stop : ℕ) → tick < l.opening.end → ListShows l h kind tick start stop) → TouchingShows l h t kind
touching_shows l h t e s done kind opens shows = record {
  touched = λ tick start stop out out' answer before ordered d room.
      into_gives (d.read.formed l e s) (touching_fits l t e done kind opens tick start stop (length out) before ordered room);
  no_room = λ tick start stop out out' answer before ordered d room.
      into_refuses (d.read.formed l e s) (touching_full l t e done kind opens tick start stop (length out) before ordered room);
  touching = λ tick start stop before. touching_law l s done kind opens tick start stop before;
  shows = shows;
  next = λ tick cell answer before d.
      (d.read.formed l e s).answered
      ∙ ap (values_of near_of) (neighbour_rest e done (next_by l kind tick cell) kind tick (sym (opens_kind_lem e kind) ∙ opens) (omega (arith, e.end)));
  last = λ tick cell answer before d.
      (d.read.formed l e s).answered
      ∙ ap (values_of near_of) (neighbour_rest e done (last_by l kind tick cell) kind tick (sym (opens_kind_lem e kind) ∙ opens) (omega (arith, e.end)));
  neighbours = λ tick cell before. neighbours_law l s done kind opens tick cell before;
}

pub touching_shown : TouchingShown
touching_shown end kinds some_tick end_most given-kinds t t₀ t' opening d ks given r done kind opens =
    let fed = opening_of end kinds t in
    let l = after_all (opened fed) ks in
    let h = history [] (opened fed) ks in
    let sound = (every_list fed (open_accepted fed some_tick end_most given-kinds.some_kind given-kinds.known) ks).law.sound.sound in
    let faithful = ((demand end kinds some_tick end_most given-kinds t t₀ opening d).done ks given t' r done).cells in
    touching_shows l h t' (finished_encodes end kinds some_tick end_most given-kinds t t₀ opening d r done) sound done kind opens
    (λ tick start stop before. list_shows l h sound done faithful kind tick before start stop)
