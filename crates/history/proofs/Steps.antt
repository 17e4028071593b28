-- Soundness, kept by opening, a read and an update; rule 24 from the law of cells. Assumes nothing.
use mathlib.Core.Path.{◌≡◌, refl}
use mathlib.Core.Bool.{true}
use mathlib.Core.Option.{Option, none, some}
use mathlib.Core.List.{List, Option-to_list}
use Prim.Native.Nat.{ℕ, ◌+◌, ◌-◌, ◌^◌, ◌≤◌, ◌<◌}
use native.Mathlib.Omega.{arith}
use lib.ListN.{length}
use Rattle.lists.specs.Lists.{All, all_nil, pairs_nil, has}
use Rattle.lists.proofs.Lists.{all_append, all_map, all_of_map}
use Rattle.history.specs.Words.{Stretch, Operation, Piece, Block, ends, piece_of, block_of, stretch_of}
use Rattle.history.specs.Ledger.{Opening, Moment, Ledger, with_now, opened, read_by, update_by, settled}
use Rattle.history.specs.Rules.{Apart}
use Rattle.history.specs.Days.{rises_from, days_taken}
use Rattle.history.specs.Sound.{SoundStretch, SoundPiece, SoundBlock, SoundBoard}
use Rattle.history.proofs.Parts.{PartOf, all_inside, all_updated, in-order-updated}
use Rattle.history.proofs.Storing.{stored_part, stored_append, stored_new}
use Rattle.history.proofs.ByKind.{told, set_sound}
use Rattle.history.proofs.Cells.{Shown}
use Rattle.history.proofs.Apart.{apart}
use Rattle.history.proofs.Passing.{Opens, Room}

-- ── rule 24 follows from the law of cells ──

once : (x : Option ℕ) → length (Option-to_list x) ≤ 1
unfolding Option-to_list
once none = omega arith
once (some b) = omega arith

-- what holds of the blocks, and of the pieces as blocks destroyed at E
pub all_settled : (e : ℕ) (m : Moment) (Q : Block → Type 0) → All Q m.blocks → All (λ (p : Piece). Q (block_of e p)) m.pieces → All Q (settled e m)
unfolding settled
all_settled e m Q x y = all_append x (all_of_map (block_of e) y)

-- a piece is a sound block when it is destroyed at or after the last tick, by E
pub block_of_piece : (kinds : List ℕ) (e D : ℕ) (m : Moment) (p : Piece) → m.last ≤ D → D ≤ e → SoundPiece kinds m p → SoundBlock kinds e m.store (block_of D p)
block_of_piece kinds e D m p x y g = record { stretch = g.stretch; forward = omega (arith, g.written_by_last); by_end = y; own_kind = g.own_kind }

-- rule 24, where each cell shows one byte or none
pub shown-apart : (a : Opening) (m : Moment) (h : List Operation) → Shown a m h → All (SoundBlock a.kinds a.end m.store) (settled a.end m)
    → Apart (settled a.end m)
shown-apart a m h s g = apart a.end (all_map (λ b x. x.by_end) g) (λ t c p. rw (s t c p) (once (told h t c)))

-- ── soundness, kept by a read and an update ──

module _ (l : Ledger) (o : Operation) (s : SoundBoard l) (before_end : o.tick < l.opening.end) (not_back : l.now.last ≤ o.tick) where
  abbrev a : Opening
  a = l.opening

  abbrev m : Moment
  m = l.now

  pub read_sound : SoundBoard (with_now (read_by m o) l)
  unfolding read_by
  read_sound = record {
    some_tick = s.some_tick;
    end_most = s.end_most;
    known_kinds = s.known_kinds;
    last_below_end = before_end;
    pieces = all_map (λ p g. record { stretch = g.stretch; written_by_last = omega (arith, g.written_by_last); own_kind = g.own_kind }) s.pieces;
    in_order = s.in_order;
    blocks = s.blocks;
    pieces_fit = s.pieces_fit;
    blocks_fit = s.blocks_fit;
    store_fits = s.store_fits;
    calendar-taken = s.calendar-taken;
    days_taken_lem = s.days_taken_lem;
  }

  next : Moment
  next = update_by m o

  longer : (kind : ℕ) (r : Stretch) → SoundStretch kind m.store r → SoundStretch kind next.store r
  unfolding next update_by
  longer kind r x = record { some_cell = x.some_cell; from_line = x.from_line; no_wrap = x.no_wrap; stored = stored_append m.store o.bytes r x.stored }

  -- a part of a sound piece is a sound piece of the board that the update leaves
  part_sound : (from to : ℕ) (p q : Piece) → PartOf from to p q → SoundPiece a.kinds m p → SoundPiece a.kinds next q
  unfolding next update_by
  part_sound from to p q x g = record {
    stretch = longer q.kind q.stretch (record {
      some_cell = x.some_cell;
      from_line = rw x.same_kind (omega (arith, x.from_first, g.stretch.from_line));
      no_wrap = rw x.same_kind (omega (arith, x.to_end, g.stretch.no_wrap));
      stored = stored_part m.store from to p q x g.stretch.stored;
    });
    written_by_last = omega (arith, x.same_tick, g.written_by_last);
    own_kind = rw x.same_kind g.own_kind;
  }

  -- what holds of the old blocks, and of each part of a piece that becomes one
  pub new_blocks : (Q : Block → Type 0) → ((q : Piece) → SoundPiece a.kinds (update_by m o) q → Q (block_of o.tick q)) → All Q m.blocks → All Q (update_by m o).blocks
  unfolding next update_by
  new_blocks Q f b =
      all_append b
      (all_of_map (block_of o.tick)
      (all_inside (SoundPiece a.kinds m) (λ q. Q (block_of o.tick q)) (stretch_of o).first (ends (stretch_of o)) m.pieces (λ p q x g. f q (part_sound _ _ p q x g)) s.pieces))

  own-piece : has o.kind a.kinds ≡ true → 0 < length o.bytes → o.first + length o.bytes ≤ 2 ^ 64 - 1 → SoundPiece a.kinds next (piece_of o)
  unfolding next update_by stretch_of
  own-piece own cells wrap = record {
    stretch = record { some_cell = cells; from_line = omega arith; no_wrap = omega arith; stored = stored_new m.store o };
    written_by_last = omega arith;
    own_kind = own;
  }

  all_pieces : SoundPiece a.kinds next (piece_of o) → All (SoundPiece a.kinds next) next.pieces
  unfolding next update_by
  all_pieces own = all_updated o m.pieces (SoundPiece a.kinds m) (SoundPiece a.kinds next) part_sound own s.pieces

  pub update_sound : has o.kind a.kinds ≡ true → 0 < length o.bytes → o.first + length o.bytes ≤ 2 ^ 64 - 1 → Room a.lent (update_by m o) → SoundBoard (with_now (update_by m o) l)
  unfolding next update_by
  update_sound own cells wrap r = record {
    some_tick = s.some_tick;
    end_most = s.end_most;
    known_kinds = s.known_kinds;
    last_below_end = before_end;
    pieces = all_pieces (own-piece own cells wrap);
    in_order = in-order-updated o m.pieces s.in_order;
    blocks = new_blocks (SoundBlock a.kinds a.end next.store) (λ q g. block_of_piece a.kinds a.end o.tick next q (omega arith) (omega arith) g)
        (all_map (λ b x. record { stretch = longer b.kind b.stretch x.stretch; forward = x.forward; by_end = x.by_end; own_kind = x.own_kind }) s.blocks);
    pieces_fit = r.pieces;
    blocks_fit = r.blocks;
    store_fits = r.store;
    calendar-taken = s.calendar-taken;
    days_taken_lem = s.days_taken_lem;
  }

-- each piece counted as live up to E
pub settled_sound : (l : Ledger) → SoundBoard l → All (SoundBlock l.opening.kinds l.opening.end l.now.store) (settled l.opening.end l.now)
settled_sound l s =
    all_settled l.opening.end l.now (SoundBlock l.opening.kinds l.opening.end l.now.store) s.blocks
    (all_map (λ p g. block_of_piece l.opening.kinds l.opening.end l.opening.end l.now p (omega (arith, s.last_below_end)) (omega arith) g) s.pieces)

pub opened_sound : (a : Opening) → Opens a → SoundBoard (opened a)
unfolding opened days_taken rises_from
opened_sound a o = record {
  some_tick = o.some_tick;
  end_most = o.end_most;
  known_kinds = set_sound a.kinds o.some_kind o.known_kinds;
  last_below_end = omega (arith, o.some_tick);
  pieces = all_nil;
  in_order = pairs_nil;
  blocks = all_nil;
  pieces_fit = omega arith;
  blocks_fit = omega arith;
  store_fits = omega arith;
  calendar-taken = tt;
  days_taken_lem = refl;
}
