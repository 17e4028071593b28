-- Longer tables stand for the same ledger, and are well formed again. Assumes nothing.
use mathlib.Core.Path.{◌≡◌, ap, sym, ◌∙◌}
use mathlib.Core.Option.{Option, none, some}
use mathlib.Core.List.{List, ◌++◌}
use Prim.Native.Nat.{ℕ}
use native.Mathlib.Omega.{arith}
use lib.ListN.{length, take, replicate, replicate-append-replicate}
use lib.Seq.{take-append-le}
use Rattle.history.specs.Lent.{Lent}
use Rattle.history.specs.Tree as segment
use Rattle.history.specs.Ledger.{Ledger}
use Rattle.history.specs.Sound.{SoundBoard, SoundTrees, Sound, SoundForFinish}
use Rattle.tables.specs.Columns.{head_state, head_end, head_kinds, head_count, head_used, head_last}
use Rattle.day_table.proofs.DayLists.{days_kept}
use Rattle.calendar_table.proofs.Calendars.{calendar_kept}
use Rattle.layout.specs.Tables.{Tables, lengths_of, head_at}
use Rattle.layout.specs.Encodes.{TreesIn, Encodes}
use Rattle.layout.specs.Formed.{Blank}
use Rattle.layout.proofs.Lengths.{lent_same, heads_fit}
use Rattle.layout.proofs.Pieces.{used_fits}
use Rattle.growth.specs.Longer.{zeros_behind, longer, lengthened, lent_more, LongerTables}
use Rattle.growth.proofs.Extending.{Extends, zeros-length, zeros_extend, links_kept, inside_kept, pieces_kept, blocks_kept, stored_kept, unordered_kept, closed_kept}
use Rattle.growth.proofs.Answering.{longer-heads, reads_alike, takes_alike}

-- ── the tables ──

-- longer tables have longer lengths
pub longer-lengths : (more : Lent) (t : Tables) → lengthened more (lengths_of t) ≡ lengths_of (longer more t)
longer-lengths more t =
    lent_same (lengthened more (lengths_of t)) (lengths_of (longer more t)) (sym (zeros-length more.pieces t.pieces))
    (sym (zeros-length more.blocks t.blocks)) (sym (zeros-length more.store t.store)) (sym (zeros-length more.nodes t.nodes))
    (sym (zeros-length more.entries t.entries))

head_kept : (more : Lent) (t : Tables) (c : ℕ) → head_at (longer more t) c ≡ head_at t c
head_kept more t c = (zeros_extend more.blocks t.blocks).same _

module _ (more : Lent) (t : Tables) (l : Ledger) (e : Encodes t l) where
  abbrev pieces_longer : Extends t.pieces (longer more t).pieces
  pieces_longer = zeros_extend more.pieces t.pieces

  abbrev blocks_longer : Extends t.blocks (longer more t).blocks
  blocks_longer = zeros_extend more.blocks t.blocks

  abbrev same : (c : ℕ) → head_at (longer more t) c ≡ head_at t c
  same = head_kept more t

  store_kept : take (head_at t head_used) (longer more t).store ≡ take (head_at t head_used) t.store
  store_kept = take-append-le (head_at t head_used) t.store _ (used_fits t l e)

  trees_kept : (trees : Option (List segment.Tree)) → TreesIn t l trees → TreesIn (longer more t) (lent_more more l) trees
  trees_kept none h = unordered_kept blocks_longer h
  trees_kept (some trees) h = closed_kept blocks_longer (zeros_extend more.nodes t.nodes) (zeros_extend more.entries t.entries) h

  pub longer_stand : Encodes (longer more t) (lent_more more l)
  longer_stand =
      record {
        lengths = ap (lengthened more) e.lengths ∙ longer-lengths more t;
        heads = rw (← longer-lengths more t) (longer-heads more (lengths_of t) e.heads);
        state = same head_state ∙ e.state;
        end = same head_end ∙ e.end;
        mask = rw (same head_kinds) e.mask;
        kinds = rw (same head_kinds) e.kinds;
        last = same head_last ∙ e.last;
        used = same head_used ∙ e.used;
        store = rw (same head_used) (e.store ∙ sym store_kept);
        count = same head_count ∙ e.count;
        blocks = rw (same head_count) (e.blocks ∙ sym (blocks_kept blocks_longer t.store _ _ _ e.blocks_stored store_kept));
        blocks_stored = rw (same head_count, same head_used) (stored_kept blocks_longer e.blocks_stored);
        pieces = record {
          links = e.pieces.links;
          linked = links_kept pieces_longer e.pieces.linked;
          shows = e.pieces.shows ∙ sym (pieces_kept pieces_longer t.store _ _ store_kept e.pieces.stored);
          stored = rw (same head_used) (inside_kept pieces_longer _ e.pieces.stored);
        };
        trees = trees_kept l.trees e.trees;
        calendar = calendar_kept t.blocks (longer more t).blocks l.calendar (λ i _ _. blocks_longer.same i) e.calendar;
        days =
            let h = heads_fit (lengths_of t) e.heads in
            days_kept t.blocks (longer more t).blocks l.days (omega (arith, h.blocks)) (omega (arith, h.blocks, zeros-length more.blocks t.blocks))
            (λ i _ _. blocks_longer.same i) e.days;
      }

-- ── the ledger ──

board_more : (more : Lent) (l : Ledger) → SoundBoard l → SoundBoard (lent_more more l)
board_more more l s =
    record {
      some_tick = s.some_tick;
      end_most = s.end_most;
      known_kinds = s.known_kinds;
      last_below_end = s.last_below_end;
      pieces = s.pieces;
      in_order = s.in_order;
      blocks = s.blocks;
      pieces_fit = omega (arith, s.pieces_fit);
      blocks_fit = omega (arith, s.blocks_fit);
      store_fits = omega (arith, s.store_fits);
      calendar-taken = s.calendar-taken;
      days_taken_lem = s.days_taken_lem;
    }

trees_more : (more : Lent) (l : Ledger) (trees : Option (List segment.Tree)) → SoundTrees l trees → SoundTrees (lent_more more l) trees
trees_more more l none s = s
trees_more more l (some trees) s =
    record {
      no_pieces = s.no_pieces;
      five = s.five;
      each = s.each;
      rule_24 = s.rule_24;
      nodes_fit = omega (arith, s.nodes_fit);
      entries_fit = omega (arith, s.entries_fit);
    }

pub sound_more : (more : Lent) (l : Ledger) → Sound l → Sound (lent_more more l)
sound_more more l s = record { board = board_more more l s.board; closed = trees_more more l l.trees s.closed }

pub sound_for_finish_more : (more : Lent) (l : Ledger) → SoundForFinish l → SoundForFinish (lent_more more l)
sound_for_finish_more more l s = record { sound = sound_more more l s.sound; apart = s.apart }

-- ── well formed ──

zeros-zeros : (more : ℕ) (t : List ℕ) → t ≡ replicate (length t) 0 → zeros_behind more t ≡ replicate (length (zeros_behind more t)) 0
zeros-zeros more t z =
    ap (λ (l : List ℕ). l ++ replicate more 0) z
    ∙ replicate-append-replicate (length t) more 0
    ∙ ap (λ (n : ℕ). replicate n 0) (sym (zeros-length more t))

blank_more : (more : Lent) (t : Tables) → Blank t → Blank (longer more t)
blank_more more t b = record { nodes = zeros-zeros more.nodes t.nodes b.nodes; entries = zeros-zeros more.entries t.entries b.entries }

pub longer-tables : LongerTables
longer-tables = record {
  stand = longer_stand;
  head = head_kept;
  sound = sound_more;
  sound_for_finish = sound_for_finish_more;
  formed = λ more t w. record {
    ledger = lent_more more w.ledger;
    encodes = longer_stand more t w.ledger w.encodes;
    sound = sound_more more w.ledger w.sound;
  };
  formed_for_finish = λ more t w. record {
    ledger = lent_more more w.ledger;
    encodes = longer_stand more t w.ledger w.encodes;
    sound = sound_for_finish_more more w.ledger w.sound;
    blank = λ unfinished. blank_more more t (w.blank unfinished);
  };
  reads = reads_alike;
  takes = takes_alike;
}
