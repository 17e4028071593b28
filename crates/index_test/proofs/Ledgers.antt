-- Tables that pass as a board stand for a ledger, and the tables of a sound ledger pass. Assumes nothing.
use mathlib.Core.Path.{◌≡◌, refl, ap, sym, ◌∙◌, subst}
use mathlib.Core.Option.{Option}
use mathlib.Core.List.{List, map}
use Prim.Native.Nat.{ℕ, zero, suc, ◌+◌, ◌^◌, ◌≤◌, ◌<◌}
use native.Mathlib.Omega.{arith}
use lib.ListN.{length, get_or, take, drop, length-take, length-drop}
use lib.Seq.{length-take-le}
use Rattle.lists.specs.Lists.{All}
use Rattle.lists.proofs.Lists.{all_at, all_of_at, all_map, all_of_map, all_un_map, all_both}
use Rattle.lists.proofs.Maps.{length_of_map, map-map}
use Rattle.history.specs.Words.{Block, size}
use Rattle.history.specs.Tree as segment
use Rattle.history.specs.Tree.{no_block}
use Rattle.history.specs.Ledger.{Ledger, opening_for}
use Rattle.history.specs.Sound.{SoundBlock, SoundBoard, InOrder}
use Rattle.tables.specs.Masks.{kinds_in}
use Rattle.tables.proofs.Masks.{kinds_has}
use Rattle.kind_mask.proofs.Masks.{none-none, mask_sound}
use Rattle.tables.specs.Columns.{column, pieces_count, head_state, head_end, head_kinds, head_count, head_used, head_last}
use Rattle.block_table.specs.Blocks.{blocks_of, block_of_row, length_at, offset_at, owner_at}
use Rattle.block_table.proofs.Blocks.{blocks_length, blocks_at}
use Rattle.block_table.specs.Rows.{Bounds, RowSound}
use Rattle.piece_table.specs.Piece.{piece_at, Filled}
use Rattle.piece_table.specs.Shown.{shown}
use Rattle.piece_table.specs.Test as piece
use Rattle.piece_table.proofs.Order.{follow_filled}
use Rattle.day_table.proofs.DayLists.{days_held, formed_days, days_formed}
use Rattle.calendar_table.proofs.Calendars.{calendar_held, formed_held, formed_installable, held_formed}
use Rattle.layout.specs.Tables.{Tables, lengths_of, head_at}
use Rattle.layout.specs.Encodes.{Encodes, TreesIn, state_of}
use Rattle.layout.proofs.Pieces.{used_fits, pieces_formed, shown_sound, follow_order, part_front}
use Rattle.index_test.specs.Board.{bounds_of, BoardFormed}

-- ── rows and blocks ──

-- a row whose bytes are in the store has as many cells as it says
row_size : (store blocks : List ℕ) (link : ℕ) → offset_at blocks link + length_at blocks link ≤ length store → size (block_of_row store blocks link).stretch ≡ length_at blocks link
unfolding block_of_row
row_size store blocks link h = length-take-le (length_at blocks link) (drop (offset_at blocks link) store) (omega (arith, length-drop (offset_at blocks link) store))

row_block : (b : Bounds) (store blocks : List ℕ) (link : ℕ) → b.used ≤ length store → RowSound blocks b link → SoundBlock (kinds_in b.kinds) b.end (take b.used store) (block_of_row store blocks link)
unfolding block_of_row
row_block b store blocks link fits r =
    let n = row_size store blocks link (omega (arith, r.stored)) in
    record {
      stretch = record {
        some_cell = omega (arith, r.some_cell);
        from_line = omega arith;
        no_wrap = omega (arith, r.no_wrap);
        stored = record {
          offset = offset_at blocks link;
          inside = omega (arith, r.stored, length-take-le b.used store fits);
          bytes = rw n (sym (part_front (offset_at blocks link) (length_at blocks link) b.used store r.stored));
        };
      };
      forward = r.forward;
      by_end = r.by_end;
      own_kind = kinds_has b.kinds (owner_at blocks link) ∙ r.own_kind;
    }

block_row : (b : Bounds) (part store blocks : List ℕ) (link : ℕ) → b.used ≤ length store → offset_at blocks link + length_at blocks link ≤ b.used
    → SoundBlock (kinds_in b.kinds) b.end part (block_of_row store blocks link) → RowSound blocks b link
unfolding block_of_row
block_row b part store blocks link fits inside s =
    let n = row_size store blocks link (omega arith) in
    record {
      some_cell = omega (arith, s.stretch.some_cell);
      no_wrap = omega (arith, s.stretch.no_wrap);
      stored = inside;
      forward = s.forward;
      by_end = s.by_end;
      own_kind = sym (kinds_has b.kinds (owner_at blocks link)) ∙ s.own_kind;
    }

-- ── the ledger of tables ──

-- what tables that pass as a board stand for: the pieces are those of the links; with its trees
unfoldable pub ledger_of : (t : Tables) (links : List ℕ) → Option (List segment.Tree) → Ledger
ledger_of t links trees =
    record {
      opening = opening_for (head_at t head_end) (kinds_in (head_at t head_kinds)) (lengths_of t);
      now = record {
        pieces = map (λ link. shown t.store (piece_at t.pieces link)) links;
        blocks = blocks_of t.store t.blocks (head_at t head_count);
        last = head_at t head_last;
        store = take (head_at t head_used) t.store;
      };
      trees = trees;
      calendar = calendar_held t.blocks;
      days = days_held t.blocks;
    }

module _ (t : Tables) (b : BoardFormed t) where
  unfoldable pub board_links : List ℕ
  board_links = b.pieces.rep.links

  same_rows : map (piece_at t.pieces) b.pieces.rep.links ≡ b.pieces.pieces
  same_rows = b.pieces.rep.pieces

  links_allowed : All (λ link. piece.Allowed (head_at t head_kinds) (head_at t head_used) (head_at t head_last) (piece_at t.pieces link)) b.pieces.rep.links
  links_allowed = all_un_map (piece_at t.pieces) b.pieces.rep.links (subst (All (piece.Allowed (head_at t head_kinds) (head_at t head_used) (head_at t head_last))) (sym same_rows) b.pieces.allowed)

  links_filled : All (λ link. Filled (piece_at t.pieces link)) b.pieces.rep.links
  links_filled = all_un_map (piece_at t.pieces) b.pieces.rep.links (follow_filled 0 (map (piece_at t.pieces) b.pieces.rep.links) b.pieces.rep.linked.order)

  pub board_encodes : (trees : Option (List segment.Tree)) → head_at t head_state ≡ state_of trees → TreesIn t (ledger_of t board_links trees) trees → Encodes t (ledger_of t board_links trees)
  unfolding ledger_of board_links
  board_encodes trees state in-trees = record {
    lengths = refl;
    heads = b.heads;
    state = state;
    end = refl;
    mask = omega (arith, b.numbers.kinds_most);
    kinds = refl;
    last = refl;
    used = sym (length-take-le (head_at t head_used) t.store b.numbers.used_fits);
    store = refl;
    count = sym (blocks_length t.store t.blocks (head_at t head_count));
    blocks = refl;
    blocks_stored = record { inside = λ link p q. (b.rows.rows link p q).stored };
    pieces = record {
      links = b.pieces.rep.links;
      linked = b.pieces.rep.linked.dense;
      shows = refl;
      stored = all_map (λ link x. x.inside) links_allowed;
    };
    trees = in-trees;
    calendar = formed_held t.blocks b.calendar;
    days = formed_days t.blocks b.days;
  }

  pub board_sound : (trees : Option (List segment.Tree)) → SoundBoard (ledger_of t board_links trees)
  unfolding ledger_of board_links
  board_sound trees =
      let n = b.numbers in
      let fits = n.used_fits in
      let counted : length b.pieces.rep.links ≡ column t.pieces 0 pieces_count = b.pieces.rep.linked.dense.count in
      record {
        some_tick = n.some_tick;
        end_most = n.end_most;
        known_kinds = mask_sound (head_at t head_kinds) n.some_kind (omega (arith, n.kinds_most));
        last_below_end = n.last_below_end;
        pieces =
            all_of_map (λ link. shown t.store (piece_at t.pieces link))
            (all_both (λ link f x. shown_sound (head_at t head_kinds) t.store (head_at t head_used) (ledger_of t b.pieces.rep.links trees) (piece_at t.pieces link) fits refl f x) links_filled links_allowed);
        in_order =
            subst InOrder (map-map (shown t.store) (piece_at t.pieces) b.pieces.rep.links)
            (follow_order t.store 0 (map (piece_at t.pieces) b.pieces.rep.links) (all_of_map (piece_at t.pieces) (all_map (λ link x. omega (arith, x.inside)) links_allowed))
            b.pieces.rep.linked.order);
        blocks =
            all_of_at no_block (blocks_of t.store t.blocks (head_at t head_count))
            (λ k h. let z = blocks_length t.store t.blocks (head_at t head_count) in
            rw (blocks_at t.store t.blocks (head_at t head_count) k no_block (omega arith))
            (row_block (bounds_of t) t.store t.blocks (suc k) fits (b.rows.rows (suc k) (omega arith) (omega arith))));
        pieces_fit = omega (arith, length_of_map (λ link. shown t.store (piece_at t.pieces link)) b.pieces.rep.links, b.pieces.rep.linked.dense.room);
        blocks_fit = omega (arith, length_of_map (λ link. shown t.store (piece_at t.pieces link)) b.pieces.rep.links, blocks_length t.store t.blocks (head_at t head_count), n.rows_fit);
        store_fits = omega (arith, length-take (head_at t head_used) t.store);
        calendar-taken = formed_installable t.blocks b.calendar;
        days_taken_lem = b.days.taken;
      }

-- ── the tables of a sound ledger pass ──

pub board_formed : (t : Tables) (l : Ledger) → Encodes t l → SoundBoard l → length t.pieces < 2 ^ 64 → length t.store < 2 ^ 64 → BoardFormed t
board_formed t l e s few fits =
    let used = used_fits t l e in
    let lent : l.opening.lent ≡ lengths_of t = e.lengths in
    record {
      heads = e.heads;
      numbers = record {
        some_tick = omega (arith, s.some_tick, e.end);
        end_most = omega (arith, s.end_most, e.end);
        some_kind = none-none (head_at t head_kinds) (rw e.kinds at s.known_kinds.some_kind);
        kinds_most = omega (arith, e.mask);
        last_below_end = omega (arith, s.last_below_end, e.end, e.last);
        used_fits = used;
        rows_fit = omega (arith, e.count, e.pieces.linked.count, pieces_length, rw lent at s.blocks_fit);
      };
      calendar = held_formed t.blocks l.calendar e.calendar s.calendar-taken;
      days = days_formed t.blocks l.days e.days s.days_taken_lem;
      rows = record { rows = row };
      pieces = pieces_formed t l e s few fits;
    }
  where
    pieces_length : length l.now.pieces ≡ length e.pieces.links
    pieces_length = ap length e.pieces.shows ∙ length_of_map (λ link. shown t.store (piece_at t.pieces link)) e.pieces.links

    row : (link : ℕ) → 0 < link → link ≤ head_at t head_count → RowSound t.blocks (bounds_of t) link
    row zero p q = absurd (omega arith)
    row (suc k) p q =
        let n = head_at t head_count in
        let sound : SoundBlock l.opening.kinds l.opening.end l.now.store (get_or l.now.blocks k no_block) = all_at no_block s.blocks k (omega (arith, e.count)) in
        let here : get_or l.now.blocks k no_block ≡ block_of_row t.store t.blocks (suc k) = ap (λ (bs : List Block). get_or bs k no_block) e.blocks ∙ blocks_at t.store t.blocks n k no_block (omega arith) in
        block_row (bounds_of t) l.now.store t.store t.blocks (suc k) (used_fits t l e) (e.blocks_stored.inside (suc k) p q)
        (rw (← e.kinds, e.end) (rw here at sound))
