-- The tables of a sound board: pieces, blocks and store, with any order column, node and entry table. Assumes nothing.
use mathlib.Core.Path.{◌≡◌, ap, sym, ◌∙◌, subst}
use mathlib.Core.Bool.{false}
use mathlib.Core.Logic.{inl}
use mathlib.Core.Option.{Option, none, some}
use mathlib.Core.List.{List, [], ◌∷◌, ◌++◌}
use Prim.Native.Nat.{ℕ, zero, suc, ◌+◌, ◌-◌, ◌*◌, ◌^◌, ◌≤◌, ◌<◌}
use native.Mathlib.Omega.{arith}
use lib.ListN.{length, get_or, replicate, length-append, length-replicate}
use lib.Seq.{sets, length-sets, get_or-set_same, take-append_seam}
use Rattle.lists.specs.Lists.{All, all_nil, all_cons, count_from}
use Rattle.lists.proofs.Lists.{all_append, all_both, all_of_map, all_un_map, count_from_length}
use Rattle.lists.proofs.Counting.{all_count_from}
use Rattle.lists.proofs.Maps.{length_of_map}
use Rattle.lists.proofs.Stores.{get_d_sets_out}
use Rattle.history.specs.Lent.{row_width, block_head, too_short}
use Rattle.history.specs.Words.{Piece, Block}
use Rattle.history.specs.Tree as segment
use Rattle.history.specs.Days.{Day, most_days, days_of}
use Rattle.history.specs.Hours.{Calendar, calendar_width}
use Rattle.history.specs.Ledger.{Ledger}
use Rattle.history.specs.Sound.{SoundPiece, SoundBlock, SoundBoard}
use Rattle.tables.specs.Columns.{head_state, head_end, head_kinds, head_count, head_used, head_last, block_base, front_calendar, front_days, front_mark_count}
use Rattle.history.proofs.ByKind.{kind_known, set_same}
use Rattle.history.proofs.DaysRising.{days_taken_decides}
use Rattle.block_table.specs.Blocks.{BlockRow, shown_block}
use Rattle.piece_table.specs.Piece.{PieceRow}
use Rattle.piece_table.specs.Shown.{shown}
use Rattle.day_table.specs.DayLists.{DaysIn, day_numbers}
use Rattle.day_table.proofs.DayLists.{days_installed_in_lem}
use Rattle.calendar_table.specs.Calendars.{CalendarIn, calendar_numbers}
use Rattle.calendar_table.proofs.Calendars.{calendar-none, calendar_kept, written-length, installed_in_lem}
use Rattle.kind_mask.specs.Masks.{mask_of}
use Rattle.layout.specs.Tables.{Tables, tables, lengths_of, head_at}
use Rattle.layout.specs.Encodes.{state_of, Encodes, TreesIn}
use Rattle.layout.specs.Law.{Word, Fits, NoneOrOfWords, DaysOfWords, Lendable}
use Rattle.kind_mask.proofs.Masks.{mask_below, mask_kinds}
use Rattle.layout.proofs.Lengths.{lent_same, Heads, heads_fit}
use Rattle.layout.proofs.ExistsTable.{table_by, table_by_length, word_at}
use Rattle.layout.proofs.ExistsPieces.{PieceRows, piece-rows, piece_table, piece_table_length, piece_links, pieces_shown, pieces_inside, PieceWords, piece_table_words}
use Rattle.layout.proofs.ExistsBlocks.{BlockRows, block_rows_lem, Head, block_row, block_table, block_table_length, block_column_lem, blocks_shown, blocks_inside, RowWords, HeadWords, block_table_words}

-- ── the board ──

-- zeros behind the used part of the store
unfoldable pub unused : Ledger → List ℕ
unused l = replicate (l.opening.lent.store - length l.now.store) 0

-- what the front holds of the ledger's calendar: its flag and its numbers
pub record CalendarPart (x : Option Calendar) : Type 0 where
  pub numbers : List ℕ
  pub fits : front_calendar + length numbers ≤ front_days
  pub words : All Word numbers
  pub there : (blocks : List ℕ) → front_days ≤ length blocks → CalendarIn (sets blocks front_calendar numbers) x

-- of its days: their count and their numbers
pub record DaysPart (days : List Day) : Type 0 where
  pub numbers : List ℕ
  pub fits : front_days + length numbers ≤ front_mark_count
  pub words : All Word numbers
  pub there : (blocks : List ℕ) → front_mark_count ≤ length blocks → DaysIn (sets blocks front_days numbers) days

pub record Front (l : Ledger) : Type 0 where
  pub calendar : CalendarPart l.calendar
  pub days : DaysPart l.days

-- the numbers of a calendar are words, as those are that it was made of
written_words : {ns : List ℕ} → All Word ns → All Word (calendar_numbers ns)
written_words a = all_of_map _ (all_count_from 0 calendar_width (λ i p q. word_at a i))

calendar-part : (x : Option Calendar) → NoneOrOfWords x → CalendarPart x
calendar-part none w = record {
  numbers = 0 ∷ [];
  fits = omega arith;
  words = all_cons {x = 0} (omega arith) all_nil;
  there = λ blocks room. calendar-none (sets blocks front_calendar (0 ∷ [])) (get_or-set_same blocks front_calendar 0 0 (omega arith));
}
calendar-part (some c) w = record {
  numbers = 1 ∷ calendar_numbers w.numbers;
  fits = omega (arith, written-length w.numbers);
  words = all_cons {x = 1} (omega arith) (written_words w.words);
  there = λ blocks room. rw (← w.is) (installed_in_lem blocks w.numbers room);
}

days_part : (days : List Day) → DaysOfWords days → length days ≤ most_days → DaysPart days
days_part days w few =
    let short : length (days_of w.numbers) ≤ most_days = rw w.is few in
    record {
      numbers = length (days_of w.numbers) ∷ day_numbers w.numbers;
      fits = omega (arith, length_of_map (λ j. get_or w.numbers j 0) (count_from 0 (2 * most_days)), count_from_length 0 (2 * most_days));
      words = all_cons {x = length (days_of w.numbers)} (omega arith) (all_of_map _ (all_count_from 0 (2 * most_days) (λ i p q. word_at w.words i)));
      there = λ blocks room. rw (← w.is) (days_installed_in_lem blocks w.numbers room short);
    }

pub front_of : (l : Ledger) → SoundBoard l → Lendable l → Front l
front_of l s f = record {
  calendar = calendar-part l.calendar f.calendar;
  days = days_part l.days f.days ((days_taken_decides l.days).yes s.days_taken_lem).few;
}

unfoldable pub head_of : (l : Ledger) → Front l → Head
head_of l w = record {
  state = state_of l.trees;
  end = l.opening.end;
  kinds = mask_of l.opening.kinds;
  used = length l.now.store;
  last = l.now.last;
  calendar = w.calendar.numbers;
  calendar-fits = w.calendar.fits;
  days = w.days.numbers;
  days_fit = w.days.fits;
}

module _ (l : Ledger) (s : SoundBoard l) where
  -- pieces and blocks with the offsets of their bytes
  pub piece_rows_of : PieceRows (l.now.store ++ unused l) (length l.now.store) l.now.pieces
  piece_rows_of = piece-rows l.opening.kinds l.now (unused l) l.now.pieces s.pieces

  pub block_rows_of : BlockRows (l.now.store ++ unused l) (length l.now.store) l.now.blocks
  block_rows_of = block_rows_lem l.opening.kinds l.opening.end l.now.store (unused l) l.now.blocks s.blocks

  -- the tables of the board, with any order column, nodes and entries
  unfoldable pub tables_by : Front l → (nodes entries : List ℕ) → Tables
  tables_by w nodes entries =
      tables (piece_table l.opening.lent.pieces piece_rows_of.rows) (block_table l.opening.lent.blocks (head_of l w) block_rows_of.rows)
      (l.now.store ++ unused l) nodes entries

  -- as many rows as pieces and blocks, and there is room for them
  pub pieces_many : length piece_rows_of.rows ≡ length l.now.pieces
  pieces_many = sym (length_of_map (shown (l.now.store ++ unused l)) piece_rows_of.rows) ∙ ap length piece_rows_of.shows

  pub blocks_many : length block_rows_of.rows ≡ length l.now.blocks
  blocks_many = sym (length_of_map (shown_block (l.now.store ++ unused l)) block_rows_of.rows) ∙ ap length block_rows_of.shows

  store_long : length (l.now.store ++ unused l) ≡ l.opening.lent.store
  unfolding unused
  store_long =
      let more = length-replicate {A = ℕ} (l.opening.lent.store - length l.now.store) 0 in
      omega (arith, length-append l.now.store (unused l), s.store_fits)

  module _ (fits : too_short l.opening.lent ≡ false) where
    pub piece_room : row_width * length piece_rows_of.rows + row_width ≤ l.opening.lent.pieces
    piece_room = let h : Heads l.opening.lent = heads_fit l.opening.lent fits in omega (arith, pieces_many, s.pieces_fit, h.pieces)

    pub block_room : block_head + row_width * length block_rows_of.rows ≤ l.opening.lent.blocks
    block_room = let h : Heads l.opening.lent = heads_fit l.opening.lent fits in omega (arith, blocks_many, s.blocks_fit, h.blocks)

    module _ (w : Front l) (nodes entries : List ℕ) where
      head_column : (c : ℕ) → c < row_width → head_at (tables_by w nodes entries) c ≡ get_or (block_row (head_of l w) block_rows_of.rows 0) c 0
      unfolding tables_by
      head_column c h = block_column_lem l.opening.lent.blocks (head_of l w) block_rows_of.rows block_room 0 c (omega arith) h

      used_is : head_at (tables_by w nodes entries) head_used ≡ length l.now.store
      unfolding block_row head_of
      used_is = head_column head_used (omega arith)

      count_is : head_at (tables_by w nodes entries) head_count ≡ length block_rows_of.rows
      unfolding block_row head_of
      count_is = head_column head_count (omega arith)

      calendar_there : CalendarIn (block_table l.opening.lent.blocks (head_of l w) block_rows_of.rows) l.calendar
      unfolding block_table head_of
      calendar_there =
          let h : Heads l.opening.lent = heads_fit l.opening.lent fits in
          let rows = table_by block_base l.opening.lent.blocks (block_row (head_of l w) block_rows_of.rows) in
          calendar_kept (sets rows front_calendar w.calendar.numbers) (sets (sets rows front_calendar w.calendar.numbers) front_days w.days.numbers) l.calendar
          (λ i low high. get_d_sets_out w.days.numbers (sets rows front_calendar w.calendar.numbers) front_days i (inl high))
          (w.calendar.there rows (omega (arith, h.blocks, table_by_length block_base l.opening.lent.blocks (block_row (head_of l w) block_rows_of.rows))))

      days_there : DaysIn (block_table l.opening.lent.blocks (head_of l w) block_rows_of.rows) l.days
      unfolding block_table head_of
      days_there =
          let h : Heads l.opening.lent = heads_fit l.opening.lent fits in
          let rows = table_by block_base l.opening.lent.blocks (block_row (head_of l w) block_rows_of.rows) in
          w.days.there (sets rows front_calendar w.calendar.numbers)
          (omega (
            arith,
            h.blocks,
            length-sets rows front_calendar w.calendar.numbers,
            table_by_length block_base l.opening.lent.blocks (block_row (head_of l w) block_rows_of.rows),
          ))

      -- the board is as it should be, whatever trees there are
      pub board_encodes : length nodes ≡ l.opening.lent.nodes → length entries ≡ l.opening.lent.entries
          → TreesIn (tables_by w nodes entries) l l.trees → Encodes (tables_by w nodes entries) l
      unfolding tables_by block_row head_of
      board_encodes n e trees =
          record {
            lengths = long;
            heads = rw (← long) fits;
            state = head_column head_state (omega arith);
            end = head_column head_end (omega arith);
            mask = rw (head_column head_kinds (omega arith)) (mask_below l.opening.kinds);
            kinds = rw (head_column head_kinds (omega arith)) (sym (mask_kinds l.opening.kinds ∙ set_same l.opening.kinds s.known_kinds));
            last = head_column head_last (omega arith);
            used = used_is;
            store = rw used_is (sym (take-append_seam l.now.store (unused l)));
            count = count_is ∙ blocks_many;
            blocks =
                rw count_is
                (sym (blocks_shown l.opening.lent.blocks (head_of l w) block_rows_of.rows block_room (l.now.store ++ unused l) ∙ block_rows_of.shows));
            blocks_stored =
                rw (used_is, count_is)
                (blocks_inside l.opening.lent.blocks (head_of l w) block_rows_of.rows block_room (length l.now.store) block_rows_of.inside);
            pieces = record {
              links = count_from 1 (length piece_rows_of.rows);
              linked = piece_links l.opening.lent.pieces piece_rows_of.rows piece_room;
              shows = sym (pieces_shown l.opening.lent.pieces piece_rows_of.rows piece_room piece_rows_of.lines (l.now.store ++ unused l) ∙ piece_rows_of.shows);
              stored = rw used_is (pieces_inside l.opening.lent.pieces piece_rows_of.rows piece_room piece_rows_of.lines (length l.now.store) piece_rows_of.inside);
            };
            trees = trees;
            calendar = calendar_there;
            days = days_there;
          }
        where
          long : l.opening.lent ≡ lengths_of (tables_by w nodes entries)
          long =
              lent_same l.opening.lent (lengths_of (tables_by w nodes entries)) (sym (piece_table_length l.opening.lent.pieces piece_rows_of.rows))
              (sym (block_table_length l.opening.lent.blocks (head_of l w) block_rows_of.rows)) (sym store_long) (sym n) (sym e)

-- ── numbers of 64 bits ──

pub replicate_all : {P : ℕ → Type 0} (n : ℕ) → P 0 → All P (replicate n 0)
replicate_all zero p = all_nil
replicate_all (suc n) p = all_cons p (replicate_all n p)

-- what a sound ledger says is within 64 bits
head_words : (l : Ledger) → SoundBoard l → Lendable l → (w : Front l) → HeadWords (head_of l w)
unfolding head_of
head_words l s f w =
    let last : l.now.last < 2 ^ 64 = omega (arith, s.last_below_end, s.end_most) in
    let e : l.opening.end < 2 ^ 64 = omega (arith, s.end_most) in
    let k : mask_of l.opening.kinds < 2 ^ 64 = omega (arith, mask_below l.opening.kinds) in
    let used : length l.now.store < 2 ^ 64 = omega (arith, s.store_fits, f.store) in
    record { state = state l.trees; end = e; kinds = k; used = used; last = last; calendar = w.calendar.words; days = w.days.words }
  where
    state : (trees : Option (List segment.Tree)) → state_of trees < 2 ^ 64
    state none = omega arith
    state (some trees) = omega arith

module _ (l : Ledger) (s : SoundBoard l) (f : Lendable l) where
  piece_words : All PieceWords (piece_rows_of l s).rows
  piece_words = all_both words sounds (piece_rows_of l s).inside
    where
      sounds : All (λ (p : PieceRow). SoundPiece l.opening.kinds l.now (shown (l.now.store ++ unused l) p)) (piece_rows_of l s).rows
      sounds =
          all_un_map (shown (l.now.store ++ unused l)) (piece_rows_of l s).rows
          (subst (λ (ps : List Piece). All (SoundPiece l.opening.kinds l.now) ps) (sym (piece_rows_of l s).shows) s.pieces)

      words : (p : PieceRow) → SoundPiece l.opening.kinds l.now (shown (l.now.store ++ unused l) p) → p.offset + p.size ≤ length l.now.store
          → PieceWords p
      words p h i =
          record {
            first = omega (arith, h.stretch.no_wrap);
            size = omega (arith, s.store_fits, f.store);
            written = omega (arith, h.written_by_last, s.last_below_end, s.end_most);
            offset = omega (arith, s.store_fits, f.store);
            owner = omega (arith, kind_known l.opening.kinds p.owner s.known_kinds h.own_kind);
          }

  block_words : All RowWords (block_rows_of l s).rows
  block_words = all_both words sounds (block_rows_of l s).inside
    where
      sounds :
          All (λ (b : BlockRow). SoundBlock l.opening.kinds l.opening.end l.now.store (shown_block (l.now.store ++ unused l) b)) (block_rows_of l s).rows
      sounds =
          all_un_map (shown_block (l.now.store ++ unused l)) (block_rows_of l s).rows
          (subst (λ (bs : List Block). All (SoundBlock l.opening.kinds l.opening.end l.now.store) bs) (sym (block_rows_of l s).shows) s.blocks)

      words : (b : BlockRow) → SoundBlock l.opening.kinds l.opening.end l.now.store (shown_block (l.now.store ++ unused l) b)
          → b.offset + b.size ≤ length l.now.store → RowWords b
      words b h i =
          record {
            owner = omega (arith, kind_known l.opening.kinds b.owner s.known_kinds h.own_kind);
            first = omega (arith, h.stretch.no_wrap);
            size = omega (arith, s.store_fits, f.store);
            created = omega (arith, h.forward, h.by_end, s.end_most);
            destroyed = omega (arith, h.by_end, s.end_most);
            offset = omega (arith, s.store_fits, f.store);
          }

  pub blocks_few : length (block_rows_of l s).rows < 2 ^ 64
  blocks_few = omega (arith, block_room l s f.heads, f.blocks)

  pub blocks_fit : (w : Front l) → All Word (block_table l.opening.lent.blocks (head_of l w) (block_rows_of l s).rows)
  blocks_fit w = block_table_words l.opening.lent.blocks (head_of l w) (block_rows_of l s).rows (head_words l s f w) blocks_few block_words

  pub board_fits : (w : Front l) (nodes entries : List ℕ) → All Word nodes → All Word entries
      → Fits (tables_by l s w nodes entries)
  unfolding tables_by unused
  board_fits w nodes entries a b =
      record {
        pieces = piece_table_words l.opening.lent.pieces (piece_rows_of l s).rows (omega (arith, piece_room l s f.heads, f.pieces)) piece_words;
        blocks = blocks_fit w;
        store = all_append f.bytes (replicate_all (l.opening.lent.store - length l.now.store) (omega arith));
        nodes = a;
        entries = b;
      }
