-- The tables after an update: store, blocks and pieces stand for the ledger's next state. Assumes nothing.
use mathlib.Core.Path.{◌≡◌, refl, sym, ap, ap₂, subst, ◌∙◌}
use mathlib.Core.Logic.{◌⊎◌, inl, inr}
use mathlib.Core.Bool.{false}
use mathlib.Core.Option.{Option}
use mathlib.Core.List.{List, ◌∷◌, ◌++◌, map, map-map}
use Prim.Native.Nat.{ℕ, suc, ◌+◌, ◌-◌, ◌*◌, ◌^◌, ◌≤◌, ◌<◌}
use native.Mathlib.Omega.{arith}
use lib.ListN.{length, get_or, set, take, length-set, length-append, length-map}
use lib.Seq.{sets, length-sets, get_or-set_same, get_or-set_other}
use Rattle.lists.specs.Lists.{All, all_cons}
use Rattle.lists.proofs.Lists.{all_map, all_append, all_of_map, all_un_map, all_at}
use Rattle.lists.proofs.Numbers.{le_or_lt}
use Rattle.lists.proofs.Parts.{part-sets}
use Rattle.history.specs.Lent.{row_width, block_head}
use Rattle.history.specs.Words.{Operation, Piece, Block, cell_place, stretch_of, piece_of, block_of}
use Rattle.history.specs.Tree as segment
use Rattle.history.specs.Ledger.{Ledger, with_now, Moment, finished, is_read, update_by, record_by}
use Rattle.history.specs.Results.{Result}
use Rattle.history.specs.Refusals.{accepted, record_answer}
use Rattle.history.specs.Sound.{Sound}
use Rattle.history.proofs.Passing.{Taken, taken, Room, room}
use Rattle.tables.specs.Columns.{block_column, block_base, head_state, head_end, head_kinds, head_count, head_used, head_last, block_next, block_length, block_offset}
use Rattle.block_table.specs.Blocks.{blocks_of, SameRows, offset_at, length_at, block_at, block_count, head_place}
use Rattle.block_table.proofs.Blocks.{blocks_kept, blocks_store}
use Rattle.block_table.proofs.Keeping.{kept_column}
use Rattle.block_table.specs.Appended.{block_row, Countable, Appended}
use Rattle.block_table.proofs.Appending.{appended-length, appended_other, appended_kept}
use Rattle.ordering.specs.Order.{next_at, Unordered}
use Rattle.block_table.specs.Blocks as blocks
use Rattle.piece_table.specs.Piece.{PieceRow, row_of, row_end, piece_at, rows_below, rows_inside, rows_above, Filled}
use Rattle.piece_table.specs.Shown.{shown, Stored}
use Rattle.piece_table.specs.Rep.{Rep}
use Rattle.piece_table.proofs.Order.{follow_filled}
use Rattle.recording.specs.Calls.{Updated, AppliedUpdate}
use Rattle.recording.proofs.Telling.{shown_kept, update_pieces, update_blocks}
use Rattle.recording.specs.Recorded.{block_row_of, recorded}
use Rattle.recording.proofs.Recorded.{recorded-count, recorded_row, recorded_out, recorded_blocks}
use Rattle.day_table.proofs.DayLists.{days_kept}
use Rattle.calendar_table.proofs.Calendars.{calendar_kept}
use Rattle.layout.specs.Tables.{Tables, tables, lengths_of, head_at}
use Rattle.layout.specs.Encodes.{Encodes, TreesIn}
use Rattle.layout.specs.Relations.{UpdatedTables}
use Rattle.layout.proofs.Lengths.{lent_same, Heads, heads_fit}
use Rattle.layout.proofs.Pieces.{pieces_linked, pieces_rep, pieces_shown}
use Rattle.index_record.specs.Calls.{operation, UpdateApplied}
use Rattle.index_record.proofs.Storing.{sets-part, sets_grow, Within, below_stored, inside_stored, above_stored, inside-filled}
use Rattle.layout.proofs.Installing.{still_none, open_unordered}
use Rattle.index_record.proofs.Reading.{record_update}

-- ── the block table ──

-- blocks of the pieces appended, then the head's columns used and last set
unfoldable pub left_blocks : (tick used : ℕ) (ps : List PieceRow) (blocks : List ℕ) → List ℕ
left_blocks tick used ps b = set (set (recorded tick ps b) (head_place head_used) used) (head_place head_last) tick

module _ (tick used : ℕ) (ps : List PieceRow) (b : List ℕ) (there : block_head ≤ length b) where
  left_length : length (left_blocks tick used ps b) ≡ length b
  unfolding left_blocks
  left_length =
      length-set (set (recorded tick ps b) (head_place head_used) used) (head_place head_last) tick ∙ length-set (recorded tick ps b) (head_place head_used) used ∙ appended-length (map (block_row_of tick) ps) b

  -- all but two columns of the head is as appending left it
  left_same : (i : ℕ) → (i ≡ head_place head_used → ⊥) → (i ≡ head_place head_last → ⊥) → get_or (left_blocks tick used ps b) i 0 ≡ get_or (recorded tick ps b) i 0
  unfolding left_blocks
  left_same i nu nl =
      get_or-set_other (set (recorded tick ps b) (head_place head_used) used) (head_place head_last) i tick 0 nl ∙ get_or-set_other (recorded tick ps b) (head_place head_used) i used 0 nu

  left_last : block_column (left_blocks tick used ps b) 0 head_last ≡ tick
  unfolding left_blocks
  left_last =
      get_or-set_same (set (recorded tick ps b) (head_place head_used) used) (head_place head_last) tick 0
      (omega (arith, length-set (recorded tick ps b) (head_place head_used) used, appended-length (map (block_row_of tick) ps) b))

  left_used : block_column (left_blocks tick used ps b) 0 head_used ≡ used
  unfolding left_blocks
  left_used =
      get_or-set_other (set (recorded tick ps b) (head_place head_used) used) (head_place head_last) (head_place head_used) tick 0 (λ z. omega arith)
      ∙ get_or-set_same (recorded tick ps b) (head_place head_used) used 0 (omega (arith, appended-length (map (block_row_of tick) ps) b))

  left_count : block_column (left_blocks tick used ps b) 0 head_count ≡ block_count b + length ps
  left_count = left_same (head_place head_count) (λ z. omega arith) (λ z. omega arith) ∙ recorded-count tick ps b there

  -- the rest of the head
  left_head : (c : ℕ) → c < row_width → (c ≡ head_count → ⊥) → (c ≡ head_used → ⊥) → (c ≡ head_last → ⊥) → block_column (left_blocks tick used ps b) 0 c ≡ block_column b 0 c
  left_head c h nc nu nl =
      left_same (row_width * 0 + (block_base + c)) (λ z. nu (omega arith)) (λ z. nl (omega arith)) ∙ appended_other (map (block_row_of tick) ps) b 0 c h (omega arith) (λ z. nc)

  -- the rows
  left_rows : (n : ℕ) → SameRows (recorded tick ps b) (left_blocks tick used ps b) n
  left_rows n = record { same = λ i lo hi. left_same i (λ z. omega arith) (λ z. omega arith) }

  left_old : SameRows b (left_blocks tick used ps b) (block_count b)
  left_old = record { same = λ i lo hi. left_same i (λ z. omega arith) (λ z. omega arith) ∙ (appended_kept (map (block_row_of tick) ps) b).same i lo hi }

  left_appended : Appended b (left_blocks tick used ps b) (block_count b) (block_count b + length ps)
  left_appended = record {
    len = left_length;
    head = λ i h nc nu nl. left_same i nu nl ∙ recorded_out tick ps b i nc (inl (omega arith));
    rows = λ i lo hi. left_same i (λ z. omega arith) (λ z. omega arith) ∙ recorded_out tick ps b i (λ z. omega arith) (inl (omega arith));
    rest = λ i lo. left_same i (λ z. omega arith) (λ z. omega arith) ∙ recorded_out tick ps b i (λ z. omega arith) (inr (omega arith));
  }

  module _ (fits : block_at (block_count b + 1 + length ps) ≤ length b) where
    none_row : PieceRow
    none_row = record { first = 0; size = 0; written = 0; offset = 0; owner = 0 }

    -- a new row holds its piece
    left_row : (link c : ℕ) → block_count b < link → link ≤ block_count b + length ps → c < row_width
        → block_column (left_blocks tick used ps b) link c ≡ get_or (block_row (block_row_of tick (get_or ps (link - suc (block_count b)) none_row))) c 0
    left_row link c lo hi h =
        let e : block_count b + 1 + (link - suc (block_count b)) ≡ link = omega arith in
        kept_column (left_rows (block_count b + length ps)) link c (omega arith) hi h
        ∙ ap (λ (k : ℕ). block_column (recorded tick ps b) k c) (sym e)
        ∙ recorded_row tick ps b fits none_row (link - suc (block_count b)) c (omega arith) h

    left_blocks_lem : (store : List ℕ) → All Filled ps → blocks_of store (left_blocks tick used ps b) (block_count b + length ps) ≡ blocks_of store b (block_count b) ++ map (λ p. block_of tick (shown store p)) ps
    left_blocks_lem store filled = blocks_kept store (left_rows (block_count b + length ps)) ∙ recorded_blocks tick ps b fits store filled

    left_stored : (old : ℕ) → old ≤ used → blocks.Stored old b (block_count b) → All (Within old) ps → blocks.Stored used (left_blocks tick used ps b) (block_count b + length ps)
    left_stored old le was parts = record { inside = λ link lo hi. go link lo hi (le_or_lt link (block_count b)) }
      where
        go : (link : ℕ) → 0 < link → link ≤ block_count b + length ps → (link ≤ block_count b) ⊎ (block_count b < link)
            → offset_at (left_blocks tick used ps b) link + length_at (left_blocks tick used ps b) link ≤ used
        go link lo hi (inl k) =
            omega (arith, kept_column left_old link block_offset lo k (omega arith), kept_column left_old link block_length lo k (omega arith), was.inside link lo k)
        go link lo hi (inr k) =
            omega (arith, left_row link block_offset k hi (omega arith), left_row link block_length k hi (omega arith), all_at none_row parts (link - suc (block_count b)) (omega arith))

    left_unordered : Unordered b (block_count b) → Unordered (left_blocks tick used ps b) (block_count b + length ps)
    left_unordered u = record { none = λ k h. go k h (le_or_lt k (block_count b)) }
      where
        go : (k : ℕ) → k ≤ block_count b + length ps → (k ≤ block_count b) ⊎ (block_count b < k) → next_at (left_blocks tick used ps b) k ≡ 0
        go k h (inl le) =
            left_same (row_width * k + (block_base + block_next)) (λ z. omega arith) (λ z. omega arith) ∙ appended_other (map (block_row_of tick) ps) b k block_next (omega arith) le (λ z e. omega arith) ∙ u.none k le
        go k h (inr lt) = left_row k block_next lt h (omega arith)

-- ── the whole ──

-- the row of the operation's piece, whose bytes stand at `used`
abbrev pub new_row : Operation → (used : ℕ) → PieceRow
new_row o used = row_of (record { first = o.first; size = length o.bytes; written = o.tick; offset = used; owner = o.kind })

module _ (t : Tables) (l : Ledger) (o : Operation) (scratch : ℕ) (e : Encodes t l) (s : Sound l) {r : Result} (took : record_answer l scratch o ≡ accepted r) (update : is_read l.now o ≡ false)
    (few : length t.pieces < 2 ^ 64) (fewer : length t.blocks < 2 ^ 64) (fits : length t.store < 2 ^ 64) where
  abbrev used : ℕ
  used = head_at t head_used

  abbrev size : ℕ
  size = length o.bytes

  abbrev row : PieceRow
  row = new_row o used

  abbrev next : Moment
  next = update_by l.now o

  abbrev store' : List ℕ
  store' = sets t.store used o.bytes

  abbrev ps : List PieceRow
  ps = map (piece_at t.pieces) e.pieces.links

  abbrev gone : List PieceRow
  gone = rows_inside row.first (row_end row) ps

  abbrev left : List PieceRow
  left = rows_below row.first ps ++ row ∷ rows_above (row_end row) ps

  -- how much of the store is used after it
  next_store : length next.store ≡ used + size
  unfolding update_by
  next_store = length-append l.now.store o.bytes ∙ ap (λ (n : ℕ). n + size) (sym e.used)

  space : Room (lengths_of t) next
  space = rw (← e.lengths) (room l scratch o took update)

  bytes_fit : used + size ≤ length t.store
  bytes_fit = omega (arith, next_store, space.store)

  -- the pieces before it, in the store after it
  stored_before : All (Within used) ps
  stored_before = all_of_map (piece_at t.pieces) e.pieces.stored

  stored_after : All (Stored store') ps
  stored_after = all_map (λ p h. record { has = omega (arith, length-sets t.store used o.bytes, bytes_fit) }) stored_before

  same_front : take used store' ≡ take used t.store
  same_front = part-sets used 0 t.store used o.bytes (omega arith)

  shown-after : l.now.pieces ≡ map (shown store') ps
  shown-after = pieces_shown t l e ∙ sym (shown_kept t.store store' used same_front stored_before)

  -- the operation's piece is the row's
  new_shown : piece_of o ≡ shown store' row
  unfolding stretch_of
  new_shown =
      ap {B = Piece} (λ (bs : List ℕ). record { kind = o.kind; stretch = record { first = cell_place o.kind o.first; bytes = bs }; written = o.tick })
      (sym (sets-part used t.store o.bytes bytes_fit))

  pieces_after : next.pieces ≡ map (shown store') left
  unfolding stretch_of
  pieces_after = update_pieces store' ps stored_after l.now o row shown-after new_shown refl refl

  blocks_after : next.blocks ≡ l.now.blocks ++ map (λ q. block_of o.tick (shown store' q)) gone
  unfolding stretch_of
  blocks_after = update_blocks store' ps stored_after l.now o row shown-after refl refl

  count-after : length next.blocks ≡ block_count t.blocks + length gone
  count-after =
      ap length blocks_after ∙ length-append l.now.blocks (map (λ q. block_of o.tick (shown store' q)) gone)
      ∙ ap₂ ◌+◌ (sym e.count) (length-map gone (λ q. block_of o.tick (shown store' q)))

  left_after : length next.pieces ≡ length left
  left_after = ap length pieces_after ∙ length-map left (shown store')

  there : Heads (lengths_of t)
  there = heads_fit (lengths_of t) e.heads

  blocks_fit : block_at (block_count t.blocks + 1 + length gone) ≤ length t.blocks
  blocks_fit = omega (arith, space.blocks, count-after, there.blocks)

  -- what recording asks
  new_filled : Filled row
  unfolding stretch_of
  new_filled = let k : Taken l o = taken l scratch o took in record { some = k.some_cell; line = omega arith; near = omega (arith, k.no_wrap); stored = omega (arith, bytes_fit) }

  gone_filled : All Filled gone
  gone_filled = inside-filled row.first (row_end row) (follow_filled 0 ps (pieces_linked t l e s.board few fits).order)

  countable : Countable t.blocks (length gone)
  countable = record { head = there.blocks; fits = omega (arith, blocks_fit) }

  pieces_fit : row_width * length left + row_width ≤ length t.pieces
  pieces_fit = omega (arith, space.pieces, left_after, there.pieces)

  module _ (pieces' b' : List ℕ) (applied : AppliedUpdate t.pieces pieces' t.blocks b' row) where
    updated : Updated t.pieces pieces' t.blocks b' row ps
    updated = applied.done ps (pieces_rep t l e s.board few fits) new_filled countable pieces_fit

    pub blocks_left : b' ≡ recorded o.tick gone t.blocks
    blocks_left = updated.blocks

    abbrev blocks' : List ℕ
    blocks' = left_blocks o.tick (used + size) gone t.blocks

    abbrev t' : Tables
    t' = tables pieces' blocks' store' t.nodes t.entries

    rep : Rep pieces' left
    rep = updated.becomes.rep

    lens : lengths_of t ≡ lengths_of t'
    lens =
        lent_same (lengths_of t) (lengths_of t') (sym updated.becomes.len) (sym (left_length o.tick (used + size) gone t.blocks there.blocks)) (sym (length-sets t.store used o.bytes)) refl refl

    head_same : (c : ℕ) → c < row_width → (c ≡ head_count → ⊥) → (c ≡ head_used → ⊥) → (c ≡ head_last → ⊥) → head_at t' c ≡ head_at t c
    head_same = left_head o.tick (used + size) gone t.blocks there.blocks

    kinds_same : head_at t' head_kinds ≡ head_at t head_kinds
    kinds_same = head_same head_kinds (omega arith) (λ z. omega arith) (λ z. omega arith) (λ z. omega arith)

    used_after : head_at t' head_used ≡ used + size
    used_after = left_used o.tick (used + size) gone t.blocks there.blocks

    count_left : head_at t' head_count ≡ block_count t.blocks + length gone
    count_left = left_count o.tick (used + size) gone t.blocks there.blocks

    store_after : next.store ≡ take (used + size) store'
    unfolding update_by
    store_after = ap (λ (m : List ℕ). m ++ o.bytes) e.store ∙ sym (sets_grow used t.store o.bytes bytes_fit)

    blocks_same : next.blocks ≡ blocks_of store' blocks' (block_count t.blocks + length gone)
    blocks_same =
        blocks_after
        ∙ ap (λ (m : List Block). m ++ map (λ q. block_of o.tick (shown store' q)) gone)
        (e.blocks ∙ sym (blocks_store t.store store' t.blocks (head_at t head_count) used e.blocks_stored same_front))
        ∙ sym (left_blocks_lem o.tick (used + size) gone t.blocks there.blocks blocks_fit store' gone_filled)

    stored_left : All (Within (used + size)) left
    stored_left =
        all_append (all_map (λ p h. omega arith) (below_stored used stored_before row.first))
        (all_cons {x = row} (omega arith) (all_map (λ p h. omega arith) (above_stored used stored_before (row_end row))))

    last_after : head_at t' head_last ≡ o.tick
    last_after = left_last o.tick (used + size) gone t.blocks there.blocks

    next_last : next.last ≡ o.tick
    unfolding update_by
    next_last = refl

    abbrev l' : Ledger
    l' = with_now next l

    pub update_encodes : Encodes t' (record_by l o)
    update_encodes =
        let still : finished l ≡ false = (taken l scratch o took).still_open in
        let linked : map (piece_at pieces') rep.links ≡ left = rep.pieces in
        let inside : All (Within (used + size)) (map (piece_at pieces') rep.links) = rw linked stored_left in
        let whole : Encodes t' l' = record {
          lengths = e.lengths ∙ lens;
          heads = rw (← lens) e.heads;
          state = head_same head_state (omega arith) (λ z. omega arith) (λ z. omega arith) (λ z. omega arith) ∙ e.state;
          end = head_same head_end (omega arith) (λ z. omega arith) (λ z. omega arith) (λ z. omega arith) ∙ e.end;
          mask = rw kinds_same e.mask;
          kinds = rw kinds_same e.kinds;
          last = last_after ∙ sym next_last;
          used = used_after ∙ sym next_store;
          store = rw used_after store_after;
          count = count_left ∙ sym count-after;
          blocks = rw count_left blocks_same;
          blocks_stored = rw (count_left, used_after)
              (left_stored o.tick (used + size) gone t.blocks there.blocks blocks_fit used (omega arith) e.blocks_stored (inside_stored used stored_before row.first (row_end row)));
          pieces = record {
            links = rep.links;
            linked = rep.linked.dense;
            shows = pieces_after ∙ ap (map (shown store')) (sym linked) ∙ map-map (shown store') (piece_at pieces') rep.links;
            stored = rw used_after (all_un_map (piece_at pieces') rep.links inside);
          };
          trees = subst (λ (x : Option (List segment.Tree)). TreesIn t' l' x) (sym (still_none l.trees still))
              (rw count-after (left_unordered o.tick (used + size) gone t.blocks there.blocks blocks_fit (rw e.count (open_unordered t l e still))));
          calendar =
              calendar_kept t.blocks blocks' l.calendar
              (λ i lo hi. (left_appended o.tick (used + size) gone t.blocks there.blocks).head i (omega arith) (λ z. omega arith) (λ z. omega arith) (λ z. omega arith)) e.calendar;
          days =
              days_kept t.blocks blocks' l.days (omega (arith, (heads_fit (lengths_of t) e.heads).blocks))
              (omega (arith, (heads_fit (lengths_of t) e.heads).blocks, (left_appended o.tick (used + size) gone t.blocks there.blocks).len))
              (λ i lo hi. (left_appended o.tick (used + size) gone t.blocks there.blocks).head i (omega arith) (λ z. omega arith) (λ z. omega arith) (λ z. omega arith)) e.days;
        } in
        subst (λ (m : Ledger). Encodes t' m) (sym (record_update l o update)) whole

    blocks_of_update : length (record_by l o).now.blocks ≡ block_count t.blocks + length gone
    blocks_of_update = ap (λ (m : Ledger). length m.now.blocks) (record_update l o update) ∙ count-after

    pub update_tables : UpdatedTables l o t t'
    update_tables = record {
      store = ap (λ (n : ℕ). sets t.store n o.bytes) e.used;
      blocks = rw (← e.count, blocks_of_update) (left_appended o.tick (used + size) gone t.blocks there.blocks);
      pieces = updated.becomes.len;
      nodes = refl;
      entries = refl;
    }

-- ── `enter_update` ──

module _ {p b s bytes : List ℕ} {kind tick first used : ℕ} (eu : used ≡ block_column b 0 head_used) (few : length p < 2 ^ 64) (fewer : length b < 2 ^ 64) (fits : length s < 2 ^ 64) where
  -- an accepted update has room in the store
  pub update_far : 18446744073709551615 - used < length bytes → UpdateApplied p b s p b s (operation kind tick first bytes)
  update_far h = record {
    done = λ nodes entries l scratch r e sound took update.
        absurd (omega (arith, bytes_fit (tables p b s nodes entries) l (operation kind tick first bytes) scratch e sound took update few fewer fits));
  }

  pub update_done : {p₁ b₁ b₂ b₃ s₁ : List ℕ} → s₁ ≡ sets s used bytes → AppliedUpdate p p₁ b b₁ (new_row (operation kind tick first bytes) used)
      → b₂ ≡ set b₁ (head_place head_used) (used + length bytes) → b₃ ≡ set b₂ (head_place head_last) tick → UpdateApplied p b s p₁ b₃ s₁ (operation kind tick first bytes)
  unfolding left_blocks
  update_done {p₁} {b₁} {b₂} {b₃} {s₁} es rec e₂ e₃ = record {
    done = λ nodes entries l scratch r e sound took update.
        let o : Operation = operation kind tick first bytes in
        let t : Tables = tables p b s nodes entries in
        let rec' : AppliedUpdate p p₁ b b₁ (new_row (operation kind tick first bytes) (block_column b 0 head_used)) = rw eu at rec in
        let is : b₃ ≡ left_blocks tick (block_column b 0 head_used + length bytes) (rows_inside (cell_place kind first) (cell_place kind first + length bytes) (map (piece_at p) e.pieces.links)) b
        = e₃ ∙ ap (λ (m : List ℕ). set m (head_place head_last) tick) (e₂ ∙ ap₂ (λ (m : List ℕ) (n : ℕ). set m (head_place head_used) (n + length bytes)) (blocks_left t l o scratch e sound took update few fewer fits p₁ b₁ rec') eu) in
        let store : s₁ ≡ sets s (block_column b 0 head_used) bytes = es ∙ ap (λ (n : ℕ). sets s n bytes) eu in
        rw (is, store) (update_encodes t l o scratch e sound took update few fewer fits p₁ b₁ rec', update_tables t l o scratch e sound took update few fewer fits p₁ b₁ rec');
  }

pub ruleset updating = (update_far, update_done)
