-- What an accepted finish does: the pieces' blocks appended, all rows in order, the counted trees closed. Assumes nothing.
use mathlib.Core.Path.{◌≡◌, refl, sym, ap, ◌∙◌}
use mathlib.Core.Logic.{◌⊎◌, inl, inr, ⊎_elim}
use mathlib.Core.List.{List, [], ◌++◌, map}
use Prim.Native.Nat.{ℕ, suc, ◌+◌, ◌-◌, ◌*◌, ◌≤◌, ◌<◌, ◌^◌}
use native.Mathlib.Omega.{arith}
use lib.ListN.{length, get_or, set, take, replicate, length-set, length-replicate}
use lib.Seq.{get_or-set_same, get_or-set_other}
use Rattle.layout.proofs.ExistsPieces.{no_piece}
use Rattle.lists.specs.Lists.{All}
use Rattle.lists.proofs.Lists.{all_at, all_of_map}
use Rattle.lists.proofs.Maps.{length_of_map, get_d_of_map}
use Rattle.lists.proofs.Numbers.{le_or_lt}
use Rattle.history.specs.Lent.{row_width, block_head, node_head, entry_head}
use Rattle.history.specs.Words.{Block}
use Rattle.history.specs.Tree.{trees_of, key_in, entries_all}
use Rattle.history.specs.Ledger.{Ledger, settled, finish_by}
use Rattle.tables.specs.Columns.{block_column, block_base, block_length, block_offset, block_next, block_spare, nodes_count, head_state, head_end, head_kinds, head_count, head_used, head_last}
use Rattle.block_table.specs.Blocks.{Room, length_at, offset_at, block_of_row, blocks_of, SameRows, Stored, block_count}
use Rattle.block_table.proofs.Keeping.{rows-set, rows_then, kept_column}
use Rattle.block_table.proofs.Blocks.{blocks_length, blocks_key, blocks_kept}
use Rattle.block_table.specs.Appended.{block_row}
use Rattle.block_table.proofs.Appending.{appended_kept, appended-length, appended_other}
use Rattle.segment_table.specs.Closed as closed
use Rattle.segment_table.specs.Alone.{TreeAlone}
use Rattle.piece_table.specs.Piece.{PieceRow, piece_at, Filled}
use Rattle.piece_table.specs.Rep.{Links}
use Rattle.piece_table.specs.Shown.{shown}
use Rattle.block_table.specs.Appended as appending
use Rattle.recording.specs.Calls.{ExtractedMembers}
use Rattle.recording.specs.Recorded.{block_row_of, recorded}
use Rattle.recording.proofs.Recorded.{recorded_out, recorded_blocks, recorded-count, recorded_row}
use Rattle.segment_tree.specs.Lives.{Counted, entry_rows_in}
use Rattle.segment_tree.specs.Fill.{lent_tables, Closable, ClosedTrees}
use Rattle.day_table.proofs.DayLists.{days_kept}
use Rattle.calendar_table.proofs.Calendars.{calendar_kept}
use Rattle.layout.specs.Tables.{Tables, tables, lengths_of, head_at}
use Rattle.layout.specs.Encodes.{Encodes, closed_state}
use Rattle.layout.specs.Relations.{AppendedRows, SameBytes}
use Rattle.layout.proofs.Lengths.{lent_same}
use Rattle.layout.proofs.Unique.{links_one}
use Rattle.layout.proofs.Opening.{no_pieces_in}
use Rattle.index_finish.specs.Finish.{StandsOpen, all_blocks, whole_trees, Accepted, Finished, SettledTables}
use Rattle.index_finish.proofs.Standing.{heads, room, piece_rows, are_pieces, pieces_whole, rep}
use Rattle.index_finish.proofs.Agreeing.{settled_row, all_blocks_lem}
use Rattle.index_finish.proofs.Counting.{row_lives, all_known}

-- ── the rows appended, and the state ──

-- the place of the head's state
abbrev state_place : ℕ
state_place = row_width * 0 + (block_base + head_state)

-- the table with the blocks of the pieces rs, destroyed at e, and the state set
abbrev grown : (e : ℕ) (rs : List PieceRow) (b : List ℕ) → List ℕ
grown e rs b = set (recorded e rs b) state_place closed_state

module _ (e : ℕ) (rs : List PieceRow) (b : List ℕ) where
  grown-length : length (grown e rs b) ≡ length b
  grown-length = length-set (recorded e rs b) state_place closed_state ∙ appended-length (map (block_row_of e) rs) b

  -- all but the state and the count of the head is as it was, up to the last old row
  grown_other : (link c : ℕ) → c < row_width → link ≤ block_count b → (link ≡ 0 → c ≡ head_count → ⊥) → (link ≡ 0 → c ≡ head_state → ⊥)
      → block_column (grown e rs b) link c ≡ block_column b link c
  grown_other link c h le n s =
      get_or-set_other (recorded e rs b) state_place (row_width * link + (block_base + c)) closed_state 0 (λ q. s (omega arith) (omega arith))
      ∙ appended_other (map (block_row_of e) rs) b link c h le n

  grown_state : block_head ≤ length b → block_column (grown e rs b) 0 head_state ≡ closed_state
  grown_state h = get_or-set_same (recorded e rs b) state_place closed_state 0 (omega (arith, appended-length (map (block_row_of e) rs) b))

  grown-count : block_head ≤ length b → block_count (grown e rs b) ≡ block_count b + length rs
  grown-count h = get_or-set_other (recorded e rs b) state_place (row_width * 0 + (block_base + head_count)) closed_state 0 (λ q. omega arith) ∙ recorded-count e rs b h

  -- the old rows, and what lies past the new ones
  grown-rows : SameRows b (grown e rs b) (block_count b)
  grown-rows = rows_then (appended_kept (map (block_row_of e) rs) b) (rows-set (recorded e rs b) (block_count b) state_place closed_state (inl (omega arith)))

  grown_rest : (i : ℕ) → block_base + row_width * suc (block_count b + length rs) ≤ i → get_or (grown e rs b) i 0 ≡ get_or b i 0
  grown_rest i h = get_or-set_other (recorded e rs b) state_place i closed_state 0 (λ q. omega arith) ∙ recorded_out e rs b i (λ q. omega arith) (inr (omega arith))

  module _ (fits : Room b (block_count b + length rs)) where
    grown-column : (i c : ℕ) → i < length rs → c < row_width → block_column (grown e rs b) (suc (block_count b) + i) c ≡ get_or (block_row (block_row_of e (get_or rs i no_piece))) c 0
    grown-column i c h k =
        let q : suc (block_count b) + i ≡ block_count b + 1 + i = omega arith in
        get_or-set_other (recorded e rs b) state_place (row_width * (suc (block_count b) + i) + (block_base + c)) closed_state 0 (λ z. omega arith)
        ∙ rw q (recorded_row e rs b (omega arith) no_piece i c h k)

    -- the rows are the old blocks, and the pieces' behind them
    grown_blocks : (store : List ℕ) → All Filled rs → blocks_of store (grown e rs b) (block_count b + length rs) ≡ blocks_of store b (block_count b) ++ map (settled_row store e) rs
    grown_blocks store whole =
        blocks_kept store (rows-set (recorded e rs b) (block_count b + length rs) state_place closed_state (inl (omega arith)))
        ∙ recorded_blocks e rs b (omega arith) store whole

    grown_stored : (used : ℕ) → Stored used b (block_count b) → All (λ (p : PieceRow). p.offset + p.size ≤ used) rs → Stored used (grown e rs b) (block_count b + length rs)
    grown_stored used old new = record {
      inside = λ link p q. ⊎_elim (λ h. before link p h) (λ h. behind link (link - suc (block_count b)) (omega arith) (omega arith)) (le_or_lt link (block_count b));
    }
      where
        before : (link : ℕ) → 0 < link → link ≤ block_count b → offset_at (grown e rs b) link + length_at (grown e rs b) link ≤ used
        before link p h = rw (kept_column grown-rows link block_offset p h (omega arith), kept_column grown-rows link block_length p h (omega arith)) (old.inside link p h)

        behind : (link i : ℕ) → link ≡ suc (block_count b) + i → i < length rs → offset_at (grown e rs b) link + length_at (grown e rs b) link ≤ used
        behind link i at h = rw (at, grown-column i block_offset h (omega arith), grown-column i block_length h (omega arith)) (all_at no_piece new i h)

-- ── the blocks, as the closing of the trees asks for them ──

module _ (store b : List ℕ) {n : ℕ} {bs : List Block} (is : bs ≡ blocks_of store b n) where
  bs_length : length bs ≡ n
  bs_length = ap length is ∙ blocks_length store b n

  pub closable : {nodes entries : List ℕ} {e : ℕ} → e ≤ 2 ^ 63 → All (λ (x : Block). x.kind < nodes_count) bs → Counted nodes e (trees_of e bs) → node_head ≤ length nodes
      → entry_head ≤ length entries → entries_all (trees_of e bs) ≤ entry_rows_in entries → Closable (lent_tables b nodes entries) n e bs
  unfolding block_of_row
  closable small known counted nodes_headed entries_headed space = record {
    small = small;
    known = known;
    counted = counted;
    nodes_headed = nodes_headed;
    entries_headed = entries_headed;
    space = space;
    many = sym bs_length;
    lives_are = rw (bs_length, is) (row_lives store b n);
    cells_are = λ k h. sym (ap (λ (l : List Block). key_in l k) is ∙ blocks_key store b n k (omega (arith, bs_length)));
  }

-- ── the finished tables ──

module _ {pieces was store blank entries nodes : List ℕ} {l : Ledger} (a : Accepted (tables pieces was store blank entries) nodes l) where
  abbrev t : Tables
  t = tables pieces was store blank entries

  abbrev s : StandsOpen t l
  s = a.stands

  abbrev e : ℕ
  e = l.opening.end

  abbrev rs : List PieceRow
  rs = piece_rows s

  abbrev n : ℕ
  n = block_count was

  abbrev g : List ℕ
  g = grown e rs was

  count_is : n ≡ length l.now.blocks
  count_is = s.encodes.count

  rows-many : length rs ≡ length l.now.pieces
  rows-many = sym (length_of_map (shown store) rs) ∙ ap length (sym (are_pieces s))

  headed : block_head ≤ length was
  headed = (heads s).blocks

  fits : Room was (n + length rs)
  fits = omega (arith, room s, count_is, rows-many)

  countable : length was < 2 ^ 64 → appending.Countable was (length rs)
  countable few = record { head = headed; fits = omega (arith, few, fits) }

  blocks_are : all_blocks l ≡ blocks_of store g (n + length rs)
  blocks_are =
      all_blocks_lem s
      ∙ ap (λ (k : ℕ). blocks_of store was k ++ map (settled_row store e) rs) (sym count_is)
      ∙ sym (grown_blocks e rs was fits store (pieces_whole s))

  all_many : length (all_blocks l) ≡ n + length rs
  all_many = ap length blocks_are ∙ blocks_length store g (n + length rs)

  -- the head but for state and count
  head_kept : (c : ℕ) → c < row_width → (c ≡ head_count → ⊥) → (c ≡ head_state → ⊥) → block_column g 0 c ≡ head_at t c
  head_kept c h f₁ f₂ = grown_other e rs was 0 c h (omega arith) (λ z. f₁) (λ z. f₂)

  head_count_lem : block_column g 0 head_count ≡ n + length rs
  head_count_lem = grown-count e rs was headed

  head_used_lem : block_column g 0 head_used ≡ head_at t head_used
  head_used_lem = head_kept head_used (omega arith) (λ z. omega arith) (λ z. omega arith)

  all_stored : Stored (head_at t head_used) g (n + length rs)
  all_stored = grown_stored e rs was fits (head_at t head_used) s.encodes.blocks_stored (all_of_map (piece_at pieces) s.encodes.pieces.stored)

  same_bytes : (links : List ℕ) → Links pieces links → SameBytes pieces links g (length l.now.blocks)
  same_bytes links is = record {
    offset = λ i h.
        let one : links ≡ s.encodes.pieces.links = links_one pieces links s.encodes.pieces.links is s.encodes.pieces.linked in
        let k : i < length s.encodes.pieces.links = rw (← one) h in
        rw (← count_is, one)
        (grown-column e rs was fits i block_offset (rw (length_of_map (piece_at pieces) s.encodes.pieces.links) k) (omega arith)
        ∙ ap (λ (p : PieceRow). p.offset) (get_d_of_map (piece_at pieces) s.encodes.pieces.links i 0 no_piece k));
  }

  -- a column that is not used of a new row
  new_zero : (link c : ℕ) → length l.now.blocks < link → link ≤ length (all_blocks l) → (c ≡ block_next) ⊎ (c ≡ block_spare) → block_column g link c ≡ 0
  new_zero link c p q u =
      let at : link ≡ suc n + (link - suc n) = omega (arith, count_is) in
      let i : link - suc n < length rs = omega (arith, count_is, all_many) in
      rw at (⊎_elim (λ (z : c ≡ block_next). rw z (grown-column e rs was fits (link - suc n) block_next i (omega arith)))
      (λ (z : c ≡ block_spare). rw z (grown-column e rs was fits (link - suc n) block_spare i (omega arith))) u)

  -- the head but for what is set, the old rows, and what lies past all rows
  appended-rows : AppendedRows was g (length l.now.blocks) (length (all_blocks l))
  appended-rows = record {
    len = grown-length e rs was;
    head = λ i h f₁ f₂.
        get_or-set_other (recorded e rs was) state_place i closed_state 0 (λ q. f₁ (omega arith)) ∙ recorded_out e rs was i (λ q. f₂ (omega arith)) (inl (omega arith));
    rows = λ k c p q h. grown_other e rs was k c h (omega (arith, count_is)) (λ z. absurd (omega arith)) (λ z. absurd (omega arith));
    next = λ link p q. new_zero link block_next p q (inl refl);
    spare = λ link p q. new_zero link block_spare p q (inr refl);
    rest = λ i h. let z : length (all_blocks l) ≡ n + length rs = all_many in grown_rest e rs was i (omega arith);
  }

  trees_closable : Closable (lent_tables g nodes entries) (n + length rs) e (all_blocks l)
  unfolding settled
  trees_closable =
      closable store g blocks_are s.sound.board.end_most (all_known s) a.tallied.counted (omega (arith, a.nodes_long, (heads s).nodes)) (heads s).entries a.tallied.space

  module _ {nodes' entries' : List ℕ} (nodes_long : length nodes' ≡ length nodes) (entries_long : length entries' ≡ length entries)
      (trees : closed.Closed (lent_tables g nodes' entries') e (whole_trees l)) (alone : TreeAlone nodes' entries' (whole_trees l)) where
    abbrev t' : Tables
    t' = tables (replicate (length pieces) 0) g store nodes' entries'

    same_lengths : lengths_of t ≡ lengths_of t'
    same_lengths =
        lent_same (lengths_of t) (lengths_of t') (sym (length-replicate (length pieces) 0)) (sym (grown-length e rs was)) refl (sym (nodes_long ∙ a.nodes_long)) (sym entries_long)

    kinds_same : block_column g 0 head_kinds ≡ head_at t head_kinds
    kinds_same = head_kept head_kinds (omega arith) (λ z. omega arith) (λ z. omega arith)

    finished_encodes : Encodes t' (finish_by l)
    unfolding finish_by
    finished_encodes = record {
      lengths = s.encodes.lengths ∙ same_lengths;
      heads = rw (← same_lengths) s.encodes.heads;
      state = grown_state e rs was headed;
      end = head_kept head_end (omega arith) (λ z. omega arith) (λ z. omega arith) ∙ s.encodes.end;
      mask = rw kinds_same s.encodes.mask;
      kinds = rw kinds_same s.encodes.kinds;
      last = head_kept head_last (omega arith) (λ z. omega arith) (λ z. omega arith) ∙ s.encodes.last;
      used = head_used_lem ∙ s.encodes.used;
      store = s.encodes.store ∙ ap (λ (k : ℕ). take k store) (sym head_used_lem);
      count = head_count_lem ∙ sym all_many;
      blocks = blocks_are ∙ ap (blocks_of store g) (sym head_count_lem);
      blocks_stored = rw (head_used_lem, head_count_lem) all_stored;
      pieces = no_pieces_in (length pieces) (heads s).pieces store _;
      trees = trees;
      calendar = calendar_kept was g l.calendar (λ i lo hi. appended-rows.head i (omega arith) (λ z. omega arith) (λ z. omega arith)) s.encodes.calendar;
      days =
          days_kept was g l.days (omega (arith, headed)) (omega (arith, headed, grown-length e rs was))
          (λ i lo hi. appended-rows.head i (omega arith) (λ z. omega arith) (λ z. omega arith)) s.encodes.days;
    }

    finished-tables : Finished l t t'
    unfolding finish_by
    finished-tables = record { encodes = finished_encodes; tables_are = record { pieces = refl; store = refl; blocks = appended-rows; bytes = same_bytes; trees = alone } }

-- ── the return of `settle` ──

pub settle_done : {pieces b nodes entries b₁ b₂ nodes' entries' pieces' : List ℕ} {end all : ℕ} → length pieces < 2 ^ 64 → length b < 2 ^ 64
    → length nodes' ≡ length nodes → length entries' ≡ length entries → end ≡ block_column b 0 head_end
    → ExtractedMembers pieces b b₁ end → b₂ ≡ set b₁ state_place closed_state → all ≡ block_count b₂
    → ClosedTrees (lent_tables b₂ nodes entries) (lent_tables b₂ nodes' entries') all end → pieces' ≡ replicate (length pieces) 0 → SettledTables pieces b nodes entries pieces' b₂ nodes' entries'
settle_done {pieces} {b} {nodes} {entries} {b₁} {b₂} {nodes'} {entries'} {pieces'} {end} {all} few_pieces few_blocks nodes_long entries_long
    ee ex put count close zeros = record { done = go }
  where
    go : (blank store : List ℕ) (l : Ledger) → Accepted (tables pieces b store blank entries) nodes l
        → Finished l (tables pieces b store blank entries) (tables pieces' b₂ store nodes' entries')
    go blank store l a =
        let end_is : end ≡ l.opening.end = ee ∙ a.stands.encodes.end in
        let b₁_is : b₁ ≡ recorded end (rs a) b = ex.done (rs a) (rep a.stands few_pieces) (countable a few_blocks) in
        let b₂_is : b₂ ≡ g a = put ∙ ap (λ (x : List ℕ). set x state_place closed_state) (b₁_is ∙ ap (λ (k : ℕ). recorded k (rs a) b) end_is) in
        let all_is : all ≡ n a + length (rs a) = count ∙ ap block_count b₂_is ∙ grown-count l.opening.end (rs a) b (headed a) in
        let made : ClosedTrees (lent_tables (g a) nodes entries) (lent_tables (g a) nodes' entries') (n a + length (rs a)) l.opening.end
        = rw (← b₂_is, ← all_is, ← end_is) close in
        let c = trees_closable a in
        rw (zeros, b₂_is)
        (finished-tables a nodes_long entries_long (made.done (all_blocks l) c)
        (made.alone (all_blocks l) c a.entry_zeros))
