-- An index that a list of calls has reached: the store has a byte for each cell of its pieces and blocks, and of each kind that it has blocks of, one has a
-- life once it is finished. So what is written of it fits into tables as long as its own. Assumes nothing.
use mathlib.Core.Path.{◌≡◌, refl, ap, ◌∙◌}
use mathlib.Core.Bool.{Bool, true, false, cond}
use mathlib.Core.List.{List, [], ◌∷◌, map}
use Prim.Native.Nat.{ℕ, ◌+◌, ◌-◌, ◌/◌, ◌≤◌, ◌<◌}
use native.Mathlib.Omega.{arith}
use lib.ListN.{length, length-append}
use Rattle.lists.specs.Lists.{All, all_nil, Mem, here, there, sum_of}
use Rattle.lists.proofs.Lists.{all_append, all_at, all_map, all_of_map, mem_place}
use Rattle.history.specs.Words.{Operation, Piece, Block, HoldsCell, ends, stretch_of, below, inside, above, piece_of, block_of}
use Rattle.history.specs.Lent.{Lent, row_width, entry_width, block_head, node_head, entry_head, block_rows, node_rows, entry_rows}
use Rattle.history.specs.Tree.{no_block, node_count, entry_count}
use Rattle.history.specs.Ledger.{Opening, Moment, Ledger, opened, finished, is_read, read_by, update_by, record_by, settled, finish_by}
use Rattle.history.specs.Reads.{trees_or_none, tree_in, block_by}
use Rattle.history.specs.Results.{Result}
use Rattle.history.specs.Refusals.{accepted, open_answer, record_answer}
use Rattle.history.specs.Calls.{Call, after_all, history}
use Rattle.history.specs.Law.{Faithful}
use Rattle.history.specs.Sound.{none_of, Sound}
use Rattle.history.specs.File.{saved_ledger}
use Rattle.history.proofs.Parts.{all_inside, all_updated}
use Rattle.history.proofs.Passing.{taken}
use Rattle.history.proofs.EveryList.{the_law, every_list, opening_kept}
use Rattle.history.proofs.Reaching.{KeptByCalls, every_board}
use Rattle.history.proofs.FileReloaded.{room_written}
use Rattle.history.proofs.FileSound.{sum_at}
use Rattle.layout.specs.Tables.{Tables, lengths_of}
use Rattle.layout.specs.Encodes.{Encodes}
use Rattle.layout.specs.Relations.{opening_of}
use Rattle.layout.proofs.Lengths.{heads_fit}
use Rattle.layout.proofs.Opening.{open_accepted}
use Rattle.demand.proofs.Runs.{finished_encodes}
use Rattle.demand.proofs.Touched.{list_shows, touching_shows}
use Rattle.cells.proofs.History.{cells_show_history}
use Rattle.spacetime_file.specs.Law.{Slices, ClosedIn, Lives, Reloads, RoomFor, AsLong, LoadedAgain, SavedAndLoaded}
use Rattle.spacetime_file.proofs.Closed.{KindIn, kind_in, trees_sound}
use Rattle.spacetime_file.proofs.Numbering.{one-opened}
use Rattle.spacetime_file.proofs.Touched.{list_shows_again}
use Rattle.spacetime_file.proofs.Alike.{alike, cells_back}
use Rattle.history.proofs.Cutting.{cells_in, block_cells, cells_append, block_cells_append, destroyed_cells, parts_cells}
use Rattle.history.proofs.ByKind.{some-owned}
use Rattle.spacetime_file.proofs.Saving.{parts_follow, some_written, reloads, reloads_alike}

-- ── kept from call to call ──

-- an accepted call of the kind has cells, and a tick below the end
record Booked (end : ℕ) (h : List Operation) (kind : ℕ) : Type 0 where
  call : Operation
  member : Mem call h
  same_kind : call.kind ≡ kind
  some_cell : 0 < length call.bytes
  before_end : call.tick < end

-- also where the history goes on
booked_on : {end kind : ℕ} {h : List Operation} (o : Operation) → Booked end h kind → Booked end (o ∷ h) kind
booked_on o b = record { call = b.call; member = there b.member; same_kind = b.same_kind; some_cell = b.some_cell; before_end = b.before_end }

record Kept (a : Opening) (m : Moment) (h : List Operation) : Type 0 where
  -- every cell of a block or a piece has its own byte in the store;
  stored : block_cells m.blocks + cells_in m.pieces ≡ length m.store
  -- and a call of its kind brought it
  pieces : All (λ (p : Piece). Booked a.end h p.kind) m.pieces
  blocks : All (λ (b : Block). Booked a.end h b.kind) m.blocks

update_stored : (a : Opening) (m : Moment) (h : List Operation) (o : Operation) → Kept a m h
    → block_cells (update_by m o).blocks + cells_in (update_by m o).pieces ≡ length (update_by m o).store
unfolding update_by stretch_of sum_of
update_stored a m h o k =
    let f = (stretch_of o).first in
    let e = ends (stretch_of o) in
    let ps = m.pieces in
    let blocks = block_cells_append m.blocks (map (block_of o.tick) (inside f e ps)) ∙ ap (λ (n : ℕ). block_cells m.blocks + n) (destroyed_cells o.tick (inside f e ps)) in
    let pieces = cells_append (below f ps) (piece_of o ∷ above e ps) in
    let all = parts_cells f e (omega arith) ps in
    rw (blocks, pieces, length-append m.store o.bytes) (sums _ _ _ _ _ _ _ all k.stored)
  where
    sums : (b i x s a all m : ℕ) → x + (i + a) ≡ all → b + all ≡ m → (b + i) + (x + (s + a)) ≡ m + s
    sums b i x s a all m p q = omega arith

module _ (a : Opening) (m : Moment) (h : List Operation) (o : Operation) (k : Kept a m h) where
  -- a part of a piece is of the piece's kind
  part_booked : (p q : Piece) → q.kind ≡ p.kind → Booked a.end h p.kind → Booked a.end (o ∷ h) q.kind
  part_booked p q same b = rw same (booked_on o b)

  older : {A : Type 0} {kind_of : A → ℕ} {xs : List A} → All (λ (x : A). Booked a.end h (kind_of x)) xs → All (λ (x : A). Booked a.end (o ∷ h) (kind_of x)) xs
  older bs = all_map (λ x b. booked_on o b) bs

  update_pieces : Booked a.end (o ∷ h) o.kind → All (λ (p : Piece). Booked a.end (o ∷ h) p.kind) (update_by m o).pieces
  unfolding update_by
  update_pieces own =
      all_updated o m.pieces (λ (p : Piece). Booked a.end h p.kind) (λ (p : Piece). Booked a.end (o ∷ h) p.kind)
      (λ from to p q part b. part_booked p q part.same_kind b) own k.pieces

  update_blocks : All (λ (b : Block). Booked a.end (o ∷ h) b.kind) (update_by m o).blocks
  unfolding update_by
  update_blocks =
      all_append (older k.blocks)
      (all_of_map (block_of o.tick)
      (all_inside (λ (p : Piece). Booked a.end h p.kind) (λ (p : Piece). Booked a.end (o ∷ h) p.kind) (stretch_of o).first (ends (stretch_of o))
      m.pieces (λ p q part b. part_booked p q part.same_kind b) k.pieces))

record_kept : (l : Ledger) (h : List Operation) (scratch : ℕ) (o : Operation) {r : Result} → record_answer l scratch o ≡ accepted r → Kept l.opening l.now h
    → Kept l.opening (record_by l o).now (o ∷ h)
unfolding record_by read_by
record_kept l h scratch o e k = go (is_read l.now o)
  where
    own : Booked l.opening.end (o ∷ h) o.kind
    own = let z = taken l scratch o e in record { call = o; member = here refl; same_kind = refl; some_cell = z.some_cell; before_end = z.before_end }

    go : (r : Bool) → Kept l.opening (cond r (read_by l.now o) (update_by l.now o)) (o ∷ h)
    go true = record { stored = k.stored; pieces = older l.opening l.now h o k k.pieces; blocks = older l.opening l.now h o k k.blocks }
    go false = record {
      stored = update_stored l.opening l.now h o k;
      pieces = update_pieces l.opening l.now h o k own;
      blocks = update_blocks l.opening l.now h o k;
    }

finish_kept : (l : Ledger) (h : List Operation) → Kept l.opening l.now h → Kept l.opening (finish_by l).now h
unfolding finish_by settled sum_of
finish_kept l h k = record {
  stored =
      rw (block_cells_append l.now.blocks (map (block_of l.opening.end) l.now.pieces), destroyed_cells l.opening.end l.now.pieces) (omega (arith, k.stored));
  pieces = all_nil;
  blocks = all_append k.blocks (all_of_map (block_of l.opening.end) k.pieces);
}

-- of an open index and of a closed one
abbrev KeptThen : (closed : Bool) → Opening → Moment → List Operation → Type 0
KeptThen closed a m h = Kept a m h

kept_by_calls : KeptByCalls KeptThen
unfolding opened sum_of
kept_by_calls = record {
  opens = λ a e. record { stored = refl; pieces = all_nil; blocks = all_nil };
  records = λ l h scratch o e law k. record_kept l h scratch o e k;
  finishes = λ l h e law k. finish_kept l h k;
}

reached_kept : (a : Opening) → open_answer a ≡ accepted tt → (ks : List Call)
    → Kept (after_all (opened a) ks).opening (after_all (opened a) ks).now (history [] (opened a) ks)
reached_kept a e ks = every_board KeptThen kept_by_calls a e ks

-- ── a block with a life ──

-- A call of the kind covers its first cell up to the end; so a block holds the cell at the last tick.
booked_lives : (l : Ledger) (h : List Operation) (kind : ℕ) → Faithful l.opening.end l.now.blocks h → Booked l.opening.end h kind → (k : ℕ) × Lives l kind k
booked_lives l h kind faithful b =
    let tick : ℕ = l.opening.end - 1 in
    let o = b.call in
    let holder = faithful.kept kind tick o.first (omega (arith, b.before_end)) o b.member
    (record {
      by = omega (arith, b.before_end);
      covers = record { same_kind = b.same_kind; has = record { from = omega arith; below = omega (arith, b.some_cell) } };
    }) in
    let place = mem_place no_block holder.1 in
    let held : HoldsCell kind tick o.first (block_by l place.0) = rw place.2 holder.2 in
    (place.0, record { number = place.1; same_kind = held.same_kind; ticks = omega (arith, held.born, held.alive) })

reached_lives : (a : Opening) → open_answer a ≡ accepted tt → (ks : List Call) → finished (after_all (opened a) ks) ≡ true → (kind : ℕ)
    → none_of kind (after_all (opened a) ks).now.blocks ≡ false → (k : ℕ) × Lives (after_all (opened a) ks) kind k
unfolding opened
reached_lives a e ks done kind some_block =
    let l = after_all (opened a) ks in
    let h = history [] (opened a) ks in
    let one = some-owned kind l.now.blocks some_block in
    let same : l.opening.end ≡ a.end = ap (λ (x : Opening). x.end) (opening_kept ks (opened a)) in
    booked_lives l h kind (rw same ((every_list a e ks).faithful done)) (rw one.2 at (all_at no_block (reached_kept a e ks).blocks one.0 one.1))

-- ── room in tables as long ──

-- a longer table has as many rows
more_rows : (head many lent long longer : ℕ) → lent ≡ long → long ≤ longer → many ≤ (lent - head) / row_width → many ≤ (longer - head) / row_width
more_rows head many lent long longer e h g = omega arith

more_entries : (many lent long longer : ℕ) → lent ≡ long → long ≤ longer → many ≤ (lent - entry_head) / entry_width → many ≤ (longer - entry_head) / entry_width
more_entries many lent long longer e h g = omega arith

long_room : {t u : Tables} {l : Ledger} {h : List Operation} → ClosedIn t l → Kept l.opening l.now h → AsLong t u → (kind : ℕ) → RoomFor l kind u
unfolding node_count entry_count
long_room {t} {u} {l} c kept long kind =
    let lengths = c.encodes.lengths in
    let board = c.sound.board in
    let closed = trees_sound c in
    let trees = trees_or_none l.trees in
    let heads = heads_fit (lengths_of t) c.encodes.heads in
    let store : l.opening.lent.store ≡ length t.store = ap (λ (n : Lent). n.store) lengths in
    let few : length l.now.blocks ≤ block_rows l.opening.lent = omega (arith, board.blocks_fit) in
    let nodes : node_count (tree_in l kind) ≤ node_rows l.opening.lent = omega (arith, closed.nodes_fit, sum_at node_count refl trees kind) in
    let entries : entry_count (tree_in l kind) ≤ entry_rows l.opening.lent = omega (arith, closed.entries_fit, sum_at entry_count refl trees kind) in
    record {
      room =
          room_written (lengths_of u) kind l.opening.end l.now.blocks (tree_in l kind)
          (more_rows block_head _ _ _ _ (ap (λ (n : Lent). n.blocks) lengths) long.blocks few)
          (more_rows node_head _ _ _ _ (ap (λ (n : Lent). n.nodes) lengths) long.nodes nodes)
          (more_entries _ _ _ _ (ap (λ (n : Lent). n.entries) lengths) long.entries entries)
          (omega (arith, kept.stored, board.store_fits, store, long.store));
      head = omega (arith, heads.pieces, long.pieces);
    }

module _ (a : Opening) (e : open_answer a ≡ accepted tt) (ks : List Call) (done : finished (after_all (opened a) ks) ≡ true) (kind : ℕ)
    (some_block : none_of kind (after_all (opened a) ks).now.blocks ≡ false) (t : Tables) (slices : Slices t) (stands : Encodes t (after_all (opened a) ks)) where
  abbrev reached : Ledger
  reached = after_all (opened a) ks

  closed : ClosedIn t reached
  closed = record { encodes = stands; sound = (the_law a e ks).sound.sound; closed = done }

  faithful : Faithful reached.opening.end reached.now.blocks (history [] (opened a) ks)
  unfolding opened
  faithful = let same : reached.opening.end ≡ a.end = ap (λ (x : Opening). x.end) (opening_kept ks (opened a)) in rw same ((every_list a e ks).faithful done)

  own : KindIn t reached kind
  own = kind_in slices closed kind some_block

  loaded_again : (u : Tables) → Encodes u (saved_ledger (lengths_of u) reached kind) → Sound (saved_ledger (lengths_of u) reached kind) → LoadedAgain a ks kind t u
  loaded_again u enc sound =
      record {
        alike = alike own enc sound;
        shows = λ tick start stop bytes bytes' held held' answer before ordered cells room room' d.
            cells_show_history a e ks done t stands kind own.opens tick start stop bytes bytes' held held' answer before ordered cells room room'
            (cells_back own enc sound tick start stop cells d);
        touched =
            touching_shows (saved_ledger (lengths_of u) reached kind) (history [] (opened a) ks) u enc sound refl kind (one-opened kind)
            (λ tick start stop before. list_shows_again own enc sound (history [] (opened a) ks) tick start stop
            (list_shows reached (history [] (opened a) ks) closed.sound done faithful kind tick before start stop));
      }

  -- whatever follows of tables that stand for what was saved is true of those that are loaded
  pub reached_reloads : {Good : Tables → Type 0} → ((u : Tables) → Encodes u (saved_ledger (lengths_of u) reached kind) → Sound (saved_ledger (lengths_of u) reached kind) → Good u)
      → Reloads t reached kind (AsLong t) Good
  reached_reloads good out out' wrote w fits file at small same u u' loaded long d =
      let one = reached_lives a e ks done kind some_block in
      reloads own (some_written own one.0 one.1) good out out' wrote w fits file at small same u u' loaded
      (long_room closed (reached_kept a e ks) long kind) d

  reached_again : Reloads t reached kind (AsLong t) (LoadedAgain a ks kind t)
  reached_again = reached_reloads loaded_again

pub saved_and_loaded : SavedAndLoaded
saved_and_loaded = record {
  parts = parts_follow;
  any = λ t l slices c kind k lives. reloads_alike slices c kind k lives;
  reached = λ a e ks done kind some_block t slices stands. reached_again a e ks done kind some_block t slices stands;
  called = λ end kinds some_tick end_most given-kinds t t₀ t' opening d ks given r done kind some_block slices.
      reached_again (opening_of end kinds t) (open_accepted (opening_of end kinds t) some_tick end_most given-kinds.some_kind given-kinds.known) ks done kind some_block
      t' slices (finished_encodes end kinds some_tick end_most given-kinds t t₀ opening d r done);
}
