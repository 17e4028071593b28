-- The blocks that are live at a tick of a closed index, from its tables. Assumes nothing.
use Rattle.std.specs.Prelude.{Option}
use mathlib.Core.Path.{◌≡◌, refl, ap, sym, ◌∙◌}
use mathlib.Core.Bool.{Bool, true, false, cond}
use mathlib.Core.List.{List}
use Prim.Native.Nat.{ℕ, suc, ◌+◌, ◌≤◌, ◌<◌}
use native.Mathlib.Omega.{arith}
use lib.ListN.{length, get_or, drop}
use lib.Seq.{get_or-take, get_or-drop}
use Rattle.lists.specs.Lists.{All, Mem, count}
use Rattle.lists.proofs.Lists.{all_map}
use Rattle.lists.proofs.Counting.{mem_count, count_mem}
use Rattle.history.specs.Words.{Block, end_cell, live_of}
use Rattle.history.specs.Lent.{Lent}
use Rattle.history.specs.Tree.{Tree, no_block, tree_at, block_at, key_in}
use Rattle.history.specs.Find.{path}
use Rattle.history.specs.Rules.{Apart}
use Rattle.history.specs.Ledger.{Ledger, finished}
use Rattle.history.specs.Sound.{Sound, SoundStretch}
use Rattle.history.proofs.ByKind.{kind_known}
use Rattle.tables.specs.Masks.{opens}
use Rattle.tables.specs.Columns.{block_column, head_kinds, head_end, head_count}
use Rattle.block_table.specs.Blocks.{Room, first_cell_at, block_of_row, length_at, offset_at}
use Rattle.block_table.proofs.Blocks.{blocks_at, blocks_key, bytes_length}
use Rattle.segment_table.specs.Closed.{TreeOf}
use Rattle.segment_walk.specs.Walking.{Rooted}
use Rattle.segment_walk.proofs.Agreeing.{tree_rooted}
use Rattle.segment_near.specs.declared.Side.{Side}
use Rattle.segment_near.specs.declared.Neighbour.{Neighbour}
use Rattle.segment_near.specs.Neighbours.{Neighbours, NearestLive}
use Rattle.segment_near.proofs.Agreeing.{nearest_model}
use Rattle.layout.specs.Tables.{Tables, tables, head_at, tree_tables}
use Rattle.layout.specs.Encodes.{Encodes}
use Rattle.layout.proofs.Pieces.{used_fits}
use Rattle.layout.proofs.Trees.{tree_known}
use Rattle.layout.proofs.ReadLaws.{opens_kind_lem}
use Rattle.live_blocks.specs.Live.{ClosedAt}

-- ── an index at a tick ──

-- the tables of a closed index, at a tick below its end
pub closed_at : {pieces blocks store nodes entries : List ℕ} (kind : ℕ) {tick : ℕ} {l : Ledger} → Encodes (tables pieces blocks store nodes entries) l → Sound l → finished l ≡ true
    → opens (block_column blocks 0 head_kinds) kind ≡ true → tick < block_column blocks 0 head_end → ClosedAt blocks store nodes entries kind tick l
closed_at {pieces} kind e s done k h = record {
  pieces = pieces;
  encodes = e;
  sound = s;
  done = done;
  opened = opens_kind_lem e kind ∙ k;
  before_end = omega (arith, e.end);
}

-- ── the tree by the head ──

-- the neighbour in the kind's tree, up to the end that the head says
pub near_in : {blocks nodes entries ns es : List ℕ} {kind its_kind end tick : ℕ} {side : Side} {place : ℕ} {r : Option Neighbour} → TreeOf blocks nodes entries kind ns es its_kind end
    → NearestLive ns es its_kind end tick side place r → NearestLive nodes entries kind (block_column blocks 0 head_end) tick side place r
near_in t n = rw (← t.in_nodes, ← t.in_entries, ← t.own_kind, ← t.end) n

-- ── what the tables say of a block ──

-- block k is the row behind link k, and its bytes are in the store
pub record Row (blocks store : List ℕ) (bs : List Block) (k : ℕ) : Type 0 where
  pub known : k < block_column blocks 0 head_count
  pub room : Room blocks (suc k)
  pub first : first_cell_at blocks (suc k) ≡ key_in bs k
  pub ended : first_cell_at blocks (suc k) + length_at blocks (suc k) ≡ end_cell (block_at bs k)
  pub inside : offset_at blocks (suc k) + length_at blocks (suc k) ≤ length store
  pub byte : (j : ℕ) → j < length_at blocks (suc k) → get_or (block_at bs k).stretch.bytes j 0 ≡ get_or store (offset_at blocks (suc k) + j) 0

row_known : (t : Tables) (l : Ledger) → Encodes t l → Sound l → (k : ℕ) → k < length l.now.blocks → Row t.blocks t.store l.now.blocks k
unfolding block_of_row
row_known t l e s k h =
    let at : k < head_at t head_count = omega (arith, e.count) in
    let is : block_at l.now.blocks k ≡ block_of_row t.store t.blocks (suc k) =
    ap (λ (bs : List Block). get_or bs k no_block) e.blocks ∙ blocks_at t.store t.blocks (head_at t head_count) k no_block at in
    let fits : offset_at t.blocks (suc k) + length_at t.blocks (suc k) ≤ length t.store =
    omega (arith, e.blocks_stored.inside (suc k) (omega arith) (omega arith), used_fits t l e) in
    record {
      known = at;
      room = omega (arith, s.board.blocks_fit, ap (λ (n : Lent). n.blocks) e.lengths);
      first = sym (rw e.blocks (blocks_key t.store t.blocks (head_at t head_count) k at));
      ended = sym (ap end_cell is ∙ omega (arith, bytes_length t.store t.blocks (suc k) fits));
      inside = fits;
      byte = λ j b.
          ap (λ (x : Block). get_or x.stretch.bytes j 0) is
          ∙ get_or-take (length_at t.blocks (suc k)) (drop (offset_at t.blocks (suc k)) t.store) j 0 b
          ∙ get_or-drop (offset_at t.blocks (suc k)) t.store j 0;
    }

-- ── what the tree says of a tick ──

-- The numbers on the way down to a tick in a kind's tree are those of its live blocks of the kind, each once, which share no cell; a neighbour found in the tables is one of them.
pub record Living (blocks store nodes entries : List ℕ) (kind tick : ℕ) (bs : List Block) : Type 0 where
  pub tree : Tree
  pub rooted : Rooted blocks nodes entries kind (block_column blocks 0 head_end) tree
  pub list : List ℕ
  pub way : path tick 0 (block_column blocks 0 head_end) tree ≡ list
  pub once : (k : ℕ) → count k list ≡ cond (live_of kind tick (block_at bs k)) 1 0
  pub met : (k : ℕ) → live_of kind tick (block_at bs k) ≡ true → Mem k list
  pub lives : (k : ℕ) → Mem k list → live_of kind tick (block_at bs k) ≡ true
  pub apart : Apart bs
  pub used : List ℕ
  pub lies : All (λ (b : Block). SoundStretch b.kind used b.stretch) bs
  pub near : (side : Side) (place : ℕ) {r : Option Neighbour}
      → NearestLive nodes entries kind (block_column blocks 0 head_end) tick side place r → Neighbours side (key_in bs) place list r
  pub row : (k : ℕ) → k < length bs → Row blocks store bs k

-- a number is on a list exactly if its block is live
listed : (list : List ℕ) (k : ℕ) (b : Bool) → count k list ≡ cond b 1 0 → b ≡ true → Mem k list
listed list k b e h = count_mem k list (let one : count k list ≡ 1 = e ∙ rw h in omega arith)

unlisted : (list : List ℕ) (k : ℕ) (b : Bool) → count k list ≡ cond b 1 0 → Mem k list → b ≡ true
unlisted list k true e m = refl
unlisted list k false e m = absurd (omega (arith, mem_count m))

living_in : (t : Tables) (l : Ledger) → Encodes t l → Sound l → (kind tick : ℕ) → kind ≤ 4 → tick < l.opening.end → finished l ≡ true
    → Living t.blocks t.store t.nodes t.entries kind tick l.now.blocks
living_in t l e s kind tick low before done =
    let bs = l.now.blocks in
    let k = tree_known t l e s kind low done in
    let way = path tick 0 l.opening.end (tree_at k.trees kind) in
    record {
      tree = tree_at k.trees kind;
      rooted = rw e.end (tree_rooted (tree_tables t) kind l.opening.end bs (tree_at k.trees kind) k.stood k.some_tick k.order k.keys);
      list = way;
      way = ap (λ (end : ℕ). path tick 0 end (tree_at k.trees kind)) e.end;
      once = λ j. k.met tick j before;
      met = λ j h. listed way j (live_of kind tick (block_at bs j)) (k.met tick j before) h;
      lives = λ j m. unlisted way j (live_of kind tick (block_at bs j)) (k.met tick j before) m;
      apart = k.apart;
      used = l.now.store;
      lies = all_map (λ b x. x.stretch) s.board.blocks;
      near = λ side place n.
          nearest_model (tree_tables t) kind l.opening.end bs (tree_at k.trees kind) k.stood k.some_tick k.order k.keys tick side place (rw e.end at n);
      row = λ j h. row_known t l e s j h;
    }

pub living : {blocks store nodes entries : List ℕ} {kind tick : ℕ} {l : Ledger} → ClosedAt blocks store nodes entries kind tick l
    → Living blocks store nodes entries kind tick l.now.blocks
living {blocks} {store} {nodes} {entries} {kind} {tick} {l} c =
    living_in (tables c.pieces blocks store nodes entries) l c.encodes c.sound kind tick
    (kind_known l.opening.kinds kind c.sound.board.known_kinds c.opened) c.before_end c.done
