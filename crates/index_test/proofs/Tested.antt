-- The returns of the test of all tables: open, closed or not well formed. Assumes nothing.
use mathlib.Core.Path.{◌≡◌, refl, ap, sym, ◌∙◌, subst}
use mathlib.Core.Bool.{Bool, true, false, not}
use mathlib.Core.Option.{Option, none, some}
use mathlib.Core.List.{List, [], ◌∷◌, map}
use Prim.Native.Nat.{ℕ, suc, ◌^◌, ◌<◌}
use native.Mathlib.Omega.{arith}
use lib.ListN.{length}
use borrow.Author.Tests.{not-true, not-false}
use Rattle.lists.specs.Lists.{count_from}
use Rattle.lists.specs.Tests.{Decides}
use Rattle.lists.proofs.Numbers.{refute, decides_iff}
use Rattle.history.specs.Words.{Block}
use Rattle.history.specs.Lent.{Lent}
use Rattle.history.specs.Tree.{Tree, no_block}
use Rattle.history.specs.Rules.{Apart}
use Rattle.history.specs.Ledger.{Ledger}
use Rattle.history.specs.Sound.{Sound, SoundTrees, SoundClosed, SoundBoard}
use Rattle.tables.proofs.Masks.{opens_low}
use Rattle.tables.specs.Columns.{column, pieces_count, head_state, head_end, head_kinds, head_count}
use Rattle.block_table.specs.Blocks.{blocks_of, block_of_row, owner_at, Stored}
use Rattle.block_table.proofs.Blocks.{blocks_length, blocks_at, blocks_key}
use Rattle.piece_table.specs.Piece.{piece_at}
use Rattle.piece_table.specs.Shown.{shown}
use Rattle.ordering.specs.Order.{Unordered}
use Rattle.segment_test.specs.Test.{BlockRows, ClosedTrees}
use Rattle.segment_apart.specs.Apart.{AllBounded, ClosedApart}
use Rattle.segment_apart.proofs.Agreeing.{closed_decides}
use Rattle.layout.specs.Tables.{Tables, lengths_of, head_at, tree_tables}
use Rattle.layout.specs.Encodes.{Encodes, TreesIn, state_of, open_state, closed_state}
use Rattle.layout.specs.Formed.{WellFormed}
use Rattle.layout.proofs.Lengths.{heads_fit}
use Rattle.index_test.specs.Board.{BoardFormed, OpenFormed, ClosedPart, ClosedFormed, TestedClosed, Outcome}
use Rattle.index_test.specs.declared.State.TheVariants.{Bad, Open, Closed as IsClosed}
use Rattle.index_test.proofs.Ledgers.{ledger_of, board_links, board_encodes, board_sound, board_formed}

-- ── the closed part ──

-- the rows of the block table are the blocks, as far as trees can tell
block_rows_lem : (t : Tables) → BoardFormed t → BlockRows t.blocks (head_at t head_count) (blocks_of t.store t.blocks (head_at t head_count))
unfolding block_of_row
block_rows_lem t b =
    let n = head_at t head_count in
    record {
      many = blocks_length t.store t.blocks n;
      known = λ k h. omega (arith, opens_low (head_at t head_kinds) (owner_at t.blocks (suc k)) (b.rows.rows (suc k) (omega arith) (omega arith)).own_kind);
      kinds = λ k h. ap (λ (b : Block). b.kind) (blocks_at t.store t.blocks n k no_block h);
      first = λ k h. blocks_key t.store t.blocks n k h;
      created = λ k h. ap (λ (b : Block). b.created) (blocks_at t.store t.blocks n k no_block h);
      destroyed = λ k h. ap (λ (b : Block). b.destroyed) (blocks_at t.store t.blocks n k no_block h);
    }

rows_bounded : (t : Tables) → BoardFormed t → AllBounded t.blocks (head_at t head_end) (head_at t head_count)
rows_bounded t b = record {
  rows = λ link p q. let row = b.rows.rows link p q in record { some_cell = row.some_cell; no_wrap = row.no_wrap; by_end = row.by_end };
}

rows_stored : (t : Tables) → BoardFormed t → Stored (length t.store) t.blocks (head_at t head_count)
rows_stored t b = record { inside = λ link p q. omega (arith, (b.rows.rows link p q).stored, b.numbers.used_fits) }

pub closed_pieces : (t : Tables) (n : ℕ) → n ≡ column t.pieces 0 pieces_count → (n ≡ 0 → ⊥) → TestedClosed t false
closed_pieces t n e ne = record { decides = λ b. refute (λ p. ne (e ∙ p.no_pieces)) }

module _ (t : Tables) (n end : ℕ) (r : Bool) (e : n ≡ head_at t head_count) (f : end ≡ head_at t head_end)
    (trees : (bs : List Block) → BlockRows t.blocks n bs → Decides r (ClosedTrees (tree_tables t) end bs)) where
  trees_tested : BoardFormed t → Decides r (ClosedTrees (tree_tables t) (head_at t head_end) (blocks_of t.store t.blocks (head_at t head_count)))
  trees_tested b = rw f at (trees (blocks_of t.store t.blocks (head_at t head_count)) (rw e (block_rows_lem t b)))

  pub closed_trees : r ≡ false → TestedClosed t r
  closed_trees no-trees = record { decides = λ b. rw no-trees (refute (λ p. (trees_tested b).not no-trees p.trees)) }

  pub closed_apart : (pieces : ℕ) {a : Bool} → pieces ≡ column t.pieces 0 pieces_count → pieces ≡ 0 → r ≡ true → ClosedApart (tree_tables t) end n a
      → TestedClosed t a
  closed_apart pieces {a} p zero stands test = record {
    decides = λ b.
        let in_tables = (trees_tested b).yes stands in
        let here : ClosedApart (tree_tables t) (head_at t head_end) (head_at t head_count) a = rw (e, f) at test in
        decides_iff a (λ x. record { no_pieces = sym p ∙ zero; apart = x; trees = in_tables }) (λ x. x.apart)
        (closed_decides (tree_tables t) (head_at t head_end) (head_at t head_count) t.store here (block_rows_lem t b) in_tables (rows_bounded t b) (rows_stored t b));
  }

pub ruleset closing = (closed_pieces, closed_trees, closed_apart)

-- ── all tables ──

-- what a sound ledger in the tables says of them
formed_board : (t : Tables) → length t.pieces < 2 ^ 64 → length t.store < 2 ^ 64 → WellFormed t → BoardFormed t
formed_board t few fits w = board_formed t w.ledger w.encodes w.sound.board few fits

state_open : (x : Option (List Tree)) → state_of x ≡ open_state → x ≡ none
state_open none e = refl
state_open (some y) e = absurd (omega arith)

formed_open : (t : Tables) (l : Ledger) → Encodes t l → head_at t head_state ≡ open_state → Unordered t.blocks (head_at t head_count)
formed_open t l e s =
    let open' : l.trees ≡ none = state_open l.trees (sym e.state ∙ s) in
    rw e.count (subst (λ (x : Option (List Tree)). TreesIn t l x) open' e.trees)

state_closed : (x : Option (List Tree)) → state_of x ≡ closed_state → (y : List Tree) × (x ≡ some y)
state_closed none e = absurd (omega arith)
state_closed (some y) e = (y, refl)

state_one : (x : Option (List Tree)) → (state_of x ≡ open_state → ⊥) → state_of x ≡ closed_state
state_one none e = absurd (e refl)
state_one (some y) e = refl

pub test_board_bad : (t : Tables) (r : Bool) → length t.pieces < 2 ^ 64 → length t.store < 2 ^ 64 → not r ≡ true → Decides r (BoardFormed t) → Outcome Bad t
test_board_bad t r few fits e d w = d.not (not-true r e) (formed_board t few fits w)

pub test_open : (t : Tables) (b r : Bool) (state n : ℕ) → not b ≡ false → Decides b (BoardFormed t) → state ≡ head_at t head_state → state ≡ open_state → n ≡ head_at t head_count
    → r ≡ true → Decides r (Unordered t.blocks n) → Outcome Open t
test_open t b r state n eb db s is e er dr = record { board = db.yes (not-false b eb); state = sym s ∙ is; unordered = rw (← e) (dr.yes er) }

pub test_open_bad : (t : Tables) (r : Bool) (state n : ℕ) → state ≡ head_at t head_state → state ≡ open_state → n ≡ head_at t head_count
    → r ≡ false → Decides r (Unordered t.blocks n) → Outcome Bad t
test_open_bad t r state n s is e er dr w = dr.not er (rw e (formed_open t w.ledger w.encodes (sym s ∙ is)))

pub test_state_bad : (t : Tables) (state : ℕ) → state ≡ head_at t head_state → (state ≡ open_state → ⊥) → (state ≡ closed_state → ⊥) → Outcome Bad t
test_state_bad t state s ne nc w =
    nc (s ∙ w.encodes.state ∙ state_one w.ledger.trees (λ e. ne (s ∙ w.encodes.state ∙ e)))

pub test_closed : (t : Tables) (b r : Bool) (state : ℕ) → not b ≡ false → Decides b (BoardFormed t) → state ≡ head_at t head_state → state ≡ closed_state
    → r ≡ true → TestedClosed t r → Outcome IsClosed t
test_closed t b r state eb db s is er dr =
    let board = db.yes (not-false b eb) in
    record { board = board; state = sym s ∙ is; part = (dr.decides board).yes er }

-- ── a closed ledger in the tables ──

no_links : (links : List ℕ) → {A : Type 0} (f : ℕ → A) → [] ≡ map f links → length links ≡ 0
no_links [] f e = refl
no_links (x ∷ xs) f e = let z : ◌≡◌ {A = ℕ} 0 1 = cc in absurd (omega arith)

module _ (t : Tables) (l : Ledger) (trees : List Tree) (e : Encodes t l) (s : SoundBoard l) (c : SoundClosed l trees) (in-trees : TreesIn t l (some trees)) where
  same_blocks : l.now.blocks ≡ blocks_of t.store t.blocks (head_at t head_count)
  same_blocks = e.blocks

  no_more : column t.pieces 0 pieces_count ≡ 0
  no_more = sym e.pieces.linked.count ∙ no_links e.pieces.links (λ link. shown t.store (piece_at t.pieces link)) (sym c.no_pieces ∙ e.pieces.shows)

  closed_in : ClosedTrees (tree_tables t) (head_at t head_end) l.now.blocks
  closed_in = record {
    trees = trees;
    block_room = omega (arith, ap (λ (n : Lent). n.blocks) e.lengths, s.blocks_fit, ap (λ (bs : List Block). length bs) same_blocks, (heads_fit (lengths_of t) e.heads).blocks);
    entry_room = omega (arith, ap (λ (n : Lent). n.entries) e.lengths, c.entries_fit, in-trees.all_entries_lem, (heads_fit (lengths_of t) e.heads).entries);
    closed = rw e.end in-trees;
    each = λ kind low. rw e.end (c.each kind (omega arith));
  }

  closed_part : ClosedPart t
  closed_part = record {
    no_pieces = no_more;
    apart = subst Apart same_blocks c.rule_24;
    trees = subst (λ (bs : List Block). ClosedTrees (tree_tables t) (head_at t head_end) bs) same_blocks closed_in;
  }

pub test_closed_bad : (t : Tables) (b r : Bool) (state : ℕ) → length t.pieces < 2 ^ 64 → length t.store < 2 ^ 64 → not b ≡ false → Decides b (BoardFormed t)
    → state ≡ head_at t head_state → state ≡ closed_state → r ≡ false → TestedClosed t r → Outcome Bad t
test_closed_bad t b r state few fits eb db s is er dr w =
    let y = state_closed w.ledger.trees (sym w.encodes.state ∙ sym s ∙ is) in
    let in-trees = subst (λ (x : Option (List Tree)). TreesIn t w.ledger x) y.1 w.encodes.trees in
    let closed = subst (λ (x : Option (List Tree)). SoundTrees w.ledger x) y.1 w.sound.closed in
    (dr.decides (db.yes (not-false b eb))).not er (closed_part t w.ledger y.0 w.encodes w.sound.board closed in-trees)

pub ruleset testing = (test_board_bad, test_open, test_open_bad, test_state_bad, test_closed, test_closed_bad)

-- ── tables that pass are well formed ──

-- the ledger of tables that pass, with its trees
pub record Passes (t : Tables) (x : Option (List Tree)) : Type 0 where
  pub ledger : Ledger
  pub encodes : Encodes t ledger
  pub sound : Sound ledger
  pub trees : ledger.trees ≡ x

pub passes_formed : {t : Tables} {x : Option (List Tree)} → Passes t x → WellFormed t
passes_formed p = record { ledger = p.ledger; encodes = p.encodes; sound = p.sound }

pub open_passes : (t : Tables) → OpenFormed t → Passes t none
unfolding ledger_of
open_passes t o = record {
  ledger = ledger_of t (board_links t o.board) none;
  encodes = board_encodes t o.board none o.state (rw (blocks_length t.store t.blocks (head_at t head_count)) o.unordered);
  sound = record { board = board_sound t o.board none; closed = tt };
  trees = refl;
}

pub closed_passes : (t : Tables) (c : ClosedFormed t) → Passes t (some c.part.trees.trees)
unfolding ledger_of board_links count_from
closed_passes t c =
    let k = c.part.trees in
    let room = k.closed.room in
    record {
      ledger = ledger_of t (board_links t c.board) (some k.trees);
      encodes =
          board_encodes t c.board (some k.trees) c.state
          k.closed;
      sound = record {
        board = board_sound t c.board (some k.trees);
        closed = record {
          no_pieces = none_left (λ link. shown t.store (piece_at t.pieces link)) (board_links t c.board) (c.board.pieces.rep.linked.dense.count ∙ c.part.no_pieces);
          five = k.closed.five;
          each = λ kind low. k.each kind (omega arith);
          rule_24 = c.part.apart;
          nodes_fit = omega (arith, k.closed.all_rows_lem, room);
          entries_fit = omega (arith, k.closed.all_entries_lem, k.entry_room);
        };
      };
      trees = refl;
    }
  where
    none_left : {A : Type 0} (f : ℕ → A) (links : List ℕ) → length links ≡ 0 → map f links ≡ []
    none_left f [] e = refl
    none_left f (x ∷ xs) e = absurd (omega arith)
