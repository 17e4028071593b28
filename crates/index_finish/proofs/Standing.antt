-- What tables that stand for an open ledger have: room for their rows, rows that are the ledger's blocks, pieces in order. Assumes nothing.
use mathlib.Core.Path.{◌≡◌, sym, ap, subst, ◌∙◌}
use mathlib.Core.Bool.{false, true≢false}
use mathlib.Core.Option.{Option, none, some}
use mathlib.Core.List.{List, map}
use Prim.Native.Nat.{ℕ, zero, suc, ◌+◌, ◌-◌, ◌/◌, ◌≤◌, ◌<◌, ◌^◌}
use native.Mathlib.Omega.{arith}
use lib.ListN.{length, get_or, length-map}
use Rattle.lists.specs.Lists.{All}
use Rattle.lists.proofs.Lists.{all_both, all_at, all_of_map, all_un_map}
use Rattle.history.specs.Lent.{row_width, block_head, block_rows}
use Rattle.history.specs.Words.{Block}
use Rattle.history.specs.Tree as segment
use Rattle.history.specs.Tree.{no_block}
use Rattle.history.specs.Ledger.{Ledger, is_some}
use Rattle.history.specs.Sound.{SoundPiece, SoundBlock, SoundBoard}
use Rattle.history.proofs.ByKind.{kind_known}
use Rattle.tables.specs.Columns.{column, pieces_count, head_used}
use Rattle.block_table.specs.Blocks.{first_cell_at, Room, length_at, offset_at, owner_at, destroyed_at, block_of_row, blocks_of, Filled, Stored}
use Rattle.block_table.proofs.Blocks.{blocks_at, bytes_length}
use Rattle.ordering.specs.Order.{Unordered}
use Rattle.piece_table.specs.Piece as whole
use Rattle.piece_table.specs.Piece.{PieceRow, piece_at}
use Rattle.piece_table.specs.Rep.{Linked, Rep}
use Rattle.piece_table.specs.Shown.{shown}
use Rattle.layout.specs.Tables.{Tables, lengths_of, head_at}
use Rattle.layout.specs.Encodes.{Encodes, TreesIn}
use Rattle.layout.proofs.Pieces.{shown-size, used_fits, pieces_inside, pieces_filled, pieces_linked, pieces_rep, pieces_shown}
use Rattle.layout.proofs.Lengths.{Heads, heads_fit}
use Rattle.index_finish.specs.Finish.{StandsOpen}

module _ {t : Tables} {l : Ledger} (s : StandsOpen t l) where
  abbrev e : Encodes t l
  e = s.encodes

  abbrev b : SoundBoard l
  b = s.sound.board

  pub heads : Heads (lengths_of t)
  heads = heads_fit (lengths_of t) e.heads

  -- ── room ──

  pub rows_fit : length l.now.blocks + length l.now.pieces ≤ (length t.blocks - block_head) / row_width
  rows_fit =
      let q : block_rows l.opening.lent ≡ block_rows (lengths_of t) = ap block_rows e.lengths in
      rw (← q) b.blocks_fit

  pub room : Room t.blocks (length l.now.blocks + length l.now.pieces)
  room = omega (arith, rows_fit, heads.blocks)

  pub few_rows : length t.blocks < 2 ^ 64 → length l.now.blocks + length l.now.pieces < 2 ^ 64 - 1
  few_rows h = omega (arith, rows_fit)

  -- ── blocks ──

  pub are_blocks : l.now.blocks ≡ blocks_of t.store t.blocks (length l.now.blocks)
  are_blocks = e.blocks ∙ ap (blocks_of t.store t.blocks) e.count

  pub stored : Stored (length t.store) t.blocks (length l.now.blocks)
  stored = record { inside = λ link p q. let i : offset_at t.blocks link + length_at t.blocks link ≤ head_at t head_used = e.blocks_stored.inside link p (rw e.count q) in omega (arith, used_fits t l e) }

  row_sound : (link : ℕ) → 0 < link → link ≤ length l.now.blocks → SoundBlock l.opening.kinds l.opening.end l.now.store (block_of_row t.store t.blocks link)
  row_sound zero p q = absurd (omega arith)
  row_sound (suc k) p q =
      let at : get_or l.now.blocks k no_block ≡ block_of_row t.store t.blocks (suc k)
      = ap (λ (x : List Block). get_or x k no_block) are_blocks ∙ blocks_at t.store t.blocks (length l.now.blocks) k no_block (omega arith) in
      subst (SoundBlock l.opening.kinds l.opening.end l.now.store) at (all_at no_block b.blocks k (omega arith))

  pub no_wrap : (link : ℕ) → 0 < link → link ≤ length l.now.blocks → first_cell_at t.blocks link + length_at t.blocks link ≤ 2 ^ 64 - 1
  unfolding block_of_row
  no_wrap link p q = omega (arith, bytes_length t.store t.blocks link (stored.inside link p q), (row_sound link p q).stretch.no_wrap)

  pub filled : Filled t.blocks (length l.now.blocks)
  unfolding block_of_row
  filled = record {
    filled = λ link p q. rw (← bytes_length t.store t.blocks link (stored.inside link p q)) (row_sound link p q).stretch.some_cell;
    no_wrap = λ link p q. omega (arith, no_wrap link p q);
  }

  pub by_end : (link : ℕ) → 0 < link → link ≤ length l.now.blocks → destroyed_at t.blocks link ≤ l.opening.end
  unfolding block_of_row
  by_end link p q = (row_sound link p q).by_end

  pub unordered : Unordered t.blocks (length l.now.blocks)
  unordered = go l.trees s.still_open e.trees
    where
      go : (trees : Option (List segment.Tree)) → is_some trees ≡ false → TreesIn t l trees → Unordered t.blocks (length l.now.blocks)
      go none o u = u
      go (some trees) o u = absurd (true≢false o)

  pub known : (link : ℕ) → 0 < link → link ≤ length l.now.blocks → owner_at t.blocks link ≤ 4
  unfolding block_of_row
  known link p q = kind_known l.opening.kinds (owner_at t.blocks link) b.known_kinds (row_sound link p q).own_kind

  -- ── pieces ──

  -- the rows of the pieces, in order
  abbrev pub piece_rows : List PieceRow
  piece_rows = map (piece_at t.pieces) e.pieces.links

  pub are_pieces : l.now.pieces ≡ map (shown t.store) piece_rows
  are_pieces = pieces_shown t l e

  pub pieces_stored : All (λ (p : PieceRow). p.offset + p.size ≤ length t.store) piece_rows
  pieces_stored = all_of_map (piece_at t.pieces) (pieces_inside t l e b)

  pub pieces_some : All (λ (p : PieceRow). 0 < p.size) piece_rows
  pieces_some =
      all_both (λ p h g. omega (arith, shown-size t.store p h, g.stretch.some_cell)) pieces_stored
      (all_un_map (shown t.store) piece_rows (subst (All (SoundPiece l.opening.kinds l.now)) are_pieces b.pieces))

  pub pieces_whole : All whole.Filled piece_rows
  pieces_whole = all_of_map (piece_at t.pieces) (pieces_filled t l e b s.few)

  pub linked : length t.pieces < 2 ^ 64 → Linked t.pieces e.pieces.links
  linked few = pieces_linked t l e b few s.few

  pub rep : length t.pieces < 2 ^ 64 → Rep t.pieces piece_rows
  rep few = pieces_rep t l e b few s.few

  pub piece-count : column t.pieces 0 pieces_count ≡ length l.now.pieces
  piece-count = sym e.pieces.linked.count ∙ sym (length-map e.pieces.links (λ link. shown t.store (piece_at t.pieces link))) ∙ ap length (sym e.pieces.shows)
