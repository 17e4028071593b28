-- What an update leaves in the tables is what the ledger's update says: pieces, blocks, and all that stays. Assumes nothing.
use mathlib.Core.Path.{◌≡◌, sym, ap, ap₂, ◌∙◌}
use mathlib.Core.List.{List, ◌∷◌, ◌++◌, map, map-map}
use Prim.Native.Nat.{ℕ, ◌+◌, ◌≤◌}
use lib.ListN.{length, take}
use Rattle.lists.specs.Lists.{All}
use Rattle.lists.proofs.Lists.{all_map}
use Rattle.lists.proofs.Maps.{map-append, map_all}
use Rattle.history.specs.Words.{Piece, Block, Operation, stretch_of, piece_of, block_of}
use Rattle.history.specs.Ledger.{Moment, update_by, settled}
use Rattle.block_table.proofs.Blocks.{part_kept}
use Rattle.piece_table.specs.Piece.{PieceRow, row_end, rows_below, rows_inside, rows_above}
use Rattle.piece_table.specs.Shown.{shown, Stored}
use Rattle.piece_table.proofs.Showing.{shown-below, shown-inside, shown-above}

-- ── pieces ──

-- bytes that come behind the used ones are nothing to the pieces
pub shown_kept : (store store' : List ℕ) (used : ℕ) {ps : List PieceRow} → take used store' ≡ take used store → All (λ (p : PieceRow). p.offset + p.size ≤ used) ps
    → map (shown store') ps ≡ map (shown store) ps
shown_kept store store' used same inside = map_all (shown store') (shown store) (all_map (λ p h. one p h) inside)
  where
    one : (p : PieceRow) → p.offset + p.size ≤ used → shown store' p ≡ shown store p
    one p h =
        ap {B = Piece} (λ (bs : List ℕ). record { kind = p.owner; stretch = record { first = p.first; bytes = bs }; written = p.written })
        (part_kept p.offset p.size used store store' same h)

module _ (store : List ℕ) (ps : List PieceRow) (stored : All (Stored store) ps) (m : Moment) (o : Operation) (p : PieceRow) (now : m.pieces ≡ map (shown store) ps) where
  -- the pieces that `apply_update` leaves are the ledger's, where the operation's bytes stand in the store
  pub update_pieces : piece_of o ≡ shown store p → p.first ≡ (stretch_of o).first → p.size ≡ length (stretch_of o).bytes
      → (update_by m o).pieces ≡ map (shown store) (rows_below p.first ps ++ p ∷ rows_above (row_end p) ps)
  unfolding update_by
  update_pieces eo ef es =
      rw (now, eo, ← ef, ← es)
      (ap₂ (λ (u v : List Piece). u ++ (shown store p ∷ v)) (shown-below store ps stored p.first) (shown-above store ps stored (row_end p))
      ∙ sym (map-append (shown store) (rows_below p.first ps) (p ∷ rows_above (row_end p) ps)))

  -- and the blocks that it records
  pub update_blocks : p.first ≡ (stretch_of o).first → p.size ≡ length (stretch_of o).bytes
      → (update_by m o).blocks ≡ m.blocks ++ map (λ q. block_of o.tick (shown store q)) (rows_inside p.first (row_end p) ps)
  unfolding update_by
  update_blocks ef es =
      rw (now, ← ef, ← es)
      (ap (λ (l : List Block). m.blocks ++ l)
      (ap (map (block_of o.tick)) (shown-inside store ps stored p.first (row_end p)) ∙ map-map (block_of o.tick) (shown store) (rows_inside p.first (row_end p) ps)))

-- the blocks that `extract_members` records are those that finish makes of the pieces
pub settled_blocks : (store : List ℕ) (ps : List PieceRow) (m : Moment) (e : ℕ) → m.pieces ≡ map (shown store) ps → settled e m ≡ m.blocks ++ map (λ q. block_of e (shown store q)) ps
unfolding settled
settled_blocks store ps m e now = ap (λ (l : List Piece). m.blocks ++ map (block_of e) l) now ∙ ap (λ (l : List Block). m.blocks ++ l) (map-map (block_of e) (shown store) ps)
