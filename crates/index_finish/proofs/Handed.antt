-- What is seen along the rows of an open index is rule 24 for finish: its rows are sound, and its pieces are the rows of the links. Assumes nothing.
use mathlib.Core.Path.{◌≡◌, sym, subst, ◌∙◌}
use mathlib.Core.Bool.{Bool, true}
use mathlib.Core.List.{List, ◌∷◌, map}
use Prim.Native.Nat.{ℕ, ◌≤◌, ◌<◌, ◌^◌, max}
use native.Mathlib.Omega.{arith}
use lib.ListN.{length}
use Rattle.lists.specs.Lists.{All, Mem, here, there}
use Rattle.lists.proofs.Lists.{all_mem, all_of_mem, all_of_map, all_un_map}
use Rattle.history.specs.Rules.{Apart}
use Rattle.history.specs.Ledger.{Ledger}
use Rattle.history.specs.Sound.{SoundPiece}
use Rattle.tables.specs.Columns.{column, pieces_count}
use Rattle.block_table.specs.Blocks.{place_at}
use Rattle.piece_table.specs.Piece.{row_end, piece_at, Filled, Follow}
use Rattle.piece_table.specs.Rep.{Linked}
use Rattle.piece_table.specs.Shown.{shown}
use Rattle.piece_table.proofs.Order.{follow_above, follow_filled}
use Rattle.piece_table.proofs.Removing.{linked_valid, linked_dense}
use Rattle.handed_rows.specs.Handed.{PieceCell, Sound, RowsApart, SeenHanded}
use Rattle.layout.specs.Tables.{Tables}
use Rattle.index_finish.specs.Finish.{StandsOpen, all_blocks}
use Rattle.index_finish.specs.Apart.{Crosses, NoneShared}
use Rattle.index_finish.proofs.Standing.{no_wrap, by_end, filled, unordered, piece_rows, are_pieces, linked}
use Rattle.index_finish.proofs.Agreeing.{unshared_all}

-- pieces that follow one another share no cell
follow_parted : (t : List ℕ) (low : ℕ) (xs : List ℕ) → Follow low (map (piece_at t) xs) → (i j : ℕ) → Mem i xs → Mem j xs → (i ≡ j → ⊥) → (cell : ℕ) → PieceCell t i cell
    → PieceCell t j cell → ⊥
follow_parted t low mathlib.Core.List.[] f i j x6 _ ne cell p q = elim x6 [ ]
follow_parted t low (x ∷ xs) f i j (here e) (here d) ne cell p q = ne (e ∙ sym d)
follow_parted t low (x ∷ xs) f i j (here e) (there n) ne cell p q =
    let p' : PieceCell t x cell = rw e at p in omega (arith, follow_above (piece_at t) (row_end (piece_at t x)) xs j f.2 n, p'.below, q.from)
follow_parted t low (x ∷ xs) f i j (there m) (here d) ne cell p q =
    let q' : PieceCell t x cell = rw d at q in omega (arith, follow_above (piece_at t) (row_end (piece_at t x)) xs i f.2 m, q'.below, p.from)
follow_parted t low (x ∷ xs) f i j (there m) (there n) ne cell p q = follow_parted t (row_end (piece_at t x)) xs f.2 i j m n ne cell p q

module _ {t : Tables} {l : Ledger} (s : StandsOpen t l) (few : length t.pieces < 2 ^ 64) where
  abbrev n : ℕ
  n = length l.now.blocks

  abbrev m : ℕ
  m = column t.pieces 0 pieces_count

  is_linked : Linked t.pieces s.encodes.pieces.links
  is_linked = linked s few

  piece_sound : (k : ℕ) → Mem k s.encodes.pieces.links → SoundPiece l.opening.kinds l.now (shown t.store (piece_at t.pieces k))
  piece_sound k h =
      all_mem (all_un_map (piece_at t.pieces) s.encodes.pieces.links
      (all_un_map (shown t.store) (piece_rows s) (subst (All (SoundPiece l.opening.kinds l.now)) (are_pieces s) s.sound.board.pieces))) h

  pub rows_sound : Sound t.pieces t.blocks n m l.opening.end
  rows_sound = record {
    no_wrap = record { each = no_wrap s };
    by_end = by_end s;
    written = λ k p q. omega (arith, (piece_sound k (linked_dense is_linked k p q)).written_by_last, s.sound.board.last_below_end);
    parted = λ i j p q r.
        follow_parted t.pieces 0 s.encodes.pieces.links is_linked.order i j (linked_dense is_linked i p (omega arith)) (linked_dense is_linked j (omega arith) r)
        (λ e. omega arith);
  }

  none_shared : RowsApart t.pieces t.blocks n m → NoneShared t.blocks n (piece_rows s)
  none_shared a = record {
    blocks_apart = a.blocks_apart;
    pieces_apart = record { clear = λ link p q. all_of_map (piece_at t.pieces) (all_of_mem s.encodes.pieces.links (λ k h. clear link p q k h)) };
  }
    where
      some : (k : ℕ) → Mem k s.encodes.pieces.links → Filled (piece_at t.pieces k)
      some k h = all_mem (all_un_map (piece_at t.pieces) s.encodes.pieces.links (follow_filled 0 (piece_rows s) is_linked.order)) h

      clear : (link : ℕ) → 0 < link → link ≤ n → (k : ℕ) → Mem k s.encodes.pieces.links → Crosses t.blocks link (piece_at t.pieces k) → ⊥
      clear link p q k h c =
          a.pieces_apart link k p q (linked_valid is_linked h).some (is_linked.dense.within k h) c.lives c.meets.early
          (max (place_at t.blocks link) (piece_at t.pieces k).first)
          (record { from = omega arith; below = omega (arith, c.meets.before, (filled s).filled link p q) })
          (record { from = omega arith; below = omega (arith, c.meets.after, (some k h).some) })

  pub handed-apart : {b' : List ℕ} {known : Bool} → SeenHanded t.pieces t.blocks n m b' known → known ≡ true → Apart (all_blocks l)
  handed-apart h y = unshared_all s (none_shared (h.shown y (unordered s) l.opening.end rows_sound))
