-- Rule 24 over block and piece rows is rule 24 of history over all blocks of the finished index. Assumes nothing.
use mathlib.Core.Path.{◌≡◌, sym, ap, subst, ◌∙◌}
use mathlib.Core.List.{List, ◌++◌, map, map-map}
use Prim.Native.Nat.{ℕ, zero, suc, ◌+◌, ◌≤◌, ◌<◌, max}
use native.Mathlib.Omega.{arith}
use lib.ListN.{length}
use Rattle.lists.specs.Lists.{All}
use Rattle.lists.proofs.Lists.{all_both, all_of_map, all_un_map, all_at, pairs-append, pairs_left, pairs_across, pairs-map}
use Rattle.lists.proofs.Counting.{all_count_from}
use Rattle.history.specs.Words.{Block, block_of, size, Holds}
use Rattle.history.specs.Rules.{Apart}
use Rattle.history.specs.Tree.{no_block}
use Rattle.history.specs.Ledger.{Ledger}
use Rattle.block_table.specs.Blocks.{place_at, length_at, offset_at, created_at, destroyed_at, block_of_row, blocks_of, Filled, Stored}
use Rattle.block_table.proofs.Blocks.{blocks_at, blocks_length}
use Rattle.ordering.specs.Apart.{HoldsAt}
use Rattle.ordering.proofs.Agreeing.{row_holds, holds_row, unshared_apart, apart_unshared}
use Rattle.piece_table.specs.Piece.{PieceRow}
use Rattle.segment_apart.specs.Apart.{AllBounded}
use Rattle.piece_table.specs.Shown.{shown}
use Rattle.recording.proofs.Telling.{settled_blocks}
use Rattle.layout.specs.Tables.{Tables}
use Rattle.layout.proofs.Pieces.{shown-size}
use Rattle.index_finish.specs.Finish.{StandsOpen, all_blocks}
use Rattle.index_finish.specs.Apart.{Crosses, NoneShared}
use Rattle.lists.proofs.Maps.{pairs_of_map}
use Rattle.index_finish.proofs.Standing.{are_blocks, stored, filled, no_wrap, by_end, piece_rows, are_pieces, pieces_stored, pieces_some}

-- ── a block and a piece ──

-- the block that a piece row becomes
abbrev pub settled_row : (store : List ℕ) (end : ℕ) → PieceRow → Block
settled_row store e p = block_of e (shown store p)

-- two blocks share nothing
abbrev Apart₂ : (a b : Block) → Type 0
Apart₂ x y = (tick cell : ℕ) → Holds tick cell x → Holds tick cell y → ⊥

module _ (store : List ℕ) (e : ℕ) (p : PieceRow) (has : p.offset + p.size ≤ length store) where
  abbrev long : size (shown store p).stretch ≡ p.size
  long = shown-size store p has

  module _ (b : List ℕ) (link : ℕ) (inside : offset_at b link + length_at b link ≤ length store) where
    pub shared_crosses : (tick cell : ℕ) → Holds tick cell (block_of_row store b link) → Holds tick cell (settled_row store e p) → Crosses b link p
    shared_crosses tick cell x y =
        let h : HoldsAt b tick cell link = row_holds store b link inside x in
        record {
          lives = omega (arith, h.born, h.alive);
          meets = record {
            after = omega (arith, h.from, y.has.below, long);
            before = omega (arith, h.below, y.has.from);
            early = omega (arith, h.alive, y.born);
          };
        }

    pub crosses_shared : 0 < length_at b link → 0 < p.size → destroyed_at b link ≤ e → Crosses b link p → Apart₂ (block_of_row store b link) (settled_row store e p) → ⊥
    crosses_shared some full end c apart =
        let tick : ℕ = max (created_at b link) p.written in
        let cell : ℕ = max (place_at b link) p.first in
        let h : HoldsAt b tick cell link = record {
          from = omega arith;
          below = omega (arith, c.meets.before);
          born = omega arith;
          alive = omega (arith, c.lives, c.meets.early);
        } in
        let y : Holds tick cell (settled_row store e p) = record {
          born = omega arith;
          alive = omega (arith, c.lives, c.meets.early);
          has = record { from = omega arith; below = omega (arith, c.meets.after, long) };
        } in
        apart tick cell (holds_row store b link inside h) y

-- ── all blocks ──

module _ (store : List ℕ) {b : List ℕ} {n : ℕ} (e : ℕ) {ps : List PieceRow} (stored : Stored (length store) b n) (filled : Filled b n)
    (by_end : (link : ℕ) → 0 < link → link ≤ n → destroyed_at b link ≤ e) (has : All (λ (p : PieceRow). p.offset + p.size ≤ length store) ps) (some : All (λ (p : PieceRow). 0 < p.size) ps)
    (among : Apart (map (settled_row store e) ps)) where
  pub unshared_settled : NoneShared b n ps → Apart (blocks_of store b n ++ map (settled_row store e) ps)
  unfolding blocks_of
  unshared_settled s = pairs-append (unshared_apart store stored s.blocks_apart) among across
    where
      row : (link : ℕ) → 0 < link → link ≤ n → All (λ (y : Block). Apart₂ (block_of_row store b link) y) (map (settled_row store e) ps)
      row link l u =
          all_of_map (settled_row store e)
          (all_both (λ p h clear tick cell x y. clear (shared_crosses store e p h b link (stored.inside link l u) tick cell x y)) has (s.pieces_apart.clear link l u))

      across : All (λ (x : Block). All (λ (y : Block). Apart₂ x y) (map (settled_row store e) ps)) (blocks_of store b n)
      across = all_of_map (block_of_row store b) (all_count_from 1 n (λ link l u. row link (omega arith) (omega arith)))

  pub settled_unshared : Apart (blocks_of store b n ++ map (settled_row store e) ps) → NoneShared b n ps
  settled_unshared a = record {
    blocks_apart = apart_unshared store stored (pairs_left (blocks_of store b n) (map (settled_row store e) ps) a);
    pieces_apart = record { clear = clear };
  }
    where
      across : All (λ (x : Block). All (λ (y : Block). Apart₂ x y) (map (settled_row store e) ps)) (blocks_of store b n)
      across = pairs_across (blocks_of store b n) (map (settled_row store e) ps) a

      clear : (link : ℕ) → 0 < link → link ≤ n → All (λ (p : PieceRow). Crosses b link p → ⊥) ps
      clear zero l u = absurd (omega arith)
      clear (suc k) l u =
          let at : All (λ (y : Block). Apart₂ (block_of_row store b (suc k)) y) (map (settled_row store e) ps)
          = rw (blocks_at store b n k no_block (omega arith)) at (all_at no_block across k (rw (blocks_length store b n) (omega arith))) in
          let rows : All (λ (p : PieceRow). (p.offset + p.size ≤ length store) × (0 < p.size)) ps = all_both (λ p h f. (h, f)) has some in
          all_both
          (λ p h apart c. crosses_shared store e p h.0 b (suc k) (stored.inside (suc k) l u) (filled.filled (suc k) l u) h.1 (by_end (suc k) l u) c apart)
          rows (all_un_map (settled_row store e) ps at)

-- ── the ledger's ──

module _ {t : Tables} {l : Ledger} (s : StandsOpen t l) where
  pub all_blocks_lem : all_blocks l ≡ blocks_of t.store t.blocks (length l.now.blocks) ++ map (settled_row t.store l.opening.end) (piece_rows s)
  all_blocks_lem =
      settled_blocks t.store (piece_rows s) l.now l.opening.end (are_pieces s)
      ∙ ap (λ (x : List Block). x ++ map (settled_row t.store l.opening.end) (piece_rows s)) (are_blocks s)

  pub bounded : AllBounded t.blocks l.opening.end (length l.now.blocks)
  bounded = record { rows = λ link p q. record { some_cell = (filled s).filled link p q; no_wrap = no_wrap s link p q; by_end = by_end s link p q } }

  -- pieces ascend, so no two of them share a cell
  pieces_apart : Apart (map (settled_row t.store l.opening.end) (piece_rows s))
  pieces_apart =
      subst Apart (ap (map (block_of l.opening.end)) (are_pieces s) ∙ map-map (block_of l.opening.end) (shown t.store) (piece_rows s))
      (pairs_of_map (block_of l.opening.end) (pairs-map (λ p q h tick cell x y. omega (arith, x.has.below, y.has.from)) s.sound.board.in_order))

  -- the tests over rows decide rule 24 for finish
  pub unshared_all : NoneShared t.blocks (length l.now.blocks) (piece_rows s) → Apart (all_blocks l)
  unshared_all h =
      subst Apart (sym all_blocks_lem) (unshared_settled t.store l.opening.end (stored s) (filled s) (by_end s) (pieces_stored s) (pieces_some s) pieces_apart h)

  pub all_unshared : Apart (all_blocks l) → NoneShared t.blocks (length l.now.blocks) (piece_rows s)
  all_unshared a =
      settled_unshared t.store l.opening.end (stored s) (filled s) (by_end s) (pieces_stored s) (pieces_some s) pieces_apart (subst Apart all_blocks_lem a)
