-- The pieces of a table and of the ledger that it stands for: the layout with document 01's conditions is what `test_pieces` decides. Assumes nothing.
use mathlib.Core.Path.{◌≡◌, refl, ap, sym, ◌∙◌, subst}
use mathlib.Core.Bool.{true}
use mathlib.Core.List.{List, [], ◌∷◌, map}
use Prim.Native.Nat.{ℕ, ◌+◌, ◌^◌, ◌≤◌, ◌<◌}
use native.Mathlib.Omega.{arith}
use lib.ListN.{length, take, drop, length-drop, length-take}
use lib.Seq.{length-take-le}
use Rattle.lists.proofs.Maps.{map-map}
use Rattle.lists.proofs.Parts.{part-part}
use Rattle.lists.specs.Lists.{All, all_cons, pairs_nil, pairs_cons, has}
use Rattle.lists.proofs.Lists.{all_map, all_both, all_of_map, all_un_map, all_any}
use Rattle.history.specs.Words.{Piece, size, ends}
use Rattle.history.specs.Ledger.{Ledger}
use Rattle.history.specs.Sound.{SoundPiece, InOrder, SoundBoard}
use Rattle.tables.specs.Masks.{opens, kinds_in}
use Rattle.tables.proofs.Masks.{kinds_has}
use Rattle.tables.specs.Columns.{head_kinds, head_used, head_last}
use Rattle.piece_table.specs.Piece.{PieceRow, row_end, piece_at, Filled, Follow}
use Rattle.piece_table.specs.Shown.{shown}
use Rattle.piece_table.specs.Rep.{Linked, Rep}
use Rattle.piece_table.specs.Test as piece
use Rattle.piece_table.proofs.Order.{follow_right}
use Rattle.layout.specs.Tables.{Tables, head_at}
use Rattle.layout.specs.Encodes.{Encodes}

-- ── a piece shown ──

-- a piece whose bytes are all in the store has as many cells as its row says
pub shown-size : (store : List ℕ) (p : PieceRow) → p.offset + p.size ≤ length store → size (shown store p).stretch ≡ p.size
shown-size store p h = length-take-le p.size (drop p.offset store) (omega (arith, length-drop p.offset store))

-- a part that ends in the first n elements of a list is a part of those
pub part_front : (k m n : ℕ) (l : List ℕ) → k + m ≤ n → take m (drop k (take n l)) ≡ take m (drop k l)
part_front k m n l h = let e : 0 + k ≡ k = omega arith in part-part 0 n k m l h ∙ ap (λ (j : ℕ). take m (drop j l)) e

-- ── from the ledger to the table ──

-- what is known of a row by the piece that it shows
row_filled : (kinds : List ℕ) (store : List ℕ) (p : PieceRow) (l : Ledger) → length store < 2 ^ 64 → p.offset + p.size ≤ length store → SoundPiece kinds l.now (shown store p) → Filled p
row_filled kinds store p l few inside s =
    let n = shown-size store p inside in
    record {
      some = omega (arith, s.stretch.some_cell);
      line = omega (arith, s.stretch.from_line);
      near = omega (arith, s.stretch.no_wrap);
      stored = omega arith;
    }

follows : (at : ℕ → PieceRow) (store : List ℕ) (low : ℕ) (links : List ℕ) → All (λ link. low ≤ (at link).first) links → All (λ link. Filled (at link)) links
    → All (λ link. (at link).offset + (at link).size ≤ length store) links → InOrder (map (λ link. shown store (at link)) links) → Follow low (map at links)
follows at store low [] a b c d = tt
follows at store low (x ∷ xs) (all_cons a as') (all_cons b bs) (all_cons c cs) (pairs_cons d ds) =
    let n = shown-size store (at x) c in
    (a, b, follows at store (row_end (at x)) xs (all_map (λ y h. omega arith) (all_un_map (λ link. shown store (at link)) xs d)) bs cs ds)

-- the used part is a part of the store
pub used_fits : (t : Tables) (l : Ledger) → Encodes t l → head_at t head_used ≤ length t.store
used_fits t l e = omega (arith, e.used, ap length e.store, length-take (head_at t head_used) t.store)

module _ (t : Tables) (l : Ledger) (e : Encodes t l) (s : SoundBoard l) where
  abbrev row : ℕ → PieceRow
  row link = piece_at t.pieces link

  abbrev seen : ℕ → Piece
  seen link = shown t.store (row link)

  pub pieces_inside : All (λ link. (piece_at t.pieces link).offset + (piece_at t.pieces link).size ≤ length t.store) e.pieces.links
  pieces_inside = all_map (λ link h. omega (arith, used_fits t l e)) e.pieces.stored

  pieces_sound : All (λ link. SoundPiece l.opening.kinds l.now (seen link)) e.pieces.links
  pieces_sound = all_un_map seen e.pieces.links (subst (λ (ps : List Piece). All (SoundPiece l.opening.kinds l.now) ps) e.pieces.shows s.pieces)

  pieces_order : InOrder (map seen e.pieces.links)
  pieces_order = subst InOrder e.pieces.shows s.in_order

  pieces_allowed : All (λ link. piece.Allowed (head_at t head_kinds) (head_at t head_used) (head_at t head_last) (row link)) e.pieces.links
  pieces_allowed =
      all_both (λ link x y. record { inside = y; known = omega (arith, x.written_by_last, e.last); owned = owned link x.own_kind }) pieces_sound e.pieces.stored
    where
      owned : (link : ℕ) → has (row link).owner l.opening.kinds ≡ true → opens (head_at t head_kinds) (row link).owner ≡ true
      owned link h = sym (kinds_has (head_at t head_kinds) (row link).owner) ∙ rw e.kinds at h

  pub pieces_filled : length t.store < 2 ^ 64 → All (λ link. Filled (piece_at t.pieces link)) e.pieces.links
  pieces_filled fits = all_both (λ link x y. row_filled l.opening.kinds t.store (row link) l fits y x) pieces_sound pieces_inside

  pub pieces_linked : length t.pieces < 2 ^ 64 → length t.store < 2 ^ 64 → Linked t.pieces e.pieces.links
  pieces_linked few fits =
      record {
        dense = e.pieces.linked;
        few = few;
        order =
            follows row t.store 0 e.pieces.links (all_any e.pieces.links (λ link. omega arith))
            (pieces_filled fits) pieces_inside pieces_order;
      }

  -- the table stands for the rows of the links, and the ledger has the pieces that they show
  pub pieces_rep : length t.pieces < 2 ^ 64 → length t.store < 2 ^ 64 → Rep t.pieces (map (piece_at t.pieces) e.pieces.links)
  pieces_rep few fits = record { links = e.pieces.links; linked = pieces_linked few fits; pieces = refl }

  pub pieces_formed : length t.pieces < 2 ^ 64 → length t.store < 2 ^ 64 → piece.WellFormed t.pieces (head_at t head_kinds) (head_at t head_used) (head_at t head_last)
  pieces_formed few fits = record { pieces = map (piece_at t.pieces) e.pieces.links; rep = pieces_rep few fits; allowed = all_of_map row pieces_allowed }

-- the ledger's pieces are those that the rows show
pub pieces_shown : (t : Tables) (l : Ledger) (e : Encodes t l) → l.now.pieces ≡ map (shown t.store) (map (piece_at t.pieces) e.pieces.links)
pieces_shown t l e = e.pieces.shows ∙ sym (map-map (shown t.store) (piece_at t.pieces) e.pieces.links)

-- ── from the table to the ledger ──

-- a row that is allowed shows a sound piece
pub shown_sound : (mask : ℕ) (store : List ℕ) (used : ℕ) (l : Ledger) (p : PieceRow) → used ≤ length store → l.now.store ≡ take used store
    → Filled p → piece.Allowed mask used l.now.last p → SoundPiece (kinds_in mask) l.now (shown store p)
shown_sound mask store used l p fits same f a =
    let n = shown-size store p (omega (arith, a.inside)) in
    let long : length l.now.store ≡ used = ap length same ∙ length-take-le used store fits in
    record {
      stretch = record {
        some_cell = omega (arith, f.some);
        from_line = omega (arith, f.line);
        no_wrap = omega (arith, f.near);
        stored = record {
          offset = p.offset;
          inside = omega (arith, a.inside);
          bytes = rw (n, same) (sym (part_front p.offset p.size used store a.inside));
        };
      };
      written_by_last = a.known;
      own_kind = kinds_has mask p.owner ∙ a.owned;
    }

-- pieces that follow one another are in order
pub follow_order : (store : List ℕ) (low : ℕ) (ps : List PieceRow) → All (λ (p : PieceRow). p.offset + p.size ≤ length store) ps → Follow low ps → InOrder (map (shown store) ps)
follow_order store low [] a f = pairs_nil
follow_order store low (p ∷ ps) (all_cons a as') f =
    let n = shown-size store p a in
    let after : All (λ (q : PieceRow). ends (shown store p).stretch ≤ q.first) ps = all_map (λ q h. omega arith) (follow_right (row_end p) (row_end p) ps (omega arith) f.2) in
    pairs_cons (all_of_map (shown store) after) (follow_order store (row_end p) ps as' f.2)
