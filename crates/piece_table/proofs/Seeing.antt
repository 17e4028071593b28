-- What a search sees: the pieces left of the place, the one that ends past it, and the rest; and how tables that stand for pieces follow one another.
-- Assumes nothing.
use mathlib.Core.Path.{◌≡◌, refl, sym, ap, subst, ◌∙◌}
use mathlib.Core.List.{List, [], ◌∷◌, ◌++◌, map, append-nil}
use Prim.Native.Nat.{ℕ, ◌<◌}
use lib.ListN.{length, length-map}
use Rattle.std.specs.Prelude.{Option, Some, None}
use Rattle.std.proofs.lemmas.Option.{none-some, same_Some}
use Rattle.lists.specs.Lists.{All, all_nil}
use Rattle.lists.proofs.Lists.{all_left}
use Rattle.lists.proofs.Maps.{map-append}
use Rattle.tables.specs.Columns.{column, pieces_count}
use Rattle.piece_table.specs.Piece.{PieceRow, row_end, piece_at, rows_below, rows_above, Filled, Follow}
use Rattle.piece_table.specs.Rep.{Linked, Rep, Becomes}
use Rattle.piece_table.specs.Calls.{end_at, Met, Sought}
use Rattle.piece_table.proofs.Order.{follow_filled, follow_from}
use Rattle.piece_table.proofs.Parts.{Left, apart}

-- ── what a search sees ──

pub rep_follow : {t : List ℕ} {ps : List PieceRow} → Rep t ps → Follow 0 ps
rep_follow r = rw (← r.pieces) r.linked.order

pub rep_count : {t : List ℕ} {ps : List PieceRow} → Rep t ps → length ps ≡ column t 0 pieces_count
rep_count {t} r = ap length (sym r.pieces) ∙ length-map r.links (piece_at t) ∙ r.linked.dense.count

-- the pieces left of the place, the link's, which ends past it, and the rest
pub record Seen (t : List ℕ) (place link : ℕ) (ps : List PieceRow) : Type 0 where
  pub xs : List ℕ
  pub ys : List ℕ
  pub linked : Linked t (xs ++ link ∷ ys)
  pub is : ps ≡ map (piece_at t) xs ++ piece_at t link ∷ map (piece_at t) ys
  pub left : Left place (map (piece_at t) xs)
  pub past : place < end_at t link
  pub filled : All Filled (map (piece_at t) xs)
  pub whole : Filled (piece_at t link)
  pub after : Follow (row_end (piece_at t link)) (map (piece_at t) ys)
  pub few : length (xs ++ link ∷ ys) ≡ length ps

module _ {t : List ℕ} {place : ℕ} {out : Option ℕ} {ps : List PieceRow} (s : Sought t place out) (r : Rep t ps) where
  pub seen_none : out ≡ None → Left place ps
  seen_none z = go (s.says r.links r.linked).back refl
    where
      m : Met t place out r.links
      m = s.says r.links r.linked

      go : (back : List ℕ) → m.back ≡ back → Left place ps
      go [] e = rw (← r.pieces, m.is, e, append-nil m.front) m.left
      go (x ∷ ys) e =
          let h : (out ≡ Some x) × (place < end_at t x) = rw e at m.head in
          absurd (none-some x (sym z ∙ h.0))

  pub seen-some : {link : ℕ} → out ≡ Some link → Seen t place link ps
  seen-some {link} there = go (s.says r.links r.linked).back refl
    where
      m : Met t place out r.links
      m = s.says r.links r.linked

      go : (back : List ℕ) → m.back ≡ back → Seen t place link ps
      go [] e = let h : out ≡ None = rw e at m.head in absurd (none-some link (sym h ∙ there))
      go (x ∷ ys) e =
          let h : (out ≡ Some x) × (place < end_at t x) = rw e at m.head in
          let same : link ≡ x = same_Some link x (sym there ∙ h.0) in
          let i : r.links ≡ m.front ++ link ∷ ys = subst (λ (z : ℕ). r.links ≡ m.front ++ z ∷ ys) (sym same) (rw e at m.is) in
          let is : ps ≡ map (piece_at t) m.front ++ piece_at t link ∷ map (piece_at t) ys = sym r.pieces ∙ ap (map (piece_at t)) i ∙ map-append (piece_at t) m.front (link ∷ ys) in
          let f : Follow 0 (map (piece_at t) m.front ++ piece_at t link ∷ map (piece_at t) ys) = rw is at (rep_follow r) in
          let g : Filled (piece_at t link) × Follow (row_end (piece_at t link)) (map (piece_at t) ys) = follow_from 0 (map (piece_at t) m.front) (piece_at t link) (map (piece_at t) ys) f in
          record {
            xs = m.front;
            ys = ys;
            linked = rw i at r.linked;
            is = is;
            left = m.left;
            past = subst (λ (z : ℕ). place < end_at t z) (sym same) h.1;
            filled = all_left (map (piece_at t) m.front) (piece_at t link ∷ map (piece_at t) ys) (follow_filled 0 (map (piece_at t) m.front ++ piece_at t link ∷ map (piece_at t) ys) f);
            whole = g.0;
            after = g.1;
            few = ap length (sym i) ∙ sym (length-map r.links (piece_at t)) ∙ ap length r.pieces;
          }

pub becomes_same : {t : List ℕ} {ps qs : List PieceRow} → Rep t ps → qs ≡ ps → Becomes t t qs
becomes_same r e = record { rep = rw e r; len = refl }

pub becomes_eq : {t t' : List ℕ} {ps qs : List PieceRow} → Becomes t t' ps → qs ≡ ps → Becomes t t' qs
becomes_eq b e = rw e b

pub becomes_then : {t t₁ t₂ : List ℕ} {ps qs : List PieceRow} → Becomes t t₁ ps → Becomes t₁ t₂ qs → Becomes t t₂ qs
becomes_then b c = record { rep = c.rep; len = c.len ∙ b.len }

-- what ends left of the first column is all that there is: nothing is cut
pub left_alone : (f e : ℕ) {ps : List PieceRow} → f < e → Left f ps → Follow 0 ps → rows_below f ps ++ rows_above e ps ≡ ps
left_alone f e {ps} h l g =
    let eq : ps ++ [] ≡ ps = append-nil ps in
    rw eq at (apart f e h ps [] l all_nil (follow_filled 0 ps g) all_nil)
