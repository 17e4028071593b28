-- A link that holds a piece stands where the piece does; so the contracts by links are contracts by pieces. Assumes nothing.
use mathlib.Core.List.{List, [], ◌∷◌, ◌++◌, map, append-nil}
use mathlib.Core.Path.{◌≡◌, refl, sym, ap, ap₂, subst, ◌∙◌}
use Prim.Native.Nat.{ℕ, ◌≤◌, ◌<◌}
use native.Mathlib.Omega.{arith}
use Rattle.std.specs.Prelude.{Some}
use Rattle.std.proofs.lemmas.Option.{same_Some}
use Rattle.lists.proofs.Maps.{map-append}
use Rattle.lists.specs.Lists.{here, all_cons}
use Rattle.lists.proofs.Lists.{all_head, all_right}
use Rattle.merge_set.proofs.Links.{Put, put_at, mem_unput, found}
use Rattle.piece_table.proofs.Order.{follow_above}
use Rattle.piece_table.proofs.Removing.{linked_dense}
use Rattle.piece_table.specs.Calls.{Met, Sought, ReplacedPiece, end_at}
use Rattle.piece_table.proofs.Parts.{Left}
use Rattle.piece_table.specs.Piece.{PieceRow, row_end, piece_at, Follow}
use Rattle.piece_table.specs.Rep.{Linked, Rep, Holds, Becomes}

-- pieces that follow one another are different: where one stands is determined
follow_once : (qs : List PieceRow) (p : PieceRow) (rs : List PieceRow) (low : ℕ) → Follow low (qs ++ p ∷ rs) → low ≤ p.first
follow_once [] p rs low f = f.0
follow_once (q ∷ qs) p rs low f = omega (arith, follow_once qs p rs (row_end q) f.2, f.0)

piece_once : (at : ℕ → PieceRow) (x : ℕ) (us bs : List ℕ) (qs rs : List PieceRow) (low : ℕ) → Follow low (map at (us ++ x ∷ bs)) → map at (us ++ x ∷ bs) ≡ qs ++ at x ∷ rs
    → (map at us ≡ qs) × (map at bs ≡ rs)
piece_once at x [] bs [] rs low f e = (refl, cc)
piece_once at x [] bs (q ∷ qs) rs low f e =
    let r : map at bs ≡ qs ++ at x ∷ rs = cc in
    absurd (omega (arith, follow_once qs (at x) rs (row_end (at x)) (rw r at f.2), f.1.some))
piece_once at x (u ∷ us) bs [] rs low f e =
    let h : at u ≡ at x = cc in
    let k : (at u).first ≡ (at x).first = ap (λ (p : PieceRow). p.first) h in
    absurd (omega (arith, follow_above at (row_end (at u)) (us ++ x ∷ bs) x f.2 (mem_unput (put_at x us bs) (here refl)), f.1.some))
piece_once at x (u ∷ us) bs (q ∷ qs) rs low f e =
    let h : at u ≡ q = cc in
    let r : map at (us ++ x ∷ bs) ≡ qs ++ at x ∷ rs = cc in
    let s : (map at us ≡ qs) × (map at bs ≡ rs) = piece_once at x us bs qs rs (row_end (at u)) f.2 r in
    (ap₂ ◌∷◌ h s.0, s.1)

-- the links around one that holds a piece
pub record Around (t : List ℕ) (link : ℕ) (qs rs : List PieceRow) : Type 0 where
  pub xs : List ℕ
  pub ys : List ℕ
  pub linked : Linked t (xs ++ link ∷ ys)
  pub front : map (piece_at t) xs ≡ qs
  pub back : map (piece_at t) ys ≡ rs

held : {t : List ℕ} {link : ℕ} {p : PieceRow} (qs rs : List PieceRow) → Rep t (qs ++ p ∷ rs) → Holds t link p → Around t link qs rs
held {t} {link} {p} qs rs r h =
    let put : (zs : List ℕ) × Put link zs r.links = found r.links (linked_dense r.linked link h.some h.within) in
    let e : r.links ≡ put.1.front ++ link ∷ put.1.back = put.1.with_it in
    let l : Linked t (put.1.front ++ link ∷ put.1.back) = subst (Linked t) e r.linked in
    let m : map (piece_at t) (put.1.front ++ link ∷ put.1.back) ≡ qs ++ piece_at t link ∷ rs
    = ap (map (piece_at t)) (sym e) ∙ r.pieces ∙ ap (λ (q : PieceRow). qs ++ q ∷ rs) (sym h.is) in
    let s : (map (piece_at t) put.1.front ≡ qs) × (map (piece_at t) put.1.back ≡ rs) = piece_once (piece_at t) link put.1.front put.1.back qs rs 0 l.order m in
    record { xs = put.1.front; ys = put.1.back; linked = l; front = s.0; back = s.1 }

-- the lowest piece that ends past a place is determined, and a search finds it
past_once : (place : ℕ) (os qs : List PieceRow) (a p : PieceRow) (bs rs : List PieceRow) → Left place os → Left place qs → place < row_end a → place < row_end p → os ++ a ∷ bs ≡ qs ++ p ∷ rs
    → (os ≡ qs) × (bs ≡ rs)
past_once place [] [] a p bs rs l m h k e = (refl, cc)
past_once place [] (q ∷ qs) a p bs rs l (all_cons n m) h k e = let z : a ≡ q = cc in absurd (omega (arith, ap row_end z))
past_once place (o ∷ os) [] a p bs rs (all_cons n l) m h k e = let z : o ≡ p = cc in absurd (omega (arith, ap row_end z))
past_once place (o ∷ os) (q ∷ qs) a p bs rs (all_cons _ l) (all_cons _ m) h k e =
    let z : o ≡ q = cc in
    let w : os ++ a ∷ bs ≡ qs ++ p ∷ rs = cc in
    let s : (os ≡ qs) × (bs ≡ rs) = past_once place os qs a p bs rs l m h k w in
    (ap₂ ◌∷◌ z s.0, s.1)

pub sought_around : {t : List ℕ} {place link : ℕ} (qs : List PieceRow) (p : PieceRow) (rs : List PieceRow) → Sought t place (Some link) → Rep t (qs ++ p ∷ rs) → Left place qs → place < row_end p → Around t link qs rs
sought_around {t} {place} {link} qs p rs s r l h = go m.back refl
  where
    m : Met t place (Some link) r.links
    m = s.says r.links r.linked

    go : (back : List ℕ) → m.back ≡ back → Around t link qs rs
    go [] e =
        let z : Left place (qs ++ p ∷ rs) = rw (← r.pieces, m.is, e, append-nil m.front) m.left in
        absurd (omega (arith, all_head (all_right qs (p ∷ rs) z)))
    go (x ∷ ys) e =
        let k : (Some link ≡ Some x) × (place < end_at t x) = rw e at m.head in
        let same : link ≡ x = same_Some link x k.0 in
        let i : r.links ≡ m.front ++ link ∷ ys = subst (λ (z : ℕ). r.links ≡ m.front ++ z ∷ ys) (sym same) (rw e at m.is) in
        let is : map (piece_at t) m.front ++ piece_at t link ∷ map (piece_at t) ys ≡ qs ++ p ∷ rs = sym (map-append (piece_at t) m.front (link ∷ ys)) ∙ ap (map (piece_at t)) (sym i) ∙ r.pieces in
        let o : (map (piece_at t) m.front ≡ qs) × (map (piece_at t) ys ≡ rs) = past_once place (map (piece_at t) m.front) qs (piece_at t link) p (map (piece_at t) ys) rs m.left l (subst (λ (z : ℕ). place < end_at t z) (sym same) k.1) h is in
        record { xs = m.front; ys = ys; linked = rw i at r.linked; front = o.0; back = o.1 }

-- ── the contracts by pieces ──

pub replaced_around : {t t' : List ℕ} {link : ℕ} {p : PieceRow} {qs rs : List PieceRow} → ReplacedPiece t t' link p → Around t link qs rs → Follow 0 (qs ++ p ∷ rs) → Becomes t t' (qs ++ p ∷ rs)
replaced_around {t} {t'} {p = p} {qs} {rs} put a f =
    let e : map (piece_at t) a.xs ++ p ∷ map (piece_at t) a.ys ≡ qs ++ p ∷ rs = ap₂ (λ (u v : List PieceRow). u ++ p ∷ v) a.front a.back in
    subst (Becomes t t') e (put.done a.xs a.ys a.linked (subst (Follow 0) (sym e) f))
