-- `split`, `cut_first` and `apply_update`: one step for each return. Assumes nothing.
use mathlib.Core.Path.{◌≡◌, refl, sym, ap, ap₂, subst, ◌∙◌}
use mathlib.Core.Logic.{inl, inr}
use mathlib.Core.Bool.{Bool, true, false, true≢false, false≢true}
use mathlib.Core.List.{List, [], ◌∷◌, ◌++◌, map, append_assoc}
use Prim.Native.Nat.{ℕ, ◌+◌, ◌*◌, ◌^◌, ◌≤◌, ◌<◌}
use native.Mathlib.Omega.{arith}
use lib.ListN.{length, length-append, length-map}
use borrow.Author.Tests.{ltb-true, ltb-false}
use Rattle.lists.specs.Lists.{all_nil, all_cons}
use Rattle.lists.proofs.Lists.{all_append, all_map}
use Rattle.lists.proofs.Maps.{map-append}
use Rattle.history.specs.Lent.{row_width}
use Rattle.history.specs.Words.{cell_place}
use Rattle.block_table.specs.Appended.{Countable}
use Rattle.merge_set.specs.Table.{first_at, StartsBelow}
use Rattle.piece_table.specs.Piece.{PieceRow, row_of, row_end, read_at, piece_at, part, rows_below, rows_inside, rows_above, Filled, Follow, placed}
use Rattle.piece_table.specs.declared.Piece.{Piece}
use Rattle.piece_table.specs.Rep.{Linked, Rep, Becomes}
use Rattle.std.specs.Prelude.{Option, Some, None}
use Rattle.piece_table.proofs.Clipping.{clip_some, clip_is}
use Rattle.piece_table.specs.Calls.{Clipped, end_at, own_place, EndsAfter, Sought, TrimmedBack, InsertedPiece}
use Rattle.piece_table.proofs.Lines.{on_line}
use Rattle.piece_table.proofs.Order.{follow_filled, follow_right, follow_from, follow_between, placed-between}
use Rattle.piece_table.proofs.Parts.{Left, Right, back_below, back_above, middle-cut, inside_left, inside_right, inside_skip}
use Rattle.piece_table.proofs.Seeing.{rep_follow, Seen, seen_none, seen-some, becomes_same, becomes_eq, becomes_then, left_alone}
use Rattle.recording.specs.Recorded.{recorded}
use Rattle.recording.specs.Calls.{inner_part, RecordedPart, Uncrossed, Clearing, Clear, Given, SplitPiece, CutFirst, Updated, TookPlace, AppliedUpdate}
use Rattle.recording.proofs.Recorded.{recorded-append}
use Rattle.recording.proofs.Clearing.{nothing_inside, inside-seen, own_kind, recorded-seen, clearing_same, given_next}
use Rattle.recording.proofs.Placing.{inserted_clear, past}

-- ── `split` ──

around : (t : List ℕ) (link : ℕ) (xs ys : List ℕ) → Linked t (xs ++ link ∷ ys) → Filled (piece_at t link) × Follow (row_end (piece_at t link)) (map (piece_at t) ys)
around t link xs ys r = follow_from 0 (map (piece_at t) xs) (piece_at t link) (map (piece_at t) ys) (rw (map-append (piece_at t) xs (link ∷ ys)) at r.order)

module _ {t : List ℕ} {link : ℕ} {p : Piece} (from to : ℕ) (ep : p ≡ read_at t link) where
  pub split_none : Clipped p to 18446744073709551615 None → SplitPiece t t link (own_place t link from) (own_place t link to)
  split_none k =
      record {
        done = λ xs ys r a b c s.
            let w : Filled (piece_at t link) = (around t link xs ys r).0 in
            absurd (clip_some (own_place t link to) (end_at t link) (rw ep at k) w (omega arith) (omega (arith, w.near)) c);
      }

  pub split_done : {t₁ t₂ : List ℕ} {right : Piece} → Clipped p to 18446744073709551615 (Some right) → TrimmedBack t t₁ link from → InsertedPiece t₁ t₂ (row_of right)
      → SplitPiece t t₂ link (own_place t link from) (own_place t link to)
  split_done {t₁} {t₂} {right} k trim ins = record { done = go }
    where
      go : (xs ys : List ℕ) → Linked t (xs ++ link ∷ ys) → first_at t link < own_place t link from → own_place t link from < own_place t link to → own_place t link to < end_at t link
          → row_width * length (xs ++ link ∷ ys) + (row_width + row_width) ≤ length t
          → Becomes t t₂ (map (piece_at t) xs ++ part (first_at t link) (own_place t link from) (piece_at t link) ∷ part (own_place t link to) (end_at t link) (piece_at t link) ∷ map (piece_at t) ys)
      go xs ys r lo mid hi space =
          let f : ℕ = own_place t link from in
          let e : ℕ = own_place t link to in
          let A : List PieceRow = map (piece_at t) xs in
          let B : List PieceRow = map (piece_at t) ys in
          let p : PieceRow = piece_at t link in
          let p₁ : PieceRow = part (first_at t link) f p in
          let p₂ : PieceRow = part e (end_at t link) p in
          let same : row_of right ≡ p₂ = clip_is e (end_at t link) (rw ep at k) (around t link xs ys r).0 (omega arith) (omega (arith, (around t link xs ys r).0.near)) hi in
          let ins' : InsertedPiece t₁ t₂ p₂ = rw same at ins in
          let one : Becomes t t₁ (A ++ p₁ ∷ B) = trim.done xs ys r lo (omega arith) in
          let w : Filled p × Follow (row_end p) B = around t link xs ys r in
          let h : Filled p₂ = record { some = omega arith; line = omega (arith, w.0.line); near = omega (arith, w.0.near); stored = omega (arith, w.0.stored) } in
          let eq : (A ++ p₁ ∷ []) ++ B ≡ A ++ p₁ ∷ B = append_assoc A (p₁ ∷ []) B in
          let f₁ : Follow 0 ((A ++ p₁ ∷ []) ++ B) = rw eq (rep_follow one.rep) in
          let left : Left p₂.first (A ++ p₁ ∷ []) = all_append (lefts A p₁ B 0 e (rep_follow one.rep) (omega arith)) (all_cons {x = p₁} (omega arith) all_nil) in
          let right : Right (row_end p₂) B = follow_right (row_end p₂) (row_end p) B (omega arith) w.1 in
          let order : placed p₂ (A ++ p₁ ∷ B) ≡ A ++ p₁ ∷ p₂ ∷ B = ap (placed p₂) (sym eq) ∙ placed-between (A ++ p₁ ∷ []) p₂ B h left right ∙ append_assoc A (p₁ ∷ []) (p₂ ∷ B) in
          let f₂ : Follow 0 (A ++ p₁ ∷ p₂ ∷ B) = rw (append_assoc A (p₁ ∷ []) (p₂ ∷ B)) at (follow_between 0 (A ++ p₁ ∷ []) p₂ B (omega arith) h left right f₁) in
          let n : length (A ++ p₁ ∷ B) ≡ length (xs ++ link ∷ ys) = omega (arith, length-append A (p₁ ∷ B), length-append xs (link ∷ ys), length-map xs (piece_at t), length-map ys (piece_at t)) in
          becomes_then one (becomes_eq (ins'.done (A ++ p₁ ∷ B) one.rep (omega (arith, n, one.len)) (rw order f₂)) (sym order))
        where
          lefts : (A : List PieceRow) (p : PieceRow) (B : List PieceRow) (low e : ℕ) → Follow low (A ++ p ∷ B) → p.first ≤ e → Left e A
          lefts [] p B low e f h = all_nil
          lefts (q ∷ A) p B low e f h = all_cons {x = q} (first_past A p B (row_end q) e f.2 h) (lefts A p B (row_end q) e f.2 h)
            where
              first_past : (A : List PieceRow) (p : PieceRow) (B : List PieceRow) (low e : ℕ) → Follow low (A ++ p ∷ B) → p.first ≤ e → low ≤ e
              first_past [] p B low e f h = omega (arith, f.0)
              first_past (q ∷ A) p B low e f h = let r : row_end q ≤ e = first_past A p B (row_end q) e f.2 h in omega (arith, f.0)

-- ── `cut_first` ──

stops : {t t' b b' : List ℕ} {tick f e : ℕ} → ((ps : List PieceRow) → Given t b f e ps → row_width * length (rows_below f ps ++ rows_above e ps) + row_width ≤ length t → Clear t t' b b' tick f e ps)
    → CutFirst t t' b b' tick f e false
stops g = record { step = λ z. absurd (false≢true z); stop = λ _. g }

goes_on : {t t' b b' : List ℕ} {tick f e : ℕ} → ((ps : List PieceRow) → Given t b f e ps → Clearing t t' b b' tick f e (length ps) ps) → CutFirst t t' b b' tick f e true
goes_on g = record { step = λ _. g; stop = λ z. absurd (true≢false z) }

pub cut_first_none : {t b : List ℕ} {tick f e : ℕ} {out : Option ℕ} → Sought t f out → out ≡ None → CutFirst t t b b tick f e false
cut_first_none {t} {b} {tick} {f} {e} s z =
    stops (λ ps g space.
    let l : Left f ps = seen_none s g.rep z in
    record { becomes = becomes_same g.rep (left_alone f e g.some l (rep_follow g.rep)); blocks = nothing_inside tick (inside_left f e l) })

module _ {t b : List ℕ} {tick f e link was : ℕ} {out : Option ℕ} (s : Sought t f out) (told : out ≡ Some link) (ew : was ≡ first_at t link) where
  uncut : f ≤ was → CutFirst t t b b tick f e true
  uncut le =
      goes_on (λ ps g.
      let v : Seen t f link ps = seen-some s g.rep told in
      let p : PieceRow = piece_at t link in
      let B : List PieceRow = map (piece_at t) v.ys in
      let u : Uncrossed f (map (piece_at t) v.xs ++ p ∷ B)
      = all_append (all_map (λ q l. inl l) v.left) (all_cons {x = p} (inr (omega arith)) (all_map (λ q l. inr l) (follow_right f (row_end p) B (omega (arith, v.past)) v.after))) in
      clearing_same g (subst (Uncrossed f) (sym v.is) u) (omega arith))

-- a piece that starts before the first cell and ends past it is of the kind
module _ {t : List ℕ} {link : ℕ} {out : Option ℕ} (kind first end : ℕ) (s : Sought t (cell_place kind first) out) (told : out ≡ Some link) (small : end < 2 ^ 64) (lt : first_at t link < cell_place kind first) where
  module _ {q : Bool} {t₁ b b₁ : List ℕ} {tick : ℕ} (rec : RecordedPart t b b₁ link tick (own_place t link first) (own_place t link end)) (eq : EndsAfter t link kind end q) where
    cut-middle : q ≡ true → SplitPiece t t₁ link (own_place t link first) (own_place t link end) → CutFirst t t₁ b b₁ tick (cell_place kind first) (cell_place kind end) false
    cut-middle y cut = stops go
      where
        go : (ps : List PieceRow) → Given t b (cell_place kind first) (cell_place kind end) ps → row_width * length (rows_below (cell_place kind first) ps ++ rows_above (cell_place kind end) ps) + row_width ≤ length t → Clear t t₁ b b₁ tick (cell_place kind first) (cell_place kind end) ps
        go ps g space =
            let v : Seen t (cell_place kind first) link ps = seen-some s g.rep told in
            let h : (cell_place kind first) < (cell_place kind end) = g.some in
            let p : PieceRow = piece_at t link in
            let A : List PieceRow = map (piece_at t) v.xs in
            let B : List PieceRow = map (piece_at t) v.ys in
            let p₁ : PieceRow = part (first_at t link) (cell_place kind first) p in
            let p₂ : PieceRow = part (cell_place kind end) (row_end p) p in
            let over : (cell_place kind end) < end_at t link = ltb-true (cell_place kind end) (end_at t link) (sym (eq.is (on_line v.whole)) ∙ y) in
            let cut' : SplitPiece t t₁ link (cell_place kind first) (cell_place kind end) = subst (λ (k : ℕ). SplitPiece t t₁ link (cell_place k first) (cell_place k end)) (own_kind kind first end s told small (omega (arith, g.some)) g) cut in
            let is : rows_below (cell_place kind first) ps ++ rows_above (cell_place kind end) ps ≡ A ++ p₁ ∷ p₂ ∷ B
            = subst (λ (l : List PieceRow). rows_below (cell_place kind first) l ++ rows_above (cell_place kind end) l ≡ A ++ p₁ ∷ p₂ ∷ B) (sym v.is)
            (middle-cut (cell_place kind first) (cell_place kind end) h A p B v.left v.filled (follow_filled (row_end p) B v.after) (follow_right (row_end p) (row_end p) B (omega arith) v.after) over (omega arith) ∙ append_assoc A (p₁ ∷ []) (p₂ ∷ B)) in
            let room : row_width * length (v.xs ++ link ∷ v.ys) + (row_width + row_width) ≤ length t
            = omega (arith, space, ap length is, length-append A (p₁ ∷ p₂ ∷ B), length-append v.xs (link ∷ v.ys), length-map v.xs (piece_at t), length-map v.ys (piece_at t)) in
            let none : rows_inside (cell_place kind first) (cell_place kind end) B ≡ [] = inside_right (cell_place kind first) (cell_place kind end) (follow_right (cell_place kind end) (row_end p) B (omega arith) v.after) in
            record {
              becomes = becomes_eq (cut'.done v.xs v.ys v.linked (omega arith) h over room) is;
              blocks = recorded-seen kind first end s told small (omega (arith, g.some)) rec g ∙ ap (λ (l : List PieceRow). recorded tick l b) (sym (inside-seen (cell_place kind end) v h (omega arith) ∙ ap (λ (l : List PieceRow). inner_part t link (cell_place kind first) (cell_place kind end) ∷ l) none));
            }

    cut_back : q ≡ false → TrimmedBack t t₁ link first → CutFirst t t₁ b b₁ tick (cell_place kind first) (cell_place kind end) true
    cut_back n trim = goes_on go
      where
        go : (ps : List PieceRow) → Given t b (cell_place kind first) (cell_place kind end) ps → Clearing t t₁ b b₁ tick (cell_place kind first) (cell_place kind end) (length ps) ps
        go ps g =
            let v : Seen t (cell_place kind first) link ps = seen-some s g.rep told in
            let h : (cell_place kind first) < (cell_place kind end) = g.some in
            let p : PieceRow = piece_at t link in
            let A : List PieceRow = map (piece_at t) v.xs in
            let B : List PieceRow = map (piece_at t) v.ys in
            let p₁ : PieceRow = part (first_at t link) (cell_place kind first) p in
            let under : end_at t link ≤ (cell_place kind end) = ltb-false (cell_place kind end) (end_at t link) (sym (eq.is (on_line v.whole)) ∙ n) in
            let own : own_place t link first ≡ (cell_place kind first) = ap (λ (k : ℕ). cell_place k first) (own_kind kind first end s told small (omega (arith, g.some)) g) in
            let past : (cell_place kind first) < end_at t link = v.past in
            let left : Left (cell_place kind first) (A ++ p₁ ∷ []) = all_append v.left (all_cons {x = p₁} (omega arith) all_nil) in
            let rest : rows_inside (cell_place kind first) (cell_place kind end) (A ++ p₁ ∷ B) ≡ rows_inside (cell_place kind first) (cell_place kind end) B = ap (rows_inside (cell_place kind first) (cell_place kind end)) (sym (append_assoc A (p₁ ∷ []) B)) ∙ inside_skip (cell_place kind first) (cell_place kind end) (A ++ p₁ ∷ []) B left in
            record {
              now = A ++ p₁ ∷ B;
              gone = inner_part t link (cell_place kind first) (cell_place kind end) ∷ [];
              becomes = subst (λ (z : ℕ). Becomes t t₁ (A ++ part (first_at t link) z p ∷ B)) own (trim.done v.xs v.ys v.linked (omega (arith, own, lt)) (omega (arith, own, past)));
              blocks = recorded-seen kind first end s told small (omega (arith, g.some)) rec g;
              inside = inside-seen (cell_place kind end) v h (omega arith) ∙ ap (λ (l : List PieceRow). inner_part t link (cell_place kind first) (cell_place kind end) ∷ l) (sym rest);
              same_below = back_below (cell_place kind first) (cell_place kind end) h A p B (omega arith) (omega arith) ∙ ap (rows_below (cell_place kind first)) (sym v.is);
              same_above = back_above (cell_place kind first) (cell_place kind end) h A p B (omega arith) under ∙ ap (rows_above (cell_place kind end)) (sym v.is);
              uncrossed = all_append (all_map (λ q l. inl l) v.left) (all_cons {x = p₁} (inl (omega arith)) (all_map (λ q l. inr l) (follow_right (cell_place kind first) (row_end p) B (omega arith) v.after)));
              few = omega (arith, ap length v.is, length-append A (p₁ ∷ B), length-append A (p ∷ B));
            }

-- by the test whether the piece starts before the first cell
module _ {t b : List ℕ} {tick link : ℕ} {starts : Bool} {out : Option ℕ} (kind first end : ℕ) (s : Sought t (cell_place kind first) out) (told : out ≡ Some link) (tested : StartsBelow t link kind first starts) where
  pub cut_first_uncut : starts ≡ false → CutFirst t t b b tick (cell_place kind first) (cell_place kind end) true
  cut_first_uncut h = uncut s told refl (ltb-false (first_at t link) (cell_place kind first) (sym tested.is ∙ h))

  module _ {q : Bool} {t₁ b₁ : List ℕ} (small : end < 2 ^ 64) (h : starts ≡ true) (rec : RecordedPart t b b₁ link tick (own_place t link first) (own_place t link end)) (eq : EndsAfter t link kind end q) where
    pub cut_first_middle : q ≡ true → SplitPiece t t₁ link (own_place t link first) (own_place t link end) → CutFirst t t₁ b b₁ tick (cell_place kind first) (cell_place kind end) false
    cut_first_middle = cut-middle kind first end s told small (ltb-true (first_at t link) (cell_place kind first) (sym tested.is ∙ h)) rec eq

    pub cut_first_back : q ≡ false → TrimmedBack t t₁ link first → CutFirst t t₁ b b₁ tick (cell_place kind first) (cell_place kind end) true
    cut_first_back = cut_back kind first end s told small (ltb-true (first_at t link) (cell_place kind first) (sym tested.is ∙ h)) rec eq

-- ── `apply_update` ──

module _ {t t₁ b b₁ : List ℕ} {q : Bool} {e : ℕ} (c : Piece) (ee : e ≡ c.first + c.size) (cut : CutFirst t t₁ b b₁ c.written (cell_place c.owner c.first) (cell_place c.owner e) q) where
  cut_row : CutFirst t t₁ b b₁ c.written (row_of c).first (row_end (row_of c)) q
  cut_row = subst (λ (k : ℕ). CutFirst t t₁ b b₁ c.written (row_of c).first k q) (ap (cell_place c.owner) ee ∙ past c) cut

  pub apply_update_done : {t₂ : List ℕ} → q ≡ false → InsertedPiece t₁ t₂ (row_of c) → AppliedUpdate t t₂ b b₁ (row_of c)
  apply_update_done n ins =
      record {
        done = λ ps r k room space.
            let z : Clear t t₁ b b₁ c.written (row_of c).first (row_end (row_of c)) ps
            = cut_row.stop n ps (record { rep = r; some = omega (arith, k.some); space = room }) (fewer (rows_below (row_of c).first ps) (rows_above (row_end (row_of c)) ps) space) in
            inserted_clear (row_of c) ins z k space;
      }
    where
      fewer : (A B : List PieceRow) → row_width * length (A ++ (row_of c) ∷ B) + row_width ≤ length t → row_width * length (A ++ B) + row_width ≤ length t
      fewer A B h = omega (arith, h, length-append A ((row_of c) ∷ B), length-append A B)

  pub apply_update_more : {t₂ b₂ : List ℕ} → q ≡ true → TookPlace t₁ t₂ b₁ b₂ (row_of c) → AppliedUpdate t t₂ b b₂ (row_of c)
  apply_update_more {t₂} {b₂} y took = record { done = go }
    where
      go : (ps : List PieceRow) → Rep t ps → Filled (row_of c) → Countable b (length (rows_inside (row_of c).first (row_end (row_of c)) ps))
          → row_width * length (rows_below (row_of c).first ps ++ (row_of c) ∷ rows_above (row_end (row_of c)) ps) + row_width ≤ length t → Updated t t₂ b b₂ (row_of c) ps
      go ps r k room space =
          let g : Given t b (row_of c).first (row_end (row_of c)) ps = record { rep = r; some = omega (arith, k.some); space = room } in
          let z : Clearing t t₁ b b₁ c.written (row_of c).first (row_end (row_of c)) (length ps) ps = cut_row.step y ps g in
          let same : rows_below (row_of c).first z.now ++ (row_of c) ∷ rows_above (row_end (row_of c)) z.now ≡ rows_below (row_of c).first ps ++ (row_of c) ∷ rows_above (row_end (row_of c)) ps
          = ap₂ (λ (x y : List PieceRow). x ++ (row_of c) ∷ y) z.same_below z.same_above in
          let o : Updated t₁ t₂ b₁ b₂ (row_of c) z.now = took.done z.now (given_next g z) z.uncrossed k (rw same (omega (arith, space, z.becomes.len))) in
          record {
            becomes = becomes_then z.becomes (becomes_eq o.becomes (sym same));
            blocks = o.blocks ∙ ap (recorded c.written (rows_inside (row_of c).first (row_end (row_of c)) z.now)) z.blocks
                ∙ recorded-append c.written z.gone (rows_inside (row_of c).first (row_end (row_of c)) z.now) b room.head ∙ ap (λ (l : List PieceRow). recorded c.written l b) (sym z.inside);
          }

-- the steps, one for each return
pub ruleset splitting = (split_none, split_done)

pub ruleset cutting = (cut_first_none, cut_first_uncut, cut_first_middle, cut_first_back)

pub ruleset updating = (apply_update_done, apply_update_more)
