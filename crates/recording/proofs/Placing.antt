-- `clear_after` and `take_place`: one step for each return. Assumes nothing.
use Rattle.std.specs.Prelude.{Option, Some, None}
use mathlib.Core.Path.{◌≡◌, refl, sym, ap, ap₂, subst, ◌∙◌}
use mathlib.Core.Logic.{inl, inr}
use mathlib.Core.List.{List, [], ◌∷◌, ◌++◌, map, append_assoc}
use Prim.Native.Nat.{ℕ, suc, ◌+◌, ◌*◌, ◌≤◌, ◌<◌}
use native.Mathlib.Omega.{arith}
use lib.ListN.{length, length-append}
use Rattle.lists.specs.Lists.{All, all_nil, all_cons}
use Rattle.lists.proofs.Lists.{all_append, all_left, all_right, all_map, all_head}
use Rattle.lists.proofs.Maps.{map-append}
use Rattle.history.specs.Lent.{row_width}
use Rattle.history.specs.Words.{cell_place}
use Rattle.tables.specs.Columns.{column, piece_first, piece_length, piece_owner}
use Rattle.tables.specs.Sums.{plus_up_to}
use Rattle.block_table.specs.Appended.{Countable}
use Rattle.piece_table.specs.Piece.{PieceRow, row_of, row_end, read_at, piece_at, rows_below, rows_inside, rows_above, Filled, Follow, placed}
use Rattle.piece_table.specs.declared.Piece.{Piece}
use Rattle.piece_table.specs.Rep.{Linked, Rep, Becomes}
use Rattle.piece_table.specs.Calls.{end_at, own_place, Sought, ReplacedPiece, InsertedPiece}
use Rattle.piece_table.proofs.Lines.{same_kind}
use Rattle.piece_table.proofs.Order.{follow_filled, follow_right, follow_from, follow_without, follow_between, placed-between}
use Rattle.piece_table.proofs.Parts.{Left, Right, below-within, above_within, above_right, below_front, above_skip, inside_right, inside_skip, inside_from}
use Rattle.piece_table.proofs.Seeing.{rep_follow, Seen, seen_none, seen-some, becomes_same, becomes_eq, becomes_then}
use Rattle.piece_table.proofs.Held.{Around, sought_around, replaced_around}
use Rattle.recording.specs.Recorded.{recorded}
use Rattle.recording.specs.Calls.{inner_part, Uncrossed, Clear, Given, Covered, MetOne, Cleared, After, ClearedAfter, Updated, TookPlace}
use Rattle.recording.proofs.Recorded.{recorded-append, recorded_more}
use Rattle.recording.proofs.Clearing.{nothing_inside, inside-seen}

-- ── `clear_after` ──

-- what a link's row says of the pieces around it
record Standing (t : List ℕ) (link : ℕ) (xs ys : List ℕ) : Type 0 where
  rep : Rep t (map (piece_at t) xs ++ piece_at t link ∷ map (piece_at t) ys)
  whole : Filled (piece_at t link)
  after : Follow (end_at t link) (map (piece_at t) ys)
  upto : Left (end_at t link) (map (piece_at t) xs ++ piece_at t link ∷ [])
  filled : All Filled (map (piece_at t) xs ++ piece_at t link ∷ [])

standing : {t : List ℕ} (link : ℕ) (xs ys : List ℕ) → Linked t (xs ++ link ∷ ys) → Standing t link xs ys
standing {t} link xs ys r =
    let f : Follow 0 (A ++ q ∷ B) = rw (map-append (piece_at t) xs (link ∷ ys)) at r.order in
    let w : Filled q × Follow (row_end q) B = follow_from 0 A q B f in
    record {
      rep = record { links = xs ++ link ∷ ys; linked = r; pieces = map-append (piece_at t) xs (link ∷ ys) };
      whole = w.0;
      after = w.1;
      upto = all_append (lefts 0 A f) (all_cons {x = q} (omega arith) all_nil);
      filled = all_left (A ++ q ∷ []) B (subst (All Filled) (sym (append_assoc A (q ∷ []) B)) (follow_filled 0 (A ++ q ∷ B) f));
    }
  where
    A : List PieceRow
    A = map (piece_at t) xs

    B : List PieceRow
    B = map (piece_at t) ys

    q : PieceRow
    q = piece_at t link

    low : (low : ℕ) (os : List PieceRow) → Follow low (os ++ q ∷ B) → low ≤ end_at t link
    low l [] f = omega (arith, f.0)
    low l (o ∷ os) f = omega (arith, f.0, low (row_end o) os f.2)

    lefts : (l : ℕ) (os : List PieceRow) → Follow l (os ++ q ∷ B) → Left (end_at t link) os
    lefts l [] f = all_nil
    lefts l (o ∷ os) f = all_cons {x = o} (low (row_end o) os f.2) (lefts (row_end o) os f.2)

module _ {t b : List ℕ} {tick link cell next : ℕ} {p : Piece} (ep : p ≡ read_at t link) (ee : next ≡ plus_up_to p.first p.size) where
  pub clear_after-none : cell ≤ next → ClearedAfter t t b b tick link (own_place t link cell)
  clear_after-none h = record { done = go }
    where
      go : (xs ys : List ℕ) → Linked t (xs ++ link ∷ ys) → end_at t link ≤ own_place t link cell → Countable b (length (rows_inside (end_at t link) (own_place t link cell) (map (piece_at t) ys)))
          → After t t b b tick link (own_place t link cell) xs ys
      go xs ys r to space =
          let e : ℕ = own_place t link cell in
          let B : List PieceRow = map (piece_at t) ys in
          let s : Standing t link xs ys = standing link xs ys r in
          let en : next ≡ plus_up_to (column t link piece_first) (column t link piece_length) = rw ep at ee in
          let right : Right e B = follow_right e (end_at t link) B (omega arith) s.after in
          record {
            becomes = becomes_same s.rep (ap (λ (l : List PieceRow). map (piece_at t) xs ++ piece_at t link ∷ l) (above_right e right (follow_filled (end_at t link) B s.after)));
            blocks = nothing_inside tick (inside_right (end_at t link) e right);
          }

  pub clear_after_done : {t₁ b₁ : List ℕ} → next < cell → Cleared t t₁ b b₁ tick (cell_place p.owner next) (cell_place p.owner cell) → ClearedAfter t t₁ b b₁ tick link (own_place t link cell)
  clear_after_done {t₁} {b₁} lt clear = record { done = go }
    where
      go : (xs ys : List ℕ) → Linked t (xs ++ link ∷ ys) → end_at t link ≤ own_place t link cell → Countable b (length (rows_inside (end_at t link) (own_place t link cell) (map (piece_at t) ys)))
          → After t t₁ b b₁ tick link (own_place t link cell) xs ys
      go xs ys r to space =
          let e : ℕ = own_place t link cell in
          let A : List PieceRow = map (piece_at t) xs in
          let B : List PieceRow = map (piece_at t) ys in
          let q : PieceRow = piece_at t link in
          let s : Standing t link xs ys = standing link xs ys r in
          let en : next ≡ plus_up_to (column t link piece_first) (column t link piece_length) = rw ep at ee in
          let n : own_place t link next ≡ end_at t link = omega (arith, s.whole.near) in
          let own : Cleared t t₁ b b₁ tick (own_place t link next) e = rw ep at clear in
          let clear' : Cleared t t₁ b b₁ tick (end_at t link) e = subst (λ (k : ℕ). Cleared t t₁ b b₁ tick k e) n own in
          let eq : (A ++ q ∷ []) ++ B ≡ A ++ q ∷ B = append_assoc A (q ∷ []) B in
          let right : Right (end_at t link) B = follow_right (end_at t link) (end_at t link) B (omega arith) s.after in
          let inside : rows_inside (end_at t link) e (A ++ q ∷ B) ≡ rows_inside (end_at t link) e B
          = ap (rows_inside (end_at t link) e) (sym eq) ∙ inside_skip (end_at t link) e (A ++ q ∷ []) B s.upto in
          let u : Uncrossed (end_at t link) (A ++ q ∷ B) = subst (Uncrossed (end_at t link)) eq (all_append (all_map (λ p l. inl l) s.upto) (all_map (λ p l. inr l) right)) in
          let z : Clear t t₁ b b₁ tick (end_at t link) e (A ++ q ∷ B) = clear'.done (A ++ q ∷ B) (record { rep = s.rep; some = omega arith; space = rw inside space }) u in
          let below : rows_below (end_at t link) (A ++ q ∷ B) ≡ A ++ q ∷ []
          = ap (rows_below (end_at t link)) (sym eq) ∙ below_front (end_at t link) (A ++ q ∷ []) B s.upto s.filled right in
          let above : rows_above e (A ++ q ∷ B) ≡ rows_above e B = ap (rows_above e) (sym eq) ∙ above_skip e (A ++ q ∷ []) B (all_map (λ p l. omega arith) s.upto) in
          record {
            becomes = becomes_eq z.becomes (sym (ap₂ (λ (x y : List PieceRow). x ++ y) below above ∙ append_assoc A (q ∷ []) (rows_above e B)));
            blocks = z.blocks ∙ ap (λ (l : List PieceRow). recorded tick l b) inside;
          }

-- ── `take_place` ──

-- where all is clear the piece goes between what is below and above it
pub inserted_clear : {t t₁ t₂ b b₁ : List ℕ} {ps : List PieceRow} (p : PieceRow) → InsertedPiece t₁ t₂ p → Clear t t₁ b b₁ p.written p.first (row_end p) ps → Filled p
    → row_width * length (rows_below p.first ps ++ p ∷ rows_above (row_end p) ps) + row_width ≤ length t → Updated t t₂ b b₁ p ps
inserted_clear {t} {t₁} {ps = ps} p ins z k space =
    let A : List PieceRow = rows_below p.first ps in
    let B : List PieceRow = rows_above (row_end p) ps in
    let n : length (A ++ p ∷ B) ≡ suc (length (A ++ B)) = omega (arith, length-append A (p ∷ B), length-append A B) in
    let one : Becomes t t₁ (A ++ B) = z.becomes in
    let order : placed p (A ++ B) ≡ A ++ p ∷ B = placed-between A p B k (below-within p.first ps) (above_within (row_end p) ps) in
    let f : Follow 0 (A ++ p ∷ B) = follow_between 0 A p B (omega arith) k (below-within p.first ps) (above_within (row_end p) ps) (rep_follow one.rep) in
    record { becomes = becomes_then one (becomes_eq (ins.done (A ++ B) one.rep (omega (arith, n, space, one.len)) (rw order f)) (sym order)); blocks = z.blocks }

-- the end of a piece, by its cells
pub past : (c : Piece) → cell_place c.owner (c.first + c.size) ≡ row_end (row_of c)
past c = omega arith

module _ {t t₁ b b₁ : List ℕ} (c : Piece) where
  met_row : {out : Option ℕ} → MetOne t t₁ b b₁ c.written (cell_place c.owner c.first) (cell_place c.owner (c.first + c.size)) out → MetOne t t₁ b b₁ c.written (row_of c).first (row_end (row_of c)) out
  met_row {out} met = subst (λ (k : ℕ). MetOne t t₁ b b₁ c.written (row_of c).first k out) (past c) met

  pub take_place_free : {t₂ : List ℕ} → MetOne t t₁ b b₁ c.written (cell_place c.owner c.first) (cell_place c.owner (c.first + c.size)) None → InsertedPiece t₁ t₂ (row_of c)
      → TookPlace t t₂ b b₁ (row_of c)
  take_place_free met ins = record { done = λ ps g u k space. inserted_clear (row_of c) ins ((met_row met).stop refl ps g u) k space }

  -- a covered piece and those behind it
  module _ {link : ℕ} {ps : List PieceRow} (k : Filled (row_of c)) (o : Covered t t₁ b b₁ c.written (row_of c).first (row_end (row_of c)) link) (g : Given t b (row_of c).first (row_end (row_of c)) ps) (v : Seen t (row_of c).first link ps) where
    over_kind : column t link piece_owner ≡ c.owner
    over_kind = same_kind (piece_at t link) v.whole c.owner c.first (c.first + c.size) (omega (arith, k.near)) v.past (omega (arith, v.whole.some, o.to))

    over_parts : rows_inside (row_of c).first (row_end (row_of c)) ps ≡ (inner_part t link (row_of c).first (row_end (row_of c)) ∷ []) ++ rows_inside (end_at t link) (row_end (row_of c)) (map (piece_at t) v.ys)
    over_parts =
        let q : PieceRow = piece_at t link in
        let B : List PieceRow = map (piece_at t) v.ys in
        let here : rows_inside (row_of c).first (row_end (row_of c)) ps ≡ inner_part t link (row_of c).first (row_end (row_of c)) ∷ rows_inside (row_of c).first (row_end (row_of c)) B = inside-seen (row_end (row_of c)) v g.some (omega (arith, v.whole.some, o.to)) in
        let from : rows_inside (row_of c).first (row_end (row_of c)) B ≡ rows_inside (row_end q) (row_end (row_of c)) B = inside_from (row_of c).first (row_end q) (row_end (row_of c)) (omega (arith, o.from)) (follow_right (row_end q) (row_end q) B (omega arith) v.after) in
        here ∙ ap (λ (l : List PieceRow). inner_part t link (row_of c).first (row_end (row_of c)) ∷ l) from

    over_after : {t₂ b₂ : List ℕ} → ClearedAfter t₁ t₂ b₁ b₂ c.written link (own_place t₁ link (c.first + c.size)) → After t t₂ b₁ b₂ c.written link (row_end (row_of c)) v.xs v.ys
    over_after {t₂} {b₂} clear =
        let rows : List PieceRow = rows_inside (end_at t link) (row_end (row_of c)) (map (piece_at t) v.ys) in
        let end : own_place t link (c.first + c.size) ≡ row_end (row_of c) = ap (λ (k : ℕ). cell_place k (c.first + c.size)) over_kind ∙ past c in
        let same : ClearedAfter t t₂ b₁ b₂ c.written link (own_place t link (c.first + c.size)) = rw o.same at clear in
        let clear' : ClearedAfter t t₂ b₁ b₂ c.written link (row_end (row_of c)) = subst (λ (k : ℕ). ClearedAfter t t₂ b₁ b₂ c.written link k) end same in
        let rest : Countable b₁ (length rows) = rw o.blocks (recorded_more c.written (inner_part t link (row_of c).first (row_end (row_of c)) ∷ []) rows b (rw over_parts at g.space)) in
        clear'.done v.xs v.ys v.linked o.to rest

    -- where its row stands
    over_first : {was : ℕ} → was ≡ column t₁ link piece_first → cell_place c.owner was ≡ (piece_at t link).first
    over_first ew = ap₂ cell_place (sym over_kind) (rw o.same at ew)

  -- its row is found again
  pub take_place_lost : {t₂ b₂ : List ℕ} {link was : ℕ} {out : Option ℕ} → MetOne t t₁ b b₁ c.written (cell_place c.owner c.first) (cell_place c.owner (c.first + c.size)) (Some link)
      → was ≡ column t₁ link piece_first → ClearedAfter t₁ t₂ b₁ b₂ c.written link (own_place t₁ link (c.first + c.size)) → Sought t₂ (cell_place c.owner was) out → out ≡ None → TookPlace t t₂ b b₂ (row_of c)
  take_place_lost {t₂} {b₂} {link} {was} met ew clear sought none = record { done = λ ps g u k space. absurd (go ps g u k) }
    where
      go : (ps : List PieceRow) → Given t b (row_of c).first (row_end (row_of c)) ps → Uncrossed (row_of c).first ps → Filled (row_of c) → ⊥
      go ps g u k =
          let o : Covered t t₁ b b₁ c.written (row_of c).first (row_end (row_of c)) link = (met_row met).covers link refl ps g u in
          let v : Seen t (row_of c).first link ps = seen-some o.sought g.rep refl in
          let q : PieceRow = piece_at t link in
          let z : After t t₂ b₁ b₂ c.written link (row_end (row_of c)) v.xs v.ys = over_after k o g v clear in
          let left : Left (cell_place c.owner was) (map (piece_at t) v.xs ++ q ∷ rows_above (row_end (row_of c)) (map (piece_at t) v.ys)) = seen_none sought z.becomes.rep none in
          omega (arith, over_first k o g v ew, v.whole.some, all_head (all_right (map (piece_at t) v.xs) (q ∷ rows_above (row_end (row_of c)) (map (piece_at t) v.ys)) left))

  -- the row of a covered piece: those left of it stay, and what of those behind it lies above
  pub take_place_over : {t₂ t₃ b₂ : List ℕ} {link was row : ℕ} {out : Option ℕ} → MetOne t t₁ b b₁ c.written (cell_place c.owner c.first) (cell_place c.owner (c.first + c.size)) (Some link)
      → was ≡ column t₁ link piece_first → ClearedAfter t₁ t₂ b₁ b₂ c.written link (own_place t₁ link (c.first + c.size)) → Sought t₂ (cell_place c.owner was) out → out ≡ Some row
      → ReplacedPiece t₂ t₃ row (row_of c) → TookPlace t t₃ b b₂ (row_of c)
  take_place_over {t₂} {t₃} {b₂} {link} {was} {row} met ew clear out-sought is put = record { done = go }
    where
      sought : Sought t₂ (cell_place c.owner was) (Some row)
      sought = rw is at out-sought

      go : (ps : List PieceRow) → Given t b (row_of c).first (row_end (row_of c)) ps → Uncrossed (row_of c).first ps → Filled (row_of c)
          → row_width * length (rows_below (row_of c).first ps ++ (row_of c) ∷ rows_above (row_end (row_of c)) ps) + row_width ≤ length t → Updated t t₃ b b₂ (row_of c) ps
      go ps g u k space =
          let f : ℕ = (row_of c).first in
          let e : ℕ = row_end (row_of c) in
          let o : Covered t t₁ b b₁ c.written f e link = (met_row met).covers link refl ps g u in
          let v : Seen t f link ps = seen-some o.sought g.rep refl in
          let q : PieceRow = piece_at t link in
          let A : List PieceRow = map (piece_at t) v.xs in
          let B : List PieceRow = map (piece_at t) v.ys in
          let all : rows_inside f e ps ≡ (inner_part t link f e ∷ []) ++ rows_inside (row_end q) e B = over_parts k o g v in
          let z : After t t₂ b₁ b₂ c.written link e v.xs v.ys = over_after k o g v clear in
          let left : Left q.first A = all_map (λ r l. omega (arith, o.from)) v.left in
          let here : Sought t₂ q.first (Some row) = subst (λ (n : ℕ). Sought t₂ n (Some row)) (over_first k o g v ew) sought in
          let at : Around t₂ row A (rows_above e B) = sought_around A q (rows_above e B) here z.becomes.rep left (omega (arith, v.whole.some)) in
          let follow : Follow 0 (A ++ (row_of c) ∷ rows_above e B)
          = follow_between 0 A (row_of c) (rows_above e B) (omega arith) k v.left (above_within e B) (follow_without 0 A q (rows_above e B) (rep_follow z.becomes.rep)) in
          let below : rows_below f ps ≡ A = ap (rows_below f) v.is ∙ below_front f A (q ∷ B) v.left v.filled (all_cons {x = q} o.from (follow_right f (row_end q) B (omega (arith, o.from)) v.after)) in
          let upto : Left e (A ++ q ∷ []) = all_append (all_map (λ r l. omega arith) v.left) (all_cons {x = q} o.to all_nil) in
          let above : rows_above e ps ≡ rows_above e B = ap (rows_above e) (v.is ∙ sym (append_assoc A (q ∷ []) B)) ∙ above_skip e (A ++ q ∷ []) B upto in
          record {
            becomes = becomes_then z.becomes (becomes_eq (replaced_around put at follow) (ap₂ (λ (x y : List PieceRow). x ++ (row_of c) ∷ y) below above));
            blocks = z.blocks ∙ ap (recorded c.written (rows_inside (row_end q) e B)) o.blocks ∙ recorded-append c.written (inner_part t link f e ∷ []) (rows_inside (row_end q) e B) b g.space.head
                ∙ ap (λ (l : List PieceRow). recorded c.written l b) (sym all);
          }

-- the steps, one for each return
pub ruleset clearing_after = (clear_after-none, clear_after_done)

pub ruleset placing = (take_place_free, take_place_lost, take_place_over)
