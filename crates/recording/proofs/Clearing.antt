-- `record_part`, `meet_one`, `clear_one` and `clear`: one step for each return. Assumes nothing.
use mathlib.Core.Path.{◌≡◌, refl, sym, ap, ap₂, subst, ◌∙◌}
use mathlib.Core.Logic.{inl, inr}
use mathlib.Core.Bool.{Bool, true, false, true≢false, false≢true}
use mathlib.Core.List.{List, [], ◌∷◌, ◌++◌, map, append_assoc}
use Prim.Native.Nat.{ℕ, ◌+◌, ◌-◌, ◌^◌, ◌≤◌, ◌<◌}
use native.Mathlib.Omega.{arith}
use lib.ListN.{length, length-append}
use borrow.Author.Tests.{ltb-true, ltb-false}
use Rattle.lists.specs.Lists.{all_nil, all_cons}
use Rattle.lists.proofs.Lists.{all_append, all_left, all_right, all_tail}
use Rattle.lists.proofs.Maps.{map-append}
use Rattle.history.specs.Words.{cell_place}
use Rattle.tables.specs.Columns.{column, piece_owner, pieces_count}
use Rattle.std.specs.Prelude.{Option, Some, None}
use Rattle.std.proofs.lemmas.Option.{none-some, same_Some}
use Rattle.block_table.specs.Appended.{AppendedRow}
use Rattle.block_table.proofs.Appending.{appended-none, countable_less}
use Rattle.merge_set.specs.Table.{first_at, StartsBelow}
use Rattle.piece_table.specs.Piece.{PieceRow, row_of, row_end, read_at, piece_at, part, rows_below, rows_inside, rows_above}
use Rattle.piece_table.specs.declared.Piece.{Piece}
use Rattle.piece_table.specs.Rep.{Becomes}
use Rattle.piece_table.proofs.Clipping.{clip_some, clip_is}
use Rattle.piece_table.specs.Calls.{Clipped, end_at, own_place, EndsAfter, Sought, RemovedPiece, TrimmedFront}
use Rattle.piece_table.proofs.Lines.{same_kind, on_line}
use Rattle.piece_table.proofs.Order.{follow_filled, follow_right}
use Rattle.piece_table.proofs.Parts.{Left, Right, apart, covered-below, covered-above, front_cut, inside_left, inside_right, inside_skip, inside_here}
use Rattle.piece_table.proofs.Seeing.{rep_follow, rep_count, Seen, seen_none, seen-some, becomes_same, becomes_eq, becomes_then, left_alone}
use Rattle.recording.specs.Recorded.{recorded, block_row_of}
use Rattle.recording.specs.Calls.{inner_part, RecordedPart, Uncrossed, Clearing, Clear, Given, Covered, MetOne, ClearedOne, Cleared}
use Rattle.recording.proofs.Recorded.{recorded-append, recorded_more}

-- ── `record_part` ──

module _ {t b : List ℕ} {link tick first end : ℕ} {p : Piece} (ep : p ≡ read_at t link) where
  pub record_part_none : Clipped p first end None → RecordedPart t b b link tick (own_place t link first) (own_place t link end)
  record_part_none k = record { done = λ w lt lo hi c. absurd (clip_some _ _ (rw ep at k) w refl refl (omega (arith, w.some))) }

  pub record_part_done : {b₁ : List ℕ} {part : Piece} → Clipped p first end (Some part) → AppendedRow b b₁ (block_row_of tick (row_of part))
      → RecordedPart t b b₁ link tick (own_place t link first) (own_place t link end)
  record_part_done {part = part} k one =
      record {
        done = λ w lt lo hi c.
            one.done c ∙ ap (λ (q : PieceRow). recorded tick (q ∷ []) b) (clip_is _ _ (rw ep at k) w refl refl (omega (arith, w.some)));
      }

-- ── `meet_one` ──

-- where nothing lies inside nothing is recorded
pub nothing_inside : {b : List ℕ} (tick : ℕ) {qs : List PieceRow} → qs ≡ [] → b ≡ recorded tick qs b
nothing_inside {b} tick e = sym (ap (λ (l : List PieceRow). recorded tick l b) e ∙ appended-none b)

stops : {t t' b b' : List ℕ} {tick f e : ℕ} → ((ps : List PieceRow) → Given t b f e ps → Uncrossed f ps → Clear t t' b b' tick f e ps) → MetOne t t' b b' tick f e None
stops g = record { covers = λ link y. absurd (none-some link y); stop = λ _. g }

-- the link's piece does not start before the first cell
uncrossed_here : {t : List ℕ} {f link : ℕ} {ps : List PieceRow} → Seen t f link ps → Uncrossed f ps → f ≤ first_at t link
uncrossed_here {t} {f} {link} {ps} v u = go (all_right (map (piece_at t) v.xs) (piece_at t link ∷ map (piece_at t) v.ys) (subst (Uncrossed f) v.is u))
  where
    go : Uncrossed f (piece_at t link ∷ map (piece_at t) v.ys) → f ≤ first_at t link
    go (all_cons (inl a) r) = absurd (omega (arith, v.past))
    go (all_cons (inr a) r) = a

-- what of the pieces lies inside is what of the link's lies there, and what of those behind it
pub inside-seen : {t : List ℕ} {f link : ℕ} {ps : List PieceRow} (e : ℕ) (v : Seen t f link ps) → f < e → first_at t link < e
    → rows_inside f e ps ≡ inner_part t link f e ∷ rows_inside f e (map (piece_at t) v.ys)
inside-seen {t} {f} {link} e v h lt = ap (rows_inside f e) v.is ∙ inside_here f e (map (piece_at t) v.xs) (piece_at t link) (map (piece_at t) v.ys) v.left h v.whole.some lt v.past

pub meet_one-none : {t b : List ℕ} {tick f e : ℕ} {out : Option ℕ} → Sought t f out → out ≡ None → MetOne t t b b tick f e None
meet_one-none {t} {b} {tick} {f} {e} s z =
    stops (λ ps g u.
    let l : Left f ps = seen_none s g.rep z in
    record { becomes = becomes_same g.rep (left_alone f e g.some l (rep_follow g.rep)); blocks = nothing_inside tick (inside_left f e l) })

module _ {t b : List ℕ} {tick f e link was : ℕ} {out : Option ℕ} (s : Sought t f out) (is : out ≡ Some link) (ew : was ≡ first_at t link) where
  right_of : e ≤ was → MetOne t t b b tick f e None
  right_of le =
      stops (λ ps g u.
      let v : Seen t f link ps = seen-some s g.rep is in
      let p : PieceRow = piece_at t link in
      let A : List PieceRow = map (piece_at t) v.xs in
      let B : List PieceRow = map (piece_at t) v.ys in
      let right : Right e (p ∷ B) = all_cons {x = p} (omega arith) (follow_right e (row_end p) B (omega (arith, v.whole.some)) v.after) in
      record {
        becomes = becomes_same g.rep (subst (λ (l : List PieceRow). rows_below f l ++ rows_above e l ≡ l) (sym v.is)
            (apart f e g.some A (p ∷ B) v.left right v.filled (all_cons v.whole (follow_filled (row_end p) B v.after))));
        blocks = nothing_inside tick (ap (rows_inside f e) v.is ∙ inside_skip f e A (p ∷ B) v.left ∙ inside_right f e right);
      })

-- the piece sought starts before the end of the kind's cells: so it is of the kind
module _ {t : List ℕ} {link : ℕ} {out : Option ℕ} (kind first end : ℕ) (s : Sought t (cell_place kind first) out) (is : out ≡ Some link) (small : end < 2 ^ 64) (lt : first_at t link < cell_place kind end) where
  pub own_kind : {b : List ℕ} {ps : List PieceRow} → Given t b (cell_place kind first) (cell_place kind end) ps → column t link piece_owner ≡ kind
  own_kind {ps = ps} g = let v : Seen t (cell_place kind first) link ps = seen-some s g.rep is in same_kind (piece_at t link) v.whole kind first end small v.past lt

  -- so its block can be counted, and is recorded
  pub recorded-seen : {b b₁ : List ℕ} {tick : ℕ} {ps : List PieceRow} → RecordedPart t b b₁ link tick (own_place t link first) (own_place t link end) → (g : Given t b (cell_place kind first) (cell_place kind end) ps)
      → b₁ ≡ recorded tick (inner_part t link (cell_place kind first) (cell_place kind end) ∷ []) b
  recorded-seen {b} {b₁} {tick} rec g =
      let v : Seen t (cell_place kind first) link _ = seen-some s g.rep is in
      let rec' : RecordedPart t b b₁ link tick (cell_place kind first) (cell_place kind end) = subst (λ (k : ℕ). RecordedPart t b b₁ link tick (cell_place k first) (cell_place k end)) (own_kind g) rec in
      rec'.done v.whole g.some lt v.past (countable_less (omega (arith, ap length (inside-seen (cell_place kind end) v g.some lt))) g.space)

  module _ {q : Bool} {b b₁ : List ℕ} {tick : ℕ} (rec : RecordedPart t b b₁ link tick (own_place t link first) (own_place t link end)) (eq : EndsAfter t link kind end q) where
    front_met : {t₁ : List ℕ} → q ≡ true → TrimmedFront t t₁ link end → MetOne t t₁ b b₁ tick (cell_place kind first) (cell_place kind end) None
    front_met {t₁} y trim =
        stops (λ ps g u.
        let v : Seen t (cell_place kind first) link ps = seen-some s g.rep is in
        let p : PieceRow = piece_at t link in
        let A : List PieceRow = map (piece_at t) v.xs in
        let B : List PieceRow = map (piece_at t) v.ys in
        let own : own_place t link end ≡ (cell_place kind end) = ap (λ (k : ℕ). cell_place k end) (own_kind g) in
        let over : (cell_place kind end) < end_at t link = ltb-true (cell_place kind end) (end_at t link) (sym (eq.is (on_line v.whole)) ∙ y) in
        let here_on : (cell_place kind first) ≤ first_at t link = uncrossed_here v u in
        let none : rows_inside (cell_place kind first) (cell_place kind end) B ≡ [] = inside_right (cell_place kind first) (cell_place kind end) (follow_right (cell_place kind end) (row_end p) B (omega arith) v.after) in
        let trimmed : Becomes t t₁ (A ++ part (cell_place kind end) (row_end p) p ∷ B)
        = subst (λ (z : ℕ). Becomes t t₁ (A ++ part z (row_end p) p ∷ B)) own (trim.done v.xs v.ys v.linked (omega arith) (omega (arith, over, own))) in
        record {
          becomes = becomes_eq trimmed
              (subst (λ (l : List PieceRow). rows_below (cell_place kind first) l ++ rows_above (cell_place kind end) l ≡ A ++ part (cell_place kind end) (row_end p) p ∷ B) (sym v.is)
              (front_cut (cell_place kind first) (cell_place kind end) g.some A p B v.left v.filled (follow_filled (row_end p) B v.after) (follow_right (row_end p) (row_end p) B (omega arith) v.after) over here_on (omega arith)));
          blocks = recorded-seen rec g ∙ ap (λ (l : List PieceRow). recorded tick l b) (sym (inside-seen (cell_place kind end) v g.some lt ∙ ap (λ (l : List PieceRow). inner_part t link (cell_place kind first) (cell_place kind end) ∷ l) none));
        })

    whole-met : q ≡ false → MetOne t t b b₁ tick (cell_place kind first) (cell_place kind end) (Some link)
    whole-met n =
        record {
          covers = λ at y ps g u.
              rw (← same_Some link at y)
              (record {
                same = refl;
                sought = rw is at s;
                from = uncrossed_here (seen-some s g.rep is) u;
                to = ltb-false (cell_place kind end) (end_at t link) (sym (eq.is (on_line (seen-some s g.rep is).whole)) ∙ n);
                blocks = recorded-seen rec g;
              });
          stop = λ z. absurd (none-some link (sym z));
        }

-- by the test whether the piece starts before the end
module _ {t b : List ℕ} {tick kind end link : ℕ} {starts : Bool} {out : Option ℕ} (is : out ≡ Some link) (tested : StartsBelow t link kind end starts) where
  pub meet_one_right : {f : ℕ} → Sought t f out → starts ≡ false → MetOne t t b b tick f (cell_place kind end) None
  meet_one_right s h = right_of s is refl (ltb-false (first_at t link) (cell_place kind end) (sym tested.is ∙ h))

  module _ {q : Bool} {b₁ : List ℕ} (first : ℕ) (s : Sought t (cell_place kind first) out) (small : end < 2 ^ 64) (h : starts ≡ true)
      (rec : RecordedPart t b b₁ link tick (own_place t link first) (own_place t link end)) (eq : EndsAfter t link kind end q) where
    pub meet_one_front : {t₁ : List ℕ} → q ≡ true → TrimmedFront t t₁ link end → MetOne t t₁ b b₁ tick (cell_place kind first) (cell_place kind end) None
    meet_one_front = front_met kind first end s is small (ltb-true (first_at t link) (cell_place kind end) (sym tested.is ∙ h)) rec eq

    pub meet_one-whole : q ≡ false → MetOne t t b b₁ tick (cell_place kind first) (cell_place kind end) (Some link)
    meet_one-whole = whole-met kind first end s is small (ltb-true (first_at t link) (cell_place kind end) (sym tested.is ∙ h)) rec eq

-- ── `clear_one` ──

module _ {t t₁ b b₁ : List ℕ} {tick f e : ℕ} where
  pub clear_one_stop : MetOne t t₁ b b₁ tick f e None → ClearedOne t t₁ b b₁ tick f e false
  clear_one_stop met = record { step = λ y. absurd (false≢true y); stop = λ _. met.stop refl }

  pub clear_one_more : {t₂ : List ℕ} {link : ℕ} → MetOne t t₁ b b₁ tick f e (Some link) → RemovedPiece t₁ t₂ link → ClearedOne t t₂ b b₁ tick f e true
  clear_one_more {t₂} {link} met gone = record { step = λ _. go; stop = λ z. absurd (true≢false z) }
    where
      go : (ps : List PieceRow) → Given t b f e ps → Uncrossed f ps → Clearing t t₂ b b₁ tick f e (length ps - 1) ps
      go ps g u =
          let k : Covered t t₁ b b₁ tick f e link = met.covers link refl ps g u in
          let v : Seen t f link ps = seen-some k.sought g.rep refl in
          let p : PieceRow = piece_at t link in
          let A : List PieceRow = map (piece_at t) v.xs in
          let B : List PieceRow = map (piece_at t) v.ys in
          let u' : Uncrossed f (A ++ p ∷ B) = subst (Uncrossed f) v.is u in
          let gone' : RemovedPiece t t₂ link = rw k.same at gone in
          record {
            now = A ++ B;
            gone = inner_part t link f e ∷ [];
            becomes = becomes_eq (gone'.done v.xs v.ys v.linked) (sym (map-append (piece_at t) v.xs v.ys));
            blocks = k.blocks;
            inside = inside-seen e v g.some (omega (arith, v.whole.some, k.to)) ∙ ap (λ (l : List PieceRow). inner_part t link f e ∷ l) (sym (inside_skip f e A B v.left));
            same_below = covered-below f e g.some A p B k.from ∙ ap (rows_below f) (sym v.is);
            same_above = covered-above f e g.some A p B k.to ∙ ap (rows_above e) (sym v.is);
            uncrossed = all_append (all_left A (p ∷ B) u') (all_tail (all_right A (p ∷ B) u'));
            few = omega (arith, ap length v.is, length-append A B, length-append A (p ∷ B));
          }

-- ── `clear` ──

-- between the rounds: those that are left suffice
pub record Round (t t' b b' : List ℕ) (tick f e count round : ℕ) : Type 0 where
  pub done : (ps : List PieceRow) → Given t b f e ps → Uncrossed f ps → Clearing t t' b b' tick f e (count - round) ps

-- before the first of them
pub clearing_same : {t b : List ℕ} {tick f e left : ℕ} {ps : List PieceRow} → Given t b f e ps → Uncrossed f ps → length ps ≤ left → Clearing t t b b tick f e left ps
clearing_same {b = b} {ps = ps} g u n =
    record {
      now = ps;
      gone = [];
      becomes = record { rep = g.rep; len = refl };
      blocks = sym (appended-none b);
      inside = refl;
      same_below = refl;
      same_above = refl;
      uncrossed = u;
      few = n;
    }

pub clear_start : {t b : List ℕ} {tick f e count : ℕ} → count ≡ column t 0 pieces_count → Round t t b b tick f e count 0
clear_start el = record { done = λ ps g u. clearing_same g u (omega (arith, rep_count g.rep)) }

-- what the next step may assume
pub given_next : {t t₁ b b₁ : List ℕ} {tick f e left : ℕ} {ps : List PieceRow} → Given t b f e ps → (k : Clearing t t₁ b b₁ tick f e left ps) → Given t₁ b₁ f e k.now
given_next {tick = tick} {f} {e} g k =
    record {
      rep = k.becomes.rep;
      some = g.some;
      space = rw k.blocks (recorded_more tick k.gone (rows_inside f e k.now) _ (rw k.inside at g.space));
    }

module _ {t t₁ t₂ b b₁ b₂ : List ℕ} {tick f e count round : ℕ} {q : Bool} (c : Round t t₁ b b₁ tick f e count round) (o : ClearedOne t₁ t₂ b₁ b₂ tick f e q) where
  pub clear_more : q ≡ true → Round t t₂ b b₂ tick f e count (round + 1)
  clear_more y = record { done = go }
    where
      go : (ps : List PieceRow) → Given t b f e ps → Uncrossed f ps → Clearing t t₂ b b₂ tick f e (count - (round + 1)) ps
      go ps g u =
          let k : Clearing t t₁ b b₁ tick f e (count - round) ps = c.done ps g u in
          let n : Clearing t₁ t₂ b₁ b₂ tick f e (length k.now - 1) k.now = o.step y k.now (given_next g k) k.uncrossed in
          record {
            now = n.now;
            gone = k.gone ++ n.gone;
            becomes = becomes_then k.becomes n.becomes;
            blocks = n.blocks ∙ ap (recorded tick n.gone) k.blocks ∙ recorded-append tick k.gone n.gone b g.space.head;
            inside = k.inside ∙ ap (λ (l : List PieceRow). k.gone ++ l) n.inside ∙ sym (append_assoc k.gone n.gone (rows_inside f e n.now));
            same_below = n.same_below ∙ k.same_below;
            same_above = n.same_above ∙ k.same_above;
            uncrossed = n.uncrossed;
            few = omega (arith, n.few, k.few);
          }

  pub clear_stop : q ≡ false → Cleared t t₂ b b₂ tick f e
  clear_stop n = record { done = go }
    where
      go : (ps : List PieceRow) → Given t b f e ps → Uncrossed f ps → Clear t t₂ b b₂ tick f e ps
      go ps g u =
          let k : Clearing t t₁ b b₁ tick f e (count - round) ps = c.done ps g u in
          let z : Clear t₁ t₂ b₁ b₂ tick f e k.now = o.stop n k.now (given_next g k) k.uncrossed in
          record {
            becomes = becomes_eq (becomes_then k.becomes z.becomes) (ap₂ (λ (x y : List PieceRow). x ++ y) (sym k.same_below) (sym k.same_above));
            blocks = z.blocks ∙ ap (recorded tick (rows_inside f e k.now)) k.blocks ∙ recorded-append tick k.gone (rows_inside f e k.now) b g.space.head ∙ ap (λ (l : List PieceRow). recorded tick l b) (sym k.inside);
          }

pub clear_end : {t t' b b' : List ℕ} {tick f e count round : ℕ} → Round t t' b b' tick f e count round → count ≤ round → Cleared t t' b b' tick f e
clear_end {t} {t'} {b} {b'} {tick} {f} {e} {count} {round} c z = record { done = go }
  where
    nothing : (ps : List PieceRow) → length ps ≤ 0 → Left f ps
    nothing [] h = all_nil
    nothing (p ∷ ps) h = absurd (omega arith)

    go : (ps : List PieceRow) → Given t b f e ps → Uncrossed f ps → Clear t t' b b' tick f e ps
    go ps g u =
        let k : Clearing t t' b b' tick f e (count - round) ps = c.done ps g u in
        let l : Left f k.now = nothing k.now (omega (arith, k.few)) in
        record {
          becomes = becomes_eq k.becomes (ap₂ (λ (x y : List PieceRow). x ++ y) (sym k.same_below) (sym k.same_above) ∙ left_alone f e g.some l (rep_follow k.becomes.rep));
          blocks = nothing_inside tick (inside_left f e l) ∙ ap (recorded tick (rows_inside f e k.now)) k.blocks ∙ recorded-append tick k.gone (rows_inside f e k.now) b g.space.head ∙ ap (λ (l : List PieceRow). recorded tick l b) (sym k.inside);
        }

-- the steps, one for each return
pub ruleset recording = (record_part_none, record_part_done)

pub ruleset meeting = (meet_one-none, meet_one_right, meet_one_front, meet_one-whole)

pub ruleset clearing = (clear_one_stop, clear_one_more)

pub ruleset rounds = (clear_start, clear_more, clear_stop, clear_end)
