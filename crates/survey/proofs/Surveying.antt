-- `rests_of`, `report` and `survey`: one step for each return. Assumes nothing.
use mathlib.Core.Path.{◌≡◌, refl, sym, ap, ap₂, ◌∙◌}
use mathlib.Core.Logic.{◌⊎◌, inl, inr, ⊎_elim}
use mathlib.Core.Bool.{Bool, true, false, cond}
use lib.Dec.{ltb}
use mathlib.Core.List.{List, ◌∷◌, ◌++◌, map}
use Prim.Native.Nat.{ℕ, ◌+◌, ◌*◌, ◌≤◌, ◌<◌, ◌^◌}
use native.Mathlib.Omega.{arith}
use borrow.Author.Tests.{ltb-true, ltb-false}
use lib.ListN.{length, get_or}
use Rattle.std.specs.Prelude.{Some, None}
use Rattle.lists.specs.Lists.{All, all_cons}
use Rattle.lists.proofs.Lists.{all_right, all_map, all_append, all_any, all_head}
use Rattle.lists.proofs.Maps.{map-append}
use Rattle.history.specs.Words.{line_of, cell_place}
use Rattle.tables.specs.Columns.{column, piece_first, piece_length, piece_owner, pieces_count}
use Rattle.tables.specs.Sums.{plus_up_to}
use Rattle.merge_set.specs.Table.{first_at, StartsBelow}
use Rattle.piece_table.specs.Piece.{PieceRow, row_end, read_at, piece_at, rows_below, rows_above}
use Rattle.piece_table.specs.Rep.{Rep}
use Rattle.piece_table.specs.Calls.{end_at, Sought}
use Rattle.piece_table.specs.Shown.{shown, Stored}
use Rattle.piece_table.specs.declared.Piece.{Piece}
use Rattle.piece_table.proofs.Lines.{same_kind}
use Rattle.piece_table.proofs.Order.{follow_right, follow_filled}
use Rattle.piece_table.proofs.Parts.{Left}
use Rattle.piece_table.proofs.Cells.{Misses}
use Rattle.piece_table.proofs.Seeing.{rep_follow, rep_count, Seen, seen_none, seen-some}
use Rattle.survey.specs.Survey.{change_at, Matched, HeldBytes, rests_of, RestsOf, Made, Counts, Surveyed}
use Rattle.survey.specs.declared.Report.{Report}
use Rattle.survey.proofs.Holding.{held_none}
use Rattle.survey.proofs.Changing.{has-none, change_here, matched_start, matched_tells}
use Rattle.survey.proofs.Weighing.{weigh, past, past_left, past_turn, past_zero, past_start, weigh-one, weigh-two, crosses_yes, crosses_before, crosses-after, crosses_line, met, rests, met-one, rests-two, met_left, met_right, met_here, rests_left, rests_right, inside-count, parts_count}

-- ── sums ──

-- a sum as the survey uses it: it does not pass the largest number
pub record Plus (a b out : ℕ) : Type 0 where
  pub is : a + b < 2 ^ 64 → out ≡ a + b

pub plus_told : {a b out : ℕ} → out ≡ plus_up_to a b → Plus a b out
plus_told e = record { is = λ h. omega arith }

-- ── `rests_of`, `report` ──

-- a rest on either side where the piece reaches over
pub rests_told : {was next first end out : ℕ} → out ≡ cond (ltb was first) 1 0 + cond (ltb end next) 1 0 → RestsOf was next first end out
rests_told {was} {next} {first} {end} {out} e = record { is = go (ltb was first) refl (ltb end next) refl }
  where
    go : (q : Bool) → ltb was first ≡ q → (r : Bool) → ltb end next ≡ r → first < next → was < end → out ≡ rests_of was next first end
    go true h true k l m = omega (arith, rw (h, k) at e, crosses_yes was next first (ltb-true was first h) l, crosses_yes was next end m (ltb-true end next k))
    go true h false k l m = omega (arith, rw (h, k) at e, crosses_yes was next first (ltb-true was first h) l, crosses-after was next end (ltb-false end next k))
    go false h true k l m = omega (arith, rw (h, k) at e, crosses_before was next first (ltb-false was first h), crosses_yes was next end m (ltb-true end next k))
    go false h false k l m = omega (arith, rw (h, k) at e, crosses_before was next first (ltb-false was first h), crosses-after was next end (ltb-false end next k))

-- ── `survey` ──

-- Where the survey stands, for pieces ps: the cells below `place` are looked at, the pieces that end there or before are counted.
pub record Counted (store : List ℕ) (first : ℕ) (bytes : List ℕ) (place m r same : ℕ) (ps : List PieceRow) : Type 0 where
  pub blocks : m + weigh (past place (met first (first + length bytes))) ps ≡ weigh (met first (first + length bytes)) ps
  pub rest : r + weigh (past place (rests first (first + length bytes))) ps ≡ weigh (rests first (first + length bytes)) ps
  pub matched : Matched (map (shown store) ps) first bytes place same
  pub clean : (place ≡ first) ⊎ All (λ (p : PieceRow). (row_end p ≤ place) ⊎ (place ≤ p.first)) ps

-- first and place are cells of the kind
pub record Turning (t store : List ℕ) (kind first : ℕ) (bytes : List ℕ) (place m r same : ℕ) : Type 0 where
  pub low : first ≤ place
  pub says : (ps : List PieceRow) → Rep t ps → All (Stored store) ps → 0 < length bytes → first + length bytes < 2 ^ 64
      → Counted store (cell_place kind first) bytes (cell_place kind place) m r same ps

counted_start : {store : List ℕ} (first : ℕ) (bytes : List ℕ) (ps : List PieceRow) → 0 < length bytes → Counted store first bytes first 0 0 0 ps
counted_start first bytes ps big =
    record {
      blocks = omega (arith, past_start (met first (first + length bytes)) first (all_any ps (λ p h. met_left first (first + length bytes) (omega arith) p h)));
      rest = omega (arith, past_start (rests first (first + length bytes)) first (all_any ps (λ p h. rests_left first (first + length bytes) (omega arith) p h)));
      matched = matched_start;
      clean = inl refl;
    }

pub survey_start : {t store : List ℕ} {kind first : ℕ} {bytes : List ℕ} → Turning t store kind first bytes first 0 0 0
survey_start {t} {store} {kind} {first} {bytes} = record { low = omega arith; says = λ ps rep st big near. counted_start (cell_place kind first) bytes ps big }

-- pieces are few enough to count
few : {t : List ℕ} {ps : List PieceRow} → Rep t ps → 2 * length ps + length ps < 2 ^ 63
few r = omega (arith, rep_count r, r.linked.dense.room, r.linked.few)

-- where nothing more weighs, and the place is no held cell, the numbers are told
counts-told : {t store bytes : List ℕ} {first count place m r same : ℕ} {s : Report} (ps : List PieceRow) → Rep t ps → All (Stored store) ps → 0 < length bytes → count ≡ column t 0 pieces_count
    → Made count m r same s → Counted store first bytes place m r same ps
    → (weigh (past place (met first (first + length bytes))) ps ≡ 0) × (weigh (past place (rests first (first + length bytes))) ps ≡ 0)
    × (place < first + length bytes → All (Misses place) ps) → Counts store ps first bytes s
counts-told {t} {store} {bytes} {first} {count} {place} {m} {r} {same} {s} ps rep st big ec made k z =
    let e : ℕ = first + length bytes in
    let b : m ≡ weigh (met first e) ps = omega (arith, k.blocks, z.0) in
    let q : r ≡ weigh (rests first e) ps = omega (arith, k.rest, z.1) in
    let n : length ps ≡ count = rep_count rep ∙ sym ec in
    let most : weigh (met first e) ps ≤ length ps = weigh-one (met first e) (met-one first e) ps in
    let two : weigh (rests first e) ps ≤ 2 * length ps = weigh-two (rests first e) (rests-two first e) ps in
    let all : length (rows_below first ps) + length (rows_above e ps) + weigh (met first e) ps ≡ length ps + weigh (rests first e) ps = parts_count first e (omega arith) (follow_filled 0 ps (rep_follow rep)) in
    let pieces : s.pieces + m ≡ count + r + 1 = made.is_pieces (omega arith) (omega (arith, few rep)) in
    record {
      change = matched_tells k.matched (λ at lt. change_here (map (shown store) ps) first bytes same lt (has-none (get_or bytes same 0) (held_none store (first + same) st (rw at (z.2 (omega arith)))))) ∙ ap (change_at first (length bytes)) (sym made.is_same);
      blocks = made.is_blocks ∙ b ∙ sym (inside-count first e ps);
      pieces = omega arith;
    }

pub survey_tells : {t store bytes : List ℕ} {kind first count place m r same : ℕ} {s : Report} → count ≡ column t 0 pieces_count → Turning t store kind first bytes place m r same → Made count m r same s
    → ((ps : List PieceRow) → Rep t ps → All (Stored store) ps → 0 < length bytes → first + length bytes < 2 ^ 64 → Counted store (cell_place kind first) bytes (cell_place kind place) m r same ps
    → (weigh (past (cell_place kind place) (met (cell_place kind first) (cell_place kind first + length bytes))) ps ≡ 0)
    × (weigh (past (cell_place kind place) (rests (cell_place kind first) (cell_place kind first + length bytes))) ps ≡ 0)
    × (cell_place kind place < cell_place kind first + length bytes → All (Misses (cell_place kind place)) ps))
    → Surveyed t store kind first bytes s
survey_tells ec turn made f =
    record {
      says = λ ps rep st big near.
          let k = turn.says ps rep st big near in
          counts-told ps rep st big ec made k (f ps rep st big near k);
    }

-- the end of the operation's cells
end_place : (kind first many end : ℕ) → end ≡ first + many → cell_place kind end ≡ cell_place kind first + many
end_place kind first many end e = omega arith

abbrev end_of : (first : ℕ) (bytes : List ℕ) → ℕ
end_of first bytes = plus_up_to first (length bytes)

end_told : (first : ℕ) (bytes : List ℕ) → Plus first (length bytes) (end_of first bytes)
end_told first bytes = plus_told refl

end_small : (first : ℕ) (bytes : List ℕ) → end_of first bytes < 2 ^ 64
end_small first bytes = omega arith

module _ {t store bytes : List ℕ} {kind first count place m r same : ℕ} {s : Report} (ec : count ≡ column t 0 pieces_count) (turn : Turning t store kind first bytes place m r same) where
  pub survey_none : Sought t (cell_place kind place) None → Made count m r same s → Surveyed t store kind first bytes s
  survey_none sought made =
      survey_tells ec turn made (λ ps rep st big near k.
      let l : Left (cell_place kind place) ps = seen_none sought rep refl in
      (past_left (met (cell_place kind first) (cell_place kind first + length bytes)) (cell_place kind place) l, past_left (rests (cell_place kind first) (cell_place kind first + length bytes)) (cell_place kind place) l, λ h. all_map (λ p k. inl k) l))

  pub survey_end : end_of first bytes ≤ place → Made count m r same s → Surveyed t store kind first bytes s
  survey_end h made =
      survey_tells ec turn made (λ ps rep st big near k.
      let e : cell_place kind (end_of first bytes) ≡ cell_place kind first + length bytes = end_place kind first (length bytes) (end_of first bytes) ((end_told first bytes).is near) in
      let past_it : cell_place kind first + length bytes ≤ cell_place kind place = omega arith in (
        past_zero (met (cell_place kind first) (cell_place kind first + length bytes)) (cell_place kind place) (zero ps (met (cell_place kind first) (cell_place kind first + length bytes)) (λ p q. met_right (cell_place kind first) (cell_place kind first + length bytes) (omega arith) p q) past_it big k.clean),
        past_zero (rests (cell_place kind first) (cell_place kind first + length bytes)) (cell_place kind place) (zero ps (rests (cell_place kind first) (cell_place kind first + length bytes)) (λ p q. rests_right (cell_place kind first) (cell_place kind first + length bytes) (omega arith) p q) past_it big k.clean),
        λ lt. absurd (omega arith),
      ))
    where
      zero : (ps : List PieceRow) (w : PieceRow → ℕ) → ((p : PieceRow) → cell_place kind first + length bytes ≤ p.first → w p ≡ 0) → cell_place kind first + length bytes ≤ cell_place kind place → 0 < length bytes
          → (cell_place kind place ≡ cell_place kind first) ⊎ All (λ (p : PieceRow). (row_end p ≤ cell_place kind place) ⊎ (cell_place kind place ≤ p.first)) ps → All (λ (p : PieceRow). cell_place kind place < row_end p → w p ≡ 0) ps
      zero ps w f b big (inl z) = absurd (omega arith)
      zero ps w f b big (inr c) = all_map (λ p d k. ⊎_elim (λ x. absurd (omega arith)) (λ x. f p (omega arith)) d) c

  module _ {link : ℕ} (sought : Sought t (cell_place kind place) (Some link)) where
    beyond : cell_place kind (end_of first bytes) ≤ first_at t link → Made count m r same s → Surveyed t store kind first bytes s
    beyond h made =
        survey_tells ec turn made (λ ps rep st big near k.
        let e : cell_place kind (end_of first bytes) ≡ cell_place kind first + length bytes = end_place kind first (length bytes) (end_of first bytes) ((end_told first bytes).is near) in
        let v : Seen t (cell_place kind place) link ps = seen-some sought rep refl in (
          past_zero (met (cell_place kind first) (cell_place kind first + length bytes)) (cell_place kind place) (zero v (met (cell_place kind first) (cell_place kind first + length bytes)) (λ p q. met_right (cell_place kind first) (cell_place kind first + length bytes) (omega arith) p q) (omega arith)),
          past_zero (rests (cell_place kind first) (cell_place kind first + length bytes)) (cell_place kind place) (zero v (rests (cell_place kind first) (cell_place kind first + length bytes)) (λ p q. rests_right (cell_place kind first) (cell_place kind first + length bytes) (omega arith) p q) (omega arith)),
          λ lt. rw v.is (all_append (all_map (λ p q. inl q) v.left) (all_cons {x = piece_at t link} (inr (omega arith)) (all_map (λ p q. inr (omega arith)) (follow_right (row_end (piece_at t link)) (row_end (piece_at t link)) (map (piece_at t) v.ys) (omega arith) v.after)))),
        ))
      where
        zero : {ps : List PieceRow} (v : Seen t (cell_place kind place) link ps) (w : PieceRow → ℕ) → ((p : PieceRow) → cell_place kind first + length bytes ≤ p.first → w p ≡ 0) → cell_place kind first + length bytes ≤ first_at t link
            → All (λ (p : PieceRow). cell_place kind place < row_end p → w p ≡ 0) ps
        zero v w f b =
            rw v.is
            (all_append (all_map (λ p q lt. absurd (omega arith)) v.left)
            (all_cons {x = piece_at t link} (λ lt. f (piece_at t link) b) (all_map (λ p q lt. f p (omega arith)) (follow_right (row_end (piece_at t link)) (row_end (piece_at t link)) (map (piece_at t) v.ys) (omega arith) v.after))))

    pub survey_right : {starts : Bool} → StartsBelow t link kind (end_of first bytes) starts → starts ≡ false → Made count m r same s → Surveyed t store kind first bytes s
    survey_right tested h = beyond (ltb-false (first_at t link) (cell_place kind (end_of first bytes)) (sym tested.is ∙ h))

    -- the piece is of the kind, so it ends past the place
    pub survey_stuck : {p : Piece} {next : ℕ} {starts : Bool} → p ≡ read_at t link → next ≡ plus_up_to p.first p.size → StartsBelow t link kind (end_of first bytes) starts → starts ≡ true
        → next ≤ place → Surveyed t store kind first bytes s
    survey_stuck {p} {next} ep en tested low h = record {
      says = λ ps rep st big near.
          let v : Seen t (cell_place kind place) link ps = seen-some sought rep refl in
          let own : line_of (column t link piece_owner) ≡ line_of kind = ap line_of (same_kind (piece_at t link) v.whole kind place (end_of first bytes) (end_small first bytes) v.past (ltb-true (first_at t link) (cell_place kind (end_of first bytes)) (sym tested.is ∙ low))) in
          let told : Plus (column t link piece_first) (column t link piece_length) next = plus_told (rw ep at en) in
          absurd (omega (arith, told.is (omega (arith, v.whole.near)), v.past, own));
    }

pub survey_turn : {t store bytes : List ℕ} {kind first place m r same end link next out more m' r' : ℕ} {p : Piece} {starts : Bool} → end ≡ plus_up_to first (length bytes)
    → Turning t store kind first bytes place m r same → Sought t (cell_place kind place) (Some link) → p ≡ read_at t link → next ≡ plus_up_to p.first p.size
    → StartsBelow t link kind end starts → starts ≡ true → place < end → place < next → HeldBytes store bytes p kind first place same out
    → RestsOf p.first next first end more → m' ≡ plus_up_to m 1 → r' ≡ plus_up_to r more → Turning t store kind first bytes next m' r' out
survey_turn {t} {store} {bytes} {kind} {first} {place} {m} {r} {same} {end} {link} {next} {out} {more} {m'} {r'} {p} ee' turn sought ep en' tested low before on held ro em' er' = record { low = omega (arith, turn.low); says = go }
  where
    was : ℕ
    was = p.first

    size : ℕ
    size = p.size

    ee : Plus first (length bytes) end
    ee = plus_told ee'

    small : end < 2 ^ 64
    small = omega (arith, ee')

    en : Plus was size next
    en = plus_told en'

    er : Plus r more r'
    er = plus_told er'

    em : Plus m 1 m'
    em = plus_told em'

    ew : was ≡ column t link piece_first
    ew = ap (λ (q : Piece). q.first) ep

    es : size ≡ column t link piece_length
    es = ap (λ (q : Piece). q.size) ep

    go : (ps : List PieceRow) → Rep t ps → All (Stored store) ps → 0 < length bytes → first + length bytes < 2 ^ 64 → Counted store (cell_place kind first) bytes (cell_place kind next) m' r' out ps
    go ps rep st big near =
        let f : ℕ = cell_place kind first in
        let e : ℕ = cell_place kind first + length bytes in
        let lt : first_at t link < cell_place kind end = ltb-true (first_at t link) (cell_place kind end) (sym tested.is ∙ low) in
        let ends : cell_place kind end ≡ e = end_place kind first (length bytes) end (ee.is near) in
        let k : Counted store (cell_place kind first) bytes (cell_place kind place) m r same ps = turn.says ps rep st big near in
        let v : Seen t (cell_place kind place) link ps = seen-some sought rep refl in
        let q : PieceRow = piece_at t link in
        let own : column t link piece_owner ≡ kind = same_kind q v.whole kind place end small v.past lt in
        let line : line_of (column t link piece_owner) ≡ line_of kind = ap line_of own in
        let A : List PieceRow = map (piece_at t) v.xs in
        let B : List PieceRow = map (piece_at t) v.ys in
        let sum : next ≡ was + size = en.is (omega (arith, ew, es, v.whole.near)) in
        let n : cell_place kind next ≡ end_at t link = omega (arith, sum, ew, es, line) in
        let turned : (w : PieceRow → ℕ) → weigh (past (cell_place kind place) w) ps ≡ w q + weigh (past (cell_place kind next) w) ps
        = λ w. rw (v.is, n) (past_turn w (cell_place kind place) A q B v.left v.past v.after) in
        let over : f < end_at t link = omega (arith, v.past, turn.low) in
        let one : met f e q ≡ 1 = met_here f e (omega arith) q v.whole.some (omega arith) over in
        let two : more ≡ rests f e q = ro.is (omega (arith, on, turn.low)) (omega (arith, lt, ew, line)) ∙ same_rests own n ends in
        let most_m : weigh (met f e) ps ≤ length ps = weigh-one (met f e) (met-one f e) ps in
        let most_r : weigh (rests f e) ps ≤ 2 * length ps = weigh-two (rests f e) (rests-two f e) ps in
        let tm : weigh (past (cell_place kind place) (met f e)) ps ≡ met f e q + weigh (past (cell_place kind next) (met f e)) ps = turned (met f e) in
        let tr : weigh (past (cell_place kind place) (rests f e)) ps ≡ rests f e q + weigh (past (cell_place kind next) (rests f e)) ps = turned (rests f e) in
        let m₁ : m' ≡ m + 1 = em.is (omega (arith, k.blocks, few rep)) in
        let r₁ : r' ≡ r + more = er.is (omega (arith, k.rest, few rep)) in
        let i : map (piece_at t) (v.xs ++ link ∷ v.ys) ≡ ps = map-append (piece_at t) v.xs (link ∷ v.ys) ∙ sym v.is in
        record {
          blocks = omega (arith, k.blocks, tm, one, m₁);
          rest = omega (arith, k.rest, tr, two, r₁);
          matched = rw (← i) (held.says t link next v.xs v.ys ep own near (record {
            linked = v.linked;
            left = v.left;
            past = v.past;
            clean = at_link v k.clean;
            ends = n;
            stored = rw i st;
            within = omega (arith, before, ends);
          }) (rw i k.matched));
          clean = inr (rw v.is (all_append (all_map (λ o h. inl (omega (arith, v.past, n))) v.left) (all_cons {x = q} (inl (omega (arith, n))) (all_map (λ o h. inr (omega (arith, n, h))) (follow_right (row_end q) (row_end q) B (omega arith) v.after)))));
        }
      where
        at_link : (v : Seen t (cell_place kind place) link ps) → (cell_place kind place ≡ cell_place kind first) ⊎ All (λ (p : PieceRow). (row_end p ≤ cell_place kind place) ⊎ (cell_place kind place ≤ p.first)) ps
            → (cell_place kind place ≡ cell_place kind first) ⊎ (cell_place kind place ≤ first_at t link)
        at_link v (inl z) = inl z
        at_link v (inr c) =
            elim (all_head (all_right (map (piece_at t) v.xs) (piece_at t link ∷ map (piece_at t) v.ys) (rw v.is at c))) [ inl z ↦ absurd (omega (arith, v.past)) | inr z ↦ inr z ]

        same_rests : column t link piece_owner ≡ kind → cell_place kind next ≡ end_at t link → cell_place kind end ≡ cell_place kind first + length bytes
            → rests_of was next first end ≡ rests (cell_place kind first) (cell_place kind first + length bytes) (piece_at t link)
        same_rests own n e =
            let a : cell_place kind was ≡ first_at t link = ap₂ cell_place (sym own) ew in
            rw (← n, ← a, ← e) (ap₂ ◌+◌ (sym (crosses_line (line_of kind) was next first)) (sym (crosses_line (line_of kind) was next end)))
