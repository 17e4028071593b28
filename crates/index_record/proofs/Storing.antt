-- Bytes written behind the used part of the store, and parts of pieces that stay in it and on their line. Assumes nothing.
use mathlib.Core.Path.{◌≡◌, refl, ap, ap₂, subst, ◌∙◌}
use mathlib.Core.Bool.{Bool, true, false, cond}
use mathlib.Core.Option.{none, some, some-injective, none-ne-some}
use mathlib.Core.List.{List, ◌++◌}
use Prim.Native.Nat.{ℕ, ◌+◌, ◌-◌, ◌^◌, ◌≤◌, ◌<◌, min, max}
use native.Mathlib.Omega.{arith}
use lib.Dec.{ltb}
use lib.ListN.{length, take, drop, length-append}
use lib.Seq.{sets, sets-eq, take-add, take-append_seam, drop-append-le, drop_at, length-take-le}
use borrow.Author.Tests.{ltb-true}
use Rattle.lists.specs.Lists.{All}
use Rattle.lists.proofs.Maps.{all_filter_map}
use Rattle.lists.proofs.Parts.{part-sets}
use Rattle.history.specs.Words.{line_of}
use Rattle.piece_table.specs.Piece.{PieceRow, row_end, part, clip_row, rows_below, rows_inside, rows_above, Filled}

-- ── bytes written at a place ──

-- they stand there
pub sets-part : (at : ℕ) (l vs : List ℕ) → at + length vs ≤ length l → take (length vs) (drop at (sets l at vs)) ≡ vs
sets-part at l vs h =
    let n : length (take at l) ≡ at = length-take-le at l (omega arith) in
    let rest : List ℕ = drop (at + length vs) l in
    ap (λ (m : List ℕ). take (length vs) (drop at m)) (sets-eq vs l at h)
    ∙ ap (take (length vs)) (drop-append-le at (take at l ++ vs) rest (omega (arith, length-append (take at l) vs)) ∙ ap (λ (m : List ℕ). m ++ rest) (drop_at (take at l) vs at n))
    ∙ take-append_seam vs rest

-- the used part grows by them
pub sets_grow : (at : ℕ) (l vs : List ℕ) → at + length vs ≤ length l → take (at + length vs) (sets l at vs) ≡ take at l ++ vs
sets_grow at l vs h = take-add at (length vs) (sets l at vs) ∙ ap₂ (λ (x y : List ℕ). x ++ y) (part-sets at 0 l at vs (omega arith)) (sets-part at l vs h)

-- ── parts stay in the used part ──

-- the bytes of a piece lie in the first `used` bytes
abbrev pub Within : (used : ℕ) → PieceRow → Type 0
Within used p = p.offset + p.size ≤ used

clip-within : (used from to : ℕ) (p q : PieceRow) → clip_row from to p ≡ some q → Within used p → Within used q
unfolding clip_row
clip-within used from to p q e h = go (ltb (max from p.first) (min to (row_end p))) refl e
  where
    go : (t : Bool) → ltb (max from p.first) (min to (row_end p)) ≡ t → cond t (some (part (max from p.first) (min to (row_end p)) p)) none ≡ some q → Within used q
    go false l e = absurd (none-ne-some q e)
    go true l e =
        let lt : max from p.first < min to (row_end p) = ltb-true _ _ l in
        let made : p.offset + (max from p.first - p.first) + (min to (row_end p) - max from p.first) ≤ used = omega arith in
        subst (Within used) (some-injective (part (max from p.first) (min to (row_end p)) p) q e) made

module _ (used : ℕ) {ps : List PieceRow} (h : All (Within used) ps) where
  pub below_stored : (f : ℕ) → All (Within used) (rows_below f ps)
  unfolding rows_below
  below_stored f = all_filter_map (clip_row 0 f) (λ p q e k. clip-within used 0 f p q e k) h

  pub inside_stored : (f e : ℕ) → All (Within used) (rows_inside f e ps)
  unfolding rows_inside
  inside_stored f e = all_filter_map (clip_row f e) (λ p q z k. clip-within used f e p q z k) h

  pub above_stored : (e : ℕ) → All (Within used) (rows_above e ps)
  unfolding rows_above
  above_stored e = all_filter_map (λ p. clip_row e (row_end p) p) (λ p q z k. clip-within used e (row_end p) p q z k) h

-- ── parts stay on their line ──

clip-filled : (from to : ℕ) (p q : PieceRow) → clip_row from to p ≡ some q → Filled p → Filled q
unfolding clip_row
clip-filled from to p q e h = go (ltb (max from p.first) (min to (row_end p))) refl e
  where
    go : (t : Bool) → ltb (max from p.first) (min to (row_end p)) ≡ t → cond t (some (part (max from p.first) (min to (row_end p)) p)) none ≡ some q → Filled q
    go false l e = absurd (none-ne-some q e)
    go true l e =
        let lt : max from p.first < min to (row_end p) = ltb-true _ _ l in
        let low : line_of p.owner ≤ p.first = h.line in
        let high : row_end p < line_of p.owner + 2 ^ 64 = h.near in
        let inside : p.offset + p.size < 2 ^ 64 = h.stored in
        let made : Filled (part (max from p.first) (min to (row_end p)) p) =
        record { some = omega arith; line = omega arith; near = omega arith; stored = omega arith } in
        subst Filled (some-injective (part (max from p.first) (min to (row_end p)) p) q e) made

pub inside-filled : (f e : ℕ) {ps : List PieceRow} → All Filled ps → All Filled (rows_inside f e ps)
unfolding rows_inside
inside-filled f e h = all_filter_map (clip_row f e) (λ p q z k. clip-filled f e p q z k) h
