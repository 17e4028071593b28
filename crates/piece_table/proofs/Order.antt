-- Lists of links and of pieces in order. Assumes nothing.
use mathlib.Core.List.{List, [], ◌∷◌, ◌++◌, map}
use mathlib.Core.Path.{◌≡◌, refl, ap, ap₂}
use Prim.Native.Nat.{ℕ, ◌≤◌, ◌<◌}
use native.Mathlib.Omega.{arith}
use borrow.Author.Tests.{lt-ltb, le-ltb}
use Rattle.lists.proofs.Lists.{mem_right, all_mem, all_of_mem, ascending_distinct}
use Rattle.lists.proofs.Maps.{map_all}
use Rattle.lists.specs.Lists.{Mem, here, there, Distinct, Ascending, All, all_nil, all_cons, pairs_nil, pairs_cons}
use Rattle.piece_table.specs.Piece.{PieceRow, row_end, Filled, Follow, placed}

-- ── lists ──

pub ascending_same : (f g : ℕ → ℕ) (xs : List ℕ) → ((j : ℕ) → Mem j xs → g j ≡ f j) → Ascending f xs → Ascending g xs
ascending_same f g [] h a = pairs_nil
ascending_same f g (x ∷ xs) h (pairs_cons a r) =
    pairs_cons {x = x} (all_of_mem xs (λ k m. rw (h x (here refl), h k (there m)) (all_mem a m))) (ascending_same f g xs (λ j m. h j (there m)) r)

-- where a link stands once, a list splits there in one way
pub split_once : (x : ℕ) (xs ys us bs : List ℕ) → Distinct (xs ++ x ∷ ys) → xs ++ x ∷ ys ≡ us ++ x ∷ bs → (xs ≡ us) × (ys ≡ bs)
split_once x [] ys [] bs d e = (refl, cc)
split_once x [] ys (a ∷ us) bs d e =
    let h : x ≡ a = cc in
    let r : ys ≡ us ++ x ∷ bs = cc in
    absurd (d.0 (rw r (mem_right us (x ∷ bs) (here refl))))
split_once x (y ∷ xs) ys [] bs d e =
    let h : y ≡ x = cc in
    absurd (d.0 (rw h (mem_right xs (x ∷ ys) (here refl))))
split_once x (y ∷ xs) ys (a ∷ us) bs d e =
    let h : y ≡ a = cc in
    let r : xs ++ x ∷ ys ≡ us ++ x ∷ bs = cc in
    let s : (xs ≡ us) × (ys ≡ bs) = split_once x xs ys us bs d.1 r in
    (ap₂ ◌∷◌ h s.0, s.1)

-- x in the place of y: the same where what f makes of x is what g makes of y
pub map-exchange : {B : Type 0} (f g : ℕ → B) (y x : ℕ) (us bs : List ℕ) → ((j : ℕ) → Mem j (us ++ bs) → f j ≡ g j) → f x ≡ g y → map f (us ++ x ∷ bs) ≡ map g (us ++ y ∷ bs)
map-exchange f g y x [] bs h e = ap₂ ◌∷◌ e (map_all f g (all_of_mem bs h))
map-exchange f g y x (u ∷ us) bs h e = ap₂ ◌∷◌ (h u (here refl)) (map-exchange f g y x us bs (λ j m. h j (there m)) e)

-- ── order ──

pub follow_lower : {low high : ℕ} (ps : List PieceRow) → low ≤ high → Follow high ps → Follow low ps
follow_lower [] h f = tt
follow_lower (p ∷ ps) h f = (omega (arith, f.0), f.1, f.2)

-- without one of them, pieces still follow one another
pub follow_without : (low : ℕ) (qs : List PieceRow) (p : PieceRow) (rs : List PieceRow) → Follow low (qs ++ p ∷ rs) → Follow low (qs ++ rs)
follow_without low [] p rs f = follow_lower rs (omega (arith, f.0)) f.2
follow_without low (q ∷ qs) p rs f = (f.0, f.1, follow_without (row_end q) qs p rs f.2)

-- each of them starts at low or past it
pub follow_above : (at : ℕ → PieceRow) (low : ℕ) (xs : List ℕ) (k : ℕ) → Follow low (map at xs) → Mem k xs → low ≤ (at k).first
follow_above at low [] k s x'' = elim x'' [ ]
follow_above at low (x ∷ xs) k s (here e) = rw e s.0
follow_above at low (x ∷ xs) k s (there m) = omega (arith, follow_above at (row_end (at x)) xs k s.2 m, s.0, s.1.some)

-- their first cells ascend
pub follow_ascending : (at : ℕ → PieceRow) (low : ℕ) (xs : List ℕ) → Follow low (map at xs) → Ascending (λ k. (at k).first) xs
follow_ascending at low [] s = pairs_nil
follow_ascending at low (x ∷ xs) s =
    pairs_cons {x = x} (all_of_mem xs (λ k m. omega (arith, follow_above at (row_end (at x)) xs k s.2 m, s.1.some))) (follow_ascending at (row_end (at x)) xs s.2)

-- so no link of theirs stands twice
pub follow_distinct : (at : ℕ → PieceRow) (low : ℕ) (xs : List ℕ) → Follow low (map at xs) → Distinct xs
follow_distinct at low xs s = ascending_distinct (λ k. (at k).first) (follow_ascending at low xs s)

-- every piece of them is filled, and starts at low or past it
pub follow_filled : (low : ℕ) (ps : List PieceRow) → Follow low ps → All Filled ps
follow_filled low [] f = all_nil
follow_filled low (p ∷ ps) f = all_cons f.1 (follow_filled (row_end p) ps f.2)

pub follow_right : (x low : ℕ) (ps : List PieceRow) → x ≤ low → Follow low ps → All (λ (p : PieceRow). x ≤ p.first) ps
follow_right x low [] h f = all_nil
follow_right x low (p ∷ ps) h f = all_cons {x = p} (omega (arith, f.0)) (follow_right x (row_end p) ps (omega (arith, f.0)) f.2)

-- the pieces from one on
pub follow_from : (low : ℕ) (qs : List PieceRow) (p : PieceRow) (rs : List PieceRow) → Follow low (qs ++ p ∷ rs) → Filled p × Follow (row_end p) rs
follow_from low [] p rs f = (f.1, f.2)
follow_from low (q ∷ qs) p rs f = follow_from (row_end q) qs p rs f.2

-- a piece may give way to a part of it
pub follow_part : (low : ℕ) (qs : List PieceRow) (p q : PieceRow) (rs : List PieceRow) → p.first ≤ q.first → row_end q ≤ row_end p → Filled q → Follow low (qs ++ p ∷ rs) → Follow low (qs ++ q ∷ rs)
follow_part low [] p q rs a b h f = (omega (arith, f.0), h, follow_lower rs b f.2)
follow_part low (o ∷ qs) p q rs a b h f = (f.0, f.1, follow_part (row_end o) qs p q rs a b h f.2)

-- a piece fits between those that end before it and those that start after it
pub follow_between : (low : ℕ) (qs : List PieceRow) (p : PieceRow) (rs : List PieceRow) → low ≤ p.first → Filled p
    → All (λ (q : PieceRow). row_end q ≤ p.first) qs → All (λ (r : PieceRow). row_end p ≤ r.first) rs → Follow low (qs ++ rs) → Follow low (qs ++ p ∷ rs)
follow_between low [] p [] a h l r f = (a, h, tt)
follow_between low [] p (o ∷ rs) a h l (all_cons b r) f = (a, h, (b, f.1, f.2))
follow_between low (q ∷ qs) p rs a h (all_cons b l) r f = (f.0, f.1, follow_between (row_end q) qs p rs b h l r f.2)

-- and that is its place in the order
pub placed-between : (qs : List PieceRow) (p : PieceRow) (rs : List PieceRow) → Filled p → All (λ (q : PieceRow). row_end q ≤ p.first) qs → All (λ (r : PieceRow). row_end p ≤ r.first) rs
    → placed p (qs ++ rs) ≡ qs ++ p ∷ rs
placed-between [] p [] h l r = refl
placed-between [] p (o ∷ rs) h l (all_cons b r) = rw (lt-ltb p.first o.first (omega (arith, h.some)))
placed-between (q ∷ qs) p rs h (all_cons b l) r = rw (le-ltb p.first q.first (omega arith)) (ap (λ (o : List PieceRow). q ∷ o) (placed-between qs p rs h l r))

-- and ends past it
follow_past : (at : ℕ → PieceRow) (low : ℕ) (xs : List ℕ) (k : ℕ) → Follow low (map at xs) → Mem k xs → low < row_end (at k)
follow_past at low [] k s x'' = elim x'' [ ]
follow_past at low (x ∷ xs) k s (here e) = rw e (omega (arith, s.0, s.1.some))
follow_past at low (x ∷ xs) k s (there m) = omega (arith, follow_past at (row_end (at x)) xs k s.2 m, s.0, s.1.some)

-- their ends ascend
pub follow_ends : (at : ℕ → PieceRow) (low : ℕ) (xs : List ℕ) → Follow low (map at xs) → Ascending (λ k. row_end (at k)) xs
follow_ends at low [] s = pairs_nil
follow_ends at low (x ∷ xs) s = pairs_cons {x = x} (all_of_mem xs (λ k m. follow_past at (row_end (at x)) xs k s.2 m)) (follow_ends at (row_end (at x)) xs s.2)
