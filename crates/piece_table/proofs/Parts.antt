-- The parts of pieces below a cell, in a range and from a cell on: one piece, then lists. Assumes nothing.
use mathlib.Core.Bool.{Bool, true, false, cond}
use mathlib.Core.Logic.{◌⊎◌, inl, inr}
use mathlib.Core.List.{List, [], ◌∷◌, ◌++◌, filter_map, filter_map-append, filter_map-some, append-nil, Option-to_list}
use mathlib.Core.Option.{Option, none, some, some-injective, none-ne-some}
use mathlib.Core.Path.{◌≡◌, refl, sym, ap, ap₂, subst, ◌∙◌}
use Prim.Native.Nat.{ℕ, ◌+◌, ◌-◌, ◌≤◌, ◌<◌, min, max}
use native.Mathlib.Omega.{arith}
use lib.Dec.{ltb}
use borrow.Author.Tests.{lt-ltb, le-ltb, ltb-true}
use Rattle.lists.proofs.Lists.{all_any, all_both, all_map}
use Rattle.lists.proofs.Maps.{all_filter_map, filter_map_all, filter_map_none, filter_map_cons}
use Rattle.lists.specs.Lists.{All}
use Rattle.piece_table.specs.Piece.{PieceRow, row_end, part, clip_row, rows_below, rows_above, rows_inside, Filled}

-- ── one piece ──

clip-some : (from to : ℕ) (p : PieceRow) (a b : ℕ) → max from p.first ≡ a → min to (row_end p) ≡ b → a < b → clip_row from to p ≡ some (part a b p)
unfolding clip_row
clip-some from to p a b ea eb h = rw (ea, eb, lt-ltb a b h)

clip-none : (from to : ℕ) (p : PieceRow) → min to (row_end p) ≤ max from p.first → clip_row from to p ≡ none
unfolding clip_row
clip-none from to p h = rw (le-ltb (max from p.first) (min to (row_end p)) h)

part-whole : (p : PieceRow) → part p.first (row_end p) p ≡ p
part-whole p =
    let a : row_end p - p.first ≡ p.size = omega arith in
    let b : p.offset + (p.first - p.first) ≡ p.offset = omega arith in
    rw (a, b)

-- of what lies below f: all, none, or up to f
pub low_whole : (f : ℕ) (p : PieceRow) → row_end p ≤ f → 0 < p.size → clip_row 0 f p ≡ some p
low_whole f p h s = clip-some 0 f p p.first (row_end p) (omega arith) (omega arith) (omega arith) ∙ ap {B = Option PieceRow} some (part-whole p)

pub low_none : (f : ℕ) (p : PieceRow) → f ≤ p.first → clip_row 0 f p ≡ none
low_none f p h = clip-none 0 f p (omega arith)

pub low_cut : (f : ℕ) (p : PieceRow) → p.first < f → f ≤ row_end p → clip_row 0 f p ≡ some (part p.first f p)
low_cut f p h k = clip-some 0 f p p.first f (omega arith) (omega arith) h

-- of what lies from e on
pub high_whole : (e : ℕ) (p : PieceRow) → e ≤ p.first → 0 < p.size → clip_row e (row_end p) p ≡ some p
high_whole e p h s = clip-some e (row_end p) p p.first (row_end p) (omega arith) (omega arith) (omega arith) ∙ ap {B = Option PieceRow} some (part-whole p)

pub high_none : (e : ℕ) (p : PieceRow) → row_end p ≤ e → clip_row e (row_end p) p ≡ none
high_none e p h = clip-none e (row_end p) p (omega arith)

pub high_cut : (e : ℕ) (p : PieceRow) → p.first ≤ e → e < row_end p → clip_row e (row_end p) p ≡ some (part e (row_end p) p)
high_cut e p h k = clip-some e (row_end p) p e (row_end p) (omega arith) (omega arith) k

-- a part lies where it was clipped to
clip-within : (from to : ℕ) (p q : PieceRow) → clip_row from to p ≡ some q → (from ≤ q.first) × (row_end q ≤ to)
unfolding clip_row
clip-within from to p q = go (ltb (max from p.first) (min to (row_end p))) refl
  where
    whole : PieceRow
    whole = part (max from p.first) (min to (row_end p)) p

    go : (t : Bool) → ltb (max from p.first) (min to (row_end p)) ≡ t → cond t (some (part (max from p.first) (min to (row_end p)) p)) none ≡ some q → (from ≤ q.first) × (row_end q ≤ to)
    go false e h = absurd (none-ne-some q h)
    go true e h =
        let lt : max from p.first < min to (row_end p) = ltb-true _ _ e in
        let made : (from ≤ max from p.first) × (max from p.first + (min to (row_end p) - max from p.first) ≤ to) = (omega arith, omega arith) in
        subst (λ (x : PieceRow). (from ≤ x.first) × (row_end x ≤ to)) (some-injective (part (max from p.first) (min to (row_end p)) p) q h) made

-- ── lists ──

-- the pieces lie left of the column x; right of it
abbrev pub Left : ℕ → List PieceRow → Type 0
Left x ps = All (λ (p : PieceRow). row_end p ≤ x) ps

abbrev pub Right : ℕ → List PieceRow → Type 0
Right x ps = All (λ (p : PieceRow). x ≤ p.first) ps

pub below-within : (f : ℕ) (ps : List PieceRow) → Left f (rows_below f ps)
unfolding rows_below
below-within f ps = all_filter_map {P = λ (p : PieceRow). Unit {0}} (clip_row 0 f) (λ p q e u. (clip-within 0 f p q e).1) (all_any ps (λ p. tt))

pub above_within : (e : ℕ) (ps : List PieceRow) → Right e (rows_above e ps)
unfolding rows_above
above_within e ps = all_filter_map {P = λ (p : PieceRow). Unit {0}} (λ p. clip_row e (row_end p) p) (λ p q h u. (clip-within e (row_end p) p q h).0) (all_any ps (λ p. tt))

keep : (f : PieceRow → Option PieceRow) {ps : List PieceRow} → All (λ (p : PieceRow). f p ≡ some p) ps → filter_map f ps ≡ ps
keep f {ps} h = filter_map_all f some h ∙ filter_map-some ps

lose : (f : PieceRow → Option PieceRow) {ps : List PieceRow} → All (λ (p : PieceRow). f p ≡ none) ps → filter_map f ps ≡ []
lose f {ps} h = filter_map_all f (λ p. none) h ∙ filter_map_none ps

below_left : (x : ℕ) {ps : List PieceRow} → Left x ps → All Filled ps → rows_below x ps ≡ ps
unfolding rows_below
below_left x a b = keep (clip_row 0 x) (all_both (λ p l n. low_whole x p l n.some) a b)

below_right : (x : ℕ) {ps : List PieceRow} → Right x ps → rows_below x ps ≡ []
unfolding rows_below
below_right x a = lose (clip_row 0 x) (all_map (λ p r. low_none x p r) a)

pub above_right : (x : ℕ) {ps : List PieceRow} → Right x ps → All Filled ps → rows_above x ps ≡ ps
unfolding rows_above
above_right x a b = keep (λ p. clip_row x (row_end p) p) (all_both (λ p r n. high_whole x p r n.some) a b)

above_left : (x : ℕ) {ps : List PieceRow} → Left x ps → rows_above x ps ≡ []
unfolding rows_above
above_left x a = lose (λ p. clip_row x (row_end p) p) (all_map (λ p l. high_none x p l) a)

-- of what lies in [f, e)
inside-none : (f e : ℕ) (p : PieceRow) → (row_end p ≤ f) ⊎ (e ≤ p.first) → clip_row f e p ≡ none
inside-none f e p (inl h) = clip-none f e p (omega arith)
inside-none f e p (inr h) = clip-none f e p (omega arith)

inside-some : (f e : ℕ) (p : PieceRow) → f < e → 0 < p.size → p.first < e → f < row_end p → clip_row f e p ≡ some (part (max f p.first) (min e (row_end p)) p)
inside-some f e p h s lo hi = clip-some f e p (max f p.first) (min e (row_end p)) refl refl (omega arith)

pub inside_left : (f e : ℕ) {ps : List PieceRow} → Left f ps → rows_inside f e ps ≡ []
unfolding rows_inside
inside_left f e a = lose (clip_row f e) (all_map (λ p l. inside-none f e p (inl l)) a)

pub inside_right : (f e : ℕ) {ps : List PieceRow} → Right e ps → rows_inside f e ps ≡ []
unfolding rows_inside
inside_right f e a = lose (clip_row f e) (all_map (λ p r. inside-none f e p (inr r)) a)

-- what ends left of it is passed over
pub inside_skip : (f e : ℕ) (qs rs : List PieceRow) → Left f qs → rows_inside f e (qs ++ rs) ≡ rows_inside f e rs
unfolding rows_inside
inside_skip f e qs rs l = filter_map-append (clip_row f e) qs rs ∙ ap (λ (u : List PieceRow). u ++ filter_map (clip_row f e) rs) (inside_left f e l)

-- where every piece starts at g or past it, the range may as well start there
pub inside_from : (f g e : ℕ) {ps : List PieceRow} → f ≤ g → Right g ps → rows_inside f e ps ≡ rows_inside g e ps
unfolding rows_inside clip_row
inside_from f g e h r = filter_map_all (clip_row f e) (clip_row g e) (all_map (λ p l. let m : max f p.first ≡ p.first = omega arith in let n : max g p.first ≡ p.first = omega arith in rw (m, n)) r)

-- what ends left of f and what starts right of it, below f; and above e
pub below_front : (f : ℕ) (qs rs : List PieceRow) → Left f qs → All Filled qs → Right f rs → rows_below f (qs ++ rs) ≡ qs
unfolding rows_below
below_front f qs rs l m r = filter_map-append (clip_row 0 f) qs rs ∙ ap₂ (λ (u v : List PieceRow). u ++ v) (below_left f l m) (below_right f r) ∙ append-nil qs

pub above_skip : (e : ℕ) (qs rs : List PieceRow) → Left e qs → rows_above e (qs ++ rs) ≡ rows_above e rs
unfolding rows_above
above_skip e qs rs l = filter_map-append (λ p. clip_row e (row_end p) p) qs rs ∙ ap (λ (u : List PieceRow). u ++ filter_map (λ p. clip_row e (row_end p) p) rs) (above_left e l)

-- the lowest piece that meets it comes first
pub inside_here : (f e : ℕ) (qs : List PieceRow) (p : PieceRow) (rs : List PieceRow) → Left f qs → f < e → 0 < p.size → p.first < e → f < row_end p
    → rows_inside f e (qs ++ p ∷ rs) ≡ part (max f p.first) (min e (row_end p)) p ∷ rows_inside f e rs
unfolding rows_inside Option-to_list
inside_here f e qs p rs l h s lo hi =
    inside_skip f e qs (p ∷ rs) l ∙ filter_map_cons (clip_row f e) p rs ∙ ap (λ (o : Option PieceRow). Option-to_list o ++ filter_map (clip_row f e) rs) (inside-some f e p h s lo hi)

-- one piece among others
one : (g : PieceRow → Option PieceRow) (qs : List PieceRow) (p : PieceRow) (rs : List PieceRow) → filter_map g (qs ++ p ∷ rs) ≡ filter_map g qs ++ (Option-to_list (g p) ++ filter_map g rs)
one g qs p rs = filter_map-append g qs (p ∷ rs) ∙ ap (λ (l : List PieceRow). filter_map g qs ++ l) (filter_map_cons g p rs)

gone : (g : PieceRow → Option PieceRow) (qs : List PieceRow) (p : PieceRow) (rs : List PieceRow) → g p ≡ none → filter_map g (qs ++ rs) ≡ filter_map g (qs ++ p ∷ rs)
unfolding Option-to_list
gone g qs p rs e = filter_map-append g qs rs ∙ sym (one g qs p rs ∙ ap (λ (o : Option PieceRow). filter_map g qs ++ (Option-to_list o ++ filter_map g rs)) e)

swap : (g : PieceRow → Option PieceRow) (qs : List PieceRow) (p q : PieceRow) (rs : List PieceRow) → g q ≡ g p → filter_map g (qs ++ q ∷ rs) ≡ filter_map g (qs ++ p ∷ rs)
swap g qs p q rs e = one g qs q rs ∙ ap (λ (o : Option PieceRow). filter_map g qs ++ (Option-to_list o ++ filter_map g rs)) e ∙ sym (one g qs p rs)

-- ── the steps of an update over [f, e) ──

module _ (f e : ℕ) (ordered : f < e) where
  -- what lies outside stays as it is
  pub apart : (qs rs : List PieceRow) → Left f qs → Right e rs → All Filled qs → All Filled rs → rows_below f (qs ++ rs) ++ rows_above e (qs ++ rs) ≡ qs ++ rs
  unfolding rows_below rows_above
  apart qs rs l r m n =
      ap₂ (λ (u v : List PieceRow). u ++ v)
      (filter_map-append (clip_row 0 f) qs rs ∙ ap₂ (λ (u v : List PieceRow). u ++ v) (below_left f l m) (below_right f (all_map (λ p h. omega arith) r)) ∙ append-nil qs)
      (filter_map-append (λ p. clip_row e (row_end p) p) qs rs ∙ ap₂ (λ (u v : List PieceRow). u ++ v) (above_left e (all_map (λ p h. omega arith) l)) (above_right e r n))

  -- a covered piece leaves no part
  pub covered-below : (qs : List PieceRow) (p : PieceRow) (rs : List PieceRow) → f ≤ p.first → rows_below f (qs ++ rs) ≡ rows_below f (qs ++ p ∷ rs)
  unfolding rows_below
  covered-below qs p rs h = gone (clip_row 0 f) qs p rs (low_none f p h)

  pub covered-above : (qs : List PieceRow) (p : PieceRow) (rs : List PieceRow) → row_end p ≤ e → rows_above e (qs ++ rs) ≡ rows_above e (qs ++ p ∷ rs)
  unfolding rows_above
  covered-above qs p rs h = gone (λ p. clip_row e (row_end p) p) qs p rs (high_none e p h)

  -- a piece cut at f, whose right part is covered
  pub back_below : (qs : List PieceRow) (p : PieceRow) (rs : List PieceRow) → p.first < f → f ≤ row_end p → rows_below f (qs ++ part p.first f p ∷ rs) ≡ rows_below f (qs ++ p ∷ rs)
  unfolding rows_below
  back_below qs p rs h k = swap (clip_row 0 f) qs p (part p.first f p) rs (low_whole f (part p.first f p) (omega arith) (omega arith) ∙ sym (low_cut f p h k))

  pub back_above : (qs : List PieceRow) (p : PieceRow) (rs : List PieceRow) → p.first < f → row_end p ≤ e → rows_above e (qs ++ part p.first f p ∷ rs) ≡ rows_above e (qs ++ p ∷ rs)
  unfolding rows_above
  back_above qs p rs h k = swap (λ p. clip_row e (row_end p) p) qs p (part p.first f p) rs (high_none e (part p.first f p) (omega arith) ∙ sym (high_none e p k))

  module _ (qs : List PieceRow) (p : PieceRow) (rs : List PieceRow) (l : Left f qs) (m : All Filled qs) (n : All Filled rs) (after : Right (row_end p) rs) (over : e < row_end p) where
    right_of : rows_above e (qs ++ p ∷ rs) ≡ Option-to_list (clip_row e (row_end p) p) ++ rs
    unfolding rows_above
    right_of = one (λ p. clip_row e (row_end p) p) qs p rs ∙ ap₂ (λ (u v : List PieceRow). u ++ (Option-to_list (clip_row e (row_end p) p) ++ v)) (above_left e (all_map (λ p h. omega arith) l)) (above_right e (all_map (λ p h. omega arith) after) n)

    left_of_lem : rows_below f (qs ++ p ∷ rs) ≡ qs ++ (Option-to_list (clip_row 0 f p) ++ [])
    unfolding rows_below
    left_of_lem = one (clip_row 0 f) qs p rs ∙ ap₂ (λ (u v : List PieceRow). u ++ (Option-to_list (clip_row 0 f p) ++ v)) (below_left f l m) (below_right f (all_map (λ p h. omega arith) after))

    -- a piece cut at e, whose left part is covered
    pub front_cut : f ≤ p.first → p.first ≤ e → rows_below f (qs ++ p ∷ rs) ++ rows_above e (qs ++ p ∷ rs) ≡ qs ++ part e (row_end p) p ∷ rs
    unfolding Option-to_list
    front_cut h k =
        ap₂ (λ (u v : List PieceRow). u ++ v)
        (left_of_lem ∙ ap (λ (o : Option PieceRow). qs ++ (Option-to_list o ++ [])) (low_none f p h) ∙ append-nil qs)
        (right_of ∙ ap (λ (o : Option PieceRow). Option-to_list o ++ rs) (high_cut e p k over))

    -- a piece cut in the middle
    pub middle-cut : p.first < f → rows_below f (qs ++ p ∷ rs) ++ rows_above e (qs ++ p ∷ rs) ≡ (qs ++ part p.first f p ∷ []) ++ part e (row_end p) p ∷ rs
    unfolding Option-to_list
    middle-cut h =
        ap₂ (λ (u v : List PieceRow). u ++ v)
        (left_of_lem ∙ ap (λ (o : Option PieceRow). qs ++ (Option-to_list o ++ [])) (low_cut f p h (omega arith)))
        (right_of ∙ ap (λ (o : Option PieceRow). Option-to_list o ++ rs) (high_cut e p (omega arith) over))
