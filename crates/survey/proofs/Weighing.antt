-- Pieces, blocks and rests as sums over the pieces. A turn of the survey takes the lowest piece that ends past the place: the sum over the others is
-- the sum over those that end past its end. Assumes nothing.
use mathlib.Core.Path.{◌≡◌, refl, sym, ap, ◌∙◌}
use mathlib.Core.Logic.{◌⊎◌, inl, inr}
use mathlib.Core.Bool.{Bool, true, false, cond, ◌&&◌}
use mathlib.Core.Option.{Option, none, some}
use mathlib.Core.List.{List, [], ◌∷◌, ◌++◌, filter_map, Option-to_list}
use Prim.Native.Nat.{ℕ, ◌+◌, ◌*◌, ◌≤◌, ◌<◌, min, max}
use native.Mathlib.Omega.{arith}
use lib.ListN.{length, length-append}
use lib.Dec.{ltb}
use borrow.Author.Tests.{lt-ltb, le-ltb}
use Rattle.lists.specs.Lists.{All, all_nil, all_cons}
use Rattle.lists.proofs.Lists.{all_map}
use Rattle.lists.proofs.Maps.{filter_map_cons}
use Rattle.lists.proofs.Numbers.{lt_or_le, counts_one}
use Rattle.piece_table.specs.Piece.{PieceRow, row_end, part, clip_row, rows_below, rows_inside, rows_above, Filled, Follow}
use Rattle.piece_table.proofs.Parts.{Left}
use Rattle.survey.specs.Survey.{crosses, rests_of}

-- ── sums ──

abbrev pub weigh : (PieceRow → ℕ) → List PieceRow → ℕ
weigh w [] = 0
weigh w (p ∷ ps) = w p + weigh w ps

weigh-append : (w : PieceRow → ℕ) (ps qs : List PieceRow) → weigh w (ps ++ qs) ≡ weigh w ps + weigh w qs
weigh-append w [] qs = omega arith
weigh-append w (p ∷ ps) qs = omega (arith, weigh-append w ps qs)

-- of those that end past the place
abbrev pub past : (place : ℕ) (w : PieceRow → ℕ) → PieceRow → ℕ
past place w p = cond (ltb place (row_end p)) (w p) 0

pub past_left : (w : PieceRow → ℕ) (place : ℕ) {ps : List PieceRow} → Left place ps → weigh (past place w) ps ≡ 0
past_left w place all_nil = refl
past_left w place (all_cons {x = p} h hs) = rw (le-ltb place (row_end p) h) (omega (arith, past_left w place hs))

past_all : (w : PieceRow → ℕ) (place : ℕ) {ps : List PieceRow} → All (λ (p : PieceRow). place < row_end p) ps → weigh (past place w) ps ≡ weigh w ps
past_all w place all_nil = refl
past_all w place (all_cons {x = p} h hs) = rw (lt-ltb place (row_end p) h, past_all w place hs)

follow_ends-past : (low : ℕ) (ps : List PieceRow) → Follow low ps → All (λ (p : PieceRow). low < row_end p) ps
follow_ends-past low [] f = all_nil
follow_ends-past low (p ∷ ps) f = all_cons {x = p} (omega (arith, f.0, f.1.some)) (all_map (λ q h. omega (arith, f.0)) (follow_ends-past (row_end p) ps f.2))

-- the lowest piece that ends past the place, and the rest
pub past_turn : (w : PieceRow → ℕ) (place : ℕ) (A : List PieceRow) (p : PieceRow) (B : List PieceRow) → Left place A → place < row_end p → Follow (row_end p) B
    → weigh (past place w) (A ++ p ∷ B) ≡ w p + weigh (past (row_end p) w) (A ++ p ∷ B)
past_turn w place A p B l h f =
    let b : All (λ (q : PieceRow). row_end p < row_end q) B = follow_ends-past (row_end p) B f in
    let x : weigh (past place w) A ≡ 0 = past_left w place l in
    let y : weigh (past (row_end p) w) A ≡ 0 = past_left w (row_end p) (all_map (λ q k. omega arith) l) in
    let z : weigh (past place w) B ≡ weigh w B = past_all w place (all_map (λ q k. omega arith) b) in
    let v : weigh (past (row_end p) w) B ≡ weigh w B = past_all w (row_end p) b in
    let here : past place w p ≡ w p = rw (lt-ltb place (row_end p) h) in
    let gone : past (row_end p) w p ≡ 0 = rw (le-ltb (row_end p) (row_end p) (omega arith)) in
    omega (arith, weigh-append (past place w) A (p ∷ B), weigh-append (past (row_end p) w) A (p ∷ B))

-- what of the pieces that end past the place weighs nothing
pub past_zero : (w : PieceRow → ℕ) (place : ℕ) {ps : List PieceRow} → All (λ (p : PieceRow). place < row_end p → w p ≡ 0) ps → weigh (past place w) ps ≡ 0
past_zero w place all_nil = refl
past_zero w place (all_cons {x = p} {xs = ps} h hs) = go (lt_or_le place (row_end p)) (past_zero w place hs)
  where
    go : (place < row_end p) ⊎ (row_end p ≤ place) → weigh (past place w) ps ≡ 0 → past place w p + weigh (past place w) ps ≡ 0
    go (inl k) e = rw (lt-ltb place (row_end p) k, h k) (omega arith)
    go (inr k) e = rw (le-ltb place (row_end p) k) (omega arith)

-- and what ends at or before it
pub past_start : (w : PieceRow → ℕ) (place : ℕ) {ps : List PieceRow} → All (λ (p : PieceRow). row_end p ≤ place → w p ≡ 0) ps → weigh (past place w) ps ≡ weigh w ps
past_start w place all_nil = refl
past_start w place (all_cons {x = p} {xs = ps} h hs) = go (lt_or_le place (row_end p)) (past_start w place hs)
  where
    go : (place < row_end p) ⊎ (row_end p ≤ place) → weigh (past place w) ps ≡ weigh w ps → past place w p + weigh (past place w) ps ≡ w p + weigh w ps
    go (inl k) e = rw (lt-ltb place (row_end p) k, e)
    go (inr k) e = rw (le-ltb place (row_end p) k, h k, e)

pub weigh-one : (w : PieceRow → ℕ) → ((p : PieceRow) → w p ≤ 1) → (ps : List PieceRow) → weigh w ps ≤ length ps
weigh-one w h [] = omega arith
weigh-one w h (p ∷ ps) = omega (arith, h p, weigh-one w h ps)

pub weigh-two : (w : PieceRow → ℕ) → ((p : PieceRow) → w p ≤ 2) → (ps : List PieceRow) → weigh w ps ≤ 2 * length ps
weigh-two w h [] = omega arith
weigh-two w h (p ∷ ps) = omega (arith, h p, weigh-two w h ps)

-- ── what weighs what ──

-- 1 if a < b
abbrev pub one : (a b : ℕ) → ℕ
one a b = cond (ltb a b) 1 0

pub one_lt : (a b : ℕ) → a < b → one a b ≡ 1
one_lt a b h = rw (lt-ltb a b h)

pub one_le : (a b : ℕ) → b ≤ a → one a b ≡ 0
one_le a b h = rw (le-ltb a b h)

pub crosses_yes : (was next cell : ℕ) → was < cell → cell < next → crosses was next cell ≡ 1
crosses_yes was next cell h k = rw (lt-ltb was cell h, lt-ltb cell next k)

-- on another line it is the same
ltb_line : (l a b : ℕ) → ltb (l + a) (l + b) ≡ ltb a b
ltb_line l a b =
    elim (lt_or_le a b) [
      | inl h ↦ lt-ltb (l + a) (l + b) (omega arith) ∙ sym (lt-ltb a b h)
      | inr h ↦ le-ltb (l + a) (l + b) (omega arith) ∙ sym (le-ltb a b h)
    ]

pub crosses_line : (l was next cell : ℕ) → crosses (l + was) (l + next) (l + cell) ≡ crosses was next cell
crosses_line l was next cell = rw (ltb_line l was cell, ltb_line l cell next) refl

pub crosses_before : (was next cell : ℕ) → cell ≤ was → crosses was next cell ≡ 0
crosses_before was next cell h = rw (le-ltb was cell h)

pub crosses-after : (was next cell : ℕ) → next ≤ cell → crosses was next cell ≡ 0
crosses-after was next cell h = go (ltb was cell)
  where
    go : (q : Bool) → cond {A = ℕ} (q && ltb cell next) 1 0 ≡ 0
    go true = rw (le-ltb cell next h)
    go false = refl

-- a block for a piece that meets [f, e), and its rests
abbrev pub met : (f e : ℕ) → PieceRow → ℕ
met f e p = one (max f p.first) (min e (row_end p))

abbrev pub rests : (f e : ℕ) → PieceRow → ℕ
rests f e p = rests_of p.first (row_end p) f e

pub met-one : (f e : ℕ) (p : PieceRow) → met f e p ≤ 1
met-one f e p = counts_one (ltb (max f p.first) (min e (row_end p)))

pub rests-two : (f e : ℕ) (p : PieceRow) → rests f e p ≤ 2
rests-two f e p = go (ltb p.first f && ltb f (row_end p)) (ltb p.first e && ltb e (row_end p))
  where
    go : (q r : Bool) → cond q 1 0 + cond r 1 0 ≤ 2
    go true true = omega arith
    go true false = omega arith
    go false true = omega arith
    go false false = omega arith

-- what lies left or right of it weighs nothing
module _ (f e : ℕ) (h : f < e) (p : PieceRow) where
  pub met_left : row_end p ≤ f → met f e p ≡ 0
  met_left k = one_le (max f p.first) (min e (row_end p)) (omega arith)

  pub met_right : e ≤ p.first → met f e p ≡ 0
  met_right k = one_le (max f p.first) (min e (row_end p)) (omega arith)

  pub met_here : 0 < p.size → p.first < e → f < row_end p → met f e p ≡ 1
  met_here s lo hi = one_lt (max f p.first) (min e (row_end p)) (omega arith)

  pub rests_left : row_end p ≤ f → rests f e p ≡ 0
  rests_left k = omega (arith, crosses-after p.first (row_end p) f k, crosses-after p.first (row_end p) e (omega arith))

  pub rests_right : e ≤ p.first → rests f e p ≡ 0
  rests_right k = omega (arith, crosses_before p.first (row_end p) f (omega arith), crosses_before p.first (row_end p) e k)

-- ── how many parts there are ──

-- how many parts clipping leaves of a piece
parts : (from to : ℕ) (p : PieceRow) → length (Option-to_list (clip_row from to p)) ≡ one (max from p.first) (min to (row_end p))
unfolding clip_row Option-to_list
parts from to p = go (ltb (max from p.first) (min to (row_end p)))
  where
    go : (q : Bool) → length (Option-to_list (cond q (some (part (max from p.first) (min to (row_end p)) p)) none)) ≡ cond q 1 0
    go true = refl
    go false = refl

count-filter_map : (g : PieceRow → Option PieceRow) (w : PieceRow → ℕ) (ps : List PieceRow) → ((p : PieceRow) → length (Option-to_list (g p)) ≡ w p) → length (filter_map g ps) ≡ weigh w ps
unfolding filter_map
count-filter_map g w [] h = refl
count-filter_map g w (p ∷ ps) h =
    ap length (filter_map_cons g p ps) ∙ omega (arith, length-append (Option-to_list (g p)) (filter_map g ps), h p, count-filter_map g w ps h)

pub inside-count : (f e : ℕ) (ps : List PieceRow) → length (rows_inside f e ps) ≡ weigh (met f e) ps
unfolding rows_inside
inside-count f e ps = count-filter_map (clip_row f e) (met f e) ps (λ p. parts f e p)

-- a piece leaves a part below, above or inside, and one more for each end that it reaches over
piece_parts : (f e : ℕ) (p : PieceRow) → f < e → 0 < p.size
    → one (max 0 p.first) (min f (row_end p)) + one (max e p.first) (min (row_end p) (row_end p)) + met f e p ≡ 1 + rests f e p
piece_parts f e p h s = go (lt_or_le f (row_end p)) (lt_or_le p.first f) (lt_or_le p.first e) (lt_or_le e (row_end p))
  where
    a : ℕ
    a = p.first

    z : ℕ
    z = row_end p

    go : (f < row_end p) ⊎ (row_end p ≤ f) → (p.first < f) ⊎ (f ≤ p.first) → (p.first < e) ⊎ (e ≤ p.first) → (e < row_end p) ⊎ (row_end p ≤ e)
        → one (max 0 p.first) (min f (row_end p)) + one (max e p.first) (min (row_end p) (row_end p)) + met f e p ≡ 1 + rests f e p
    go (inr k) q r t =
        omega (arith, one_lt (max 0 p.first) (min f (row_end p)) (omega arith), one_le (max e p.first) (min (row_end p) (row_end p)) (omega arith), met_left f e h p k, rests_left f e h p k)
    go (inl k) q (inr r) t =
        omega (arith, one_le (max 0 p.first) (min f (row_end p)) (omega arith), one_lt (max e p.first) (min (row_end p) (row_end p)) (omega arith), met_right f e h p r, rests_right f e h p r)
    go (inl k) (inl q) (inl r) (inl t) =
        omega (arith, one_lt (max 0 p.first) (min f (row_end p)) (omega arith), one_lt (max e p.first) (min (row_end p) (row_end p)) (omega arith), met_here f e h p s r k, crosses_yes p.first (row_end p) f q k, crosses_yes p.first (row_end p) e r t)
    go (inl k) (inl q) (inl r) (inr t) =
        omega (arith, one_lt (max 0 p.first) (min f (row_end p)) (omega arith), one_le (max e p.first) (min (row_end p) (row_end p)) (omega arith), met_here f e h p s r k, crosses_yes p.first (row_end p) f q k, crosses-after p.first (row_end p) e t)
    go (inl k) (inr q) (inl r) (inl t) =
        omega (arith, one_le (max 0 p.first) (min f (row_end p)) (omega arith), one_lt (max e p.first) (min (row_end p) (row_end p)) (omega arith), met_here f e h p s r k, crosses_before p.first (row_end p) f q, crosses_yes p.first (row_end p) e r t)
    go (inl k) (inr q) (inl r) (inr t) =
        omega (arith, one_le (max 0 p.first) (min f (row_end p)) (omega arith), one_le (max e p.first) (min (row_end p) (row_end p)) (omega arith), met_here f e h p s r k, crosses_before p.first (row_end p) f q, crosses-after p.first (row_end p) e t)

-- so the parts below and above, with those inside, are as many as the pieces and the rests
pub parts_count : (f e : ℕ) → f < e → {ps : List PieceRow} → All Filled ps → length (rows_below f ps) + length (rows_above e ps) + weigh (met f e) ps ≡ length ps + weigh (rests f e) ps
unfolding rows_below rows_above
parts_count f e h {ps} a =
    omega (arith, count-filter_map (clip_row 0 f) (λ p. one (max 0 p.first) (min f (row_end p))) ps (λ p. parts 0 f p), count-filter_map (λ p. clip_row e (row_end p) p) (λ p. one (max e p.first) (min (row_end p) (row_end p))) ps (λ p. parts e (row_end p) p), sums a)
  where
    sums : {ps : List PieceRow} → All Filled ps
        → weigh (λ p. one (max 0 p.first) (min f (row_end p))) ps + weigh (λ p. one (max e p.first) (min (row_end p) (row_end p))) ps + weigh (met f e) ps ≡ length ps + weigh (rests f e) ps
    sums all_nil = refl
    sums (all_cons {x = p} b bs) = omega (arith, piece_parts f e p h b.some, sums bs)
