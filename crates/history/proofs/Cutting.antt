-- Cells counted: what an update leaves of pieces, left of it, inside it and right of it, are all their cells. Assumes nothing.
use mathlib.Core.Path.{◌≡◌, refl, ap, ◌∙◌}
use mathlib.Core.Bool.{Bool, true, false, cond}
use mathlib.Core.Option
use mathlib.Core.Option.{Option, none, some}
use mathlib.Core.List.{List, [], ◌∷◌, ◌++◌, map, filter_map, Option-to_list}
use Prim.Native.Nat.{ℕ, ◌+◌, ◌-◌, ◌≤◌, min, max}
use native.Mathlib.Omega.{arith}
use lib.Dec.{ltb}
use borrow.Author.Tests.{ltb-true, ltb-false}
use Rattle.lists.specs.Lists.{sum_of}
use Rattle.lists.proofs.Lists.{sum-append}
use Rattle.lists.proofs.Maps.{map-append, filter_map_cons, map-map}
use Rattle.history.specs.Words.{Stretch, Piece, Block, size, ends, clip, clip_piece, below, inside, above, block_of}
use Rattle.history.proofs.Clip.{part, part-ends}

-- ── of pieces and of blocks ──

abbrev pub cells_in : List Piece → ℕ
cells_in ps = sum_of (map (λ p. size p.stretch) ps)

abbrev pub block_cells : List Block → ℕ
block_cells bs = sum_of (map (λ b. size b.stretch) bs)

abbrev cells_of : Option Piece → ℕ
cells_of none = 0
cells_of (some p) = size p.stretch

pub cells_append : (ps qs : List Piece) → cells_in (ps ++ qs) ≡ cells_in ps + cells_in qs
cells_append ps qs = ap sum_of (map-append (λ p. size p.stretch) ps qs) ∙ sum-append (map (λ p. size p.stretch) ps) (map (λ p. size p.stretch) qs)

pub block_cells_append : (bs cs : List Block) → block_cells (bs ++ cs) ≡ block_cells bs + block_cells cs
block_cells_append bs cs = ap sum_of (map-append (λ b. size b.stretch) bs cs) ∙ sum-append (map (λ b. size b.stretch) bs) (map (λ b. size b.stretch) cs)

-- pieces have as many as blocks
pub destroyed_cells : (tick : ℕ) (ps : List Piece) → block_cells (map (block_of tick) ps) ≡ cells_in ps
destroyed_cells tick ps = ap sum_of (map-map (λ (b : Block). size b.stretch) (block_of tick) ps)

option_cells : (x : Option Piece) → cells_in (Option-to_list x) ≡ cells_of x
unfolding Option-to_list sum_of
option_cells none = refl
option_cells (some p) = omega arith

filter_cells : (f : Piece → Option Piece) (p : Piece) (ps : List Piece) → cells_in (filter_map f (p ∷ ps)) ≡ cells_of (f p) + cells_in (filter_map f ps)
filter_cells f p ps =
    ap cells_in (filter_map_cons f p ps) ∙ cells_append (Option-to_list (f p)) (filter_map f ps) ∙ ap (λ (n : ℕ). n + cells_in (filter_map f ps)) (option_cells (f p))

-- ── a piece cut in three ──

-- the cells of a piece in a range
clip_cells : (from to : ℕ) (p : Piece) → cells_of (clip_piece from to p) ≡ min to (ends p.stretch) - max from p.stretch.first
unfolding clip_piece clip part
clip_cells from to p = go (ltb (max from p.stretch.first) (min to (ends p.stretch))) refl
  where
    go : (x : Bool) → ltb (max from p.stretch.first) (min to (ends p.stretch)) ≡ x
        → cells_of (Option.map {B = Piece} (λ (s : Stretch). record { kind = p.kind; stretch = s; written = p.written }) (cond x (some (part from to p.stretch)) none))
        ≡ min to (ends p.stretch) - max from p.stretch.first
    go true e =
        let less = ltb-true _ _ e in
        omega (arith, part-ends from to p.stretch less)
    go false e =
        let more : min to (ends p.stretch) ≤ max from p.stretch.first = ltb-false _ _ e in
        omega arith

-- two ranges that meet at b, of which the second goes up to m at most
meet_cells : (a b m first end : ℕ) → a ≤ b → first ≤ end → m ≤ end → min b end ≤ m → (min b end - max a first) + (m - max b first) ≡ m - max a first
meet_cells a b m first end h g k j = omega arith

-- below f, from f to e, and from e on
cut_cells : (f e first end : ℕ) → f ≤ e → first ≤ end → (min f end - max 0 first) + ((min e end - max f first) + (min end end - max e first)) ≡ end - first
cut_cells f e first end h g = sums _ _ _ _ _ (meet_cells 0 f (min e end) first end z g (least e end) up) (meet_cells 0 e (min end end) first end z g (least end end) top) ∙ low
  where
    sums : (x y z v r : ℕ) → x + y ≡ v → v + z ≡ r → x + (y + z) ≡ r
    sums x y z v r p q = omega arith

    z : {n : ℕ} → 0 ≤ n
    z = omega arith

    least : (m n : ℕ) → min m n ≤ n
    least m n = omega arith

    up : min f end ≤ min e end
    up = omega arith

    top : min e end ≤ min end end
    top = omega arith

    low : min end end - max 0 first ≡ end - first
    low = omega arith

-- what is left of a range of cells, of those inside it and of those right of it is all
pub parts_cells : (f e : ℕ) → f ≤ e → (ps : List Piece) → cells_in (below f ps) + (cells_in (inside f e ps) + cells_in (above e ps)) ≡ cells_in ps
unfolding below inside above sum_of filter_map
parts_cells f e h [] = refl
parts_cells f e h (p ∷ ps) =
    let b = filter_cells (clip_piece 0 f) p ps ∙ ap (λ (n : ℕ). n + cells_in (below f ps)) (clip_cells 0 f p) in
    let i = filter_cells (clip_piece f e) p ps ∙ ap (λ (n : ℕ). n + cells_in (inside f e ps)) (clip_cells f e p) in
    let a = filter_cells (λ q. clip_piece e (ends q.stretch) q) p ps ∙ ap (λ (n : ℕ). n + cells_in (above e ps)) (clip_cells e (ends p.stretch) p) in
    rw (b, i, a) (sums _ _ _ _ _ _ (size p.stretch) (cells_in ps) (cut_cells f e p.stretch.first (ends p.stretch) h (omega arith) ∙ own) (parts_cells f e h ps))
  where
    own : ends p.stretch - p.stretch.first ≡ size p.stretch
    own = omega arith

    sums : (x y z u v w m n : ℕ) → x + (y + z) ≡ m → u + (v + w) ≡ n → (x + u) + ((y + v) + (z + w)) ≡ m + n
    sums x y z u v w m n p q = omega arith
