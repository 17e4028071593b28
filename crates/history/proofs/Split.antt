-- For the code: an update touches only the pieces that overlap it. If the pieces are `ls ++ ms ++ rs`, `ls` all ending at or before the
use mathlib.Core.Path.{◌≡◌, ◌∙◌, ap, ap₂}
use mathlib.Core.Logic.{◌⊎◌, inl, inr}
use mathlib.Core.Option.{Option, none, some}
use mathlib.Core.List.{List, [], filter_map, filter_map-some}
use Prim.Native.Nat.{ℕ, ◌-◌, ◌≤◌, ◌<◌, min, max}
use native.Mathlib.Omega.{arith}
use lib.ListN.{length, take, drop}
use lib.Seq.{take-length}
use borrow.Author.Tests.{lt-ltb, le-ltb}
use Rattle.history.specs.Words.{Stretch, Piece, ends, size, clip, clip_piece, below, inside, above}
use Rattle.lists.specs.Lists.{All}
use Rattle.lists.proofs.Lists.{all_map, all_both}
use Rattle.lists.proofs.Maps.{filter_map_all, filter_map_none}

-- operation and `rs` all starting at or after its end, then `ls` and `rs` stay as they are and only `ms` is cut. Assumes nothing.

-- ── one piece ──

-- a piece that lies in [from, to) is its own part
pub clip-whole : (from to : ℕ) (s : Stretch) → from ≤ s.first → ends s ≤ to → 0 < size s → clip from to s ≡ some s
unfolding clip
clip-whole from to s p q r =
    let a : max from s.first ≡ s.first = omega arith in
    let b : min to (ends s) ≡ ends s = omega arith in
    rw (a, b, lt-ltb s.first (ends s) (omega arith)) (ap {B = Option Stretch} (λ bs. some (record { first = s.first; bytes = bs })) same)
  where
    same : take (ends s - s.first) (drop (s.first - s.first) s.bytes) ≡ s.bytes
    same =
        ap₂ (λ n k. take n (drop k s.bytes)) (let e : ends s - s.first ≡ length s.bytes = omega arith in e) (let e : s.first - s.first ≡ 0 = omega arith in e)
        ∙ take-length s.bytes

-- a piece that lies outside has no part there
pub clip_out : (from to : ℕ) (s : Stretch) → (ends s ≤ from) ⊎ (to ≤ s.first) → clip from to s ≡ none
unfolding clip
clip_out from to s (inl p) = rw (le-ltb (max from s.first) (min to (ends s)) (omega arith))
clip_out from to s (inr p) = rw (le-ltb (max from s.first) (min to (ends s)) (omega arith))

clip_piece-whole : (from to : ℕ) (p : Piece) → from ≤ p.stretch.first → ends p.stretch ≤ to → 0 < size p.stretch → clip_piece from to p ≡ some p
unfolding clip_piece
clip_piece-whole from to p a b c = rw (clip-whole from to p.stretch a b c)

clip_piece_out : (from to : ℕ) (p : Piece) → (ends p.stretch ≤ from) ⊎ (to ≤ p.stretch.first) → clip_piece from to p ≡ none
unfolding clip_piece
clip_piece_out from to p a = rw (clip_out from to p.stretch a)

-- ── pieces left of a cell, right of a cell ──

-- the pieces lie left of the cell x; right of it; none is empty
abbrev pub Left : ℕ → List Piece → Type 0
Left x ps = All (λ (p : Piece). ends p.stretch ≤ x) ps

abbrev pub Right : ℕ → List Piece → Type 0
Right x ps = All (λ (p : Piece). x ≤ p.stretch.first) ps

abbrev pub Filled : List Piece → Type 0
Filled ps = All (λ (p : Piece). 0 < size p.stretch) ps

keep : (f : Piece → Option Piece) {ps : List Piece} → All (λ (p : Piece). f p ≡ some p) ps → filter_map f ps ≡ ps
keep f {ps} h = filter_map_all f some h ∙ filter_map-some ps

lose : (f : Piece → Option Piece) {ps : List Piece} → All (λ (p : Piece). f p ≡ none) ps → filter_map f ps ≡ []
lose f {ps} h = filter_map_all f (λ p. none) h ∙ filter_map_none ps

pub below_left : (x : ℕ) {ps : List Piece} → Left x ps → Filled ps → below x ps ≡ ps
unfolding below
below_left x a b = keep (clip_piece 0 x) (all_both (λ p l n. clip_piece-whole 0 x p (omega arith) l n) a b)

pub below_right : (x : ℕ) {ps : List Piece} → Right x ps → below x ps ≡ []
unfolding below
below_right x a = lose (clip_piece 0 x) (all_map (λ p r. clip_piece_out 0 x p (inr r)) a)

pub above_right : (x : ℕ) {ps : List Piece} → Right x ps → Filled ps → above x ps ≡ ps
unfolding above
above_right x a b = keep (λ p. clip_piece x (ends p.stretch) p) (all_both (λ p r n. clip_piece-whole x (ends p.stretch) p r (omega arith) n) a b)

pub above_left : (x : ℕ) {ps : List Piece} → Left x ps → above x ps ≡ []
unfolding above
above_left x a = lose (λ p. clip_piece x (ends p.stretch) p) (all_map (λ p l. clip_piece_out x (ends p.stretch) p (inl l)) a)

pub inside_left : (x y : ℕ) {ps : List Piece} → Left x ps → inside x y ps ≡ []
unfolding inside
inside_left x y a = lose (clip_piece x y) (all_map (λ p l. clip_piece_out x y p (inl l)) a)

pub inside_right : (x y : ℕ) {ps : List Piece} → Right y ps → inside x y ps ≡ []
unfolding inside
inside_right x y a = lose (clip_piece x y) (all_map (λ p r. clip_piece_out x y p (inr r)) a)
