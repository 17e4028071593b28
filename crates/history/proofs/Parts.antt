-- The pieces after an update: not empty, in order, none wrapping. Assumes nothing.
use mathlib.Core.Path.{◌≡◌, refl, subst}
use mathlib.Core.Bool.{Bool, cond, true, false}
use mathlib.Core.Option.{none, some, map, some-injective, none-ne-some}
use mathlib.Core.List.{List, ◌∷◌, ◌++◌}
use Prim.Native.Nat.{ℕ, ◌-◌, ◌≤◌, ◌<◌, min, max}
use native.Mathlib.Omega.{arith}
use lib.Dec.{ltb}
use lib.ListN.{take, drop}
use borrow.Author.Tests.{ltb-true}
use Rattle.history.specs.Words.{Stretch, Operation, Piece, ends, size, clip, clip_piece, below, inside, above, piece_of, stretch_of}
use Rattle.lists.specs.Lists.{All, all_cons, pairs_cons}
use Rattle.history.specs.Sound.{InOrder}
use Rattle.lists.proofs.Lists.{all_append, all_map, all_any, pairs-append}
use Rattle.lists.proofs.Maps.{all_filter_map, pairs-filter_map}
use Rattle.history.proofs.Clip.{part, part-ends, part_bytes}

-- q is the part of p in [from, to), and not empty
pub record PartOf (from to : ℕ) (p q : Piece) : Type 0 where
  pub from_first : p.stretch.first ≤ q.stretch.first
  pub to_end : ends q.stretch ≤ ends p.stretch
  pub from_low : from ≤ q.stretch.first
  pub to_high : ends q.stretch ≤ to
  pub some_cell : 0 < size q.stretch
  pub same_bytes : q.stretch.bytes ≡ take (size q.stretch) (drop (q.stretch.first - p.stretch.first) p.stretch.bytes)
  pub same_tick : q.written ≡ p.written
  pub same_kind : q.kind ≡ p.kind

pub clip-part : (from to : ℕ) (p q : Piece) → clip_piece from to p ≡ some q → PartOf from to p q
unfolding clip_piece clip part
clip-part from to p q = go (ltb (max from p.stretch.first) (min to (ends p.stretch))) refl
  where
    whole : Piece
    whole = record { kind = p.kind; stretch = part from to p.stretch; written = p.written }

    go : (t : Bool) → ltb (max from p.stretch.first) (min to (ends p.stretch)) ≡ t
        → map {B = Piece} (λ (s : Stretch). record { kind = p.kind; stretch = s; written = p.written }) (cond t (some (part from to p.stretch)) none) ≡ some q
        → PartOf from to p q
    go false e h = absurd (none-ne-some q h)
    go true e h =
        let lt : max from p.stretch.first < min to (ends p.stretch) = ltb-true _ _ e in
        let at_end : ends (part from to p.stretch) ≡ min to (ends p.stretch) = part-ends from to p.stretch lt in
        let made : PartOf from to p whole = record {
          from_first = omega arith;
          to_end = omega arith;
          from_low = omega arith;
          to_high = omega arith;
          some_cell = omega arith;
          same_bytes = part_bytes from to p.stretch lt;
          same_tick = refl;
          same_kind = refl;
        } in
        subst (λ (x : Piece). PartOf from to p x) (some-injective whole q h) made

-- ── the pieces after an update, [f, e) being the operation's cells ──

-- a property that every part of a piece inherits is one of all parts
all_below : (P Q : Piece → Type 0) (f : ℕ) (ps : List Piece) → ((p q : Piece) → PartOf 0 f p q → P p → Q q) → All P ps → All Q (below f ps)
unfolding below
all_below P Q f ps h a = all_filter_map (clip_piece 0 f) (λ p q e. h p q (clip-part 0 f p q e)) a

pub all_inside : (P Q : Piece → Type 0) (f e : ℕ) (ps : List Piece) → ((p q : Piece) → PartOf f e p q → P p → Q q) → All P ps → All Q (inside f e ps)
unfolding inside
all_inside P Q f e ps h a = all_filter_map (clip_piece f e) (λ p q x. h p q (clip-part f e p q x)) a

all_above : (P Q : Piece → Type 0) (e : ℕ) (ps : List Piece) → ((p q : Piece) → PartOf e (ends p.stretch) p q → P p → Q q) → All P ps → All Q (above e ps)
unfolding above
all_above P Q e ps h a = all_filter_map (λ p. clip_piece e (ends p.stretch) p) (λ p q x. h p q (clip-part e (ends p.stretch) p q x)) a

module _ (o : Operation) (ps : List Piece) where
  -- what holds of the operation's piece, and of each part of a piece
  pub all_updated : (P Q : Piece → Type 0) → ((from to : ℕ) (p q : Piece) → PartOf from to p q → P p → Q q) → Q (piece_of o) → All P ps → All Q (below (stretch_of o).first ps ++ (piece_of o ∷ above (ends (stretch_of o)) ps))
  all_updated P Q h here a =
      all_append (all_below P Q (stretch_of o).first ps (h 0 (stretch_of o).first) a) (all_cons here (all_above P Q (ends (stretch_of o)) ps (λ p. h (ends (stretch_of o)) (ends p.stretch) p) a))

  any : All (λ (p : Piece). Unit {0}) ps
  any = all_any ps (λ p. tt)

  lefts : All (λ (q : Piece). ends q.stretch ≤ (stretch_of o).first) (below (stretch_of o).first ps)
  lefts = all_below (λ p. Unit {0}) (λ q. ends q.stretch ≤ (stretch_of o).first) (stretch_of o).first ps (λ p q r u. r.to_high) any

  rights : All (λ (q : Piece). ends (stretch_of o) ≤ q.stretch.first) (above (ends (stretch_of o)) ps)
  rights = all_above (λ p. Unit {0}) (λ q. ends (stretch_of o) ≤ q.stretch.first) (ends (stretch_of o)) ps (λ p q r u. r.from_low) any

  pub in-order-updated : InOrder ps → InOrder (below (stretch_of o).first ps ++ (piece_of o ∷ above (ends (stretch_of o)) ps))
  unfolding below above
  in-order-updated a =
      pairs-append
      (pairs-filter_map (clip_piece 0 (stretch_of o).first) (λ p q p' q' x y. keep_order (clip-part _ _ p p' x) (clip-part _ _ q q' y)) a)
      (pairs_cons rights (pairs-filter_map (λ p. clip_piece (ends (stretch_of o)) (ends p.stretch) p) (λ p q p' q' x y. keep_order (clip-part _ _ p p' x) (clip-part _ _ q q' y)) a))
      (all_map (λ p h. all_cons h (all_map (λ q h'. omega arith) rights)) lefts)
    where
      keep_order : {a b c d : ℕ} {p q p' q' : Piece} → PartOf a b p p' → PartOf c d q q' → ends p.stretch ≤ q.stretch.first → ends p'.stretch ≤ q'.stretch.first
      keep_order r s h = omega arith
