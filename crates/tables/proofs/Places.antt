-- Places go by kind, then by cell. Assumes nothing.
use mathlib.Core.Path.{◌≡◌, refl, sym, ◌∙◌, ap}
use mathlib.Core.Logic.{inl, inr}
use Prim.Native.Nat.{ℕ, ◌^◌, ◌<◌}
use native.Mathlib.Omega.{arith}
use lib.Dec.{ltb}
use borrow.Author.Tests.{lt-ltb, le-ltb}
use Rattle.lists.proofs.Numbers.{lt_or_le}
use Rattle.history.specs.Words.{line_of, cell_place}
use Rattle.history.proofs.ByKind.{line_next}
use Rattle.tables.specs.Places.{PlaceBelow}

-- the first place of all
pub place_zero : cell_place 0 0 ≡ 0
unfolding line_of
place_zero = refl

-- in one kind by the cell ..
pub below-own : (k c j d : ℕ) → k ≡ j → ltb c d ≡ ltb (cell_place k c) (cell_place j d)
below-own k c j d e =
    let same = ap line_of e in
    elim (lt_or_le c d) [
      | inl h ↦ lt-ltb c d h ∙ sym (lt-ltb (cell_place k c) (cell_place j d) (omega arith))
      | inr h ↦ le-ltb c d h ∙ sym (le-ltb (cell_place k c) (cell_place j d) (omega arith))
    ]

-- .. and in two by the kind
pub below_other : (k c j d : ℕ) → (k ≡ j → ⊥) → c < 2 ^ 64 → d < 2 ^ 64 → ltb k j ≡ ltb (cell_place k c) (cell_place j d)
below_other k c j d n low small =
    elim (lt_or_le k j) [
      | inl h ↦ lt-ltb k j h ∙ sym (lt-ltb (cell_place k c) (cell_place j d) (omega (arith, line_next k j h)))
      | inr h ↦ le-ltb k j h ∙ sym (le-ltb (cell_place k c) (cell_place j d) (omega (arith, line_next j k (omega arith))))
    ]

-- the returns of `place::below`
pub own_below : {k c j d : ℕ} → k ≡ j → PlaceBelow k c j d (ltb c d)
own_below {k} {c} {j} {d} e = record { is = below-own k c j d e }

pub other_below : {k c j d : ℕ} → (k ≡ j → ⊥) → c < 2 ^ 64 → d < 2 ^ 64 → PlaceBelow k c j d (ltb k j)
other_below {k} {c} {j} {d} n low small = record { is = below_other k c j d n low small }

pub ruleset placing = (own_below, other_below)
