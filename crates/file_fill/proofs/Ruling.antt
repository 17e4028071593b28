-- Rule 21 on the way down is rule 21 of history. Assumes nothing.
use mathlib.Core.Path.{◌≡◌, refl, sym, ◌∙◌}
use mathlib.Core.Logic.{⊎_elim}
use mathlib.Core.Bool.{Bool, true, false, ◌&&◌, and-true, and-false}
use Prim.Native.Nat.{ℕ, ◌+◌, ◌^◌, ◌≤◌, ◌<◌}
use native.Mathlib.Omega.{arith}
use lib.Dec.{eqb}
use borrow.Author.Tests.{lt-ltb, le-ltb, le-leb}
use Rattle.lists.proofs.Numbers.{lt_or_le}
use Rattle.history.specs.Tree.{mid}
use Rattle.history.specs.Rules.{is_hole, halved}
use Rattle.history.specs.File.{Nodes, absent, present, tree_from, placed_in, end_of, rule21}
use Rattle.file_fill.specs.Fill.{is_place, right_start, fits}

-- ── Bools ──

-- two tests of both halves, in another order
both_halves : (x a b c d : Bool) → (x && ((a && c) && (b && d))) ≡ ((x && (a && b)) && (c && d))
both_halves true true true c d = refl
both_halves true true false true d = refl
both_halves true true false false d = refl
both_halves true false b c d = refl
both_halves false a b c d = refl

-- ── an interval that is not empty ──

-- no node stands in an empty interval
fits-empty : (lo hi : ℕ) (t : Nodes) → hi ≤ lo → fits lo hi t ≡ is_hole (tree_from t)
unfolding fits is_place tree_from
fits-empty lo hi absent h = refl
fits-empty lo hi (present a b c es l r) h = rw (le-ltb lo hi h) refl

pub fits_rule : (lo hi : ℕ) (t : Nodes) → lo < hi → fits lo hi t ≡ (placed_in lo hi t && halved lo hi (tree_from t))
unfolding fits is_place tree_from placed_in halved right_start
fits_rule lo hi absent h = refl
fits_rule lo hi (present a b c es l r) h =
    ⊎_elim
    (λ wide.
    rw (lt-ltb lo hi h, lt-ltb (lo + 1) hi wide, fits_rule lo (mid lo hi) l (omega arith), fits_rule (mid lo hi) hi r (omega arith))
    (both_halves (eqb a lo && (eqb b hi && eqb c (mid lo hi))) (placed_in lo (mid lo hi) l) (placed_in (mid lo hi) hi r) (halved lo (mid lo hi) (tree_from l)) (halved (mid lo hi) hi (tree_from r))))
    (λ narrow.
    let m : mid lo hi ≤ lo = omega arith in
    let n : hi ≤ hi = omega arith in
    rw (lt-ltb lo hi h, le-ltb (lo + 1) hi narrow, fits-empty lo (mid lo hi) l m, fits-empty hi hi r n)
    (leaf (eqb a lo && (eqb b hi && eqb c (mid lo hi))) l r))
    (lt_or_le (lo + 1) hi)
  where
    leaf : (x : Bool) (l r : Nodes)
        → (x && (is_hole (tree_from l) && is_hole (tree_from r)))
        ≡ ((x && (placed_in lo (mid lo hi) l && placed_in (mid lo hi) hi r))
        && ((is_hole (tree_from l) && is_hole (tree_from r)) && (halved lo (mid lo hi) (tree_from l) && halved (mid lo hi) hi (tree_from r))))
    leaf x absent absent = sym (and-true (x && true))
    leaf x absent (present a b c es l r) = and-false x ∙ sym (and-false (x && placed_in (mid lo hi) hi (present a b c es l r)))
    leaf x (present a b c es l r) s = and-false x ∙ sym (and-false (x && (placed_in lo (mid lo hi) (present a b c es l r) && placed_in (mid lo hi) hi s)))

-- ── the root ──

-- with an end in range, rule 21 is what is tested on the way down
pub rule21-fits : (t : Nodes) → 0 < end_of t → end_of t ≤ 2 ^ 63 → rule21 t ≡ fits 0 (end_of t) t
unfolding rule21
rule21-fits t some most = rw (lt-ltb 0 (end_of t) some, le-leb (end_of t) (2 ^ 63) most) (sym (fits_rule 0 (end_of t) t some))
