-- Lists whose days rise from a number on: another form of what install takes, by one entry after the other. Assumes nothing.
use mathlib.Core.Path.{◌≡◌, refl}
use mathlib.Core.Logic.{◌⊎◌, inl, inr, ⊎_elim}
use mathlib.Core.Bool.{Bool, true, false, ◌&&◌, ◌||◌}
use mathlib.Core.List.{List, [], ◌∷◌}
use Prim.Native.Nat.{ℕ, suc, ◌≤◌}
use native.Mathlib.Omega.{arith}
use lib.ListN.{length}
use lib.Dec.{leb, eqb}
use Rattle.lists.specs.Lists.{All, all_nil, all_cons, pairs_nil, pairs_cons, Ascending}
use Rattle.lists.specs.Tests.{Decides}
use Rattle.lists.proofs.Lists.{all_map}
use Rattle.lists.proofs.Numbers.{confirm, refute, decides_iff, decides_leb, decides_eqb, decides_and}
use Rattle.history.specs.Days.{Day, short_day, long_day, DaysTaken, most_days, listable, rises_from, days_taken}

-- the lengths that a listed day may have
abbrev pub Listable : (minutes : ℕ) → Type 0
Listable minutes = (minutes ≡ short_day) ⊎ (minutes ≡ long_day)

-- every day is at least `from` and above the one before, every length listable
pub data Rises : (from : ℕ) → List Day → Type 0 where
  rises_nil : {from : ℕ} → Rises from []
  rises_cons : {from : ℕ} {e : Day} {es : List Day} → from ≤ e.day → Listable e.minutes → Rises (suc e.day) es → Rises from (e ∷ es)

-- ── taken lists rise, and rising ones are taken ──

pub rises_all : {from : ℕ} {es : List Day} → Rises from es → All (λ (e : Day). from ≤ e.day) es
rises_all rises_nil = all_nil
rises_all (rises_cons {from} {e} p q r) = all_cons p (all_map (λ x h. omega arith) (rises_all r))

pub rises_ascend : {from : ℕ} {es : List Day} → Rises from es → Ascending (λ (e : Day). e.day) es
rises_ascend rises_nil = pairs_nil
rises_ascend (rises_cons p q r) = pairs_cons (rises_all r) (rises_ascend r)

pub rises-lengths : {from : ℕ} {es : List Day} → Rises from es → All (λ (e : Day). Listable e.minutes) es
rises-lengths rises_nil = all_nil
rises-lengths (rises_cons p q r) = all_cons q (rises-lengths r)

rises_of : (from : ℕ) {es : List Day} → All (λ (e : Day). from ≤ e.day) es → Ascending (λ (e : Day). e.day) es
    → All (λ (e : Day). Listable e.minutes) es → Rises from es
rises_of from all_nil pairs_nil all_nil = rises_nil
rises_of from (all_cons {x} p ps) (pairs_cons a r) (all_cons q qs) = rises_cons p q (rises_of (suc x.day) a r qs)

any_low : (es : List Day) → All (λ (e : Day). 0 ≤ e.day) es
any_low [] = all_nil
any_low (e ∷ es) = all_cons {x = e} (omega arith) (any_low es)

pub taken-rises : {es : List Day} → DaysTaken es → Rises 0 es
taken-rises {es} t = rises_of 0 (any_low es) t.ascending t.lengths

pub rises-taken : {es : List Day} → length es ≤ most_days → Rises 0 es → DaysTaken es
rises-taken few r = record { few = few; ascending = rises_ascend r; lengths = rises-lengths r }

-- ── the test ──

decides_or : {P Q : Type 0} (a b : Bool) → Decides a P → Decides b Q → Decides (a || b) (P ⊎ Q)
decides_or true b p q = confirm (inl (p.yes refl))
decides_or false true p q = confirm (inr (q.yes refl))
decides_or false false p q = refute (λ z. ⊎_elim (p.not refl) (q.not refl) z)

pub decides_listable : (n : ℕ) → Decides (listable n) (Listable n)
decides_listable n = decides_or (eqb n short_day) (eqb n long_day) (decides_eqb n short_day) (decides_eqb n long_day)

pub rises_first : {from : ℕ} {e : Day} {es : List Day} → Rises from (e ∷ es) → (from ≤ e.day) × (Listable e.minutes × Rises (suc e.day) es)
rises_first (rises_cons p q r) = (p, (q, r))

pub rises_decides : (from : ℕ) (es : List Day) → Decides (rises_from from es) (Rises from es)
unfolding rises_from
rises_decides from [] = confirm rises_nil
rises_decides from (e ∷ es) =
    decides_iff (rises_from from (e ∷ es)) (λ z. rises_cons z.0 z.1.0 z.1.1) rises_first
    (decides_and (leb from e.day) (listable e.minutes && rises_from (suc e.day) es) (decides_leb from e.day)
    (decides_and (listable e.minutes) (rises_from (suc e.day) es) (decides_listable e.minutes)
    (rises_decides (suc e.day) es)))

-- the test for the list of refusals decides what is taken
pub days_taken_decides : (es : List Day) → Decides (days_taken es) (DaysTaken es)
unfolding days_taken
days_taken_decides es =
    decides_iff (days_taken es) (λ z. rises-taken z.0 z.1) (λ t. (t.few, taken-rises t))
    (decides_and (leb (length es) most_days) (rises_from 0 es) (decides_leb (length es) most_days) (rises_decides 0 es))
