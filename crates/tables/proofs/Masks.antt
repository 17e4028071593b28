-- The kinds of a mask. Assumes nothing.
use mathlib.Core.Path.{◌≡◌, refl, sym, ◌∙◌, ap}
use mathlib.Core.Logic.{◌⊎◌, inl, inr}
use mathlib.Core.Bool.{Bool, true, false, cond, ◌&&◌, ◌||◌, true≢false}
use mathlib.Core.List.{List, [], ◌∷◌}
use Prim.Native.Nat.{ℕ, ◌/◌, ◌%◌, ◌^◌, ◌≤◌, ◌<◌}
use native.Mathlib.Omega.{arith}
use lib.Dec.{ltb, eqb}
use borrow.Author.Tests.{lt-ltb, le-ltb, eq-eqb, ne_eqb, ltb-true}
use Rattle.lists.specs.Lists.{has}
use Rattle.lists.proofs.Numbers.{eq_or_ne, and_left}
use Rattle.lists.proofs.Counting.{has-count_from}
use Rattle.history.specs.Words.{all_kinds}
use Rattle.tables.specs.Masks.{opens, Opens, those_of, kinds_in}

-- ── the returns of `kinds::has` ──

pub opens_known : {mask kind : ℕ} → kind < 5 → Opens mask kind (eqb (mask / 2 ^ kind % 2) 1)
opens_known {mask} {kind} h = record { is = rw (lt-ltb kind 5 h) }

pub opens_unknown : {mask kind : ℕ} → 5 ≤ kind → Opens mask kind false
opens_unknown {mask} {kind} h = record { is = rw (le-ltb kind 5 h) }

pub ruleset opening = (opens_known, opens_unknown)

-- a kind that the mask has is known
pub opens_low : (mask kind : ℕ) → opens mask kind ≡ true → kind ≤ 4
opens_low mask kind h = omega (arith, ltb-true kind 5 (and_left (ltb kind 5) (eqb (mask / 2 ^ kind % 2) 1) h))

-- ── the set ──

-- of a list it has those that the mask has
those_has : (mask k : ℕ) (ks : List ℕ) → has k (those_of mask ks) ≡ (opens mask k && has k ks)
unfolding has those_of
those_has mask k [] = sym (none (opens mask k))
  where
    none : (u : Bool) → (u && false) ≡ false
    none true = refl
    none false = refl
those_has mask k (j ∷ ks) = go (opens mask j) refl (eq_or_ne k j) (those_has mask k ks)
  where
    last : (u : Bool) → u ≡ true → u ≡ (u && true)
    last true e = refl
    last false e = refl

    dead : (u v : Bool) → u ≡ false → (u && v) ≡ false
    dead true v e = absurd (true≢false e)
    dead false v e = refl

    go : (u : Bool) → opens mask j ≡ u → (k ≡ j) ⊎ (k ≡ j → ⊥) → has k (those_of mask ks) ≡ (opens mask k && has k ks)
        → has k (cond u (j ∷ those_of mask ks) (those_of mask ks)) ≡ (opens mask k && (eqb k j || has k ks))
    go true e (inl same) later = let own : opens mask k ≡ true = ap (opens mask) same ∙ e in rw (eq-eqb k j same) (sym own ∙ last (opens mask k) own)
    go true e (inr n) later = rw (ne_eqb k j n) later
    go false e (inl same) later =
        let own : opens mask k ≡ false = ap (opens mask) same ∙ e in
        later ∙ dead (opens mask k) (has k ks) own ∙ sym (dead (opens mask k) (eqb k j || has k ks) own)
    go false e (inr n) later = rw (ne_eqb k j n) later

pub kinds_has : (mask kind : ℕ) → has kind (kinds_in mask) ≡ opens mask kind
kinds_has mask kind = those_has mask kind all_kinds ∙ go (opens mask kind) refl
  where
    go : (u : Bool) → opens mask kind ≡ u → (opens mask kind && has kind all_kinds) ≡ opens mask kind
    go true e = rw (has-count_from kind 0 5 (omega arith) (omega (arith, opens_low mask kind e))) (all (opens mask kind))
      where
        all : (u : Bool) → (u && true) ≡ u
        all true = refl
        all false = refl
    go false e = none (opens mask kind) e
      where
        none : (u : Bool) → u ≡ false → (u && has kind all_kinds) ≡ u
        none true e = absurd (true≢false e)
        none false e = refl
