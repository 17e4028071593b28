-- Two numbers compared, as a sum of cases; a test's two outcomes; a test turned into a decision. Assumes nothing.
use mathlib.Core.Path.{◌≡◌, refl, sym, ◌∙◌}
use mathlib.Core.Logic.{◌⊎◌, inl, inr, ⊎_elim}
use mathlib.Core.Bool.{Bool, true, false, ◌&&◌, ◌||◌, not, cond, true≢false, false≢true}
use Prim.Native.Nat.{ℕ, suc, ◌-◌, ◌≤◌, ◌<◌}
use native.Mathlib.Omega.{arith}
use lib.Dec.{leb, ltb, eqb}
use borrow.Author.Tests.{leb-true, leb-false, ltb-true, ltb-false, eqb-true, eqb-false}
use Rattle.lists.specs.Tests.{Decides}

-- ── outcomes ──

-- a Bool is one of the two
pub bool_cases : (t : Bool) → (t ≡ true) ⊎ (t ≡ false)
bool_cases true = inl refl
bool_cases false = inr refl

-- a test counts one at most
pub counts_one : (t : Bool) → cond t 1 0 ≤ 1
counts_one true = omega arith
counts_one false = omega arith

-- two numbers, in either order
pub le_or_lt : (a b : ℕ) → (a ≤ b) ⊎ (b < a)
le_or_lt a b = ⊎_elim (λ e. inl (leb-true a b e)) (λ e. inr (leb-false a b e)) (bool_cases (leb a b))

pub lt_or_le : (a b : ℕ) → (a < b) ⊎ (b ≤ a)
lt_or_le a b = ⊎_elim (λ e. inl (ltb-true a b e)) (λ e. inr (ltb-false a b e)) (bool_cases (ltb a b))

pub eq_or_ne : (a b : ℕ) → (a ≡ b) ⊎ (a ≡ b → ⊥)
eq_or_ne a b = ⊎_elim (λ e. inl (eqb-true a b e)) (λ e. inr (eqb-false a b e)) (bool_cases (eqb a b))

-- a number that is not 0 is a successor
pub suc_of : (n : ℕ) → (n ≡ 0 → ⊥) → n ≡ suc (n - 1)
suc_of n h = omega arith

-- ── Bools ──

pub and_left : (a b : Bool) → (a && b) ≡ true → a ≡ true
and_left true b e = refl
and_left false b e = e

pub and_right : (a b : Bool) → (a && b) ≡ true → b ≡ true
and_right true b e = e
and_right false b e = absurd (false≢true e)

pub and_both : (a b : Bool) → a ≡ true → b ≡ true → (a && b) ≡ true
and_both true b p q = q
and_both false b p q = p

pub or_cases : (a b : Bool) → (a || b) ≡ true → (a ≡ true) ⊎ (b ≡ true)
or_cases true b e = inl refl
or_cases false b e = inr e

pub or_true : (a b : Bool) → b ≡ true → (a || b) ≡ true
or_true true b e = refl
or_true false b e = e

pub or_left : (a b : Bool) → (a || b) ≡ false → a ≡ false
or_left true b e = absurd (true≢false e)
or_left false b e = refl

pub or_right : (a b : Bool) → (a || b) ≡ false → b ≡ false
or_right true b e = absurd (true≢false e)
or_right false b e = e

pub cond_same {ℓ} : {A : Type ℓ} (t : Bool) (a : A) → cond t a a ≡ a
cond_same true a = refl
cond_same false a = refl

-- ── tests that decide ──

pub confirm : {P : Type 0} → P → Decides true P
confirm p = record { yes = λ _. p; not = λ e _. true≢false e }

pub refute : {P : Type 0} → (P → ⊥) → Decides false P
refute f = record { yes = λ e. absurd (false≢true e); not = λ _. f }

-- a test of one statement is a test of an equivalent one
pub decides_iff : {P Q : Type 0} (r : Bool) → (P → Q) → (Q → P) → Decides r P → Decides r Q
decides_iff r f g d = record { yes = λ e. f (d.yes e); not = λ e q. d.not e (g q) }

pub decides_leb : (a b : ℕ) → Decides (leb a b) (a ≤ b)
decides_leb a b = record { yes = leb-true a b; not = λ e h. omega (arith, leb-false a b e) }

pub decides_ltb : (a b : ℕ) → Decides (ltb a b) (a < b)
decides_ltb a b = record { yes = ltb-true a b; not = λ e h. omega (arith, ltb-false a b e) }

pub decides_eqb : (a b : ℕ) → Decides (eqb a b) (a ≡ b)
decides_eqb a b = record { yes = eqb-true a b; not = eqb-false a b }

pub decides_and : {P Q : Type 0} (a b : Bool) → Decides a P → Decides b Q → Decides (a && b) (P × Q)
decides_and true b p q = record { yes = λ e. (p.yes refl, q.yes e); not = λ e z. q.not e z.1 }
decides_and false b p q = refute (λ z. p.not refl z.0)

pub decides_not : {P : Type 0} (a : Bool) → Decides a P → Decides (not a) (P → ⊥)
decides_not true p = refute (λ f. f (p.yes refl))
decides_not false p = confirm (p.not refl)

-- a test decides that it is true
pub decides_itself : (t : Bool) → Decides t (t ≡ true)
decides_itself t = record { yes = λ e. e; not = λ e h. true≢false (sym h ∙ e) }

-- what is decided to hold has a true test
pub decided : {P : Type 0} (a : Bool) → Decides a P → P → a ≡ true
decided true d p = refl
decided false d p = absurd (d.not refl p)

-- two tests of one statement are equal
pub decides_same : {P : Type 0} (a b : Bool) → Decides a P → Decides b P → a ≡ b
decides_same true b p q = sym (decided b q (p.yes refl))
decides_same false true p q = absurd (p.not refl (q.yes refl))
decides_same false false p q = refl
