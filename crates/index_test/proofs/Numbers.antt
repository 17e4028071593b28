-- The number of a state, there and back. Assumes nothing.
use mathlib.Core.Path.{◌≡◌, refl}
use Prim.Native.Nat.{ℕ}
use native.Mathlib.Omega.{arith}
use borrow.Author.Tests.{ne_eqb}
use Rattle.index_test.specs.declared.State.{State}
use Rattle.index_test.specs.declared.State.TheVariants.{Bad, Open, Closed}
use Rattle.index_test.specs.States.{state_number, state_numbered}

pub state_open : {n : ℕ} → n ≡ 1 → Open ≡ state_numbered n
unfolding state_numbered
state_open e = rw e refl

pub state_closed : {n : ℕ} → n ≡ 2 → Closed ≡ state_numbered n
unfolding state_numbered
state_closed e = rw e refl

pub state_bad : {n : ℕ} → (n ≡ 1 → ⊥) → (n ≡ 2 → ⊥) → Bad ≡ state_numbered n
unfolding state_numbered
state_bad {n} one two = rw (ne_eqb n 1 one, ne_eqb n 2 two) refl

pub ruleset states = (state_open, state_closed, state_bad, arith)

pub number_back : (s : State) → state_numbered (state_number s) ≡ s
unfolding state_numbered
number_back Bad = refl
number_back Open = refl
number_back Closed = refl
