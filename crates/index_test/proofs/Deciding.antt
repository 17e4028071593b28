-- The test behind refusal 2 decides exactly: tables that pass stand for a sound ledger, and the state in the head tells open from closed. Assumes nothing.
use mathlib.Core.Path.{◌≡◌, refl, ap, ◌∙◌}
use mathlib.Core.Bool.{Bool, true, false, false≢true}
use mathlib.Core.Option.{Option, none, some}
use mathlib.Core.List.{List}
use native.Mathlib.Omega.{arith}
use Rattle.history.specs.Tree.{Tree}
use Rattle.history.specs.Ledger.{is_some}
use Rattle.tables.specs.Columns.{head_state}
use Rattle.layout.specs.Tables.{Tables, head_at}
use Rattle.layout.specs.Encodes.{open_state, closed_state, state_of}
use Rattle.layout.specs.Formed.{WellFormed}
use Rattle.layout.proofs.ReadLaws.{open_without_tree}
use Rattle.index_test.specs.Law.{FormedAs, TestDecides}
use Rattle.index_test.specs.States.{state_number}
use Rattle.index_test.specs.declared.State.{State}
use Rattle.index_test.specs.declared.State.TheVariants.{Bad, Open, Closed}
use Rattle.index_test.proofs.Tested.{Passes, open_passes, closed_passes}

-- ── three answers ──

-- no two are the same
other : {A : Type 0} (x y : State) → (state_number x ≡ state_number y → ⊥) → x ≡ y → A
other x y differ e = absurd (differ (ap state_number e))

-- ── tables of an open and of a closed index ──

as_formed : {t : Tables} {b : Bool} → FormedAs t b → WellFormed t
as_formed w = record { ledger = w.ledger; encodes = w.encodes; sound = w.sound }

passed : {t : Tables} {x : Option (List Tree)} → Passes t x → FormedAs t (is_some x)
passed p = record { ledger = p.ledger; encodes = p.encodes; sound = p.sound; is = ap is_some p.trees }

closed_state_lem : (x : Option (List Tree)) → is_some x ≡ true → state_of x ≡ closed_state
closed_state_lem none e = absurd (false≢true e)
closed_state_lem (some trees) e = refl

-- one head does not say both
one_state : {t : Tables} → FormedAs t false → FormedAs t true → ⊥
one_state {t} w v =
    let open' : head_at t head_state ≡ open_state = w.encodes.state ∙ open_without_tree w.ledger.trees w.is in
    let closed : head_at t head_state ≡ closed_state = v.encodes.state ∙ closed_state_lem v.ledger.trees v.is in
    omega arith

-- ── exact ──

pub test_decides : TestDecides
test_decides Bad t o = record {
  open_then = other Bad Open (λ e. omega arith);
  open_if = λ w. absurd (o (as_formed w));
  closed_then = other Bad Closed (λ e. omega arith);
  closed_if = λ w. absurd (o (as_formed w));
  bad_then = λ e. o;
  bad_if = λ ill. refl;
}
test_decides Open t o =
    let w = passed (open_passes t o) in
    record {
      open_then = λ e. w;
      open_if = λ v. refl;
      closed_then = other Open Closed (λ e. omega arith);
      closed_if = λ v. absurd (one_state w v);
      bad_then = other Open Bad (λ e. omega arith);
      bad_if = λ ill. absurd (ill (as_formed w));
    }
test_decides Closed t o =
    let w = passed (closed_passes t o) in
    record {
      open_then = other Closed Open (λ e. omega arith);
      open_if = λ v. absurd (one_state v w);
      closed_then = λ e. w;
      closed_if = λ v. refl;
      bad_then = other Closed Bad (λ e. omega arith);
      bad_if = λ ill. absurd (ill (as_formed w));
    }
