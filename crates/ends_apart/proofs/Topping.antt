-- The ends that the kinds have reached: one step for each return. Assumes nothing.
use mathlib.Core.Path.{◌≡◌, refl, ap, ◌∙◌}
use mathlib.Core.Logic.{◌⊎◌, inl, inr}
use mathlib.Core.List.{List}
use Prim.Native.Nat.{ℕ, ◌≤◌, min, max}
use native.Mathlib.Omega.{arith}
use lib.ListN.{get_or}
use lib.Seq.{get_or-set_same, get_or-set_other}
use Rattle.lists.proofs.Numbers.{eq_or_ne}
use Rattle.ends_apart.specs.declared.Tops.{Tops}
use Rattle.ends_apart.specs.Turns.{tops_of, top_in, TopOf, Raised, Pushed}

module _ {tops : Tops} {kind : ℕ} where
  pub top_constant : kind ≡ 0 → TopOf tops kind tops.constant
  top_constant e = record { is = rw e refl }

  pub top_memory : kind ≡ 1 → TopOf tops kind tops.memory
  top_memory e = record { is = rw e refl }

  pub top_register : kind ≡ 2 → TopOf tops kind tops.register
  top_register e = record { is = rw e refl }

  pub top_unique : kind ≡ 3 → TopOf tops kind tops.unique
  top_unique e = record { is = rw e refl }

  pub top_last : (kind ≡ 0 → ⊥) → (kind ≡ 1 → ⊥) → (kind ≡ 2 → ⊥) → (kind ≡ 3 → ⊥) → TopOf tops kind tops.other
  top_last a b c d = record { is = let e : min kind 4 ≡ 4 = omega arith in rw e refl }

module _ {tops : Tops} {kind end : ℕ} where
  pub raised_constant : kind ≡ 0 → Raised tops kind end (record { constant = end; memory = tops.memory; register = tops.register; unique = tops.unique; other = tops.other })
  raised_constant e = record { is = rw e refl }

  pub raised_memory : kind ≡ 1 → Raised tops kind end (record { constant = tops.constant; memory = end; register = tops.register; unique = tops.unique; other = tops.other })
  raised_memory e = record { is = rw e refl }

  pub raised_register : kind ≡ 2 → Raised tops kind end (record { constant = tops.constant; memory = tops.memory; register = end; unique = tops.unique; other = tops.other })
  raised_register e = record { is = rw e refl }

  pub raised_unique : kind ≡ 3 → Raised tops kind end (record { constant = tops.constant; memory = tops.memory; register = tops.register; unique = end; other = tops.other })
  raised_unique e = record { is = rw e refl }

  pub raised_last : (kind ≡ 0 → ⊥) → (kind ≡ 1 → ⊥) → (kind ≡ 2 → ⊥) → (kind ≡ 3 → ⊥)
      → Raised tops kind end (record { constant = tops.constant; memory = tops.memory; register = tops.register; unique = tops.unique; other = end })
  raised_last a b c d = record { is = let e : min kind 4 ≡ 4 = omega arith in rw e refl }

-- the return of `pushed`
pub pushed_done : {tops out : Tops} {kind end top higher : ℕ} → TopOf tops kind top → higher ≡ max top end → Raised tops kind higher out → Pushed tops kind end out
pushed_done {tops} {out} {kind} {end} {top} {higher} t m r = record { own = omega (arith, here, m); kept = λ k. go k (eq_or_ne (min k 4) (min kind 4)) }
  where
    here : top_in out kind ≡ higher
    here = ap (λ (ts : List ℕ). get_or ts (min kind 4) 0) r.is ∙ get_or-set_same (tops_of tops) (min kind 4) higher 0 (omega arith)

    go : (k : ℕ) → (min k 4 ≡ min kind 4) ⊎ (min k 4 ≡ min kind 4 → ⊥) → top_in tops k ≤ top_in out k
    go k (inl e) = rw e (omega (arith, here, m, t.is))
    go k (inr n) = let same : top_in out k ≡ top_in tops k = ap (λ (ts : List ℕ). get_or ts (min k 4) 0) r.is ∙ get_or-set_other (tops_of tops) (min kind 4) (min k 4) higher 0 n in omega arith

pub ruleset topping = (top_constant, top_memory, top_register, top_unique, top_last, raised_constant, raised_memory, raised_register, raised_unique, raised_last)
