-- What the test found, turned into the answers 2, 3 and 4: one law for every call. Assumes nothing.
use mathlib.Core.Logic.{◌⊎◌, inl, inr}
use mathlib.Core.Path.{◌≡◌, refl, sym, subst}
use mathlib.Core.Bool.{Bool, true, false}
use Prim.Native.Nat.{ℕ}
use Rattle.history.specs.Lent.{too_short}
use Rattle.history.specs.Ledger.{Ledger, finished}
use Rattle.history.specs.Refusals.{Answer, refused}
use Rattle.layout.specs.Tables.{Tables}
use Rattle.layout.specs.Encodes.{Encodes}
use Rattle.layout.specs.Formed.{WellFormed}
use Rattle.layout.specs.Reads.{ReadBy, ClosedBy}
use Rattle.layout.proofs.ReadLaws.{still_open, is_closed, heads-held}
use Rattle.index_test.specs.Board.{OpenFormed, ClosedFormed, Outcome}
use Rattle.index_test.specs.declared.State.{State}
use Rattle.index_test.specs.declared.State.TheVariants.{Bad, Open, Closed}
use Rattle.index_test.proofs.Tested.{passes_formed, open_passes, closed_passes}
use Rattle.std.specs.Prelude.{Ok, Err}
use Rattle.refusals.specs.declared.Refusal.{Refusal}
use Rattle.refusals.specs.declared.Refusal.TheVariants.{Malformed, Finished, NotFinished}
use Rattle.refusals.specs.Numbers.{number_of}
use Rattle.index_test.specs.States.{when_formed, when_open, when_closed}

-- ── what was found ──

-- the tables stand for a sound ledger, and every ledger that they stand for is finished or not
pub record Stands (t : Tables) (done : Bool) : Type 0 where
  pub formed : WellFormed t
  pub state : (l : Ledger) → Encodes t l → finished l ≡ done

module _ {t : Tables} {r : State} (told : Outcome r t) where
  pub told_bad : r ≡ Bad → WellFormed t → ⊥
  told_bad e = subst (λ (x : State). Outcome x t) e told

  pub told_open : r ≡ Open → Stands t false
  told_open e =
      let o : OpenFormed t = subst (λ (x : State). Outcome x t) e told in
      record { formed = passes_formed (open_passes t o); state = λ l enc. still_open enc o.state }

  pub told_closed : r ≡ Closed → Stands t true
  told_closed e =
      let c : ClosedFormed t = subst (λ (x : State). Outcome x t) e told in
      record { formed = passes_formed (closed_passes t c); state = λ l enc. is_closed enc c.state }

-- ── the answers ──

-- a call whose refusals begin with 2 for heads and n for a state is refused n in that state
abbrev pub Refuses : {A : Type 0} → (asked : Ledger → Answer A) (state : Bool) (n : ℕ) → Type 0
Refuses asked state n = (l : Ledger) → too_short l.opening.lent ≡ false → finished l ≡ state → asked l ≡ refused n

-- 3 and 4 of tables in that state
pub stands_refuses : {A : Type 0} {asked : Ledger → Answer A} {t : Tables} {done : Bool} {n : ℕ} → Stands t done → Refuses asked done n → (l : Ledger) → Encodes t l
    → asked l ≡ refused n
stands_refuses s refuses l e = refuses l (heads-held e) (s.state l e)

-- ── by the state alone ──

-- what a refusal by the state is
module _ {t : Tables} (e : Refusal) where
  pub formed_refused : (r : State) → Outcome r t → when_formed r ≡ Err e → (WellFormed t → ⊥) × (number_of e ≡ 2)
  formed_refused Bad told is = let q : e ≡ Malformed = cc in (told, rw q refl)
  formed_refused Open told is = cc
  formed_refused Closed told is = cc

  pub open_refused : (r : State) → Outcome r t → when_open r ≡ Err e → ((WellFormed t → ⊥) × (number_of e ≡ 2)) ⊎ (Stands t true × (number_of e ≡ 3))
  open_refused Bad told is = let q : e ≡ Malformed = cc in inl (told, rw q refl)
  open_refused Closed told is = let q : e ≡ Finished = cc in inr (told_closed told refl, rw q refl)
  open_refused Open told is = cc

  pub closed_refused : (r : State) → Outcome r t → when_closed r ≡ Err e → ((WellFormed t → ⊥) × (number_of e ≡ 2)) ⊎ (Stands t false × (number_of e ≡ 4))
  closed_refused Bad told is = let q : e ≡ Malformed = cc in inl (told, rw q refl)
  closed_refused Open told is = let q : e ≡ NotFinished = cc in inr (told_open told refl, rw q refl)
  closed_refused Closed told is = cc

-- and what being taken is
module _ {t : Tables} {u : Unit} where
  pub formed_taken : (r : State) → Outcome r t → when_formed r ≡ Ok u → WellFormed t
  formed_taken Bad told is = cc
  formed_taken Open told is = (told_open told refl).formed
  formed_taken Closed told is = (told_closed told refl).formed

  pub open_taken : (r : State) → Outcome r t → when_open r ≡ Ok u → Stands t false
  open_taken Bad told is = cc
  open_taken Closed told is = cc
  open_taken Open told is = told_open told refl

  pub closed_taken : (r : State) → Outcome r t → when_closed r ≡ Ok u → Stands t true
  closed_taken Bad told is = cc
  closed_taken Open told is = cc
  closed_taken Closed told is = told_closed told refl

-- A read of an open or a closed index, refused by the state.
pub read_not_formed : {A : Type 0} {asked : Ledger → Answer A} {t : Tables} {e : Refusal} (Handed : ℕ → Answer A → Type 0) (r : State) → Outcome r t → when_formed r ≡ Err e
    → Handed 2 (refused 2) → ReadBy t asked (Handed (number_of e))
read_not_formed {e = e} Handed r told is h =
    let q = formed_refused e r told is in
    rw q.1 (record { formed = λ l enc s. absurd (q.0 (record { ledger = l; encodes = enc; sound = s })); unformed = λ _. h })

-- A read of a closed index, refused by the state: 2 of tables that stand for none, 4 of an open index.
pub refused_read : {A : Type 0} {asked : Ledger → Answer A} {t : Tables} (e : Refusal) (Handed : ℕ → Answer A → Type 0)
    → ((WellFormed t → ⊥) × (number_of e ≡ 2)) ⊎ (Stands t false × (number_of e ≡ 4)) → Refuses asked false 4 → ((n : ℕ) → Handed n (refused n)) → ReadBy t asked (Handed (number_of e))
refused_read {A} e Handed why refuses h = elim why [
  | inl q ↦ rw q.1 (record { formed = λ l enc s. absurd (q.0 (record { ledger = l; encodes = enc; sound = s })); unformed = λ _. h 2 })
  | inr q ↦
      rw q.1
      (record { formed = λ l enc _. subst (λ (x : Answer A). Handed 4 x) (sym (stands_refuses q.0 refuses l enc)) (h 4); unformed = λ n. absurd (n q.0.formed) })
]

pub read_not_closed : {A : Type 0} {asked : Ledger → Answer A} {t : Tables} {e : Refusal} (Handed : ℕ → Answer A → Type 0) (r : State) → Outcome r t → when_closed r ≡ Err e
    → Refuses asked false 4 → ((n : ℕ) → Handed n (refused n)) → ReadBy t asked (Handed (number_of e))
read_not_closed {e = e} Handed r told is refuses h = refused_read e Handed (closed_refused e r told is) refuses h

-- And one of a closed index.
pub closed_read : {A : Type 0} {asked : Ledger → Answer A} {Handed : Answer A → Type 0} {t : Tables} → Stands t true → ClosedBy t asked Handed → ReadBy t asked Handed
closed_read s inner = record { formed = λ l enc sound. inner.closed l enc sound (s.state l enc); unformed = λ n. absurd (n s.formed) }
