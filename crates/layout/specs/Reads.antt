-- A read: what is asked of the ledger that tables stand for, and what is handed out for its answer. Every contract of a read is made of this.
-- Definitions alone.
use Rattle.std.specs.Prelude.{◌≡◌, true, List, ℕ}
use Rattle.std.proofs.lemmas.List.Edits.{sets}
use Rattle.history.specs.Ledger.{Ledger, finished}
use Rattle.history.specs.Refusals.{Answer, accepted, refused}
use Rattle.history.specs.Sound.{Sound}
use Rattle.layout.specs.Tables.{Tables}
use Rattle.layout.specs.Encodes.{Encodes}
use Rattle.layout.specs.Formed.{WellFormed}

-- ── what is handed out ──

-- the values of an answer, made of what the ledger gives; a refusal keeps its number
abbrev pub values_of : {A B : Type 0} → (A → B) → Answer A → Answer B
values_of values (accepted a) = accepted (values a)
values_of values (refused n) = refused n

-- a lent slice afterwards: filled from its front on, and the rest as it was; on a refusal all of it
abbrev pub filled_by : {A : Type 0} → (A → List ℕ) → Answer A → List ℕ → List ℕ
filled_by part (accepted a) out = sets out 0 (part a)
filled_by part (refused n) out = out

-- the answer alone, of a read that is lent no slice
pub record HandedOut {A B : Type 0} (values : A → B) (answer : Answer B) (x : Answer A) : Type 0 where
  pub answered : answer ≡ values_of values x

-- the answer, and a part of what the ledger gives in a lent slice
pub record HandedInto {A B : Type 0} (values : A → B) (part : A → List ℕ) (out out' : List ℕ) (answer : Answer B) (x : Answer A) : Type 0 where
  pub answered : answer ≡ values_of values x
  pub left : out' ≡ filled_by part x out

-- ── the relation ──

-- Of tables that stand for a sound ledger its answer is handed out; of tables that stand for none, refusal 2.
pub record ReadBy {A : Type 0} (t : Tables) (asked : Ledger → Answer A) (Handed : Answer A → Type 0) : Type 0 where
  pub formed : (l : Ledger) → Encodes t l → Sound l → Handed (asked l)
  pub unformed : (WellFormed t → ⊥) → Handed (refused 2)

-- the same of the tables of a closed index, which the inner call behind a read does not test
pub record ClosedBy {A : Type 0} (t : Tables) (asked : Ledger → Answer A) (Handed : Answer A → Type 0) : Type 0 where
  pub closed : (l : Ledger) → Encodes t l → Sound l → finished l ≡ true → Handed (asked l)
