-- The state after finish. Whether open tables are well formed for finish is decided first: it asks for zeros and for rule 24. Assumes nothing.
use mathlib.Core.Path.{◌≡◌, refl, sym, ◌∙◌, ap, subst}
use mathlib.Core.Logic.{◌⊎◌, inl, inr, ⊎_elim}
use mathlib.Core.Bool.{Bool, true, false, true≢false}
use mathlib.Core.List.{List, [], ◌∷◌}
use Prim.Native.Nat.{ℕ, zero, suc}
use native.Mathlib.Omega.{arith}
use lib.ListN.{length, replicate}
use Rattle.lists.proofs.Numbers.{bool_cases}
use Rattle.history.specs.Rules.{apart, Apart}
use Rattle.history.specs.Ledger.{Ledger, finished, settled, finish_by}
use Rattle.history.specs.Results.{Result}
use Rattle.history.specs.Refusals.{Answer, accepted, refused}
use Rattle.history.proofs.EveryList.{finish_sound}
use Rattle.history.proofs.RulesLaws.{apart_decides}
use Rattle.layout.specs.Tables.{Tables}
use Rattle.layout.specs.Encodes.{state_of, closed_state}
use Rattle.layout.specs.Formed.{WellFormed, Blank, WellFormedForFinish}
use Rattle.layout.specs.Relations.{FinishLeaves, FinishedBy}
use Rattle.layout.proofs.Unique.{unique}
use Rattle.index_test.specs.declared.State.{State}
use Rattle.index_test.specs.declared.State.TheVariants.{Bad, Open, Closed}
use Rattle.index_tested.specs.Kept.{StandsIn, Kept}
use Rattle.index_tested.specs.Law.{FinishCloses}
use Rattle.index_tested.proofs.Keeping.{kept_closed}

-- ── well formed for finish, or not ──

abbrev Zeros : List ℕ → Type 0
Zeros l = l ≡ replicate (length l) 0

tail_same : {a b : ℕ} {l m : List ℕ} → a ∷ l ≡ b ∷ m → l ≡ m
tail_same e = cc

head_same : {a b : ℕ} {l m : List ℕ} → a ∷ l ≡ b ∷ m → a ≡ b
head_same e = cc

zeros_or : (l : List ℕ) → Zeros l ⊎ (Zeros l → ⊥)
zeros_or [] = inl refl
zeros_or (zero ∷ l) = ⊎_elim (λ e. inl (ap (λ (m : List ℕ). 0 ∷ m) e)) (λ n. inr (λ e. n (tail_same e))) (zeros_or l)
zeros_or (suc k ∷ l) = inr (λ e. let h : suc k ≡ 0 = head_same e in omega (arith, h))

blank_or : (t : Tables) → Blank t ⊎ (Blank t → ⊥)
blank_or t =
    ⊎_elim (λ n. ⊎_elim (λ e. inl (record { nodes = n; entries = e })) (λ x. inr (λ b. x b.entries)) (zeros_or t.entries)) (λ x. inr (λ b. x b.nodes))
    (zeros_or t.nodes)

-- zeros are asked of an open index alone
abbrev Due : Tables → Bool → Type 0
Due t done = done ≡ false → Blank t

due_or : (t : Tables) (done : Bool) → Due t done ⊎ (Due t done → ⊥)
due_or t true = inl (λ e. absurd (true≢false e))
due_or t false = ⊎_elim (λ b. inl (λ _. b)) (λ x. inr (λ f. x (f refl))) (blank_or t)

module _ {t : Tables} (w : WellFormed t) where
  -- there is one ledger
  by_one : (P : Ledger → Type 0) (v : WellFormedForFinish t) → P v.ledger → P w.ledger
  by_one P v = subst P (unique t v.ledger w.ledger v.encodes w.encodes)

  finish_or : WellFormedForFinish t ⊎ (WellFormedForFinish t → ⊥)
  finish_or =
      let bs = settled w.ledger.opening.end w.ledger.now in
      ⊎_elim
      (λ a. ⊎_elim
      (λ b. inl (record { ledger = w.ledger; encodes = w.encodes; sound = record { sound = w.sound; apart = (apart_decides bs).yes a }; blank = b }))
      (λ x. inr (λ v. x (by_one (λ (l : Ledger). Due t (finished l)) v v.blank)))
      (due_or t (finished w.ledger)))
      (λ x. inr (λ v. (apart_decides bs).not x (by_one (λ (l : Ledger). Apart (settled l.opening.end l.now)) v v.sound.apart)))
      (bool_cases (apart bs))

-- ── accepted ──

never : {r : Result} {n : ℕ} → ◌≡◌ {A = Answer Result} (accepted r) (refused n) → ⊥
never e = let z : ◌≡◌ {A = ℕ} 0 1 = cc in omega arith

closed_after : (l : Ledger) → state_of (finish_by l).trees ≡ closed_state
unfolding finish_by
closed_after l = refl

closes : (t t' : Tables) (r : Result) → Kept Open t → FinishedBy t t' (accepted r) → Kept Closed t'
closes t t' r k d = kept_closed refl (⊎_elim done (λ n. absurd (never (d.unformed n).0)) (finish_or (k.opened refl).formed))
  where
    done : WellFormedForFinish t → StandsIn closed_state t'
    done w =
        let f = d.formed w in
        let left : FinishLeaves (accepted r) w.ledger t t' = subst (λ (x : Answer Result). FinishLeaves x w.ledger t t') (sym f.0) f.1 in
        record {
          formed = record { ledger = finish_by w.ledger; encodes = left.0; sound = (finish_sound w.ledger (sym f.0) w.sound).sound };
          state = left.0.state ∙ closed_after w.ledger;
        }

-- ── refused ──

as_it_was : (t t' : Tables) (n : ℕ) → FinishedBy t t' (refused n) → WellFormedForFinish t ⊎ (WellFormedForFinish t → ⊥) → t' ≡ t
as_it_was t t' n d (inl w) = let f = d.formed w in subst (λ (x : Answer Result). FinishLeaves x w.ledger t t') (sym f.0) f.1
as_it_was t t' n d (inr x) = (d.unformed x).1

formed_or : (s : State) (t : Tables) → Kept s t → WellFormedForFinish t ⊎ (WellFormedForFinish t → ⊥)
formed_or Bad t k = inr (λ w. k.unformed refl (record { ledger = w.ledger; encodes = w.encodes; sound = w.sound.sound }))
formed_or Open t k = finish_or (k.opened refl).formed
formed_or Closed t k = finish_or (k.closed refl).formed

pub finish_closes : FinishCloses
finish_closes =
    record { closes = closes; stays = λ s t t' n k d. subst (λ (x : Tables). Kept s x) (sym (as_it_was t t' n d (formed_or s t k))) k }
