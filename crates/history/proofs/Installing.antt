-- The calls that go by a calendar: 26 exactly outside hours, and what install leaves. Assumes nothing.
use mathlib.Core.Path.{◌≡◌, refl, sym, ap, ◌∙◌}
use mathlib.Core.Bool.{Bool, true, false, cond, false≢true}
use mathlib.Core.Option.{Option, none, some}
use mathlib.Core.List.{List, [], ◌∷◌, ◌++◌, map}
use Prim.Native.Nat.{ℕ}
use native.Mathlib.Omega.{arith}
use lib.Dec.{eqb}
use borrow.Author.Tests.{eq-eqb}
use Rattle.lists.specs.Lists.{All, all_nil, all_cons, Mem, here, there}
use Rattle.lists.proofs.Numbers.{decided}
use Rattle.history.specs.Words.{Operation}
use Rattle.history.specs.Hours.{Calendar, calendar_of, closed_cell, closed_by}
use Rattle.history.specs.Ledger.{Opening, Ledger, opened, is_some, record_by, finish_by, install_by, install_days_by}
use Rattle.history.specs.Results.{Result}
use Rattle.history.specs.Refusals.{Answer, accepted, refused, Refusal, ◌if◌, first_of, record_refusals, record_answer, finish_refusals, days_refusals}
use Rattle.history.specs.Calls.{Call, record_call, finish_call, calendar_call, days_call, answer_to, accepted_by, leaves, after, answers}
use Rattle.history.specs.HoursLaw.{OutsideHours, ByThen, NotInstall, LawOfInstalling, LawOfHours}
use Rattle.history.proofs.HoursLaws.{law_of_plain_days, law_of_opening, closed_decides, law_of_closing}

-- ── the first of a list ──

-- it is the number of one whose condition holds
pub only : {A : Type 0} (rs : List Refusal) (a : A) (n : ℕ) (P : Type 0) → first_of rs a ≡ refused n → All (λ r. r.number ≡ n → r.holds ≡ true → P) rs → P
unfolding first_of
only [] a n P e k = let z : ◌≡◌ {A = ℕ} 0 1 = cc in absurd (omega arith)
only {A} (r ∷ rs) a n P e (all_cons k ks) = go r.holds refl e (λ f. only rs a n P f ks)
  where
    number_of : Answer A → ℕ
    number_of (accepted x) = 0
    number_of (refused m) = m

    go : (b : Bool) → r.holds ≡ b → cond b (refused r.number) (first_of rs a) ≡ refused n → (first_of rs a ≡ refused n → P) → P
    go true q f later = k (ap number_of f) q
    go false q f later = later f

-- not that of another
other : {P : Type 0} {n m : ℕ} {b : Bool} → eqb n m ≡ false → n ≡ m → b ≡ true → P
other {n = n} {m} q e h = absurd (false≢true (sym q ∙ eq-eqb n m e))

-- where a condition holds, it is its number or one of those before it
by_then : {A : Type 0} (front : List Refusal) (r : Refusal) (back : List Refusal) (a : A) → r.holds ≡ true
    → (n : ℕ) × (first_of (front ++ (r ∷ back)) a ≡ refused n) × Mem n (map (λ s. s.number) front ++ (r.number ∷ []))
unfolding first_of
by_then [] r back a e = (r.number, rw e, here refl)
by_then {A} (f ∷ fs) r back a e = go f.holds (by_then fs r back a e)
  where
    go : (b : Bool) → (n : ℕ) × (first_of (fs ++ (r ∷ back)) a ≡ refused n) × Mem n (map (λ s. s.number) fs ++ (r.number ∷ []))
        → (n : ℕ) × (cond b (refused f.number) (first_of (fs ++ (r ∷ back)) a) ≡ refused n) × Mem n (map (λ s. s.number) (f ∷ fs) ++ (r.number ∷ []))
    go true k = (f.number, refl, here refl)
    go false k = (k.0, k.1, there k.2)

-- ── 26 ──

module _ (l : Ledger) (o : Operation) where
  outside_by : closed_by l.days l.calendar o.first o.bytes ≡ true → OutsideHours l o
  outside_by = go l.calendar refl
    where
      go : (x : Option Calendar) → l.calendar ≡ x → closed_by l.days x o.first o.bytes ≡ true → OutsideHours l o
      go none e c = absurd (false≢true c)
      go (some x) e c = record { calendar = x; installed = e; closed = (closed_decides l.days x o.first o.bytes).yes c }

  closed_outside : OutsideHours l o → closed_by l.days l.calendar o.first o.bytes ≡ true
  closed_outside x = rw x.installed (decided (closed_cell l.days x.calendar o.first o.bytes) (closed_decides l.days x.calendar o.first o.bytes) x.closed)

  pub given_outside : (scratch : ℕ) → record_answer l scratch o ≡ refused 26 → OutsideHours l o
  unfolding record_refusals
  given_outside scratch e =
      only (record_refusals l scratch o) _ 26 (OutsideHours l o) e
      (all_cons (other refl) (all_cons (other refl) (all_cons (other refl) (all_cons (other refl) (all_cons (other refl) (all_cons (other refl) (all_cons (other refl)
      (all_cons (λ _ c. outside_by c)
      (all_cons (other refl) (all_cons (other refl) (all_cons (other refl) all_nil)))))))))))

  pub outside_refused : (scratch : ℕ) → OutsideHours l o → ByThen (record_answer l scratch o)
  unfolding record_refusals
  outside_refused scratch x =
      let k =
      by_then (2 if _ ∷ 3 if _ ∷ 25 if _ ∷ 5 if _ ∷ 6 if _ ∷ 7 if _ ∷ 8 if _ ∷ []) (26 if _) (9 if _ ∷ 10 if _ ∷ 11 if _ ∷ []) _ (closed_outside x) in
      record { number = k.0; refuses = k.1; known = k.2 }

-- ── from call to call ──

-- no call but install changes the calendar
pub kept : (l : Ledger) (k : Call) → NotInstall k → (after l k).calendar ≡ l.calendar
unfolding after leaves accepted_by record_by finish_by install_days_by
kept l k n = go k n (answer_to l k)
  where
    go : (k : Call) → NotInstall k → (x : Answer Result) → (leaves x l (accepted_by l k)).calendar ≡ l.calendar
    go (record_call scratch o) n (accepted a) = refl
    go (record_call scratch o) n (refused m) = refl
    go finish_call n (accepted a) = refl
    go finish_call n (refused m) = refl
    go (calendar_call numbers) n x = absurd n
    go (days_call numbers) n (accepted a) = refl
    go (days_call numbers) n (refused m) = refl

pub replaced : (l : Ledger) (numbers : List ℕ) {r : Result} → answer_to l (calendar_call numbers) ≡ accepted r
    → (after l (calendar_call numbers)).calendar ≡ some (calendar_of numbers)
unfolding after leaves accepted_by install_by
replaced l numbers e = rw e

refused_kept : (l : Ledger) (k : Call) (n : ℕ) → answer_to l k ≡ refused n → (after l k).calendar ≡ l.calendar
unfolding after leaves
refused_kept l k n e = rw e

-- ── until the first install ──

no_calendar : {c : Calendar} {x : Option Calendar} → x ≡ none → x ≡ some c → ⊥
no_calendar e f = let z : none ≡ some _ = sym e ∙ f in absurd (false≢true (ap is_some z))

not_26 : (l : Ledger) (k : Call) → NotInstall k → l.calendar ≡ none → answer_to l k ≡ refused 26 → ⊥
unfolding answer_to finish_refusals days_refusals
not_26 l (record_call scratch o) n e x = let out = given_outside l o scratch x in no_calendar e out.installed
not_26 l finish_call n e x = only (finish_refusals l) _ 26 ⊥ x (all_cons (other refl) (all_cons (other refl) (all_cons (other refl) (all_cons (other refl) all_nil))))
not_26 l (calendar_call numbers) n e x = absurd n
not_26 l (days_call numbers) n e x = only (days_refusals l numbers) _ 26 ⊥ x (all_cons (other refl) (all_cons (other refl) all_nil))

none_refused : (ks : List Call) (l : Ledger) → l.calendar ≡ none → All NotInstall ks → All (λ x. x ≡ refused 26 → ⊥) (answers l ks)
unfolding answers
none_refused [] l e all_nil = all_nil
none_refused (k ∷ ks) l e (all_cons n ns) = all_cons (not_26 l k n e) (none_refused ks (after l k) (kept l k n ∙ e) ns)

until_first : (a : Opening) (ks : List Call) → All NotInstall ks → All (λ x. x ≡ refused 26 → ⊥) (answers (opened a) ks)
unfolding opened
until_first a ks n = none_refused ks (opened a) refl n

pub law_of_installing : LawOfInstalling
law_of_installing = record {
  outside = λ l scratch o. given_outside l o scratch;
  refuses = λ l scratch o. outside_refused l o scratch;
  until_first = until_first;
  replaced = replaced;
  kept = kept;
  refused_kept = refused_kept;
}

pub law_of_hours : LawOfHours
law_of_hours = record { days = law_of_plain_days; opening = law_of_opening; closing = law_of_closing; installing = law_of_installing }
