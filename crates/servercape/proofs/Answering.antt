-- The returns of the exported calls: an answer as its number. Assumes nothing.
use mathlib.Core.Path.{◌≡◌, refl, ap}
use Prim.Native.Nat.{ℕ}
use borrow.Author.Rules.{rules}
use borrow.Author.Tests.{ne_eqb}
use Rattle.std.specs.Prelude.{Option, Some, None, Ok, Err, Result as Told}
use Rattle.history.specs.Results.{Result}
use Rattle.history.specs.Refusals.{Answer}
use Rattle.layout.specs.Reads.{values_of}
use Rattle.layout.specs.Relations.{Near}
use Rattle.refusals.specs.declared.Refusal.{Refusal}
use Rattle.refusals.specs.Numbers.{number_of, answer_by}
use Rattle.refusals.proofs.Numbers.{some_number}
use Rattle.index_record.specs.Calls.{recorded}
use Rattle.touching_read.specs.Answers.{near_told}
use Rattle.servercape.specs.Numbers.{answer_of, ByNumber, ToldAs, told_by, Handed, flagged, Changes, changes, changes_of, near}

-- ── a result handed out ──

module _ {A B : Type 0} {gives : A → B} {x : Told A Refusal} {before : B} where
  pub handed_0 : {a : A} → x ≡ Ok a → Handed gives x 0 before (gives a)
  handed_0 is = rw is (record { numbered = refl; given = refl })

  pub handed_n : {e : Refusal} {n : ℕ} → x ≡ Err e → n ≡ number_of e → Handed gives x n before before
  handed_n is at = rw (is, at) (record { numbered = refl; given = refl })

pub ruleset handing = (handed_0, handed_n, rules)

-- ── by its number ──

-- A result of the call behind, of which `gives` says what it hands out.
pub by_number : {A B : Type 0} (gives : A → B) {R : Answer B → Type 0} {before after : B} {n : ℕ} (x : Told A Refusal)
    → R (answer_by gives x) → Handed gives x n before after → ByNumber R n before after
unfolding answer_of
by_number gives (Ok a) told h = rw (h.numbered, h.given) (record { answered = told; kept = λ n. absurd (n refl) })
by_number gives (Err e) told h =
    rw (h.numbered, h.given) (record { answered = rw (ne_eqb (number_of e) 0 (some_number e)) told; kept = λ _. refl })

-- one that gives nothing: each relation says so by a value of its own
pub by_done : {B : Type 0} {v : B} {R : Answer B → Type 0} {n : ℕ} (x : Told Unit Refusal) → R (answer_by (λ _. v) x) → n ≡ told_by x → ByNumber R n v v
by_done {v = v} (Ok u) told e = by_number (λ (_ : Unit {0}). v) (Ok u) told (record { numbered = e; given = refl })
by_done {v = v} (Err r) told e = by_number (λ (_ : Unit {0}). v) (Err r) told (record { numbered = e; given = refl })

-- a neighbour
near_handed : {n : ℕ} {before after : ℕ × ℕ} (x : Told (Option ℕ) Refusal) → Handed flagged x n before after
    → Handed near_told x n (near before.0 before.1) (near after.0 after.1)
near_handed (Ok (Some k)) h = record { numbered = h.numbered; given = ap (λ (p : ℕ × ℕ). near p.0 p.1) h.given }
near_handed (Ok None) h = record { numbered = h.numbered; given = ap (λ (p : ℕ × ℕ). near p.0 p.1) h.given }
near_handed (Err e) h = record { numbered = h.numbered; given = ap (λ (p : ℕ × ℕ). near p.0 p.1) h.given }

pub by_near : {R : Answer Near → Type 0} {n f k f' k' : ℕ} (x : Told (Option ℕ) Refusal) → R (answer_by near_told x) → Handed flagged x n (f, k) (f', k')
    → ByNumber R n (near f k) (near f' k')
by_near x told h = by_number near_told x told (near_handed x h)

-- what record hands out: two values of its answer
abbrev changed : Option ℕ → Changes
changed x = changes_of (recorded x)

told_changed : (R : Answer Result → Type 0) (x : Told (Option ℕ) Refusal) → R (answer_by recorded x) → ToldAs changes_of R (answer_by changed x)
told_changed R x told = record { behind = answer_by recorded x; holds = told; is = same x }
  where
    same : (x : Told (Option ℕ) Refusal) → answer_by changed x ≡ values_of changes_of (answer_by recorded x)
    same (Ok a) = refl
    same (Err e) = refl

changed_handed : {n : ℕ} {before after : ℕ × ℕ} (x : Told (Option ℕ) Refusal) → Handed flagged x n before after
    → Handed changed x n (changes before.0 before.1) (changes after.0 after.1)
changed_handed (Ok (Some k)) h = record { numbered = h.numbered; given = ap (λ (p : ℕ × ℕ). changes p.0 p.1) h.given }
changed_handed (Ok None) h = record { numbered = h.numbered; given = ap (λ (p : ℕ × ℕ). changes p.0 p.1) h.given }
changed_handed (Err e) h = record { numbered = h.numbered; given = ap (λ (p : ℕ × ℕ). changes p.0 p.1) h.given }

pub by_change : {R : Answer Result → Type 0} {n u c u' c' : ℕ} (x : Told (Option ℕ) Refusal) → R (answer_by recorded x) → Handed flagged x n (u, c) (u', c')
    → ByNumber (ToldAs changes_of R) n (changes u c) (changes u' c')
by_change {R} x told h = by_number changed x (told_changed R x told) (changed_handed x h)
