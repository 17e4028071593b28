-- The laws of length_of and span_of: days that are not listed, one listed day left out, stretches one after the other. Assumes nothing.
use mathlib.Core.Path.{◌≡◌, refl, sym, ap, ◌∙◌}
use mathlib.Core.List.{List, [], ◌∷◌}
use Prim.Native.Nat.{ℕ, zero, suc, ◌+◌, ◌*◌, ◌≤◌, ◌<◌}
use native.Mathlib.Nat.{zero-add, add-zero}
use native.Mathlib.Omega.{arith}
use borrow.Author.Tests.{eq-eqb, ne_eqb}
use Rattle.lists.specs.Lists.{All, all_nil, all_cons, Mem, here, there, count_from, sum_of}
use Rattle.lists.proofs.Lists.{all_mem}
use Rattle.history.specs.Days.{Day, day_minutes, DaysTaken, length_of, span_of, start_of}
use Rattle.history.proofs.DaysRising.{Rises, rises_nil, rises_cons, rises_all, taken-rises}

-- ── the length of a day ──

pub length_here : (e : Day) (es : List Day) → length_of (e ∷ es) e.day ≡ e.minutes
unfolding length_of
length_here e es = rw (eq-eqb e.day e.day refl)

pub length_other : (e : Day) (es : List Day) (d : ℕ) → (e.day ≡ d → ⊥) → length_of (e ∷ es) d ≡ length_of es d
unfolding length_of
length_other e es d n = rw (ne_eqb e.day d n)

-- below all listed days
pub length_low : {from : ℕ} {es : List Day} (d : ℕ) → d < from → Rises from es → length_of es d ≡ day_minutes
unfolding length_of
length_low d h rises_nil = refl
length_low d h (rises_cons {from} {e} {es} p q r) = length_other e es d (λ x. omega arith) ∙ length_low d (omega arith) r

-- a listed day, and one that is not
length_of_listed : {from : ℕ} {es : List Day} (e : Day) → Rises from es → Mem e es → length_of es e.day ≡ e.minutes
length_of_listed d (rises_nil {from = from}) x4 = elim x4 [ ]
length_of_listed d (rises_cons {from} {e} {es} p q r) (here same) = rw same (length_here e es)
length_of_listed d (rises_cons {from} {e} {es} p q r) (there m) =
    length_other e es d.day (λ z. omega (arith, all_mem (rises_all r) m)) ∙ length_of_listed d r m

pub length-listed : (es : List Day) (e : Day) → DaysTaken es → Mem e es → length_of es e.day ≡ e.minutes
length-listed es e t m = length_of_listed e (taken-rises t) m

pub length-unlisted : (es : List Day) (d : ℕ) → All (λ (e : Day). e.day ≡ d → ⊥) es → length_of es d ≡ day_minutes
unfolding length_of
length-unlisted [] d all_nil = refl
length-unlisted (e ∷ es) d (all_cons n ns) = length_other e es d n ∙ length-unlisted es d ns

-- ── stretches of days ──

pub span_none : (es : List Day) (from : ℕ) → span_of es from 0 ≡ 0
unfolding span_of count_from sum_of
span_none es from = refl

pub span_first : (es : List Day) (from n : ℕ) → span_of es from (suc n) ≡ length_of es from + span_of es (suc from) n
unfolding span_of count_from sum_of
span_first es from n = refl

-- one stretch after the other
pub span_add : (es : List Day) (from n k : ℕ) → span_of es from (n + k) ≡ span_of es from n + span_of es (from + n) k
span_add es from zero k =
    omega (arith, span_none es from, ap (span_of es from) (zero-add k), ap (λ (x : ℕ). span_of es x k) (add-zero from))
span_add es from (suc n) k =
    ap (span_of es from) (past n k)
    ∙ omega (arith, span_first es from (n + k), span_first es from n, span_add es (suc from) n k, ap (λ (x : ℕ). span_of es x k) (shift from n))
  where
    past : (a b : ℕ) → suc a + b ≡ suc (a + b)
    past a b = omega arith

    shift : (a b : ℕ) → suc a + b ≡ a + suc b
    shift a b = omega arith

-- days before all listed ones
pub span_low : {top : ℕ} {es : List Day} (from n : ℕ) → from + n ≤ top → Rises top es → span_of es from n ≡ n * day_minutes
span_low {top} {es} from zero h r = span_none es from
span_low {top} {es} from (suc n) h r =
    span_first es from n ∙ omega (arith, length_low from (omega arith) r, span_low (suc from) n (omega arith) r)

-- days after the first listed one
pub span_after : (e : Day) (es : List Day) (from n : ℕ) → e.day < from → span_of (e ∷ es) from n ≡ span_of es from n
span_after e es from zero h = span_none (e ∷ es) from ∙ sym (span_none es from)
span_after e es from (suc n) h =
    span_first (e ∷ es) from n
    ∙ omega (arith, length_other e es from (λ x. omega arith), span_after e es (suc from) n (omega arith), span_first es from n)

-- ── the starts of days ──

pub start_none : (es : List Day) → start_of es 0 ≡ 0
unfolding start_of
start_none es = span_none es 0

pub start_next : (es : List Day) (d : ℕ) → start_of es (suc d) ≡ start_of es d + length_of es d
unfolding start_of
start_next es d =
    ap (span_of es 0) (one d) ∙ omega (arith, span_add es 0 d 1, span_first es (0 + d) 0, span_none es (suc (0 + d)), ap (length_of es) (zero-add d))
  where
    one : (a : ℕ) → suc a ≡ a + 1
    one a = omega arith

-- a later day starts no earlier
pub start_up : (es : List Day) (d k : ℕ) → start_of es d ≤ start_of es (d + k)
unfolding start_of
start_up es d k = omega (arith, span_add es 0 d k)
