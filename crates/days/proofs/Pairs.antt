-- The pairs of a slice: how many, and the next one. Assumes nothing.
use mathlib.Core.Path.{◌≡◌, refl, sym, ap, ◌∙◌}
use mathlib.Core.List.{List, [], ◌∷◌, ◌++◌}
use Prim.Native.Nat.{ℕ, zero, suc, ◌+◌, ◌*◌, ◌/◌, ◌%◌, ◌≤◌, ◌<◌, min}
use native.Mathlib.Omega.{arith}
use lib.ListN.{length, get_or, drop, length-drop, drop_of_length-le}
use lib.Seq.{get_or-drop, drop-drop}
use Rattle.history.specs.Days.{Day, days_of}

-- ── pairs ──

pub days_count : (l : List ℕ) → length l / 2 + length l % 2 ≡ length (days_of l)
unfolding days_of
days_count [] = refl
days_count (day ∷ []) = refl
days_count (day ∷ minutes ∷ rest) = omega (arith, days_count rest)

-- pair k of a slice; past the end it is 0 and 0
abbrev pub pair_at : List ℕ → (k : ℕ) → Day
pair_at l k = record { day = get_or l (2 * k) 0; minutes = get_or l (2 * k + 1) 0 }

pub first_pair : (l : List ℕ) → 0 < length l → days_of l ≡ record { day = get_or l 0 0; minutes = get_or l 1 0 } ∷ days_of (drop 2 l)
unfolding days_of
first_pair [] h = absurd (omega arith)
first_pair (day ∷ []) h = refl
first_pair (day ∷ minutes ∷ rest) h = refl

pub days_next : (l : List ℕ) (k : ℕ) → k < length (days_of l) → days_of (drop (2 * k) l) ≡ pair_at l k ∷ days_of (drop (2 * (k + 1)) l)
days_next l k h =
    let here : 2 * k + 0 ≡ 2 * k = omega arith in
    let next : 2 * k + 2 ≡ 2 * (k + 1) = omega arith in
    first_pair (drop (2 * k) l) (omega (arith, days_count l, length-drop (2 * k) l))
    ∙ rw (get_or-drop (2 * k) l 0 0, get_or-drop (2 * k) l 1 0, drop-drop 2 (2 * k) l, here, next)

pub days_end : (l : List ℕ) (k : ℕ) → length (days_of l) ≤ k → days_of (drop (2 * k) l) ≡ []
unfolding days_of
days_end l k h = rw (drop_of_length-le l {i = 2 * k} (omega (arith, days_count l)))

-- the pair in front of others, as a part of the slice
pub pair_next : (l pair rest : List ℕ) → 0 < length l → l ≡ pair ++ rest → length pair ≡ min 2 (length l)
    → days_of l ≡ record { day = get_or pair 0 0; minutes = get_or pair 1 0 } ∷ days_of rest
unfolding days_of
pair_next l [] rest h e s = absurd (omega arith)
pair_next l (day ∷ []) [] h e s = rw e
pair_next l (day ∷ []) (x ∷ rest) h e s = absurd (omega (arith, ap length e))
pair_next l (day ∷ minutes ∷ []) rest h e s = rw e
pair_next l (day ∷ minutes ∷ x ∷ more) rest h e s = absurd (omega arith)

-- ── lists of the same numbers ──

no_days : (days : List Day) → length days ≡ 0 → days ≡ []
no_days [] e = refl
no_days (x ∷ xs) e = absurd (omega arith)

-- as many days, and the same numbers as far as they go
pub days_alike : (n : ℕ) (a b : List ℕ) → length (days_of a) ≡ n → length (days_of b) ≡ n → ((i : ℕ) → i < 2 * n → get_or a i 0 ≡ get_or b i 0) → days_of a ≡ days_of b
days_alike zero a b p q same = no_days (days_of a) p ∙ sym (no_days (days_of b) q)
days_alike (suc n) a b p q same =
    let first = first_pair a (omega (arith, days_count a)) in
    let second = first_pair b (omega (arith, days_count b)) in
    let rest = days_alike n (drop 2 a) (drop 2 b) (omega (arith, ap length first)) (omega (arith, ap length second))
    (λ i h. get_or-drop 2 a i 0 ∙ same (2 + i) (omega arith) ∙ sym (get_or-drop 2 b i 0)) in
    first ∙ rw (same 0 (omega arith), same 1 (omega arith), rest) (sym second)
