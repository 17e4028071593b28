-- The rest of a list that a loop goes through by number: what one turn leaves of it, and what a test of all says at each turn. Assumes nothing.
use mathlib.Core.Path.{◌≡◌, refl}
use mathlib.Core.Bool.{Bool}
use mathlib.Core.List.{[], ◌∷◌, map}
use Prim.Native.Nat.{ℕ, zero, suc, ◌+◌, ◌-◌, ◌≤◌, ◌<◌}
use native.Mathlib.Omega.{arith}
use native.Mathlib.Numerals.{add-one}
use Rattle.lists.specs.Lists.{count_from}
use Rattle.std.specs.List.{list_all, range_with_len}
use Rattle.history.specs.Rules.{every}

-- ── the rest ──

pub rows_more : {A : Type 0} (f : ℕ → A) (k n : ℕ) → k < n → map f (count_from k (n - k)) ≡ f k ∷ map f (count_from (k + 1) (n - (k + 1)))
unfolding count_from
rows_more f k n h =
    let e : n - k ≡ suc (n - suc k) = omega arith in
    rw (add-one, e)

pub rows_none : {A : Type 0} (f : ℕ → A) (k n : ℕ) → n ≤ k → map f (count_from k (n - k)) ≡ []
unfolding count_from
rows_none f k n h =
    let e : n - k ≡ 0 = omega arith in
    rw e

pub rows_all : {A : Type 0} (f : ℕ → A) (n : ℕ) → map f (count_from 0 n) ≡ map f (count_from 0 (n - 0))
rows_all f n =
    let e : n - 0 ≡ n = omega arith in
    rw e

pub rows_range : (k n : ℕ) → range_with_len k n ≡ count_from k n
unfolding count_from
rows_range k zero = refl
rows_range k (suc n) = rw (add-one, rows_range (suc k) n)

-- ── a test of all ──

pub every_rows : {A : Type 0} (t : A → Bool) (f : ℕ → A) (k n : ℕ) → every t (map f (count_from k n)) ≡ list_all (λ j. t (f j)) (range_with_len k n)
unfolding every count_from
every_rows t f k zero = refl
every_rows t f k (suc n) = rw (add-one, every_rows t f (suc k) n)
