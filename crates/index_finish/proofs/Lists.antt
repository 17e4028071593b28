-- Laws of lists that finish needs and that know nothing of tables. Assumes nothing.
use mathlib.Core.Path.{◌≡◌}
use mathlib.Core.Logic.{inl, inr, ⊎_elim}
use mathlib.Core.List.{List}
use Prim.Native.Nat.{ℕ, ◌+◌, ◌≤◌, ◌<◌}
use native.Mathlib.Omega.{arith}
use lib.ListN.{length}
use Rattle.lists.specs.Lists.{Mem, Distinct, count, count_from}
use Rattle.lists.proofs.Numbers.{lt_or_le}
use Rattle.lists.proofs.Counting.{mem_count, count_mem, distinct_count, count_from_out, count_from_count, dense}

-- ── numbers in a row ──

-- n different numbers of 1 to n are there once each
pub counts_once : (n : ℕ) (xs : List ℕ) → Distinct xs → ((k : ℕ) → Mem k xs → (0 < k) × (k ≤ n)) → length xs ≡ n → (k : ℕ) → count k xs ≡ count k (count_from 1 n)
counts_once n xs once within many k = ⊎_elim below (λ p. ⊎_elim (inside p) above (lt_or_le k (1 + n))) (lt_or_le k 1)
  where
    none : ((0 < k) × (k ≤ n) → ⊥) → count k xs ≤ 0
    none out = ⊎_elim (λ h. absurd (out (within k (count_mem k xs h)))) (λ h. h) (lt_or_le 0 (count k xs))

    below : k < 1 → count k xs ≡ count k (count_from 1 n)
    below h = omega (arith, none (λ w. omega (arith, w.0)), count_from_out k 1 n (inl h))

    inside : 1 ≤ k → k < 1 + n → count k xs ≡ count k (count_from 1 n)
    inside p q = omega (arith, mem_count (dense n xs once within many k p (omega arith)), distinct_count k xs once, count_from_count k 1 n p q)

    above : 1 + n ≤ k → count k xs ≡ count k (count_from 1 n)
    above h = omega (arith, none (λ w. omega (arith, w.1)), count_from_out k 1 n (inr h))
