-- Laws of `with_runs` and of the sum of counts: what giving out the runs changes. Assumes nothing.
use mathlib.Core.Path.{◌≡◌, refl, ◌∙◌}
use mathlib.Core.Logic.{◌⊎◌, inl, inr}
use mathlib.Core.List.{List}
use Prim.Native.Nat.{ℕ, zero, suc, ◌+◌, ◌*◌, ◌≤◌, ◌<◌}
use native.Mathlib.Omega.{arith}
use native.Mathlib.Numerals.{add-one}
use lib.ListN.{length, set, length-set}
use Rattle.lists.proofs.Numbers.{eq_or_ne}
use Rattle.history.specs.Lent.{row_width}
use Rattle.tables.specs.Columns.{column, node_first, node_entries}
use Rattle.tables.specs.Sums.{plus_up_to}
use Rattle.segment_table.specs.Closed.{first_at, count_at}
use Rattle.segment_tree.specs.Count.{rows_in, entries_to}
use Rattle.segment_tree.specs.Runs.{up_to, with_runs, LikeButRuns}
use Rattle.segment_tree.proofs.NodeRows.{column_same, column_other, row_inside, entries_same}

module _ (t : List ℕ) where
  pub runs_length : (n : ℕ) → length (with_runs t n) ≡ length t
  unfolding with_runs
  runs_length zero = refl
  runs_length (suc n) = simp length-set (runs_length n)

  -- no other column changes
  pub runs_other : (n k j : ℕ) → j < row_width → (j ≡ node_first → ⊥) → column (with_runs t n) k j ≡ column t k j
  unfolding with_runs
  runs_other zero k j h apart = refl
  runs_other (suc n) k j h apart =
      column_other (with_runs t n) (suc n) node_first (up_to (entries_to t n)) (omega arith) k j h (λ _ e. apart e) ∙ runs_other n k j h apart

  -- and no other row
  pub runs_outside : (n k j : ℕ) → j < row_width → (k ≡ 0) ⊎ (n < k) → column (with_runs t n) k j ≡ column t k j
  unfolding with_runs
  runs_outside zero k j h o = refl
  runs_outside (suc n) k j h (inl z) =
      column_other (with_runs t n) (suc n) node_first (up_to (entries_to t n)) (omega arith) k j h (λ e _. omega arith) ∙ runs_outside n k j h (inl z)
  runs_outside (suc n) k j h (inr z) =
      column_other (with_runs t n) (suc n) node_first (up_to (entries_to t n)) (omega arith) k j h (λ e _. omega arith) ∙ runs_outside n k j h (inr (omega arith))

  pub runs_first : (n k : ℕ) → k < n → suc k ≤ rows_in t → first_at (with_runs t n) (suc k) ≡ up_to (entries_to t k)
  unfolding with_runs
  runs_first zero k h room = absurd (omega arith)
  runs_first (suc n) k h room =
      elim (eq_or_ne k n) [
        | inl e ↦ rw e (column_same (with_runs t n) (suc n) node_first (up_to (entries_to t n)) (omega arith) (rw (runs_length n) (row_inside t (suc n) node_first (omega arith) (omega arith) (omega arith))))
        | inr e ↦ column_other (with_runs t n) (suc n) node_first (up_to (entries_to t n)) (omega arith) (suc k) node_first (omega arith) (λ q _. e (omega arith)) ∙ runs_first n k (omega arith) room
      ]

  pub runs_like : (n : ℕ) → LikeButRuns t (with_runs t n)
  runs_like n = record { same = λ k j h o. elim o [ inl z ↦ runs_outside n k j h (inl z) | inr e ↦ runs_other n k j h e ] }

  -- the counts stay, and so do their sums
  pub runs_entries : (n k : ℕ) → entries_to (with_runs t n) k ≡ entries_to t k
  runs_entries n k = entries_same t (with_runs t n) k (λ i a b. runs_other n i node_entries (omega arith) (omega arith))

  -- ── none, one row more, all ──

  pub runs_none : (t ≡ with_runs t 0) × (0 ≡ up_to (entries_to t 0))
  unfolding with_runs entries_to
  runs_none = (refl, refl)

  module _ (j at : ℕ) (t₁ : List ℕ) (so_far : t₁ ≡ with_runs t j) (is : at ≡ up_to (entries_to t j)) where
    pub runs_more : {t' : List ℕ} → t' ≡ set t₁ (row_width * (j + 1) + node_first) at → t' ≡ with_runs t (j + 1)
    unfolding with_runs
    runs_more wrote = wrote ∙ rw (so_far, is, add-one)

    pub sum_more : {n sum : ℕ} → n ≡ count_at t₁ (j + 1) → sum ≡ plus_up_to at n → sum ≡ up_to (entries_to t (j + 1))
    unfolding entries_to
    sum_more {n} {sum} read added =
        let e : j + 1 ≡ suc j = omega arith in
        let same : count_at t₁ (j + 1) ≡ count_at t (j + 1) = rw so_far (runs_other j (j + 1) node_entries (omega arith) (omega arith)) in
        let here : count_at t (j + 1) ≡ count_at t (suc j) = rw e in
        rw e (omega arith)
