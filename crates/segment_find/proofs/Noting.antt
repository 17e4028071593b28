-- Laws of what is noted: the block numbers in the rows, one place more, fewer places, other notes that agree; and the links. Assumes nothing.
use mathlib.Core.Path.{◌≡◌, refl, ◌∙◌, ap}
use mathlib.Core.Logic.{⊎_elim}
use mathlib.Core.List.{List, [], ◌∷◌, ◌++◌}
use Prim.Native.Nat.{ℕ, zero, suc, ◌+◌, ◌-◌, ◌≤◌, ◌<◌}
use native.Mathlib.Omega.{arith}
use lib.ListN.{length, get_or, set, length-append, length-set}
use lib.Seq.{get_or-set_same, get_or-set_other}
use Rattle.lists.proofs.Numbers.{le_or_lt}
use Rattle.segment_table.proofs.Closed.{run_length}
use Rattle.segment_walk.specs.declared.rows.Rows.{Rows}
use Rattle.segment_walk.specs.Rowing.{blocks_in}
use Rattle.segment_find.specs.Notes.{no_rows, rows_in, links_noted, noted}

module _ (entries : List ℕ) where
  pub noted_next : (notes : List Rows) (k : ℕ) → noted entries notes (k + 1) ≡ noted entries notes k ++ blocks_in entries (rows_in notes k)
  unfolding noted
  noted_next notes k = let e : k + 1 ≡ suc k = omega arith in rw e

  pub noted-count : (notes : List Rows) (k : ℕ)
      → length (noted entries notes (k + 1)) ≡ length (noted entries notes k) + ((rows_in notes k).to - (rows_in notes k).from)
  noted-count notes k =
      ap length (noted_next notes k) ∙ length-append (noted entries notes k) (blocks_in entries (rows_in notes k))
      ∙ ap (λ (n : ℕ). length (noted entries notes k) + n) (run_length entries (rows_in notes k).from ((rows_in notes k).to - (rows_in notes k).from))

  pub noted_grows : (notes : List Rows) (j k : ℕ) → j ≤ k → length (noted entries notes j) ≤ length (noted entries notes k)
  noted_grows notes j zero h = let e : j ≡ zero = omega arith in rw e (omega arith)
  noted_grows notes j (suc k) h =
      ⊎_elim
      (λ (l : j ≤ k). let e : suc k ≡ k + 1 = omega arith in rw e (omega (arith, noted_grows notes j k l, noted-count notes k)))
      (λ (l : k < j). let e : j ≡ suc k = omega arith in rw e (omega arith))
      (le_or_lt j k)

  pub noted_agree : (notes notes' : List Rows) (k : ℕ) → ((i : ℕ) → i < k → rows_in notes' i ≡ rows_in notes i) → noted entries notes' k ≡ noted entries notes k
  unfolding noted
  noted_agree notes notes' zero same = refl
  noted_agree notes notes' (suc k) same =
      rw (noted_agree notes notes' k (λ i h. same i (omega arith))) (ap (λ (r : Rows). noted entries notes k ++ blocks_in entries r) (same k (omega arith)))

-- ── links noted ──

-- what stands in front of the links is as it was
links_out : (links : List ℕ) (notes : List Rows) (at i : ℕ) → i < at → rows_in (links_noted notes at links) i ≡ rows_in notes i
unfolding links_noted
links_out [] notes at i h = refl
links_out (k ∷ ks) notes at i h =
    let r : Rows = record { from = k; to = (rows_in notes at).to } in
    links_out ks (set notes at r) (suc at) i (omega arith) ∙ get_or-set_other notes at i r no_rows (omega arith)

pub links_in : (links : List ℕ) (notes : List Rows) (at j : ℕ) → at + length links ≤ length notes → j < length links
    → (rows_in (links_noted notes at links) (at + j)).from ≡ get_or links j 0
unfolding links_noted
links_in [] notes at j h z = absurd (omega arith)
links_in (k ∷ ks) notes at zero h z =
    let e : at + 0 ≡ at = omega arith in
    let r : Rows = record { from = k; to = (rows_in notes at).to } in
    rw e (ap (λ (q : Rows). q.from) (links_out ks (set notes at r) (suc at) at (omega arith) ∙ get_or-set_same notes at r no_rows (omega arith)))
links_in (k ∷ ks) notes at (suc j) h z =
    let e : at + suc j ≡ suc at + j = omega arith in
    let r : Rows = record { from = k; to = (rows_in notes at).to } in
    rw e (links_in ks (set notes at r) (suc at) j (rw (length-set notes at r) (omega arith)) (omega arith))
