-- A block against the nodes above one: one step for each return and turn of `above_clear`. Assumes nothing.
use mathlib.Core.Path.{◌≡◌, refl, sym, ap, ◌∙◌}
use mathlib.Core.Bool.{Bool, true, false, not}
use mathlib.Core.Logic.{inl, inr}
use mathlib.Core.List.{List}
use Prim.Native.Nat.{ℕ, ◌≤◌, ◌<◌, ◌-◌, ◌^◌}
use native.Mathlib.Omega.{arith}
use lib.ListN.{length, get_or}
use borrow.Author.Tests.{not-false}
use Rattle.lists.specs.Lists.{All, all_nil, Mem, Ascending}
use Rattle.lists.specs.Tests.{Decides}
use Rattle.lists.proofs.Numbers.{le_or_lt, lt_or_le, eq_or_ne}
use Rattle.lists.proofs.Lists.{all_append, all_mem, all_of_mem, mem_place, pairs_at}
use Rattle.segment_table.specs.Closed.{first_cell_in}
use Rattle.segment_walk.specs.declared.walk.Node.{Node}
use Rattle.segment_walk.specs.declared.rows.Rows.{Rows}
use Rattle.segment_walk.specs.Walking.{Absent, half_at}
use Rattle.segment_walk.specs.Rowing.{rows_at}
use Rattle.segment_clear.specs.declared.Own.{Own}
use Rattle.segment_clear.specs.Clear.{end_in, Owns, Clears, RunClear}
use Rattle.segment_clear.specs.Above.{Chained, Aside, before, behind, Above, above-none, above_next, AboveClear}

-- ── one run ──

-- of blocks that follow one another, one that starts where another does or before ends where that one starts, or is that one
chained_before : (t : List ℕ) (xs : List ℕ) → Chained t xs → Ascending (first_cell_in t) xs → (j by : ℕ) → Mem j xs → Mem by xs → first_cell_in t j ≤ first_cell_in t by
    → end_in t j ≤ end_in t by
chained_before t xs chained up j by m n h =
    let a = mem_place 0 m in
    let b = mem_place 0 n in
    go a.0 b.0 a.1 b.1 a.2 b.2
  where
    go : (p q : ℕ) → p < length xs → q < length xs → get_or xs p 0 ≡ j → get_or xs q 0 ≡ by → end_in t j ≤ end_in t by
    go p q lp lq ep eq =
        elim (lt_or_le p q) [
          | inl l ↦ omega (arith, rw (ep, eq) at (pairs_at 0 chained p q l lq))
          | inr l ↦ elim (eq_or_ne p q) [
            | inl same ↦ (let one : j ≡ by = sym ep ∙ ap (λ (i : ℕ). get_or xs i 0) same ∙ eq in rw one (omega arith))
            | inr ne ↦ absurd (omega (arith, rw (eq, ep) at (pairs_at 0 up q p (omega arith) lp)))
          ]
        ]

run_aside : {t : List ℕ} (k : ℕ) (xs : List ℕ) → Chained t xs → Ascending (first_cell_in t) xs → Clears t xs k true
    → All (λ j. (j ≡ k → ⊥) → Aside t k j) xs
run_aside {t} k xs chained up clears =
    all_of_mem xs
    (λ j m ne. elim (le_or_lt (end_in t k) (first_cell_in t j)) [
      | inl far ↦ behind far
      | inr near ↦ (let p = all_mem (clears.clear refl) m ne near in before (omega (arith, p.ends, chained_before t xs chained up j p.by m p.listed p.from)))
    ])

-- ── the turns ──

-- what is said of the nodes from one on is said of those from the top on
pub record Rises (t nodes entries : List ℕ) (top from : Node) (min tick : ℕ) (own : Own) : Type 0 where
  pub back : (k : ℕ) (at : Node) (list : List ℕ) → Owns t k own → end_in t k ≤ 2 ^ 64 - 1 → at.min ≡ min → Above t nodes entries tick at top list
      → ((rest : List ℕ) → Above t nodes entries tick at from rest → All (λ j. (j ≡ k → ⊥) → Aside t k j) rest) → All (λ j. (j ≡ k → ⊥) → Aside t k j) list

module _ {t nodes entries : List ℕ} {top : Node} {min tick : ℕ} {own : Own} where
  pub rises_end : {from : Node} → min ≤ from.min → Rises t nodes entries top from min tick own → AboveClear t nodes entries top min tick own true
  rises_end {from} h rises = record { of_above = λ y k at list is fits e above. rises.back k at list is fits e above (λ rest a. none at rest e a) }
    where
      none : (at : Node) (rest : List ℕ) → at.min ≡ min → Above t nodes entries tick at from rest → {k : ℕ} → All (λ j. (j ≡ k → ⊥) → Aside t k j) rest
      none at rest e above-none = all_nil
      none at rest e (above_next below some wide run up chained more) = absurd (omega arith)

  pub rises_next : {from next : Node} {rows : Rows} {q c : Bool} → from.min < min → Rises t nodes entries top from min tick own → Decides q (Absent from) → q ≡ false
      → rows ≡ rows_at nodes entries from.link → RunClear t entries rows own c → not c ≡ false → next ≡ half_at nodes tick from → Rises t nodes entries top next min tick own
  rises_next {from} {next} {rows} {q} {c} h rises d e er run y en = record {
    back = λ k at list is fits em above f. rises.back k at list is fits em above (λ rest a. go k at rest is fits em f a);
  }
    where
      go : (k : ℕ) (at : Node) (rest : List ℕ) → Owns t k own → end_in t k ≤ 2 ^ 64 - 1 → at.min ≡ min
          → ((more : List ℕ) → Above t nodes entries tick at next more → All (λ j. (j ≡ k → ⊥) → Aside t k j) more) → Above t nodes entries tick at from rest
          → All (λ j. (j ≡ k → ⊥) → Aside t k j) rest
      go k at rest is fits em f above-none = absurd (omega arith)
      go k at rest is fits em f (above_next {es = es} {rest = more} below some wide runs up chained a) =
          all_append (run_aside k es chained up (rw (not-false c y) at (run.of_run k es is fits (rw er runs) up))) (f more (rw en a))

pub ruleset rising = (rises_end, rises_next)
