-- Rule 23's total. An entry's block covers its node and not the node above, so no node below lists it again: the widths of a block's nodes
-- lie side by side within its life. So they are at most its life, and all of them are equal to it exactly when the totals are. Assumes nothing.
use mathlib.Core.Path.{◌≡◌, refl, sym, ◌∙◌}
use mathlib.Core.Logic.{inl, inr}
use mathlib.Core.Bool.{Bool, true, false, true≢false}
use mathlib.Core.List.{List}
use Prim.Native.Nat.{ℕ, ◌+◌, ◌-◌, ◌*◌, ◌≤◌, ◌<◌}
use native.Mathlib.Omega.{arith}
use lib.ListN.{length}
use lib.Dec.{ltb}
use borrow.Author.Tests.{ltb-true}
use Rattle.lists.proofs.Counting.{distinct_count}
use Rattle.lists.specs.Lists.{All, count}
use Rattle.lists.proofs.Numbers.{le_or_lt}
use Rattle.lists.proofs.Lists.{all_map, ascending_distinct}
use Rattle.history.specs.Words.{Block, life}
use Rattle.history.specs.Tree.{Tree, hole, node, mid, covers, block_at, key_in, widths}
use Rattle.history.specs.Rules.{numbered, placed, sorted}
use Rattle.history.proofs.RulesLaws.{every_all, covers_node, ascends_decides, numbered_here, numbered_left, numbered_right, placed_left, placed_right, placed-covers, placed-above, sorted_here, sorted_left, sorted_right}
use Rattle.history.proofs.TreeAdding.{covers_yes, covers-inside}
use Rattle.history.proofs.TreeWidths.{overlap, overlap_split}
use Rattle.segment_test.specs.Total.{sum_to, all_widths}
use Rattle.segment_test.proofs.Sums.{sum_add, sum_times, sum-none, sum_same, sum-most, sum_tight, sum-length}

-- ── the total of a tree ──

-- the widths of all blocks' nodes are the widths of all entries
pub total_widths : (n lo hi : ℕ) (T : Tree) → numbered n T ≡ true → sum_to (λ k. widths k lo hi T) n ≡ all_widths lo hi T
unfolding widths all_widths
total_widths n lo hi hole h = sum-none (λ k. 0) n (λ k l. refl)
total_widths n lo hi (node es l r) h =
    let low : All (λ k. (y : ℕ) × (y < n) × (k ≡ y)) es = all_map (λ k e. (k, ltb-true k n e, refl)) (every_all (λ k. ltb k n) es (numbered_here n es l r h)) in
    let own : sum_to (λ k. count k es * (hi - lo)) n ≡ length es * (hi - lo) =
    sum_times (λ k. count k es) (hi - lo) n ∙ rw (sum-length (λ k. k) (λ j k e. e) n es low) refl in
    omega (
      arith,
      own,
      sum_add (λ k. count k es * (hi - lo)) (λ k. widths k lo (mid lo hi) l + widths k (mid lo hi) hi r) n,
      sum_add (λ k. widths k lo (mid lo hi) l) (λ k. widths k (mid lo hi) hi r) n,
      total_widths n lo (mid lo hi) l (numbered_left n es l r h),
      total_widths n (mid lo hi) hi r (numbered_right n es l r h),
    )

-- ── each block's widths ──

module _ (at : ℕ → Block) (k : ℕ) where
  -- below a node that block k covers nobody lists it
  widths_under : (above : ℕ → Bool) (lo hi : ℕ) (T : Tree) → lo ≤ hi → above k ≡ true → (at k).created ≤ lo → hi ≤ (at k).destroyed → placed at above lo hi T ≡ true
      → widths k lo hi T ≡ 0
  unfolding widths
  widths_under above lo hi hole w u a z p = refl
  widths_under above lo hi (node es l r) w u a z p =
      let here : covers (at k).created (at k).destroyed lo hi ≡ true = covers_yes (at k).created (at k).destroyed lo hi a z in
      let none : count k es ≡ 0 =
      elim (le_or_lt (count k es) 0) [
        | inl q ↦ omega arith
        | inr q ↦ absurd (true≢false (sym u ∙ placed-above at above lo hi es l r k p q))
      ] in
      let left : widths k lo (mid lo hi) l ≡ 0 = widths_under (covers_node at lo hi) lo (mid lo hi) l (omega arith) here a (omega arith) (placed_left at above lo hi es l r p) in
      let right : widths k (mid lo hi) hi r ≡ 0 = widths_under (covers_node at lo hi) (mid lo hi) hi r (omega arith) here (omega arith) z (placed_right at above lo hi es l r p) in
      rw (none, left, right) (omega arith)

  -- the widths of a block's nodes are at most its life's part in the interval
  pub widths-most : (key : ℕ → ℕ) (above : ℕ → Bool) (lo hi : ℕ) (T : Tree) → lo ≤ hi → placed at above lo hi T ≡ true → sorted key T ≡ true
      → widths k lo hi T ≤ overlap (at k).created (at k).destroyed lo hi
  unfolding widths
  widths-most key above lo hi hole w p s = omega arith
  widths-most key above lo hi (node es l r) w p s =
      elim (le_or_lt (count k es) 0) [
        | inl q ↦
            let none : count k es ≡ 0 = omega arith in
            rw none
            (omega (
              arith,
              widths-most key (covers_node at lo hi) lo (mid lo hi) l (omega arith) (placed_left at above lo hi es l r p) (sorted_left key es l r s),
              widths-most key (covers_node at lo hi) (mid lo hi) hi r (omega arith) (placed_right at above lo hi es l r p) (sorted_right key es l r s),
              overlap_split (at k).created (at k).destroyed lo (mid lo hi) hi (omega arith) (omega arith),
            ))
        | inr q ↦
            let one : count k es ≡ 1 = omega (arith, distinct_count k es (ascending_distinct key ((ascends_decides key es).yes (sorted_here key es l r s)))) in
            let here : covers (at k).created (at k).destroyed lo hi ≡ true = placed-covers at above lo hi es l r k p q in
            let life : ((at k).created ≤ lo) × (hi ≤ (at k).destroyed) = covers-inside (at k).created (at k).destroyed lo hi here in
            let left : widths k lo (mid lo hi) l ≡ 0 = widths_under (covers_node at lo hi) lo (mid lo hi) l (omega arith) here life.0 (omega (arith, life.1)) (placed_left at above lo hi es l r p) in
            let right : widths k (mid lo hi) hi r ≡ 0 = widths_under (covers_node at lo hi) (mid lo hi) hi r (omega arith) here (omega (arith, life.0)) life.1 (placed_right at above lo hi es l r p) in
            rw (one, left, right) (omega (arith, life))
      ]

-- ── the test by one total ──

module _ (bs : List Block) (e : ℕ) (T : Tree) (numbers : numbered (length bs) T ≡ true) (places : placed (block_at bs) (λ k. false) 0 e T ≡ true)
    (order : sorted (key_in bs) T ≡ true) where
  life-most : (k : ℕ) → k < length bs → widths k 0 e T ≤ life (block_at bs k)
  life-most k l = omega (arith, widths-most (block_at bs) k (key_in bs) (λ k. false) 0 e T (omega arith) places order)

  -- the total is at most that of the lives
  pub total_most : all_widths 0 e T ≤ sum_to (λ k. life (block_at bs k)) (length bs)
  total_most = omega (arith, total_widths (length bs) 0 e T numbers, sum-most (λ k. widths k 0 e T) (λ k. life (block_at bs k)) (length bs) life-most)

  -- equal totals: each block's widths add up to its life
  pub total_each : all_widths 0 e T ≡ sum_to (λ k. life (block_at bs k)) (length bs) → (k : ℕ) → k < length bs → widths k 0 e T ≡ life (block_at bs k)
  total_each same = sum_tight (λ k. widths k 0 e T) (λ k. life (block_at bs k)) (length bs) life-most (total_widths (length bs) 0 e T numbers ∙ same)

  -- and if they do, the totals are equal
  pub each_total : ((k : ℕ) → k < length bs → widths k 0 e T ≡ life (block_at bs k)) → all_widths 0 e T ≡ sum_to (λ k. life (block_at bs k)) (length bs)
  each_total each = sym (total_widths (length bs) 0 e T numbers) ∙ sum_same (λ k. widths k 0 e T) (λ k. life (block_at bs k)) (length bs) each
