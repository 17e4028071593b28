-- A list that has each number once if a test holds of its block, and never else: its members, its numbers, its length. Assumes nothing.
use mathlib.Core.Path.{◌≡◌, ap, sym, ◌∙◌}
use mathlib.Core.Logic.{inl, inr}
use mathlib.Core.Bool.{Bool, true, false, true≢false, cond}
use mathlib.Core.List.{List, map}
use Prim.Native.Nat.{ℕ, ◌+◌, ◌<◌}
use native.Mathlib.Omega.{arith}
use lib.ListN.{length}
use Rattle.lists.specs.Lists.{All, Mem, count, count_from, sum_of}
use Rattle.lists.proofs.Numbers.{bool_cases, lt_or_le}
use Rattle.lists.proofs.Lists.{all_map, all_any, all_of_mem}
use Rattle.lists.proofs.Maps.{map_all}
use Rattle.lists.proofs.Counting.{mem_count, count_mem, count_from_count, length-counts, map_from_at}
use Rattle.history.specs.Words.{Block}
use Rattle.history.specs.Tree.{no_block, block_at}
use Rattle.history.proofs.TreePath.{block_none}

module _ (bs : List Block) (test : Block → Bool) (no_block_passes : test no_block ≡ false) (ks : List ℕ) (counts : (k : ℕ) → count k ks ≡ cond (test (block_at bs k)) 1 0) where
  -- the test holds of what is listed ..
  pub counted_holds : (k : ℕ) → Mem k ks → test (block_at bs k) ≡ true
  counted_holds k m =
      elim (bool_cases (test (block_at bs k))) [
        | inl h ↦ h
        | inr h ↦ absurd (let none : count k ks ≡ 0 = counts k ∙ rw h in omega (arith, mem_count m))
      ]

  -- .. and that of which it holds is listed
  pub counted_mem : (k : ℕ) → test (block_at bs k) ≡ true → Mem k ks
  counted_mem k h = count_mem k ks (let once : count k ks ≡ 1 = counts k ∙ rw h in omega arith)

  -- all are numbers of blocks
  pub counted_numbers : All (λ k. k < length bs) ks
  counted_numbers = all_of_mem ks number
    where
      number : (k : ℕ) → Mem k ks → k < length bs
      number k m =
          elim (lt_or_le k (length bs)) [
            | inl h ↦ h
            | inr h ↦ absurd (true≢false (sym (counted_holds k m) ∙ ap test (block_none k bs h) ∙ no_block_passes))
          ]

  -- the list is as long as there are such blocks
  pub counted_length : length ks ≡ sum_of (map (λ b. cond (test b) 1 0) bs)
  counted_length =
      sym (length-counts (count_from 0 (length bs)) (all_map (λ k h. count_from_count k 0 (length bs) (omega arith) (omega arith)) counted_numbers))
      ∙ ap sum_of (map_all (λ k. count k ks) (λ k. cond (test (block_at bs k)) 1 0) (all_any (count_from 0 (length bs)) counts))
      ∙ ap sum_of (map_from_at (λ b. cond (test b) 1 0) (block_at bs) no_block 0 bs (λ j h. let z : 0 + j ≡ j = omega arith in rw z))
