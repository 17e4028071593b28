-- Slots that go on counting, block by block. Assumes nothing.
use mathlib.Core.List.{List, [], ◌∷◌, ◌++◌}
use Prim.Native.Nat.{ℕ, ◌≤◌}
use native.Mathlib.Omega.{arith}
use Rattle.lists.specs.Lists.{All, count}
use Rattle.lists.proofs.Lists.{all_map, all_mem, count-append}
use Rattle.history.specs.Words.{Block}
use Rattle.apart_laws.specs.Slots.{Slot, Counts, Unused, Source, unused, listed, ComesFrom, kept, taken}
use Rattle.apart_laws.proofs.Slots.{counts-none, counts_more, counts-takes}

module _ (bs : List Block) (t : ℕ) where
  -- counting goes on over the numbers ys
  abbrev pub CountsOn : (ys : List ℕ) (slots slots' : List Slot) → Type 0
  CountsOn ys slots slots' = (xs : List ℕ) → All (Counts bs t xs) slots → All (Counts bs t (xs ++ ys)) slots'

  -- the same numbers otherwise put together
  counts_as : (xs ys : List ℕ) {slots : List Slot} → ((k : ℕ) → count k xs ≤ count k ys) → All (Counts bs t xs) slots → All (Counts bs t ys) slots
  counts_as xs ys h a = all_map (λ s c. counts_more bs t xs ys s h c) a

  -- ── over nothing, over one block, and one after the other ──

  pub counts-unused : {slots : List Slot} → All Unused slots → All (Counts bs t []) slots
  counts-unused empty = all_map (λ s e. counts-none bs t [] s e) empty

  pub counts_same : (slots : List Slot) → CountsOn [] slots slots
  counts_same slots xs a = counts_as xs (xs ++ []) (λ k. omega (arith, count-append k xs [])) a

  source_counts : (xs : List ℕ) {slots : List Slot} (s : Slot) → All (Counts bs t xs) slots → Source slots s → Counts bs t xs s
  source_counts xs s a (unused e) = counts-none bs t xs s e
  source_counts xs s a (listed m) = all_mem a m

  pub counts-one : (k : ℕ) {slots slots' : List Slot} → All (ComesFrom bs t k slots) slots' → CountsOn (k ∷ []) slots slots'
  counts-one k {slots} from xs a = all_map one from
    where
      one : (s : Slot) → ComesFrom bs t k slots s → Counts bs t (xs ++ k ∷ []) s
      one s (kept f) = counts_more bs t xs (xs ++ k ∷ []) s (λ j. omega (arith, count-append j xs (k ∷ []))) (source_counts xs s a f)
      one s (taken {s = q} f born takes) = counts-takes bs t xs k q s born takes (source_counts xs q a f)

  pub counts_then : (ys zs : List ℕ) {a b c : List Slot} → CountsOn ys a b → CountsOn zs b c → CountsOn (ys ++ zs) a c
  counts_then ys zs f g xs h =
      counts_as ((xs ++ ys) ++ zs) (xs ++ (ys ++ zs))
      (λ k. omega (arith, count-append k (xs ++ ys) zs, count-append k xs ys, count-append k xs (ys ++ zs), count-append k ys zs)) (g (xs ++ ys) (f xs h))
