-- Blocks by their numbers: two numbers are two blocks of the list, and share no cell at a tick with rule 24. Assumes nothing.
use mathlib.Core.Path.{◌≡◌, subst}
use mathlib.Core.Logic.{inl, inr}
use mathlib.Core.List.{List, [], ◌∷◌}
use Prim.Native.Nat.{ℕ, ◌≤◌, ◌<◌}
use native.Mathlib.Omega.{arith}
use lib.ListN.{length}
use Rattle.lists.specs.Lists.{All, all_cons, Pairs, pairs_nil, pairs_cons, Mem, Distinct}
use Rattle.lists.proofs.Numbers.{lt_or_le, eq_or_ne}
use Rattle.lists.proofs.Lists.{all_mem, all_of_mem, pairs_at, mem_place}
use Rattle.history.specs.Words.{Block, Holds}
use Rattle.history.specs.Tree.{no_block, block_at}
use Rattle.history.proofs.TreePath.{block_none}
use Rattle.apart_laws.specs.Ticks.{ApartAt}

-- a number that is too high has no life
pub number-below : (bs : List Block) (t k : ℕ) → t < (block_at bs k).destroyed → k < length bs
number-below bs t k h =
    elim (lt_or_le k (length bs)) [
      | inl l ↦ l
      | inr l ↦ let none : (block_at bs k).destroyed ≡ 0 = rw (block_none k bs l) in absurd (omega arith)
    ]

-- what holds of the number of every block holds of every block
pub by_number : (P : Block → Type 0) (bs : List Block) → ((k : ℕ) → k < length bs → P (block_at bs k)) → (b : Block) → Mem b bs → P b
by_number P bs f b m = let z = mem_place no_block m in subst P z.2 (f z.0 z.1)

-- rule 24 at a tick, of two numbers
pub apart_numbers : (bs : List Block) (t : ℕ) → ApartAt t bs → (j k : ℕ) → (j ≡ k → ⊥) → (cell : ℕ) → Holds t cell (block_at bs j) → Holds t cell (block_at bs k) → ⊥
apart_numbers bs t apart j k ne cell p q =
    elim (lt_or_le j k) [
      | inl l ↦ pairs_at no_block apart j k l (number-below bs t k q.alive) cell p q
      | inr l ↦ pairs_at no_block apart k j (lt_of l ne) (number-below bs t j p.alive) cell q p
    ]
  where
    lt_of : k ≤ j → (j ≡ k → ⊥) → k < j
    lt_of l n = elim (eq_or_ne j k) [ inl e ↦ absurd (n e) | inr m ↦ omega arith ]

-- what holds of two different members holds of all pairs, where none stands twice
pub distinct_pairs : {A : Type 0} {P : A → Type 0} {R : A → A → Type 0} → ((x y : A) → (x ≡ y → ⊥) → P x → P y → R x y) → (xs : List A) → Distinct xs → All P xs → Pairs R xs
distinct_pairs f [] d a = pairs_nil
distinct_pairs {A} {P} {R} f (x ∷ xs) d (all_cons p ps) =
    pairs_cons (all_of_mem xs (λ y m. f x y (λ e. d.0 (rw e m)) p (all_mem ps m))) (distinct_pairs f xs d.1 ps)
