-- A tree of one kind among the holes of the others, as loading leaves it. Assumes nothing.
use mathlib.Core.Path.{◌≡◌, refl, ◌∙◌, ap}
use mathlib.Core.Bool.{Bool, true, false, cond}
use mathlib.Core.List.{List, [], ◌∷◌, map}
use Prim.Native.Nat.{ℕ, ◌+◌, ◌*◌, ◌≤◌}
use native.Mathlib.Nat.{add-mul}
use native.Mathlib.Omega.{arith}
use lib.Dec.{eqb}
use borrow.Author.Tests.{eq-eqb, ne_eqb}
use Rattle.lists.specs.Lists.{count, sum_of}
use Rattle.lists.proofs.Lists.{count_from_length, count_from_at}
use Rattle.lists.proofs.Maps.{get_d_of_map}
use Rattle.lists.proofs.Counting.{count_from_count}
use Rattle.history.specs.Words.{all_kinds}
use Rattle.history.specs.Tree.{Tree, hole, tree_at}
use Rattle.history.specs.File.{trees_with}

pub holes_but_own : (kind : ℕ) (tree : Tree) (k : ℕ) → k ≤ 4 → tree_at (trees_with kind tree) k ≡ cond (eqb kind k) tree hole
holes_but_own kind tree k low =
    get_d_of_map (λ k. cond (eqb kind k) tree hole) all_kinds k 0 hole (rw (count_from_length 0 5) (omega arith))
    ∙ ap (λ (j : ℕ). cond (eqb kind j) tree hole) (count_from_at 0 5 k (omega arith) ∙ omega arith)

pub trees_own : (kind : ℕ) (tree : Tree) → kind ≤ 4 → tree_at (trees_with kind tree) kind ≡ tree
trees_own kind tree low = holes_but_own kind tree kind low ∙ rw (eq-eqb kind kind refl)

pub trees_other : (kind : ℕ) (tree : Tree) (k : ℕ) → k ≤ 4 → (kind ≡ k → ⊥) → tree_at (trees_with kind tree) k ≡ hole
trees_other kind tree k low n = holes_but_own kind tree k low ∙ rw (ne_eqb kind k n)

-- what holes add nothing to is the tree's
pub sum_with : (f : Tree → ℕ) → f hole ≡ 0 → (kind : ℕ) (tree : Tree) → kind ≤ 4 → sum_of (map f (trees_with kind tree)) ≡ f tree
unfolding sum_of count
sum_with f none kind tree low =
    go all_kinds
    ∙ ap (λ (n : ℕ). n * f tree) (count_from_count kind 0 5 (omega arith) (omega arith))
    ∙ omega arith
  where
    choose : (u : Bool) (n rest : ℕ) → rest ≡ n * f tree → f (cond u tree hole) + rest ≡ (cond u 1 0 + n) * f tree
    choose true n rest h = omega (arith, add-mul 1 n (f tree))
    choose false n rest h = omega (arith, add-mul 0 n (f tree))

    go : (ks : List ℕ) → sum_of (map f (map (λ k. cond (eqb kind k) tree hole) ks)) ≡ count kind ks * f tree
    go [] = omega arith
    go (k ∷ ks) = choose (eqb kind k) (count kind ks) _ (go ks)
