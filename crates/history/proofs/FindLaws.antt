-- What find lists, over any sound tree: exactly the live blocks whose first cell is in the window, each once. Assumes nothing.
use mathlib.Core.Path.{◌≡◌, refl, sym, ◌∙◌, subst}
use mathlib.Core.Logic.{inl, inr}
use mathlib.Core.Bool.{Bool, true, false, cond, ◌&&◌}
use mathlib.Core.List.{List, [], ◌∷◌, map}
use Prim.Native.Nat.{ℕ, ◌+◌, ◌≤◌, ◌<◌}
use native.Mathlib.Nat.{zero-add}
use native.Mathlib.Omega.{arith}
use lib.ListN.{length}
use lib.Dec.{eqb}
use borrow.Author.Tests.{ne_eqb}
use Rattle.lists.specs.Lists.{All, Mem, count, sum_of}
use Rattle.lists.proofs.Numbers.{eq_or_ne, cond_same}
use Rattle.history.specs.Words.{within, Block, first_cell, live}
use Rattle.history.specs.Tree.{Tree, no_block, block_at, key_in}
use Rattle.history.specs.Find.{path, window, find}
use Rattle.history.specs.Rules.{halved, rule23}
use Rattle.history.proofs.Within.{within_high}
use Rattle.history.proofs.FindMet.{path-met}
use Rattle.history.proofs.Counted.{counted_holds, counted_numbers, counted_length}

-- ── the window ──

-- a number stays as often as it stood if its key is in the window, and goes else
pub count-window : (key : ℕ → ℕ) (s n k : ℕ) (xs : List ℕ) → count k (window key s n xs) ≡ cond (within s n (key k)) (count k xs) 0
unfolding count window
count-window key s n k [] = sym (cond_same (within s n (key k)) 0)
count-window key s n k (x ∷ xs) =
    elim (eq_or_ne k x) [
      | inl e ↦ subst (λ z. count z (window key s n (x ∷ xs)) ≡ cond (within s n (key z)) (count z (x ∷ xs)) 0) (sym e) (same (within s n (key x)) (count-window key s n x xs))
      | inr e ↦ rw (ne_eqb k x e, zero-add) (other e (within s n (key x)) ∙ count-window key s n k xs)
    ]
  where
    rest : List ℕ
    rest = window key s n xs

    same : (w : Bool) → count x rest ≡ cond w (count x xs) 0 → count x (cond w (x ∷ rest) rest) ≡ cond w (cond (eqb x x) 1 0 + count x xs) 0
    same true h = omega arith
    same false h = h

    other : (k ≡ x → ⊥) → (w : Bool) → count k (cond w (x ∷ rest) rest) ≡ count k rest
    other e true = rw (ne_eqb k x e) (omega arith)
    other e false = refl

-- ── find ──

module _ (e : ℕ) (bs : List Block) (tree : Tree) (halves : halved 0 e tree ≡ true) (rule : rule23 e bs tree ≡ true)
    (ends : All (λ (b : Block). b.destroyed ≤ e) bs) (t : ℕ) (below : t < e) (s n : ℕ) where
  -- block b is live and its first cell is in the window
  abbrev listed_now : Block → Bool
  listed_now b = live t b && within s n (first_cell b)

  -- Each live block whose first cell is in [s, n) is listed once, and no other.
  pub find-count : (k : ℕ) → count k (find e bs tree t s n) ≡ cond (live t (block_at bs k) && within s n (key_in bs k)) 1 0
  unfolding find
  find-count k =
      count-window (key_in bs) s n k (path t 0 e tree)
      ∙ rw (path-met e bs tree halves rule ends t k below) (both (live t (block_at bs k)) (within s n (key_in bs k)))
    where
      both : (u v : Bool) → ◌≡◌ {A = ℕ} (cond v (cond u 1 0) 0) (cond (u && v) 1 0)
      both true v = refl
      both false v = cond_same v 0

  no_block_lem : listed_now no_block ≡ false
  no_block_lem = rw (within_high 0 0 t (omega arith))

  -- what is listed is live and in the window, and what is so is listed
  pub find-listed : (k : ℕ) → Mem k (find e bs tree t s n) → (live t (block_at bs k) && within s n (key_in bs k)) ≡ true
  find-listed = counted_holds bs listed_now no_block_lem (find e bs tree t s n) find-count

  -- all are numbers of blocks
  pub find_numbers : All (λ k. k < length bs) (find e bs tree t s n)
  find_numbers = counted_numbers bs listed_now no_block_lem (find e bs tree t s n) find-count

  -- The list is as long as there are such blocks.
  pub find-length : length (find e bs tree t s n) ≡ sum_of (map (λ b. cond (live t b && within s n (first_cell b)) 1 0) bs)
  find-length = counted_length bs listed_now no_block_lem (find e bs tree t s n) find-count
