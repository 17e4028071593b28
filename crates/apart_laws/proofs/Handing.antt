-- What is destroyed at each mid of a tree is restored there: then rule 24 holds. Assumes nothing.
--
-- A block with a life that is destroyed at t, below the end, is live at t − 1: it stands in a node on the way to t − 1. Its life covers that node, so the
-- node ends at t or before, and its max is t. So it stands on the right spine of the left half of the node with mid t, which is the way to t − 1 there.
-- What is created at t and restores it stands on the left spine of the right half, which is the way to t there; no block stands twice on it.
use mathlib.Core.Path.{◌≡◌, refl}
use mathlib.Core.Logic.{◌⊎◌, inl, inr, ⊎_elim}
use mathlib.Core.Bool.{Bool, true, false}
use mathlib.Core.List.{List, [], ◌∷◌, ◌++◌}
use Prim.Native.Nat.{ℕ, ◌+◌, ◌-◌, ◌<◌}
use native.Mathlib.Omega.{arith}
use Rattle.lists.specs.Lists.{Mem, here, there, Pairs, pairs_nil, pairs_cons}
use Rattle.lists.proofs.Numbers.{lt_or_le, eq_or_ne}
use Rattle.lists.proofs.Lists.{mem_split, all_of_mem, pairs-append, count-append}
use Rattle.lists.proofs.Counting.{mem_count, not_mem_nil}
use Rattle.history.specs.Words.{Block}
use Rattle.history.specs.Tree.{Tree, hole, node, mid, block_at}
use Rattle.history.specs.Find.{path}
use Rattle.history.specs.Rules.{placed}
use Rattle.history.proofs.RulesLaws.{covers_node, placed-covers, placed_left, placed_right, rule23_decides}
use Rattle.history.proofs.TreeAdding.{covers-inside}
use Rattle.history.proofs.TreePath.{path_node, path_below, path-below_left, path-below_right}
use Rattle.apart_laws.specs.Ticks.{Disjoint, ApartAt, ClearOf}
use Rattle.apart_laws.specs.Ruled.{Ruled}
use Rattle.apart_laws.specs.Slots.{stretch_at, Restored, RestoredBy}
use Rattle.apart_laws.proofs.Downward.{handed_clear}
use Rattle.apart_laws.proofs.Slots.{counts_more, restored_handed}
use Rattle.apart_laws.proofs.Ways.{way_once}

-- no two of the numbers that are destroyed at t share a cell
abbrev pub EndsIn : (bs : List Block) (t : ℕ) (xs : List ℕ) → Type 0
EndsIn bs t xs = Pairs (λ j k. (j ≡ k → ⊥) → (block_at bs j).destroyed ≡ t → (block_at bs k).destroyed ≡ t → Disjoint (stretch_at bs j) (stretch_at bs k)) xs

-- where none is destroyed then
pairs-none : (bs : List Block) (t : ℕ) (es : List ℕ) → ((k : ℕ) → Mem k es → (block_at bs k).destroyed ≡ t → ⊥) → EndsIn bs t es
pairs-none bs t [] none = pairs_nil
pairs-none bs t (k ∷ ks) none = pairs_cons (all_of_mem ks (λ j m ne d. absurd (none k (here refl) d))) (pairs-none bs t ks (λ j m. none j (there m)))

module _ (bs : List Block) (Open : (t k : ℕ) → Type 0) where
  -- ── at a node ──

  -- What is destroyed at t of the numbers xs is restored by those of ys, or left open, and shares no cell with one another.
  pub record Handed (t : ℕ) (xs ys : List ℕ) : Type 0 where
    pub over : (k : ℕ) → Mem k xs → (block_at bs k).destroyed ≡ t → RestoredBy bs t ys k ⊎ Open t k
    pub ends : EndsIn bs t xs

  -- at every node what is destroyed at mid, in the left half, is restored in the right half, or left open
  pub data HandedIn : (lo hi : ℕ) → Tree → Type 0 where
    in-hole : {lo hi : ℕ} → HandedIn lo hi hole
    in-node : {lo hi : ℕ} {es : List ℕ} {l r : Tree} → Handed (mid lo hi) (path (mid lo hi - 1) lo (mid lo hi) l) (path (mid lo hi) (mid lo hi) hi r)
        → HandedIn lo (mid lo hi) l → HandedIn (mid lo hi) hi r → HandedIn lo hi (node es l r)

  -- nothing is destroyed
  pub handed-none : (t : ℕ) (ys : List ℕ) → Handed t [] ys
  handed-none t ys = record { over = λ k m. absurd (not_mem_nil m); ends = pairs_nil }

  -- entries that are not destroyed at the tick change nothing
  handed_under : (t : ℕ) (es xs ys : List ℕ) → ((k : ℕ) → Mem k es → (block_at bs k).destroyed ≡ t → ⊥) → Handed t xs ys → Handed t (es ++ xs) (es ++ ys)
  handed_under t es xs ys none h = record {
    over = λ k m e. ⊎_elim (λ f. inl (λ cell c. more (f cell c))) (λ o. inr o) (h.over k (later k m e) e);
    ends = pairs-append (pairs-none bs t es none) h.ends (all_of_mem es (λ j m. all_of_mem xs (λ k o ne d. absurd (none j m d))));
  }
    where
      later : (k : ℕ) → Mem k (es ++ xs) → (block_at bs k).destroyed ≡ t → Mem k xs
      later k m e = elim (mem_split es xs m) [ inl n ↦ absurd (none k n e) | inr n ↦ n ]

      more : {cell : ℕ} → Restored bs t ys cell → Restored bs t (es ++ ys) cell
      more r = record {
        slot = r.slot;
        counts = counts_more bs t ys (es ++ ys) r.slot (λ j. omega (arith, count-append j es ys)) r.counts;
        full = r.full;
        from = r.from;
        below = r.below;
      }

  -- ── on the way ──

  -- on the ways to t − 1 and to t from a node that has both
  handed_down : (above : ℕ → Bool) (t lo hi : ℕ) (T : Tree) → lo < t → t < hi → placed (block_at bs) above lo hi T ≡ true → HandedIn lo hi T
      → Handed t (path (t - 1) lo hi T) (path t lo hi T)
  unfolding path
  handed_down above t lo hi hole p q places in-hole = handed-none t []
  handed_down above t lo hi (node es l r) p q places (in-node here-over left right) =
      elim (lt_or_le t (mid lo hi)) [
        | inl h ↦ under (path-below_left (t - 1) lo hi l r wide (omega arith)) (path-below_left t lo hi l r wide h)
            (handed_down (covers_node (block_at bs) lo hi) t lo (mid lo hi) l p h (placed_left (block_at bs) above lo hi es l r places) left)
        | inr h ↦ elim (eq_or_ne (mid lo hi) t) [
          | inl e ↦ under (path-below_left (t - 1) lo hi l r wide (omega arith)) (path-below_right t lo hi l r wide h) (at_mid e here-over)
          | inr n ↦ under (path-below_right (t - 1) lo hi l r wide (omega arith)) (path-below_right t lo hi l r wide h)
              (handed_down (covers_node (block_at bs) lo hi) t (mid lo hi) hi r (omega arith) q (placed_right (block_at bs) above lo hi es l r places) right)
        ]
      ]
    where
      wide : lo + 1 < hi
      wide = omega arith

      -- a block that the node lists is not destroyed inside it
      none : (k : ℕ) → Mem k es → (block_at bs k).destroyed ≡ t → ⊥
      none k m e = omega (arith, (covers-inside _ _ lo hi (placed-covers (block_at bs) above lo hi es l r k places (mem_count m))).1)

      under : {xs ys : List ℕ} → path_below (t - 1) lo hi l r ≡ xs → path_below t lo hi l r ≡ ys → Handed t xs ys
          → Handed t (path (t - 1) lo hi (node es l r)) (path t lo hi (node es l r))
      under {xs} {ys} e f over = rw (path_node (t - 1) lo hi es l r, path_node t lo hi es l r, e, f) (handed_under t es xs ys none over)

      at_mid : mid lo hi ≡ t → Handed (mid lo hi) (path (mid lo hi - 1) lo (mid lo hi) l) (path (mid lo hi) (mid lo hi) hi r)
          → Handed t (path (t - 1) lo (mid lo hi) l) (path t (mid lo hi) hi r)
      at_mid e o = rw (← e) o

  -- ── the whole tree ──

  module _ (end : ℕ) (tree : Tree) (ruled : Ruled end bs tree) (handed : HandedIn 0 end tree) (t : ℕ) (p : 0 < t) (q : t < end) where
    -- at every tick below the end
    pub handed_at : Handed t (path (t - 1) 0 end tree) (path t 0 end tree)
    handed_at = handed_down (λ k. false) t 0 end tree p q ((rule23_decides end bs tree).yes ruled.rule_23).places handed

    -- what is destroyed then is clear of what lives on, or left open
    pub clear_or_open : ApartAt t bs → (k : ℕ) → Mem k (path (t - 1) 0 end tree) → (block_at bs k).destroyed ≡ t → ClearOf t (block_at bs k) bs ⊎ Open t k
    clear_or_open apart k m e =
        ⊎_elim (λ f. inl (handed_clear t bs (block_at bs k) apart (restored_handed bs t (path t 0 end tree) k apart (way_once end bs tree ruled t q) f))) (λ o. inr o)
        (handed_at.over k m e)
