-- The walk that takes the right half first: the slots for mid are complete when the left half is held against them. Assumes nothing.
use mathlib.Core.Path.{◌≡◌}
use mathlib.Core.Logic.{◌⊎◌, inl, inr, ⊎_elim}
use mathlib.Core.List.{List, [], ◌∷◌, ◌++◌}
use Prim.Native.Nat.{ℕ, ◌-◌, ◌≤◌, ◌<◌}
use native.Mathlib.Omega.{arith}
use Rattle.lists.specs.Lists.{All, all_nil, all_cons, Mem, pairs_nil}
use Rattle.lists.proofs.Lists.{all_append, all_left, all_right, all_map, all_mem, all_of_mem, pairs-append, pairs-map}
use Rattle.history.specs.Words.{Block}
use Rattle.history.specs.Tree.{Tree, hole, mid, block_at}
use Rattle.history.specs.Find.{path}
use Rattle.apart_laws.specs.Ticks.{Disjoint}
use Rattle.apart_laws.specs.Slots.{stretch_at, Slot, Counts, Refilled}
use Rattle.apart_laws.specs.RightFirst.{Held, HeldAll, held_none, held_next, RightFirst, right_hole, right_narrow, right_wide}
use Rattle.apart_laws.proofs.Slots.{refilled_restores}
use Rattle.apart_laws.proofs.Tallying.{CountsOn, counts-unused, counts_same, counts-one, counts_then}
use Rattle.apart_laws.proofs.Ways.{left_spine, right_spine, narrow_way}
use Rattle.apart_laws.proofs.Handing.{EndsIn, Handed, HandedIn, in-hole, in-node, handed-none}

module _ (bs : List Block) (end : ℕ) (Open : (t k : ℕ) → Type 0) where
  -- what is destroyed at t shares no cell with the blocks above, and lies in full slots or is left open
  pub record Lies (t : ℕ) (above : List ℕ) (after : List Slot) (k : ℕ) : Type 0 where
    pub clear : (block_at bs k).destroyed ≡ t → All (λ j. (j ≡ k → ⊥) → Disjoint (stretch_at bs k) (stretch_at bs j)) above
    pub owes : (block_at bs k).destroyed ≡ t → t < end → Refilled after (stretch_at bs k) ⊎ Open t k

  -- ── the entries of a node ──

  held-counts : {lo hi : ℕ} {above : List ℕ} {after : List Slot} {es : List ℕ} {a b : List Slot} → HeldAll bs end Open lo hi above after es a b → CountsOn bs lo es a b
  held-counts {lo} (held_none {born}) = counts_same bs lo born
  held-counts {lo} (held_next {k} {ks} h r) = counts_then bs lo (k ∷ []) ks (counts-one bs lo k h.slots) (held-counts r)

  held_lies : {lo hi : ℕ} {above : List ℕ} {after : List Slot} {es : List ℕ} {a b : List Slot} → HeldAll bs end Open lo hi above after es a b → All (Lies hi above after) es
  held_lies held_none = all_nil
  held_lies (held_next h r) = all_cons (record { clear = h.clear; owes = h.owes }) (held_lies r)

  -- for a loop: one more entry behind those before
  pub held_last : {lo hi k : ℕ} {above : List ℕ} {after : List Slot} {es : List ℕ} {a b c : List Slot} → HeldAll bs end Open lo hi above after es a b
      → Held bs end Open lo hi above after k b c → HeldAll bs end Open lo hi above after (es ++ k ∷ []) a c
  held_last held_none l = held_next l held_none
  held_last (held_next h r) l = held_next h (held_last r l)

  -- ── a subtree ──

  right_counts : {lo hi : ℕ} {T : Tree} {above : List ℕ} {after a b : List Slot} → RightFirst bs end Open lo hi T above after a b → CountsOn bs lo (path lo lo hi T) a b
  unfolding path
  right_counts {lo} (right_hole {born = born}) = counts_same bs lo born
  right_counts {lo} {hi} (right_narrow {es = es} {born' = b} w run held) =
      rw (narrow_way lo lo hi es hole hole w) (counts_then bs lo es [] (held-counts held) (counts_same bs lo b))
  right_counts {lo} {hi} (right_wide {es = es} {l = l} {r = r} w run held empty right left) =
      rw (left_spine lo hi es l r w) (counts_then bs lo es (path lo lo (mid lo hi) l) (held-counts held) (right_counts left))

  pub right_lies : {lo hi : ℕ} {T : Tree} {above : List ℕ} {after a b : List Slot} → RightFirst bs end Open lo hi T above after a b
      → All (Lies hi above after) (path (hi - 1) lo hi T)
  unfolding path
  right_lies right_hole = all_nil
  right_lies {lo} {hi} (right_narrow {es = es} w run held) = rw (narrow_way (hi - 1) lo hi es hole hole w) (all_append (held_lies held) all_nil)
  right_lies {lo} {hi} {above = above} (right_wide {es = es} {l = l} {r = r} w run held empty right left) =
      rw (right_spine lo hi es l r w) (all_append (held_lies held) (all_map (λ k x. record { clear = λ d. all_left above es (x.clear d); owes = x.owes }) (right_lies right)))

  -- those that are destroyed at its end share no cell with one another
  pub right_ends : {lo hi : ℕ} {T : Tree} {above : List ℕ} {after a b : List Slot} → RightFirst bs end Open lo hi T above after a b → EndsIn bs hi (path (hi - 1) lo hi T)
  unfolding path
  right_ends right_hole = pairs_nil
  right_ends {lo} {hi} (right_narrow {es = es} w run held) =
      rw (narrow_way (hi - 1) lo hi es hole hole w) (pairs-append (pairs-map (λ j k f ne d e. f) run) pairs_nil (all_map (λ j x. all_nil) (held_lies held)))
  right_ends {lo} {hi} {above = above} {after = after} (right_wide {es = es} {l = l} {r = r} w run held empty right left) =
      rw (right_spine lo hi es l r w)
      (pairs-append (pairs-map (λ j k f ne d e. f) run) (right_ends right)
      (all_of_mem es (λ j m. all_map (λ k x. across j k m x) (right_lies right))))
    where
      across : (j k : ℕ) → Mem j es → Lies hi (above ++ es) after k → (j ≡ k → ⊥) → (block_at bs j).destroyed ≡ hi → (block_at bs k).destroyed ≡ hi → Disjoint (stretch_at bs j) (stretch_at bs k)
      across j k m x ne d e cell p q = let clear : All (λ i. (i ≡ k → ⊥) → Disjoint (stretch_at bs k) (stretch_at bs i)) es = all_right above es (x.clear e) in all_mem clear m ne cell q p

  pub right_handed : {lo hi : ℕ} {T : Tree} {above : List ℕ} {after a b : List Slot} → hi ≤ end → RightFirst bs end Open lo hi T above after a b → HandedIn bs Open lo hi T
  unfolding path
  right_handed h right_hole = in-hole
  right_handed {lo} {hi} h (right_narrow w run held) = in-node (handed-none bs Open (mid lo hi) []) in-hole in-hole
  right_handed {lo} {hi} h (right_wide {l = l} {r = r} {mids = mids} w run held empty right left) =
      in-node {lo = lo} {hi = hi} over (right_handed (omega arith) left) (right_handed h right)
    where
      gone : List ℕ
      gone = path (mid lo hi - 1) lo (mid lo hi) l

      born : List ℕ
      born = path (mid lo hi) (mid lo hi) hi r

      counted : All (Counts bs (mid lo hi) born) mids
      counted = right_counts right [] (counts-unused bs (mid lo hi) empty)

      over : Handed bs Open (mid lo hi) gone born
      over = record {
        over = λ k m e.
            ⊎_elim (λ f. inl (λ cell c. refilled_restores bs (mid lo hi) born (stretch_at bs k) cell c counted f)) (λ o. inr o) ((all_mem (right_lies left) m).owes e (omega arith));
        ends = right_ends left;
      }
