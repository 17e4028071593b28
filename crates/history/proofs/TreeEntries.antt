-- Which blocks have an entry: in a sound tree those that have a life. So a block of no life has none, and a file, which has the blocks with an
-- entry, has those that rule 22 takes. Assumes nothing.
use mathlib.Core.Path.{◌≡◌, refl}
use mathlib.Core.Logic.{inl, inr}
use mathlib.Core.Bool.{Bool, true, false, ◌&&◌, not}
use mathlib.Core.List.{List, ◌++◌}
use Prim.Native.Nat.{ℕ, ◌+◌, ◌<◌}
use native.Mathlib.Omega.{arith}
use lib.ListN.{length}
use lib.Dec.{ltb}
use Rattle.lists.specs.Lists.{All, all_nil, Mem, has, count}
use Rattle.lists.proofs.Numbers.{and_left, le_or_lt, lt_or_le, decides_iff, decides_ltb, decides_same}
use Rattle.lists.proofs.Lists.{all_append, all_map, all_mem, count-append}
use Rattle.lists.proofs.Counting.{count_mem, has_decides}
use Rattle.history.specs.Words.{Block}
use Rattle.history.specs.Tree.{Tree, hole, node, mid, block_at, widths, entries_in}
use Rattle.history.specs.Rules.{halved, placed, rule23}
use Rattle.history.proofs.RulesLaws.{every_all, halved_left, halved_right, halved_narrow, covers_node, placed_here, placed_left, placed_right, Rule23, rule23_decides}
use Rattle.history.proofs.TreeAdding.{covers-inside}

-- an entry's block covers a node that has a tick
pub entries_lived : (at : ℕ → Block) (above : ℕ → Bool) (lo hi : ℕ) (T : Tree) → lo < hi → halved lo hi T ≡ true → placed at above lo hi T ≡ true
    → All (λ k. (at k).created < (at k).destroyed) (entries_in T)
unfolding entries_in
entries_lived at above lo hi hole w h p = all_nil
entries_lived at above lo hi (node es l r) w h p =
    all_append (all_map lives (every_all (λ k. covers_node at lo hi k && not (above k)) es (placed_here at above lo hi es l r p)))
    (elim (lt_or_le (lo + 1) hi) [
      | inl v ↦ all_append
          (entries_lived at (covers_node at lo hi) lo (mid lo hi) l (omega arith) (halved_left lo hi es l r h) (placed_left at above lo hi es l r p))
          (entries_lived at (covers_node at lo hi) (mid lo hi) hi r (omega arith) (halved_right lo hi es l r h) (placed_right at above lo hi es l r p))
      | inr v ↦ (let none = halved_narrow lo hi es l r h v in rw (none.0, none.1) all_nil)
    ])
  where
    lives : (k : ℕ) → (covers_node at lo hi k && not (above k)) ≡ true → (at k).created < (at k).destroyed
    lives k e =
        let c = covers-inside (at k).created (at k).destroyed lo hi (and_left (covers_node at lo hi k) (not (above k)) e) in
        omega (arith, c)

-- without an entry no width
pub widths-unlisted : (k lo hi : ℕ) (T : Tree) → count k (entries_in T) ≡ 0 → widths k lo hi T ≡ 0
unfolding entries_in widths
widths-unlisted k lo hi hole h = refl
widths-unlisted k lo hi (node es l r) h =
    let a = count-append k es (entries_in l ++ entries_in r) in
    let b = count-append k (entries_in l) (entries_in r) in
    let own : count k es ≡ 0 = omega arith in
    rw (own, widths-unlisted k lo (mid lo hi) l (omega arith), widths-unlisted k (mid lo hi) hi r (omega arith)) (omega arith)

-- Of the blocks, those of a life have an entry, and no others.
pub entry_life : (e : ℕ) (bs : List Block) (tree : Tree) → 0 < e → halved 0 e tree ≡ true → rule23 e bs tree ≡ true → (k : ℕ) → k < length bs
    → has k (entries_in tree) ≡ ltb (block_at bs k).created (block_at bs k).destroyed
entry_life e bs tree some halves rule k low =
    decides_same (has k (entries_in tree)) (ltb (block_at bs k).created (block_at bs k).destroyed) (has_decides k (entries_in tree))
    (decides_iff (ltb (block_at bs k).created (block_at bs k).destroyed) listed (all_mem (entries_lived (block_at bs) (λ k. false) 0 e tree some halves parts.places))
    (decides_ltb (block_at bs k).created (block_at bs k).destroyed))
  where
    parts : Rule23 e bs tree
    parts = (rule23_decides e bs tree).yes rule

    listed : (block_at bs k).created < (block_at bs k).destroyed → Mem k (entries_in tree)
    listed h =
        elim (le_or_lt (count k (entries_in tree)) 0) [
          | inl z ↦ absurd (omega (arith, widths-unlisted k 0 e tree (omega arith), parts.sums k low))
          | inr z ↦ count_mem k (entries_in tree) z
        ]
