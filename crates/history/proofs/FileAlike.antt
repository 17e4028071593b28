-- An index that was written and loaded answers as the one that was written: find lists the same blocks in the same order under their new
-- numbers and visits as many nodes, a block's new number gives the same block, and every cell has the same byte at every tick. Assumes nothing.
use mathlib.Core.Path.{◌≡◌, refl, sym, ◌∙◌, ap}
use mathlib.Core.Logic.{⊎_elim}
use mathlib.Core.Bool.{Bool, true, false, cond}
use mathlib.Core.Option.{none}
use mathlib.Core.List.{List, [], map, filter_map}
use Prim.Native.Nat.{ℕ, ◌<◌, ◌≤◌}
use native.Mathlib.Omega.{arith}
use lib.ListN.{length}
use lib.Dec.{ltb}
use borrow.Author.Tests.{ltb-false}
use Rattle.lists.specs.Lists.{All, all_nil, has, count_from}
use Rattle.lists.proofs.Lists.{all_map, all_append}
use Rattle.lists.proofs.Numbers.{lt_or_le}
use Rattle.lists.proofs.Maps.{filter_map_map}
use Rattle.lists.proofs.Counting.{count_from_below}
use Rattle.history.specs.Words.{Block, live, first_cell}
use Rattle.history.specs.Tree.{Tree, hole, node, mid, halves, block_at, key_in, entries_in}
use Rattle.history.specs.Find.{path, visited, find}
use Rattle.history.specs.Reads.{shows, seen}
use Rattle.history.specs.File.{written, written_blocks, renumbered, new_number}
use Rattle.history.specs.Rules.{numbered}
use Rattle.history.proofs.RulesLaws.{numbered_decides}
use Rattle.history.proofs.Within.{within_low, within_high}
use Rattle.history.proofs.FilePlaces.{those_with-filter_map}
use Rattle.history.proofs.FileRenumbered.{entries_here, entries_left, entries_right, map_tree-path, map_tree-visited, window-map}
use Rattle.history.proofs.FileContents.{map-block_at}
use Rattle.history.proofs.FileKept.{entries_written, written_block, entered_lives, Writable}

-- ── find ──

-- the way down meets entries of the tree
pub path_all : {P : ℕ → Type 0} (t lo hi : ℕ) (T : Tree) → All P (entries_in T) → All P (path t lo hi T)
unfolding path
path_all t lo hi hole h = all_nil
path_all {P} t lo hi (node es l r) h =
    all_append (entries_here es l r h)
    (below (halves lo hi) (ltb t (mid lo hi)) (path_all t lo (mid lo hi) l (entries_left es l r h)) (path_all t (mid lo hi) hi r (entries_right es l r h)))
  where
    below : (wide left : Bool) → All P (path t lo (mid lo hi) l) → All P (path t (mid lo hi) hi r)
        → All P (cond wide (cond left (path t lo (mid lo hi) l) (path t (mid lo hi) hi r)) [])
    below true true a b = a
    below true false a b = b
    below false left a b = all_nil

-- the same blocks in the same order, under their new numbers
pub written-find : (e : ℕ) (bs : List Block) (tree : Tree) → numbered (length bs) tree ≡ true → (t start stop : ℕ)
    → find e (written_blocks bs tree) (renumbered bs tree) t start stop ≡ map (new_number bs tree) (find e bs tree t start stop)
unfolding find
written-find e bs tree h t s n =
    let known : All (λ k. has k (written bs tree) ≡ true) (entries_in tree) = entries_written bs tree ((numbered_decides (length bs) tree).yes h) in
    rw (map_tree-path (new_number bs tree) t 0 e tree)
    (window-map (new_number bs tree) (key_in (written_blocks bs tree)) (key_in bs) s n (path_all t 0 e tree (all_map (λ k z. ap first_cell (written_block bs tree k z)) known)))

-- as many nodes
pub written-visited : (e : ℕ) (bs : List Block) (tree : Tree) (t : ℕ) → visited t 0 e (renumbered bs tree) ≡ visited t 0 e tree
written-visited e bs tree t = map_tree-visited (new_number bs tree) t 0 e tree

-- ── cells ──

module _ (kind e : ℕ) (bs : List Block) (tree : Tree) (w : Writable kind e bs tree) where
  -- a block without entry has no life, and shows nothing
  unwritten_shows : (t c k : ℕ) → k < length bs → has k (entries_in tree) ≡ false → shows t c (block_at bs k) ≡ none
  unfolding shows
  unwritten_shows t c k less z =
      let no_life : (block_at bs k).destroyed ≤ (block_at bs k).created = ltb-false (block_at bs k).created (block_at bs k).destroyed (sym (entered_lives kind e bs tree w k less) ∙ z) in
      let dead : live t (block_at bs k) ≡ false =
      ⊎_elim (λ low. within_low _ _ t low) (λ high. within_high (block_at bs k).created (block_at bs k).destroyed t (omega arith)) (lt_or_le t (block_at bs k).created) in
      rw dead refl

  -- every cell has the same bytes at every tick
  pub written-seen : (t cell : ℕ) → seen t cell (written_blocks bs tree) ≡ seen t cell bs
  unfolding seen
  written-seen t c =
      filter_map_map (shows t c) (block_at bs) (written bs tree)
      ∙ those_with-filter_map (λ k. shows t c (block_at bs k)) (entries_in tree) (all_map (λ k p z. unwritten_shows t c k (omega arith) z) (count_from_below 0 (length bs)))
      ∙ sym (filter_map_map (shows t c) (block_at bs) (count_from 0 (length bs)))
      ∙ ap (filter_map (shows t c)) (map-block_at bs)
