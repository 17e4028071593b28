-- A closed index that is written and loaded: the loader takes it, given room, and gives the blocks with an entry and the tree with their new
-- numbers. Assumes nothing.
use mathlib.Core.Path.{◌≡◌, refl, ◌∙◌, ap}
use mathlib.Core.Bool.{true}
use mathlib.Core.List.{List, map, ◌++◌}
use Prim.Native.Nat.{ℕ, ◌<◌, ◌≤◌, ◌+◌}
use native.Mathlib.Omega.{arith}
use lib.ListN.{length}
use Rattle.lists.specs.Lists.{count_from, sum_of}
use Rattle.lists.proofs.Lists.{all_of_map, all_both, all_at}
use Rattle.lists.proofs.Maps.{length_of_map, map-map}
use Rattle.lists.proofs.Numbers.{decided}
use Rattle.history.specs.Words.{Block, size}
use Rattle.history.specs.Tree.{Tree, no_block, block_at, entries_in, node_count, entry_count}
use Rattle.history.specs.File.{written, written_blocks, renumbered, new_number, file_of, contents, nodes_of, got, rule20, load, end_of, Loaded, loaded_from}
use Rattle.history.specs.Lent.{Lent, block_rows, node_rows, entry_rows}
use Rattle.history.proofs.RulesLaws.{filled_decides}
use Rattle.history.proofs.FileRoundTrip.{BlockFits}
use Rattle.history.proofs.FilePlaces.{those_with-sum}
use Rattle.history.proofs.FileRules.{rule20_decides}
use Rattle.history.proofs.FileIntervals.{tree_from-nodes_of, end_of-nodes_of}
use Rattle.history.proofs.FileRenumbered.{map_tree-node_count, map_tree-entry_count}
use Rattle.history.proofs.FileContents.{map-block_at, IndexFits}
use Rattle.history.proofs.FileLoad.{read_written, load-taken, Accepted}
use Rattle.history.proofs.FileKept.{written_few, written_below, written-lives, renumbered-root, written-rule21, written-rule22, written-rule23, written_apart, WholeBlock, Writable}

-- ── room ──

bytes_written : (bs : List Block) (tree : Tree) → sum_of (map (λ b. size b.stretch) (written_blocks bs tree)) ≤ sum_of (map (λ b. size b.stretch) bs)
bytes_written bs tree =
    rw (map-map (λ (b : Block). size b.stretch) (block_at bs) (written bs tree))
    (rw (← (map-map (λ (b : Block). size b.stretch) (block_at bs) (count_from 0 (length bs))), map-block_at bs) at
    (those_with-sum (λ k. size (block_at bs k).stretch) (entries_in tree) (count_from 0 (length bs))))

-- tables in which the index stands have room for what is written of it
pub room_written : (n : Lent) (kind e : ℕ) (bs : List Block) (tree : Tree) → length bs ≤ block_rows n → node_count tree ≤ node_rows n → entry_count tree ≤ entry_rows n
    → sum_of (map (λ b. size b.stretch) bs) ≤ n.store → rule20 n (contents kind e bs tree) ≡ true
unfolding contents
room_written n kind e bs tree a b c d =
    let new : Tree = renumbered bs tree in
    decided (rule20 n (contents kind e bs tree)) (rule20_decides n (contents kind e bs tree))
    (record {
      blocks = rw (length_of_map (block_at bs) (written bs tree)) (omega (arith, written_few bs tree));
      nodes = rw (tree_from-nodes_of 0 e new, map_tree-node_count (new_number bs tree) tree) b;
      entries = rw (tree_from-nodes_of 0 e new, map_tree-entry_count (new_number bs tree) tree) c;
      bytes = omega (arith, bytes_written bs tree);
    })

-- ── written and loaded ──

module _ (kind e : ℕ) (bs : List Block) (tree : Tree) (w : Writable kind e bs tree) where
  block_fits : (b : Block) → WholeBlock kind e b → b.created < b.destroyed → BlockFits kind b
  block_fits b h lives =
      let (filled, no_wrap) = (filled_decides b).yes h.full in
      record {
        own = h.own_kind lives;
        line = h.line;
        first = omega (arith, no_wrap);
        cells = omega (arith, no_wrap);
        born = omega (arith, h.forward, h.by_end, w.end_most);
        died = omega (arith, h.by_end, w.end_most);
      }

  pub index_fits : IndexFits kind e bs tree
  index_fits =
      record {
        kindly = w.known_kind;
        last = omega (arith, w.end_most);
        count = w.count;
        entries = w.entries;
        blocks = all_of_map (block_at bs)
            (all_both (λ k less lives. block_fits (block_at bs k) (all_at no_block w.blocks k less) lives) (written_below bs tree) (written-lives kind e bs tree w));
      }

  end_written : end_of (nodes_of 0 e (renumbered bs tree)) ≡ e
  end_written = end_of-nodes_of 0 e (renumbered bs tree) (renumbered-root kind e bs tree w)

  contents_accepted : (n : Lent) → 0 < length (written bs tree) → rule20 n (contents kind e bs tree) ≡ true → Accepted n (contents kind e bs tree)
  unfolding contents
  contents_accepted n any room =
      record {
        room = room;
        halves = written-rule21 kind e bs tree w;
        blocks = rw end_written (written-rule22 kind e bs tree w any);
        entries = rw (end_written, tree_from-nodes_of 0 e (renumbered bs tree)) (written-rule23 kind e bs tree w);
        disjoint = written_apart kind e bs tree w;
      }

  contents_loaded : loaded_from (contents kind e bs tree) ≡ record { end = e; kind = kind; blocks = written_blocks bs tree; tree = renumbered bs tree }
  unfolding contents
  contents_loaded = rw (end_written, tree_from-nodes_of 0 e (renumbered bs tree)) refl

  -- Given room, the loader takes what was written, and gives the blocks with an entry and the tree with their new numbers.
  pub load-written : (n : Lent) → 0 < length (written bs tree) → rule20 n (contents kind e bs tree) ≡ true → (before behind : List ℕ)
      → load n (before ++ (file_of kind e bs tree ++ behind)) (length before)
      ≡ got (record { end = e; kind = kind; blocks = written_blocks bs tree; tree = renumbered bs tree }) (length before + length (file_of kind e bs tree))
  load-written n any room before behind =
      load-taken n _ (length before) (contents kind e bs tree) _ (read_written kind e bs tree w.rooted index_fits before behind) (contents_accepted n any room)
      ∙ ap (λ (x : Loaded). got x (length before + length (file_of kind e bs tree))) contents_loaded
