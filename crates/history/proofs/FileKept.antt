-- The rules of what is written of a closed index: the blocks with an entry, and the tree with their new numbers, keep rules 21 to 24. Assumes
-- nothing.
use mathlib.Core.Path.{◌≡◌, refl, sym, ◌∙◌, ap}
use mathlib.Core.Logic.{inl, inr}
use mathlib.Core.Bool.{true, false}
use mathlib.Core.List.{List}
use Prim.Native.Nat.{ℕ, ◌<◌, ◌≤◌, ◌^◌, ◌-◌, ◌+◌}
use native.Mathlib.Omega.{arith}
use lib.ListN.{length, get_or}
use lib.Dec.{ltb, eqb}
use borrow.Author.Tests.{lt-ltb, eq-eqb, ne_eqb, ltb-true}
use Rattle.lists.specs.Lists.{All, has, count_from, Ascending}
use Rattle.lists.proofs.Lists.{all_map, count_from_length, all_at, all_of_map, all_both, all_of_mem, all_mem, pairs_at}
use Rattle.lists.proofs.Numbers.{eq_or_ne, decided}
use Rattle.lists.proofs.Maps.{length_of_map, get_d_of_map, pairs_of_map}
use Rattle.lists.proofs.Counting.{has_decides, count_from_below, has-count_from, count_from_pairs}
use Rattle.history.specs.Words.{Block, line_of, first_cell, life, size}
use Rattle.history.specs.Tree.{Tree, block_at, key_in, entries_in, entry_count, widths, no_block}
use Rattle.history.specs.File.{written, written_blocks, renumbered, new_number, place_in, nodes_of, rule21, rule22}
use Rattle.history.specs.Rules.{halved, filled, rule23, apart, is_hole, Apart}
use Rattle.history.proofs.RulesLaws.{numbered_decides, rule23_decides, Rule23, apart_decides, filled_decides}
use Rattle.history.proofs.TreeEntries.{entry_life}
use Rattle.history.proofs.FilePlaces.{those_with_all, those_with-has, has-those_with, those_with-pairs, those_with-length, place_in-inside, place_in_found, place_in_at}
use Rattle.history.proofs.FileRules.{rule22_decides, LivingBlock}
use Rattle.history.proofs.FileIntervals.{nodes_of-rule21}
use Rattle.history.proofs.FileRenumbered.{map_tree-is_hole, map_tree-halved, map_tree-numbered, map_tree-placed, map_tree-sorted, map_tree-widths}

-- ── an index that can be written ──

-- not empty, no end above 2^64 − 1, created ≤ destroyed ≤ E; of the tree's kind if it has a life
pub record WholeBlock (kind end : ℕ) (b : Block) : Type 0 where
  pub full : filled b ≡ true
  pub line : line_of b.kind ≤ b.stretch.first
  pub forward : b.created ≤ b.destroyed
  pub by_end : b.destroyed ≤ end
  pub own_kind : b.created < b.destroyed → b.kind ≡ kind

-- a tree of a closed index and the blocks as its kind sees them, of which some may have no life; its counts fit their fields
pub record Writable (kind end : ℕ) (bs : List Block) (tree : Tree) : Type 0 where
  pub known_kind : kind ≤ 4
  pub some_tick : 0 < end
  pub end_most : end ≤ 2 ^ 63
  pub rooted : is_hole tree ≡ false
  pub halves : halved 0 end tree ≡ true
  pub rule_23 : rule23 end bs tree ≡ true
  pub rule_24 : Apart bs
  pub blocks : All (WholeBlock kind end) bs
  pub count : length bs < 2 ^ 64
  pub entries : entry_count tree < 2 ^ 64

-- ── which blocks are written ──

module _ (bs : List Block) (tree : Tree) where
  abbrev ks : List ℕ
  ks = written bs tree

  written_ascending : Ascending (λ k. k) ks
  written_ascending = those_with-pairs (entries_in tree) (count_from_pairs 0 (length bs) (λ i j a b c. b))

  pub written_below : All (λ k. k < length bs) (written bs tree)
  written_below = those_with_all (entries_in tree) (all_map (λ k p. omega arith) (count_from_below 0 (length bs)))

  pub written_few : length (written bs tree) ≤ length bs
  written_few = rw (count_from_length 0 (length bs)) at (those_with-length (entries_in tree) (count_from 0 (length bs)))

  -- a block with an entry
  pub entry_written : (k : ℕ) → k < length bs → has k (entries_in tree) ≡ true → has k (written bs tree) ≡ true
  entry_written k less z = has-those_with (entries_in tree) k (count_from 0 (length bs)) (has-count_from k 0 (length bs) (omega arith) (omega arith)) z

  -- so every entry's block
  pub entries_written : All (λ k. k < length bs) (entries_in tree) → All (λ k. has k (written bs tree) ≡ true) (entries_in tree)
  entries_written h = all_of_mem (entries_in tree) (λ k m. entry_written k (all_mem h m) (decided (has k (entries_in tree)) (has_decides k (entries_in tree)) m))

  -- by its new number each is the block that it was
  pub written_at : (j : ℕ) → j < length (written bs tree) → block_at (written_blocks bs tree) j ≡ block_at bs (get_or (written bs tree) j 0)
  written_at j h = get_d_of_map (block_at bs) ks j 0 no_block h

  pub written_block : (k : ℕ) → has k (written bs tree) ≡ true → block_at (written_blocks bs tree) (new_number bs tree k) ≡ block_at bs k
  written_block k h = written_at (place_in ks k) (place_in-inside ks k h) ∙ ap (block_at bs) (place_in_found ks k h)

  -- a new number is one block's alone
  same_number : (j : ℕ) → j < length ks → (k : ℕ) → has k ks ≡ true → eqb j (new_number bs tree k) ≡ eqb (get_or ks j 0) k
  same_number j h k z =
      elim (eq_or_ne (get_or ks j 0) k) [
        | inl q ↦ eq-eqb j (place_in ks k) (sym (place_in_at written_ascending j h) ∙ ap (place_in ks) q) ∙ sym (eq-eqb (get_or ks j 0) k q)
        | inr q ↦ ne_eqb j (place_in ks k) (λ s. q (ap (λ (i : ℕ). get_or ks i 0) s ∙ place_in_found ks k z)) ∙ sym (ne_eqb (get_or ks j 0) k q)
      ]

-- ── the rules of what is written ──

module _ (kind e : ℕ) (bs : List Block) (tree : Tree) (w : Writable kind e bs tree) where
  rules : Rule23 e bs tree
  rules = (rule23_decides e bs tree).yes w.rule_23

  known : All (λ k. has k (written bs tree) ≡ true) (entries_in tree)
  known = entries_written bs tree ((numbered_decides (length bs) tree).yes rules.numbers)

  pub renumbered-root : is_hole (renumbered bs tree) ≡ false
  renumbered-root = map_tree-is_hole (new_number bs tree) tree ∙ w.rooted

  -- 21
  pub written-rule21 : rule21 (nodes_of 0 e (renumbered bs tree)) ≡ true
  written-rule21 = nodes_of-rule21 e (renumbered bs tree) w.some_tick w.end_most renumbered-root (map_tree-halved (new_number bs tree) 0 e tree ∙ w.halves)

  -- a block is written exactly if it has a life
  pub entered_lives : (k : ℕ) → k < length bs → has k (entries_in tree) ≡ ltb (block_at bs k).created (block_at bs k).destroyed
  entered_lives k less = entry_life e bs tree w.some_tick w.halves w.rule_23 k less

  -- so one that lives is
  pub living-written : (k : ℕ) → k < length bs → (block_at bs k).created < (block_at bs k).destroyed → has k (written bs tree) ≡ true
  living-written k less lives = entry_written bs tree k less (entered_lives k less ∙ lt-ltb (block_at bs k).created (block_at bs k).destroyed lives)

  -- what is written lives
  pub written-lives : All (λ k. (block_at bs k).created < (block_at bs k).destroyed) (written bs tree)
  written-lives =
      all_both (λ k less z. ltb-true (block_at bs k).created (block_at bs k).destroyed (sym (entered_lives k less) ∙ z)) (written_below bs tree)
      (those_with-has (entries_in tree) (count_from 0 (length bs)))

  -- 22, if any block is written
  pub written-rule22 : 0 < length (written bs tree) → rule22 e (written_blocks bs tree) ≡ true
  written-rule22 h =
      decided (rule22 e (written_blocks bs tree)) (rule22_decides e (written_blocks bs tree))
      (record {
        some_block = rw (length_of_map (block_at bs) (written bs tree)) h;
        blocks = all_of_map (block_at bs) (all_both living (written_below bs tree) (those_with-has (entries_in tree) (count_from 0 (length bs))));
      })
    where
      living : (k : ℕ) → k < length bs → has k (entries_in tree) ≡ true → LivingBlock e (block_at bs k)
      living k less z =
          let whole : WholeBlock kind e (block_at bs k) = all_at no_block w.blocks k less in
          let full : (0 < size (block_at bs k).stretch) × (key_in bs k + size (block_at bs k).stretch ≤ 2 ^ 64 - 1) = (filled_decides (block_at bs k)).yes whole.full in
          record {
            some_cell = full.0;
            no_wrap = full.1;
            lives = ltb-true (block_at bs k).created (block_at bs k).destroyed (sym (entered_lives k less) ∙ z);
            by_end = whole.by_end;
          }

  written_sums : (j : ℕ) → j < length (written_blocks bs tree) → widths j 0 e (renumbered bs tree) ≡ life (block_at (written_blocks bs tree) j)
  written_sums j h =
      let less : j < length (written bs tree) = rw (length_of_map (block_at bs) (written bs tree)) at h in
      map_tree-widths (new_number bs tree) j (get_or (written bs tree) j 0) 0 e tree (all_map (same_number bs tree j less) known)
      ∙ rules.sums (get_or (written bs tree) j 0) (all_at 0 (written_below bs tree) j less)
      ∙ ap life (sym (written_at bs tree j less))

  -- 23
  pub written-rule23 : rule23 e (written_blocks bs tree) (renumbered bs tree) ≡ true
  written-rule23 =
      decided (rule23 e (written_blocks bs tree) (renumbered bs tree)) (rule23_decides e (written_blocks bs tree) (renumbered bs tree))
      (record {
        numbers = map_tree-numbered (new_number bs tree) (length (written_blocks bs tree)) tree inside;
        places = map_tree-placed (new_number bs tree) (block_at (written_blocks bs tree)) (block_at bs) (λ k. false) (λ k. false) 0 e tree same (all_map (λ k z. refl) known) ∙ rules.places;
        order = map_tree-sorted (new_number bs tree) (key_in (written_blocks bs tree)) (key_in bs) tree (all_map (λ k. ap first_cell) same) ∙ rules.order;
        sums = written_sums;
      })
    where
      same : All (λ k. block_at (written_blocks bs tree) (new_number bs tree k) ≡ block_at bs k) (entries_in tree)
      same = all_map (written_block bs tree) known

      inside : All (λ k. new_number bs tree k < length (written_blocks bs tree)) (entries_in tree)
      inside = all_map (λ k z. rw (length_of_map (block_at bs) (written bs tree)) (place_in-inside (written bs tree) k z)) known

  -- 24
  pub written_apart : apart (written_blocks bs tree) ≡ true
  written_apart =
      decided (apart (written_blocks bs tree)) (apart_decides (written_blocks bs tree))
      (pairs_of_map (block_at bs) (those_with-pairs (entries_in tree) (count_from_pairs 0 (length bs) (λ i j a b c. pairs_at no_block w.rule_24 i j b (omega arith)))))
