-- What the file of a closed index says: where every block has an entry, as rules 21 to 23 give, the blocks as they stand; and every number fits
-- its field. Assumes nothing.
use mathlib.Core.Path.{◌≡◌, refl, ◌∙◌, ap}
use mathlib.Core.Bool.{true}
use mathlib.Core.List.{List, map}
use Prim.Native.Nat.{ℕ, ◌<◌, ◌≤◌, ◌^◌, ◌+◌}
use native.Mathlib.Omega.{arith}
use lib.ListN.{length}
use lib.Seq.{ext_get_or}
use borrow.Author.Tests.{lt-ltb}
use Rattle.lists.specs.Lists.{All, has, count_from}
use Rattle.lists.proofs.Lists.{all_map, count_from_length, all_at, all_of_map, count_from_at, all_any}
use Rattle.lists.proofs.Maps.{length_of_map, get_d_of_map}
use Rattle.lists.proofs.Counting.{count_from_below}
use Rattle.history.specs.Words.{Block}
use Rattle.history.specs.Tree.{Tree, hole, node, mid, block_at, entries_in, entry_count, no_block}
use Rattle.history.specs.File.{written, written_blocks, contents, place_in, map_tree, nodes_of, tree_from, Nodes, end_of}
use Rattle.history.specs.Rules.{rule23}
use Rattle.history.proofs.RulesLaws.{numbered_decides, rule23_decides}
use Rattle.history.proofs.TreeEntries.{entry_life}
use Rattle.history.proofs.FileRoundTrip.{BlockFits, NodesFit, FileFits, absent_fits, present_fits}
use Rattle.history.proofs.FilePlaces.{those_with-length, those_with_same, place_in-below, place_in-count_from}
use Rattle.history.proofs.FileRules.{Rule21, Rule22}
use Rattle.history.proofs.FileRenumbered.{map_tree_same}

-- ── every block has an entry ──

-- every block has an entry, and no entry's number is too high
pub record Entered (bs : List Block) (tree : Tree) : Type 0 where
  pub entered : All (λ k. has k (entries_in tree) ≡ true) (count_from 0 (length bs))
  pub numbers : All (λ k. k < length bs) (entries_in tree)

-- rules 21 to 23 give that: a block that lives has an entry
pub rules_enter : (t : Nodes) (bs : List Block) → Rule21 t → Rule22 (end_of t) bs → rule23 (end_of t) bs (tree_from t) ≡ true → Entered bs (tree_from t)
rules_enter t bs h r z =
    record {
      entered = all_map in_tree (count_from_below 0 (length bs));
      numbers = (numbered_decides (length bs) (tree_from t)).yes ((rule23_decides (end_of t) bs (tree_from t)).yes z).numbers;
    }
  where
    in_tree : (k : ℕ) → (0 ≤ k) × (k < 0 + length bs) → has k (entries_in (tree_from t)) ≡ true
    in_tree k p =
        let less : k < length bs = omega arith in
        entry_life (end_of t) bs (tree_from t) h.some_tick h.halves z k less
        ∙ lt-ltb (block_at bs k).created (block_at bs k).destroyed (all_at no_block r.blocks k less).lives

-- ── the blocks as they stand ──

-- the blocks by their numbers
pub map-block_at : (bs : List Block) → map (block_at bs) (count_from 0 (length bs)) ≡ bs
map-block_at bs =
    ext_get_or no_block (map (block_at bs) (count_from 0 (length bs))) bs same
    (λ i h.
    let small : i < length (count_from 0 (length bs)) = rw (length_of_map (block_at bs) (count_from 0 (length bs))) at h in
    let less : i < length bs = rw (count_from_length 0 (length bs)) at small in
    get_d_of_map (block_at bs) (count_from 0 (length bs)) i 0 no_block small ∙ ap (block_at bs) (count_from_at 0 (length bs) i less ∙ omega arith))
  where
    same : length (map (block_at bs) (count_from 0 (length bs))) ≡ length bs
    same = length_of_map (block_at bs) (count_from 0 (length bs)) ∙ count_from_length 0 (length bs)

-- where every block has an entry, nothing is renumbered
pub contents_same : (kind e : ℕ) (bs : List Block) (tree : Tree) → Entered bs tree
    → contents kind e bs tree ≡ record { kind = kind; blocks = bs; nodes = nodes_of 0 e tree }
unfolding contents
contents_same kind e bs tree h =
    let numbers : List ℕ = count_from 0 (length bs) in
    let all : written bs tree ≡ numbers = those_with_same (entries_in tree) h.entered in
    let stays : map_tree (place_in numbers) tree ≡ tree =
    map_tree_same (place_in numbers) tree (all_map (λ k p. place_in-count_from 0 (length bs) k (omega arith) (omega arith) ∙ omega arith) h.numbers) in
    rw (all, stays, map-block_at bs) refl

-- ── every number fits its field ──

-- the nodes of a tree, under numbers below 2^64
pub nodes_fit : (f : ℕ → ℕ) → ((k : ℕ) → f k < 2 ^ 64) → (lo hi : ℕ) → lo < 2 ^ 64 → hi < 2 ^ 64
    → (t : Tree) → entry_count t < 2 ^ 64 → NodesFit (nodes_of lo hi (map_tree f t))
unfolding nodes_of map_tree entry_count
nodes_fit f small lo hi a b hole h = absent_fits
nodes_fit f small lo hi a b (node es l r) h =
    let c : mid lo hi < 2 ^ 64 = omega arith in
    let few : length (map f es) < 2 ^ 64 = rw (length_of_map f es) (omega arith) in
    present_fits a b c few (all_of_map f (all_any es small)) (nodes_fit f small lo (mid lo hi) a c l (omega arith)) (nodes_fit f small (mid lo hi) hi c b r (omega arith))

-- what is written of an index fits if its written blocks do, and the counts
pub record IndexFits (kind end : ℕ) (bs : List Block) (tree : Tree) : Type 0 where
  pub kindly : kind ≤ 4
  pub last : end < 2 ^ 64
  pub count : length bs < 2 ^ 64
  pub entries : entry_count tree < 2 ^ 64
  pub blocks : All (BlockFits kind) (written_blocks bs tree)

-- so reading gives them back
pub contents-fits : (kind e : ℕ) (bs : List Block) (tree : Tree) → IndexFits kind e bs tree → FileFits (contents kind e bs tree)
unfolding contents
contents-fits kind e bs tree h =
    let ks : List ℕ = written bs tree in
    let few : length ks ≤ length bs = rw (count_from_length 0 (length bs)) at (those_with-length (entries_in tree) (count_from 0 (length bs))) in
    record {
      kindly = h.kindly;
      count = rw (length_of_map (block_at bs) ks) (omega (arith, h.count));
      blocks = h.blocks;
      nodes = nodes_fit (place_in ks) (λ k. omega (arith, place_in-below ks k, h.count)) 0 e (omega arith) h.last tree h.entries;
    }
