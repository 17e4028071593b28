-- Where no two live blocks share a cell, first cells ascend strictly in every node of the tree of a kind: two blocks of one node are live
-- together, so they differ in their first cells. With that the tree keeps rule 23. Assumes nothing.
use mathlib.Core.Path.{◌≡◌, refl, sym, ◌∙◌, ap, subst}
use mathlib.Core.Logic.{◌≢◌}
use mathlib.Core.Bool.{Bool, true, false, ◌&&◌, not}
use mathlib.Core.List.{List}
use Prim.Native.Nat.{ℕ, suc, ◌+◌, ◌-◌, ◌^◌, ◌≤◌, ◌<◌}
use native.Mathlib.Omega.{arith}
use lib.ListN.{length}
use lib.Dec.{ltb}
use borrow.Author.Tests.{ltb-true}
use Rattle.lists.specs.Lists.{All, Ascending}
use Rattle.lists.proofs.Numbers.{and_left, decided}
use Rattle.lists.proofs.Lists.{all_both, all_at, pairs_at}
use Rattle.history.specs.Words.{size, Block, line_of, only_kind}
use Rattle.history.specs.Tree.{Tree, hole, node, mid, entries_of, left_of, right_of, insert, add_location, no_block, block_at, key_in, tree_of}
use Rattle.history.specs.Rules.{numbered, placed, ascends, sorted, rule23, Apart}
use Rattle.history.proofs.RulesLaws.{every_all, numbered_here, numbered_left, numbered_right, covers_node, placed_here, placed_left, placed_right, ascends_decides, sorted_node, sorted_here, sorted_left, sorted_right, rule23_decides}
use Rattle.history.proofs.TreeInserting.{insert_ascending}
use Rattle.history.proofs.TreeAdding.{covers-inside, Half, went, kept, made, listed, add_by, tree_by, add_block}
use Rattle.history.proofs.TreePlaced.{numbered-made, numbered_more, numbered_add, tree_of-numbered, placed-made, placed-own, tree_of-placed}
use Rattle.history.proofs.ByKind.{only_at, only_length, only_key, own_same, own-ends, own-lives}
use Rattle.history.proofs.TreeWidths.{widths-life}

-- ── blocks apart ──

-- a block is not empty, and its cells are of its kind
pub record Standing (b : Block) : Type 0 where
  pub some_cell : 0 < size b.stretch
  pub from_line : line_of b.kind ≤ b.stretch.first

-- two blocks that are both live at a tick
pub record Together (a b : Block) : Type 0 where
  pub tick : ℕ
  pub born : a.created ≤ tick
  pub alive : tick < a.destroyed
  pub other_born : b.created ≤ tick
  pub other_alive : tick < b.destroyed

-- Blocks of one kind that live together differ in first cell: else both would hold it.
pub cells_differ : (kind : ℕ) (bs : List Block) → Apart bs → All Standing bs → (i j : ℕ) → i < j → j < length bs
    → Together (block_at (only_kind kind bs) i) (block_at (only_kind kind bs) j) → key_in bs i ≢ key_in bs j
cells_differ kind bs apart standing i j h z both same =
    let one : (block_at bs i).kind ≡ kind = own-lives kind (block_at bs i) both.tick (rw (only_at kind bs i) at both.alive) in
    let other : (block_at bs j).kind ≡ kind = own-lives kind (block_at bs j) both.tick (rw (only_at kind bs j) at both.other_alive) in
    let first : Standing (block_at bs i) = all_at no_block standing i (omega arith) in
    let second : Standing (block_at bs j) = all_at no_block standing j z in
    let line : line_of (block_at bs i).kind ≡ line_of (block_at bs j).kind = ap line_of (one ∙ sym other) in
    let lives : Together (block_at bs i) (block_at bs j) = rw (only_at kind bs i ∙ own_same kind (block_at bs i) one, only_at kind bs j ∙ own_same kind (block_at bs j) other) at both in
    pairs_at no_block apart i j h z lives.tick (block_at bs i).stretch.first
    (record { born = lives.born; alive = lives.alive; has = record { from = omega arith; below = omega (arith, first.some_cell) } })
    (record { born = lives.other_born; alive = lives.other_alive; has = record { from = omega (arith, first.from_line, second.from_line); below = omega (arith, first.from_line, second.from_line, second.some_cell) } })

-- ── adding a block ──

module _ (at : ℕ → Block) (key : ℕ → ℕ) (b : ℕ) (differ : (x : ℕ) → x < b → Together (at x) (at b) → key x ≢ key b) where
  sorted-made : (T : Tree) → sorted key T ≡ true → sorted key (made T) ≡ true
  unfolding sorted ascends
  sorted-made hole h = refl
  sorted-made (node es l r) h = h

  -- a tree of the blocks before b, in order
  record Before (above : ℕ → Bool) (lo hi : ℕ) (T : Tree) : Type 0 where
    numbers : numbered b T ≡ true
    places : placed at above lo hi T ≡ true
    order : sorted key T ≡ true

  Sorts : (lo hi : ℕ) (before after : Tree) → Type 0
  Sorts lo hi T U = lo < hi → (above : ℕ → Bool) → Before above lo hi T → sorted key U ≡ true

  before_made : (above : ℕ → Bool) (lo hi : ℕ) (T : Tree) → Before above lo hi T → Before above lo hi (made T)
  before_made above lo hi T h = record {
    numbers = numbered-made b T h.numbers;
    places = placed-made at above lo hi T h.places;
    order = sorted-made T h.order;
  }

  -- the entries of a node other than b differ from it in key: they too are live at the node's first tick
  entries_differ : (above : ℕ → Bool) (lo hi : ℕ) (es : List ℕ) (l r : Tree) → lo < hi → covers_node at lo hi b ≡ true → Before above lo hi (node es l r)
      → All (λ x. key x ≢ key b) es
  entries_differ above lo hi es l r w e h =
      all_both one_differs (every_all (λ k. ltb k b) es (numbered_here b es l r h.numbers))
      (every_all (λ k. covers_node at lo hi k && not (above k)) es (placed_here at above lo hi es l r h.places))
    where
      one_differs : (x : ℕ) → ltb x b ≡ true → (covers_node at lo hi x && not (above x)) ≡ true → key x ≢ key b
      one_differs x p q =
          let mine = covers-inside (at b).created (at b).destroyed lo hi e in
          let its = covers-inside (at x).created (at x).destroyed lo hi (and_left (covers_node at lo hi x) (not (above x)) q) in
          differ x (ltb-true x b p)
          (record { tick = lo; born = its.0; alive = omega (arith, its.1); other_born = mine.0; other_alive = omega (arith, mine.1) })

  sorts_listed : (lo hi : ℕ) (T : Tree) → covers_node at lo hi b ≡ true → Sorts lo hi T (listed key b T)
  unfolding Sorts
  sorts_listed lo hi T e w above h =
      let whole = before_made above lo hi T h in
      let own : Ascending key (entries_of T) = (ascends_decides key (entries_of T)).yes (sorted_here key (entries_of T) (left_of T) (right_of T) whole.order) in
      sorted_node key (insert key b (entries_of T)) (left_of T) (right_of T)
      (decided (ascends key (insert key b (entries_of T))) (ascends_decides key (insert key b (entries_of T)))
      (insert_ascending key b (entries_differ above lo hi (entries_of T) (left_of T) (right_of T) w e whole) own))
      (sorted_left key (entries_of T) (left_of T) (right_of T) whole.order) (sorted_right key (entries_of T) (left_of T) (right_of T) whole.order)

  half_sorted : {goes stays : Type 0} (lo hi : ℕ) (above : ℕ → Bool) {T L : Tree} → Half goes stays (Sorts lo hi) T L → lo < hi → Before above lo hi T → sorted key L ≡ true
  unfolding Sorts
  half_sorted lo hi above (went g p) w h = p w above h
  half_sorted lo hi above (kept g) w h = h.order

  sorts_down : {c d : ℕ} (lo hi : ℕ) (T L R : Tree) → lo + 1 < hi → Half (c < mid lo hi) (mid lo hi ≤ c) (Sorts lo (mid lo hi)) (left_of T) L
      → Half (mid lo hi < d) (d ≤ mid lo hi) (Sorts (mid lo hi) hi) (right_of T) R → Sorts lo hi T (node (entries_of T) L R)
  unfolding Sorts
  sorts_down lo hi T L R v left right w above h =
      let whole = before_made above lo hi T h in
      let es = entries_of T in
      sorted_node key es L R (sorted_here key es (left_of T) (right_of T) whole.order)
      (half_sorted lo (mid lo hi) (covers_node at lo hi) left (omega arith)
      (record {
        numbers = numbered_left b es (left_of T) (right_of T) whole.numbers;
        places = placed_left at above lo hi es (left_of T) (right_of T) whole.places;
        order = sorted_left key es (left_of T) (right_of T) whole.order;
      }))
      (half_sorted (mid lo hi) hi (covers_node at lo hi) right (omega arith)
      (record {
        numbers = numbered_right b es (left_of T) (right_of T) whole.numbers;
        places = placed_right at above lo hi es (left_of T) (right_of T) whole.places;
        order = sorted_right key es (left_of T) (right_of T) whole.order;
      }))

  pub sorted_add : (n lo hi : ℕ) (T : Tree) → lo < hi → hi - lo ≤ 2 ^ n → (above : ℕ → Bool) → numbered b T ≡ true → placed at above lo hi T ≡ true → sorted key T ≡ true
      → sorted key (add_location key n b (at b).created (at b).destroyed lo hi T) ≡ true
  unfolding Sorts
  sorted_add n lo hi T w v above p q r =
      add_by key b (at b).created (at b).destroyed Sorts (λ lo hi T w p q e. sorts_listed lo hi T e) (λ lo hi T w n o v above h. sorted-made T h.order)
      (λ lo hi T L R w e. sorts_down lo hi T L R w) n lo hi T (omega arith) v w above (record { numbers = p; places = q; order = r })

-- ── the tree of a kind ──

pub tree_of-sorted : (kind e : ℕ) (bs : List Block) → 0 < e → e ≤ 2 ^ 63 → Apart bs → All Standing bs → sorted (key_in bs) (tree_of kind e bs) ≡ true
unfolding numbered placed sorted
tree_of-sorted kind e bs some z apart standing = (tree_by kind e bs Sound step (λ k T h other q. (numbered_more k (suc k) T (omega arith) q.0, q.1, q.2)) (refl, refl, refl)).2
  where
    Sound : (n : ℕ) → Tree → Type 0
    Sound n T = (numbered n T ≡ true) × (placed (block_at (only_kind kind bs)) (λ k. false) 0 e T ≡ true) × (sorted (key_in bs) T ≡ true)

    step : (k : ℕ) (T : Tree) → k < length bs → (block_at bs k).kind ≡ kind → Sound k T → Sound (suc k) (add_block (block_at bs) (key_in bs) e k T)
    step k T h mine q = (
      numbered_add (key_in bs) k (block_at bs k).created (block_at bs k).destroyed (suc k) (omega arith) 63 0 e T (omega arith) (omega arith) (numbered_more k (suc k) T (omega arith) q.0),
      placed-own kind e bs k T z mine q.1,
      subst (λ (b : Block). sorted (key_in bs) (add_location (key_in bs) 63 k b.created b.destroyed 0 e T) ≡ true)
          (only_at kind bs k ∙ own_same kind (block_at bs k) mine)
          (sorted_add (block_at (only_kind kind bs)) (key_in bs) k (λ x l both. cells_differ kind bs apart standing x k l h both) 63 0 e T some (omega arith) (λ k. false) q.0 q.1 q.2),
    )

-- The tree of a kind keeps rule 23 where the blocks are apart, standing and destroyed by E; those of another kind count as of no life.
pub tree_of-rule23 : (kind e : ℕ) (bs : List Block) → 0 < e → e ≤ 2 ^ 63 → Apart bs → All Standing bs → All (λ (b : Block). b.destroyed ≤ e) bs
    → rule23 e (only_kind kind bs) (tree_of kind e bs) ≡ true
tree_of-rule23 kind e bs some z apart standing ends =
    decided (rule23 e (only_kind kind bs) (tree_of kind e bs)) (rule23_decides e (only_kind kind bs) (tree_of kind e bs))
    (record {
      numbers = rw (only_length kind bs) (tree_of-numbered kind e bs z);
      places = tree_of-placed kind e bs z;
      order = rw (only_key kind bs) (tree_of-sorted kind e bs some z apart standing);
      sums = λ k h. widths-life kind e k bs z
          (rw (only_at kind bs k) (omega (arith, own-ends kind (block_at bs k), all_at no_block ends k (rw (only_length kind bs) at h))));
    })
