-- What stands in the tables, in the words of history: the layout's tree with numbers, places and order of rule 23, both ways. Assumes nothing.
use mathlib.Core.Path.{◌≡◌, refl, sym, ap, ◌∙◌}
use mathlib.Core.Logic.{inl, inr}
use mathlib.Core.Bool.{Bool, true, ◌&&◌, not}
use mathlib.Core.List.{List}
use Prim.Native.Nat.{ℕ, zero, suc, ◌+◌, ◌-◌, ◌<◌}
use native.Mathlib.Omega.{arith}
use lib.ListN.{length, get_or}
use lib.Dec.{ltb}
use borrow.Author.Tests.{ltb-true, lt-ltb, not-true}
use Rattle.lists.specs.Lists.{All}
use Rattle.lists.proofs.Numbers.{lt_or_le, and_left, and_right, and_both, decided}
use Rattle.lists.proofs.Lists.{all_at, all_of_at, pairs_at, pairs_of_at}
use Rattle.history.specs.Words.{Block}
use Rattle.history.specs.Tree.{Tree, hole, node, mid, covers, block_at, key_in}
use Rattle.history.specs.Rules.{every, numbered, placed, ascends, sorted}
use Rattle.history.proofs.RulesLaws.{every_all, all_every, ascends_decides, covers_node, numbered_node, numbered_here, numbered_left, numbered_right, placed_node, placed_here, placed_left, placed_right, sorted_node, sorted_here, sorted_left, sorted_right}
use Rattle.tables.specs.Columns.{entry_column, entry_key}
use Rattle.segment_table.specs.Closed.{Tables, left_at, right_at, first_at, count_at, block_in, run, Keyed, NodeRow, TreeAt}
use Rattle.segment_table.proofs.Closed.{run_length, run_at}
use Rattle.segment_test.specs.Parts.{covers_above, own_created, own_destroyed, OwnRows, EntryRow, RunRows, NodeStands, TreeStands}

-- ── the list of a run ──

module _ (entries : List ℕ) (row many : ℕ) where
  -- what holds of the block of each row holds of the list, and back
  pub run-every : {P : ℕ → Type 0} → ((j : ℕ) → j < many → P (block_in entries (row + j))) → All P (run entries row many)
  run-every {P} f =
      all_of_at 0 (run entries row many) (λ j h. let z : j < many = rw (run_length entries row many) at h in rw (run_at entries row many j z) (f j z))

  pub run_each : {P : ℕ → Type 0} → All P (run entries row many) → (j : ℕ) → j < many → P (block_in entries (row + j))
  run_each {P} a j h = rw (run_at entries row many j h) at (all_at 0 a j (rw (run_length entries row many) h))

-- ── one run ──

module _ (blocks entries : List ℕ) (kind n : ℕ) (bs : List Block) (known : OwnRows blocks kind n bs) (row many lo hi from to : ℕ)
    (above : ℕ → Bool) (agree : (k : ℕ) → k < n → above k ≡ covers_above (own_created blocks kind k) (own_destroyed blocks kind k) from to) where
  -- the life of a known block covers the node, in the list as in the table
  same_covers : (k : ℕ) → k < n → covers_node (block_at bs) lo hi k ≡ covers (own_created blocks kind k) (own_destroyed blocks kind k) lo hi
  same_covers k h = rw (known.created k h, known.destroyed k h) refl

  module _ (rows : RunRows blocks entries n kind row many lo hi from to) where
    pub rows-numbered : every (λ k. ltb k n) (run entries row many) ≡ true
    rows-numbered = all_every (λ k. ltb k n) (run-every entries row many (λ j h. lt-ltb _ n (rows.each j h).known))

    pub rows-placed : every (λ k. covers_node (block_at bs) lo hi k && not (above k)) (run entries row many) ≡ true
    rows-placed = all_every (λ k. covers_node (block_at bs) lo hi k && not (above k)) (run-every entries row many here)
      where
        here : (j : ℕ) → j < many → (covers_node (block_at bs) lo hi (block_in entries (row + j)) && not (above (block_in entries (row + j)))) ≡ true
        here j h =
            let e = rows.each j h in
            and_both _ _ (same_covers (block_in entries (row + j)) e.known ∙ e.covering) (ap not (agree (block_in entries (row + j)) e.known ∙ e.not-above))

    -- rows that follow one another ascend from each to each later one
    rows_chain : (i d : ℕ) → suc (i + d) < many → entry_column entries (row + i) entry_key < entry_column entries (row + suc (i + d)) entry_key
    rows_chain i zero h = let e : i + 0 ≡ i = omega arith in rw e ((rows.ascending (suc i) (omega arith)).after i refl)
    rows_chain i (suc d) h =
        let e : i + suc d ≡ suc (i + d) = omega arith in
        rw e (omega (arith, rows_chain i d (omega arith), (rows.ascending (suc (suc (i + d))) (omega arith)).after (suc (i + d)) refl))

    rows_key : (j : ℕ) → j < many → key_in bs (get_or (run entries row many) j 0) ≡ entry_column entries (row + j) entry_key
    rows_key j h = rw (run_at entries row many j h) (known.first (block_in entries (row + j)) (rows.each j h).known ∙ sym (rows.each j h).keyed)

    pub rows-sorted : ascends (key_in bs) (run entries row many) ≡ true
    rows-sorted = decided (ascends (key_in bs) (run entries row many)) (ascends_decides (key_in bs) (run entries row many)) (pairs_of_at 0 (run entries row many) later)
      where
        later : (i j : ℕ) → i < j → j < length (run entries row many) → key_in bs (get_or (run entries row many) i 0) < key_in bs (get_or (run entries row many) j 0)
        later i j h z =
            let low : j < many = rw (run_length entries row many) at z in
            let e : j ≡ suc (i + (j - suc i)) = omega arith in
            let step : entry_column entries (row + i) entry_key < entry_column entries (row + j) entry_key = rw e (rows_chain i (j - suc i) (omega arith)) in
            omega (arith, rows_key i (omega arith), rows_key j low)

  -- back
  pub rows_of : Keyed blocks entries row many → every (λ k. ltb k n) (run entries row many) ≡ true
      → every (λ k. covers_node (block_at bs) lo hi k && not (above k)) (run entries row many) ≡ true → ascends (key_in bs) (run entries row many) ≡ true
      → RunRows blocks entries n kind row many lo hi from to
  rows_of keyed numbers places order = record { each = each; ascending = λ j h. record { after = after j h } }
    where
      low : (j : ℕ) → j < many → block_in entries (row + j) < n
      low j h = ltb-true (block_in entries (row + j)) n (run_each entries row many {P = λ k. ltb k n ≡ true} (every_all (λ k. ltb k n) (run entries row many) numbers) j h)

      placed_at : (j : ℕ) → j < many → (covers_node (block_at bs) lo hi (block_in entries (row + j)) && not (above (block_in entries (row + j)))) ≡ true
      placed_at j h =
          run_each entries row many {P = λ k. (covers_node (block_at bs) lo hi k && not (above k)) ≡ true}
          (every_all (λ k. covers_node (block_at bs) lo hi k && not (above k)) (run entries row many) places) j h

      each : (j : ℕ) → j < many → EntryRow blocks entries n kind (row + j) lo hi from to
      each j h = record {
        known = low j h;
        keyed = keyed.key j h;
        covering = sym (same_covers (block_in entries (row + j)) (low j h)) ∙ and_left (covers_node (block_at bs) lo hi (block_in entries (row + j))) (not (above (block_in entries (row + j)))) (placed_at j h);
        not-above = sym (agree (block_in entries (row + j)) (low j h)) ∙ not-true (above (block_in entries (row + j))) (and_right (covers_node (block_at bs) lo hi (block_in entries (row + j))) (not (above (block_in entries (row + j)))) (placed_at j h));
      }

      key_at_lem : (j : ℕ) → j < many → key_in bs (get_or (run entries row many) j 0) ≡ entry_column entries (row + j) entry_key
      key_at_lem j h = rw (run_at entries row many j h) (known.first (block_in entries (row + j)) (low j h) ∙ sym (keyed.key j h))

      after : (j : ℕ) → j < many → (i : ℕ) → suc i ≡ j → entry_column entries (row + i) entry_key < entry_column entries (row + j) entry_key
      after j h i e =
          let up : key_in bs (get_or (run entries row many) i 0) < key_in bs (get_or (run entries row many) j 0) =
          pairs_at 0 ((ascends_decides (key_in bs) (run entries row many)).yes order) i j (omega arith) (rw (run_length entries row many) h) in
          omega (arith, key_at_lem i (omega arith), key_at_lem j h)

-- ── the tree ──

-- a tree at no link is a hole
stands_hole : (t : Tables) (n kind lo hi from to : ℕ) (T : Tree) → TreeStands t n kind 0 lo hi from to T → T ≡ hole
unfolding TreeStands
stands_hole t n kind lo hi from to hole s = refl
stands_hole t n kind lo hi from to (node xs l r) s = absurd (omega (arith, s.1.row.some))

pub at_hole : (t : Tables) (kind lo hi : ℕ) (T : Tree) → TreeAt t kind 0 lo hi T → T ≡ hole
unfolding TreeAt
at_hole t kind lo hi hole s = refl
at_hole t kind lo hi (node xs l r) s = absurd (omega (arith, s.0.some))

-- the layout's tree at a link, with what rule 23 says of each node by itself
pub record RuledAt (t : Tables) (bs : List Block) (kind link lo hi : ℕ) (above : ℕ → Bool) (T : Tree) : Type 0 where
  pub stands : TreeAt t kind link lo hi T
  pub numbers : numbered (length bs) T ≡ true
  pub places : placed (block_at bs) above lo hi T ≡ true
  pub order : sorted (key_in bs) T ≡ true

module _ (t : Tables) (bs : List Block) (kind : ℕ) (known : OwnRows t.blocks kind (length bs) bs) where
  -- what the node [lo, hi) passes down: which blocks cover it
  passed : (lo hi : ℕ) → lo < hi → (k : ℕ) → k < length bs
      → covers_node (block_at bs) lo hi k ≡ covers_above (own_created t.blocks kind k) (own_destroyed t.blocks kind k) lo hi
  passed lo hi w k h = rw (lt-ltb lo hi w, known.created k h, known.destroyed k h) refl

  pub stands_ruled : (link lo hi from to : ℕ) (above : ℕ → Bool)
      → ((k : ℕ) → k < length bs → above k ≡ covers_above (own_created t.blocks kind k) (own_destroyed t.blocks kind k) from to)
      → (T : Tree) → TreeStands t (length bs) kind link lo hi from to T → RuledAt t bs kind link lo hi above T
  unfolding TreeStands TreeAt numbered placed sorted
  stands_ruled link lo hi from to above agree hole s = record { stands = s; numbers = refl; places = refl; order = refl }
  stands_ruled link lo hi from to above agree (node xs l r) s =
      elim (lt_or_le lo hi) [
        | inl w ↦
            joined (stands_ruled (left_at t.nodes link) lo (mid lo hi) lo hi (covers_node (block_at bs) lo hi) (passed lo hi w) l s.2)
            (stands_ruled (right_at t.nodes link) (mid lo hi) hi lo hi (covers_node (block_at bs) lo hi) (passed lo hi w) r s.3)
        | inr w ↦
            let none = s.1.row.narrow (omega arith) in
            let a : l ≡ hole = stands_hole t (length bs) kind lo (mid lo hi) lo hi l (rw none.0 at s.2) in
            let b : r ≡ hole = stands_hole t (length bs) kind (mid lo hi) hi lo hi r (rw none.1 at s.3) in
            joined (rw a (record { stands = none.0; numbers = refl; places = refl; order = refl })) (rw b (record { stands = none.1; numbers = refl; places = refl; order = refl }))
      ]
    where
      joined : RuledAt t bs kind (left_at t.nodes link) lo (mid lo hi) (covers_node (block_at bs) lo hi) l
          → RuledAt t bs kind (right_at t.nodes link) (mid lo hi) hi (covers_node (block_at bs) lo hi) r → RuledAt t bs kind link lo hi above (node xs l r)
      joined p q =
          let row : ℕ = first_at t.nodes link in
          let many : ℕ = count_at t.nodes link in
          let e : run t.entries row many ≡ xs = s.0 in
          record {
            stands = (rw e at s.1.row, p.stands, q.stands);
            numbers =
                numbered_node (length bs) xs l r (rw e at (rows-numbered t.blocks t.entries kind (length bs) bs known row many lo hi from to above agree s.1.rows))
                p.numbers q.numbers;
            places =
                placed_node (block_at bs) above lo hi xs l r (rw e at (rows-placed t.blocks t.entries kind (length bs) bs known row many lo hi from to above agree s.1.rows))
                p.places q.places;
            order =
                sorted_node (key_in bs) xs l r (rw e at (rows-sorted t.blocks t.entries kind (length bs) bs known row many lo hi from to above agree s.1.rows))
                p.order q.order;
          }

  pub ruled_stands : (link lo hi from to : ℕ) (above : ℕ → Bool)
      → ((k : ℕ) → k < length bs → above k ≡ covers_above (own_created t.blocks kind k) (own_destroyed t.blocks kind k) from to)
      → (T : Tree) → RuledAt t bs kind link lo hi above T → TreeStands t (length bs) kind link lo hi from to T
  unfolding TreeStands TreeAt
  ruled_stands link lo hi from to above agree hole s = s.stands
  ruled_stands link lo hi from to above agree (node xs l r) s =
      elim (lt_or_le lo hi) [
        | inl w ↦ (
          row.listed,
          here,
          ruled_stands (left_at t.nodes link) lo (mid lo hi) lo hi (covers_node (block_at bs) lo hi) (passed lo hi w) l (record {
            stands = s.stands.1;
            numbers = numbered_left (length bs) xs l r s.numbers;
            places = placed_left (block_at bs) above lo hi xs l r s.places;
            order = sorted_left (key_in bs) xs l r s.order;
          }),
          ruled_stands (right_at t.nodes link) (mid lo hi) hi lo hi (covers_node (block_at bs) lo hi) (passed lo hi w) r (record {
            stands = s.stands.2;
            numbers = numbered_right (length bs) xs l r s.numbers;
            places = placed_right (block_at bs) above lo hi xs l r s.places;
            order = sorted_right (key_in bs) xs l r s.order;
          }),
        )
        | inr w ↦
            let none = row.narrow (omega arith) in
            let a : l ≡ hole = at_hole t kind lo (mid lo hi) l (rw none.0 at s.stands.1) in
            let b : r ≡ hole = at_hole t kind (mid lo hi) hi r (rw none.1 at s.stands.2) in
            (row.listed, here, rw a none.0, rw b none.1)
      ]
    where
      row : NodeRow t kind link lo hi xs
      row = s.stands.0

      here : NodeStands t (length bs) kind link lo hi from to
      here = record {
        row = record {
          some = row.some;
          used = row.used;
          low = row.low;
          high = row.high;
          own_kind = row.own_kind;
          narrow = row.narrow;
          inside = row.inside;
          listed = refl;
          keyed = row.keyed;
        };
        rows =
            rows_of t.blocks t.entries kind (length bs) bs known (first_at t.nodes link) (count_at t.nodes link) lo hi from to above agree row.keyed
            (rw row.listed (numbered_here (length bs) xs l r s.numbers)) (rw row.listed (placed_here (block_at bs) above lo hi xs l r s.places))
            (rw row.listed (sorted_here (key_in bs) xs l r s.order));
      }
