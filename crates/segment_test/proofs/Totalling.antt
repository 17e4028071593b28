-- All rows: a step for each turn and return of the loops of `total`. Assumes nothing.
use mathlib.Core.Path.{◌≡◌, refl, sym, ◌∙◌, ap}
use mathlib.Core.Bool.{false}
use mathlib.Core.List.{List}
use Prim.Native.Nat.{ℕ, suc, ◌+◌, ◌-◌, ◌*◌, ◌^◌, ◌≤◌, ◌<◌}
use Rattle.std.proofs.Math.Nat.{mul-le-mul_left}
use native.Mathlib.Omega.{arith}
use native.Mathlib.Numerals.{add-one}
use lib.Dec.{eqb}
use borrow.Author.Tests.{eqb-true, eqb-false}
use borrow.Author.Count.{below_more}
use Rattle.lists.specs.Tests.{Decides}
use Rattle.lists.proofs.Numbers.{refute}
use Rattle.tables.specs.Columns.{column, block_column, nodes_count, node_first, node_entries, node_min, node_max, entries_count, block_created, block_destroyed, block_owner}
use Rattle.segment_table.specs.Closed.{nodes_used, first_at, count_at}
use Rattle.segment_test.specs.Test.{owner_in}
use Rattle.segment_test.specs.Parts.{Tiled, LivesAre}
use Rattle.segment_test.specs.Total.{sum_to, entries_of_row, widths_of_row, life_in}
use Rattle.segment_test.proofs.Sums.{sum_more, sum_start, sum_front}

-- ── test_runs ──

-- the first k runs begin where those before end, and the last ends at a row, within the total
pub record TiledTo (nodes : List ℕ) (total at k : ℕ) : Type 0 where
  pub sum : at ≡ sum_to (entries_of_row nodes) k
  pub within : at ≤ total
  pub begins : (i : ℕ) → i < k → first_at nodes (suc i) ≡ sum_to (entries_of_row nodes) i

module _ {nodes : List ℕ} {total : ℕ} where
  pub tiled_none : TiledTo nodes total 0 0
  tiled_none = record { sum = sym (sum_start (entries_of_row nodes)); within = omega arith; begins = λ i h. absurd (omega arith) }

  pub tiled_more : {at at' k first many : ℕ} → TiledTo nodes total at k → first ≡ column nodes (k + 1) node_first → first ≡ at → many ≡ column nodes (k + 1) node_entries
      → many ≤ total - at → at' ≡ at + many → TiledTo nodes total at' (k + 1)
  tiled_more {at} {at'} {k} s p q r h e =
      let link : k + 1 ≡ suc k = add-one k in
      let begin : _ ≡ first_at nodes (suc k) = rw link at p in
      let count : _ ≡ count_at nodes (suc k) = rw link at r in
      record {
        sum = omega (arith, s.sum, sum_more (entries_of_row nodes) k);
        within = omega (arith, s.within);
        begins = below_more (λ (i : ℕ). first_at nodes (suc i) ≡ sum_to (entries_of_row nodes) i) k s.begins (sym begin ∙ q ∙ s.sum);
      }

pub tiled_over : {nodes entries : List ℕ} {used total at k many : ℕ} → used ≡ column nodes 0 nodes_count → total ≡ column entries 0 entries_count
    → TiledTo nodes total at k → k < used → many ≡ column nodes (k + 1) node_entries → total - at < many → Decides false (Tiled nodes entries)
tiled_over {nodes} {k = k} count sum so_far h p q =
    let link : k + 1 ≡ suc k = add-one k in
    let own : _ ≡ count_at nodes (suc k) = rw link at p in
    refute (λ t. omega (arith, t.total, so_far.sum, so_far.within, sum_more (entries_of_row nodes) k, sum_front (entries_of_row nodes) (k + 1) (nodes_used nodes) (omega arith)))

-- ── test_lives, entry_widths ──

-- the first k blocks are of kinds with roots, and their lives are added: each is a word at most
pub record LivesTo (blocks nodes : List ℕ) (sum k : ℕ) : Type 0 where
  pub rooted : (j : ℕ) → j < k → column nodes 0 (owner_in blocks j) ≡ 0 → ⊥
  pub total : sum ≡ sum_to (life_in blocks) k
  pub most : sum ≤ k * (2 ^ 64 - 1)

-- the root that was read is that of the kind of block k
root_is : (blocks nodes : List ℕ) (k owner root : ℕ) → owner ≡ block_column blocks (k + 1) block_owner → root ≡ column nodes 0 owner → root ≡ column nodes 0 (owner_in blocks k)
root_is blocks nodes k owner root own at = let link : k + 1 ≡ suc k = add-one k in at ∙ ap (λ (j : ℕ). column nodes 0 j) (rw link at own)

module _ {blocks nodes : List ℕ} where
  pub lives_none : LivesTo blocks nodes 0 0
  lives_none = record { rooted = λ j h. absurd (omega arith); total = sym (sum_start (life_in blocks)); most = omega arith }

  module _ {k sum owner root : ℕ} (so_far : LivesTo blocks nodes sum k) (own : owner ≡ block_column blocks (k + 1) block_owner) (at : root ≡ column nodes 0 owner) where
    pub lives_more : {c d x : ℕ} → (root ≡ 0 → ⊥) → c ≡ block_column blocks (k + 1) block_created → d ≡ block_column blocks (k + 1) block_destroyed
        → x ≡ d - c → x < 2 ^ 64 → LivesTo blocks nodes (sum + x) (k + 1)
    lives_more {c} {d} {x} some p q e word =
        let link : k + 1 ≡ suc k = add-one k in
        let from : c ≡ block_column blocks (suc k) block_created = rw link at p in
        let to : d ≡ block_column blocks (suc k) block_destroyed = rw link at q in
        let life : life_in blocks k ≡ x = rw (← from, ← to) (sym e) in
        record {
          rooted = below_more (λ (j : ℕ). column nodes 0 (owner_in blocks j) ≡ 0 → ⊥) k so_far.rooted (λ z. some (root_is blocks nodes k owner root own at ∙ z));
          total = omega (arith, so_far.total, sum_more (life_in blocks) k);
          most = omega (arith, so_far.most);
        }

    pub lives_unrooted : {n total : ℕ} → k < n → root ≡ 0 → Decides false (LivesAre blocks nodes n total)
    lives_unrooted h z = refute (λ l. l.rooted k h (sym (root_is blocks nodes k owner root own at) ∙ z))

  pub lives_all : {n k sum total : ℕ} → k ≤ n → (k < n → ⊥) → LivesTo blocks nodes sum k → Decides (eqb sum total) (LivesAre blocks nodes n total)
  lives_all {n} {k} {sum} {total} most over so_far =
      let last : k ≡ n = omega arith in
      let all : LivesTo blocks nodes sum n = rw last at so_far in
      record {
        yes = λ t. record { rooted = all.rooted; sum = sym (eqb-true sum total t) ∙ all.total };
        not = λ t l. eqb-false sum total t (all.total ∙ sym l.sum);
      }

-- the widths of the first k rows' entries are added: each is a word at most
pub record WidthsTo (nodes : List ℕ) (sum k : ℕ) : Type 0 where
  pub total : sum ≡ sum_to (widths_of_row nodes) k
  pub most : sum ≤ sum_to (entries_of_row nodes) k * (2 ^ 64 - 1)

-- a number of words is at most that many of the largest
words_most : (many width : ℕ) → width < 2 ^ 64 → many * width ≤ many * (2 ^ 64 - 1)
words_most many width h = let most : width ≤ 2 ^ 64 - 1 = omega arith in omega (arith, mul-le-mul_left many most)

module _ {nodes : List ℕ} where
  pub widths_none : WidthsTo nodes 0 0
  widths_none = record { total = sym (sum_start (widths_of_row nodes)); most = omega arith }

  module _ {sum k many width : ℕ} (so_far : WidthsTo nodes sum k) (counted : many ≡ column nodes (k + 1) node_entries) (word : width < 2 ^ 64) where
    pub widths_fit : k < nodes_used nodes → sum_to (entries_of_row nodes) (nodes_used nodes) < 2 ^ 64 → sum + many * width < 2 ^ 128
    widths_fit h fits =
        let link : k + 1 ≡ suc k = add-one k in
        let own : many ≡ count_at nodes (suc k) = rw link at counted in
        omega (arith, so_far.most, words_most many width word, sum_more (entries_of_row nodes) k, sum_front (entries_of_row nodes) (k + 1) (nodes_used nodes) (omega arith))

    pub widths_more : {min max : ℕ} → min ≡ column nodes (k + 1) node_min → max ≡ column nodes (k + 1) node_max → width ≡ max - min
        → WidthsTo nodes (sum + many * width) (k + 1)
    widths_more {min} {max} p q w =
        let link : k + 1 ≡ suc k = add-one k in
        let own : many ≡ count_at nodes (suc k) = rw link at counted in
        let low : min ≡ column nodes (suc k) node_min = rw link at p in
        let high : max ≡ column nodes (suc k) node_max = rw link at q in
        let product : widths_of_row nodes k ≡ many * width = rw (w, low, high, own) refl in
        record {
          total = omega (arith, so_far.total, sum_more (widths_of_row nodes) k, product);
          most = omega (arith, so_far.most, words_most many width word, sum_more (entries_of_row nodes) k);
        }
