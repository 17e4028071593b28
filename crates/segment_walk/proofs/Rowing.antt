-- A node's rows: they stand in the table, and those of a node that stands in the tables are its entries. Assumes nothing.
use mathlib.Core.Path.{◌≡◌, sym, ◌∙◌, ap}
use mathlib.Core.Logic.{⊎_elim}
use mathlib.Core.Bool.{true}
use mathlib.Core.List.{List}
use Prim.Native.Nat.{ℕ, ◌+◌, ◌-◌, ◌≤◌, ◌<◌}
use native.Mathlib.Omega.{arith}
use lib.ListN.{length, get_or}
use borrow.Author.Tests.{le-leb, lt-leb}
use Rattle.lists.proofs.Numbers.{le_or_lt, lt_or_le}
use Rattle.lists.proofs.Lists.{pairs_at}
use Rattle.history.specs.Tree.{Tree, node}
use Rattle.history.specs.Rules.{ascends}
use Rattle.history.proofs.RulesLaws.{ascends_decides, sorted_here}
use Rattle.segment_table.specs.Closed.{TreeAt, block_in, first_at, count_at, first_cell_in}
use Rattle.segment_table.proofs.Closed.{run_length, run_at}
use Rattle.segment_walk.specs.declared.walk.Node.{Node}
use Rattle.segment_walk.specs.Walking.{Stands}
use Rattle.segment_walk.specs.Rowing.{table_rows, rows_at, key_at, RunOf}

-- ── a node's rows ──

module _ (nodes entries : List ℕ) (link : ℕ) where
  rows_whole : first_at nodes link + count_at nodes link ≤ table_rows entries
      → rows_at nodes entries link ≡ record { from = first_at nodes link; to = first_at nodes link + count_at nodes link }
  unfolding rows_at
  rows_whole h = rw (le-leb (first_at nodes link + count_at nodes link) (table_rows entries) h)

  rows_none : table_rows entries < first_at nodes link + count_at nodes link → rows_at nodes entries link ≡ record { from = 0; to = 0 }
  unfolding rows_at
  rows_none h = rw (lt-leb (first_at nodes link + count_at nodes link) (table_rows entries) h)

  -- they stand in the table, in order
  pub rows_inside : ((rows_at nodes entries link).from ≤ (rows_at nodes entries link).to) × ((rows_at nodes entries link).to ≤ table_rows entries)
  rows_inside =
      ⊎_elim (λ (h : first_at nodes link + count_at nodes link ≤ table_rows entries). rw (rows_whole h) (omega arith, h))
      (λ (h : table_rows entries < first_at nodes link + count_at nodes link). rw (rows_none h) (omega arith, omega arith))
      (le_or_lt (first_at nodes link + count_at nodes link) (table_rows entries))

-- ── a node's rows are its entries ──

ascends_at : (key : ℕ → ℕ) (xs : List ℕ) (i j : ℕ) → ascends key xs ≡ true → i ≤ j → j < length xs → key (get_or xs i 0) ≤ key (get_or xs j 0)
ascends_at key xs i j e h k =
    ⊎_elim (λ (l : i < j). omega (arith, pairs_at 0 ((ascends_decides key xs).yes e) i j l k)) (λ (l : j ≤ i). let q : i ≡ j = omega arith in rw q (omega arith))
    (lt_or_le i j)

-- the run of a node that stands in the tables
pub run_of : (blocks nodes entries : List ℕ) (kind : ℕ) (n : Node) (xs : List ℕ) (l r : Tree) → Stands blocks nodes entries kind n (node xs l r)
    → RunOf blocks entries (rows_at nodes entries n.link) xs
unfolding TreeAt
run_of blocks nodes entries kind n xs l r s =
    let first : ℕ = first_at nodes n.link in
    let count : ℕ = count_at nodes n.link in
    let row = s.stood.0 in
    let fits : first + count ≤ table_rows entries = omega (arith, row.inside) in
    let whole : first + count - first ≡ count = omega arith in
    let keyed : (i : ℕ) → first ≤ i → i < first + count → key_at entries i ≡ first_cell_in blocks (block_in entries i) =
    λ i a b. let e : first + (i - first) ≡ i = omega arith in rw e at (row.keyed.key (i - first) (omega arith)) in
    let many : length xs ≡ count = ap length (sym row.listed) ∙ run_length entries first count in
    let at : (i : ℕ) → first ≤ i → i < first + count → get_or xs (i - first) 0 ≡ block_in entries i =
    λ i a b. let e : first + (i - first) ≡ i = omega arith in rw (e, row.listed) at (run_at entries first count (i - first) (omega arith)) in
    let up : ascends (first_cell_in blocks) xs ≡ true = sorted_here (first_cell_in blocks) xs l r s.ascend in
    rw (rows_whole nodes entries n.link fits)
    (record {
      order = omega arith;
      room = fits;
      lists = rw whole row.listed;
      keyed = keyed;
      ordered = record {
        order = λ i j a b c.
            let k : first_cell_in blocks (get_or xs (i - first) 0) ≤ first_cell_in blocks (get_or xs (j - first) 0) =
            ascends_at (first_cell_in blocks) xs (i - first) (j - first) up (omega arith) (omega arith) in
            rw (keyed i a (omega arith), keyed j (omega arith) c) (rw (at i a (omega arith), at j (omega arith) c) at k);
      };
    })
