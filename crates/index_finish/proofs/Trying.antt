-- Rule 24 of the blocks, tried in tables of zeros: one step for each return. If no two blocks share a cell, the trees that are built of them
-- keep document 01's rules; so where the test of the trees says no, two do. Assumes nothing.
use mathlib.Core.Path.{◌≡◌, refl, sym, subst, ap, ◌∙◌}
use mathlib.Core.Bool.{Bool, true, false, cond, false≢true}
use mathlib.Core.List.{List, [], append-nil}
use Prim.Native.Nat.{ℕ, suc, ◌^◌, ◌≤◌, ◌<◌}
use native.Mathlib.Omega.{arith}
use lib.ListN.{length, replicate}
use lib.Dec.{ltb}
use borrow.Author.Tests.{ltb-false}
use Rattle.lists.specs.Lists.{All, count, count_from}
use Rattle.lists.specs.Tests.{Decides}
use Rattle.lists.proofs.Lists.{all_of_at}
use Rattle.lists.proofs.Numbers.{decides_iff}
use Rattle.history.specs.Words.{Block}
use Rattle.history.specs.Tree.{Tree, no_block, trees_of, nodes_in, entries_all}
use Rattle.history.specs.Rules.{Apart}
use Rattle.history.proofs.EveryList.{trees_at}
use Rattle.history.proofs.TreePlaced.{tree_of_rooted, tree_of-halved}
use Rattle.history.proofs.TreeSorted.{Standing, tree_of-rule23}
use Rattle.tables.specs.Columns.{nodes_count}
use Rattle.segment_table.specs.Closed.{Closed}
use Rattle.history.specs.Ledger.{Ledger}
use Rattle.block_table.specs.Blocks.{block_of_row, blocks_of, Filled, Stored}
use Rattle.block_table.proofs.Blocks.{blocks_length, blocks_at, blocks_key, bytes_length}
use Rattle.ordering.specs.Order.{Sorted, cleared}
use Rattle.ordering.specs.Apart.{Unshared, TestedApart}
use Rattle.ordering.proofs.Parting.{comparable_whole}
use Rattle.ordering.proofs.Keeping.{blocks_order, filled_order, stored_order}
use Rattle.ordering.proofs.Clearing.{cleared_back}
use Rattle.ordering.proofs.Agreeing.{unshared_apart, apart_unshared}
use Rattle.segment_tree.specs.Count.{rows_in}
use Rattle.segment_tree.specs.Lives.{entry_rows_in, room_for, rows_to_count, Countable, CountedAs, CountedTrees}
use Rattle.segment_tree.specs.Fill as fill
use Rattle.segment_tree.specs.Fill.{lent_tables}
use Rattle.segment_test.specs.Test.{lent, BlockRows, ClosedTrees}
use Rattle.segment_apart.specs.Apart.{ClosedApart}
use Rattle.std.specs.Prelude.{is_err, Ok, Err, Result as Told}
use Rattle.refusals.specs.declared.Refusal.{Refusal}
use Rattle.refusals.specs.declared.Refusal.TheVariants.{NodesFull, EntriesFull}
use Rattle.layout.specs.Tables.{Tables}
use Rattle.layout.specs.Formed.{Blank}
use Rattle.index_finish.specs.Trial.{Tryable, StandsApart, OrderApart, BlocksApart}
use Rattle.index_finish.specs.Finish.{StandsOpen}
use Rattle.index_finish.proofs.Standing.{heads, room, few_rows, stored, known, unordered}
use Rattle.index_finish.proofs.Agreeing.{bounded}
use Rattle.index_finish.proofs.Counting.{row_lives}
use Rattle.index_finish.proofs.Settling.{closable}

-- ── the returns of `trees_apart` ──

module _ {blocks nodes entries : List ℕ} {e n : ℕ} {q : Bool}
    (trees : (bs : List Block) → BlockRows blocks n bs → Decides q (ClosedTrees (lent blocks nodes entries) e bs)) where
  pub trees_none : q ≡ false → StandsApart (lent blocks nodes entries) e n false
  trees_none f = record { shown = λ z. absurd (false≢true z); shares = λ z bs rows bounded index u. (trees bs rows).not f index }

  pub trees_asked : {r : Bool} → q ≡ true → ClosedApart (lent blocks nodes entries) e n r → StandsApart (lent blocks nodes entries) e n r
  trees_asked f d = record {
    shown = λ z bs rows bounded. (d.decides bs rows ((trees bs rows).yes f) bounded).yes z;
    shares = λ z bs rows bounded index u. (d.decides bs rows index bounded).not z u;
  }

pub ruleset asking = (trees_none, trees_asked)

-- ── what is tried ──

-- where there is room, the entries fit
room_space : (node_rows entry_rows : ℕ) (trees : List Tree) {r : Told Unit Refusal} → r ≡ room_for node_rows entry_rows trees → r ≡ Ok tt → entries_all trees ≤ entry_rows
room_space node_rows entry_rows trees {r} told z = go (ltb node_rows (nodes_in trees)) (ltb entry_rows (entries_all trees)) refl told
  where
    go : (n m : Bool) → ltb entry_rows (entries_all trees) ≡ m → r ≡ cond n (Err NodesFull) (cond m (Err EntriesFull) (Ok tt)) → entries_all trees ≤ entry_rows
    go true m w e = absurd (cc)
    go false true w e = absurd (cc)
    go false false w e = ltb-false entry_rows (entries_all trees) w

module _ {store blocks nodes entries : List ℕ} {e n : ℕ} (t : Tryable store blocks nodes entries e n) where
  abbrev bs : List Block
  bs = blocks_of store blocks n

  block_rows_lem : BlockRows blocks n bs
  unfolding block_of_row
  block_rows_lem = record {
    many = blocks_length store blocks n;
    known = λ k h. omega (arith, t.known (suc k) (omega arith) (omega arith));
    kinds = λ k h. ap (λ (b : Block). b.kind) (blocks_at store blocks n k no_block h);
    first = λ k h. blocks_key store blocks n k h;
    created = λ k h. ap (λ (b : Block). b.created) (blocks_at store blocks n k no_block h);
    destroyed = λ k h. ap (λ (b : Block). b.destroyed) (blocks_at store blocks n k no_block h);
  }

  filled : Filled blocks n
  filled = record {
    filled = λ link p q. (t.bounded.rows link p q).some_cell;
    no_wrap = λ link p q. omega (arith, (t.bounded.rows link p q).no_wrap);
  }

  each_stands : All Standing bs
  unfolding block_of_row
  each_stands =
      all_of_at no_block bs
      (λ i h.
      let low : i < n = omega (arith, blocks_length store blocks n) in
      let many = bytes_length store blocks (suc i) (t.stored.inside (suc i) (omega arith) (omega arith)) in
      rw (blocks_at store blocks n i no_block low)
      (record { some_cell = omega (arith, (t.bounded.rows (suc i) (omega arith) (omega arith)).some_cell); from_line = omega arith }))

  each_known : All (λ (b : Block). b.kind < nodes_count) bs
  unfolding block_of_row
  each_known =
      all_of_at no_block bs
      (λ i h.
      let low : i < n = omega (arith, blocks_length store blocks n) in
      rw (blocks_at store blocks n i no_block low) (omega (arith, t.known (suc i) (omega arith) (omega arith))))

  each_ends : All (λ (b : Block). b.destroyed ≤ e) bs
  unfolding block_of_row
  each_ends =
      all_of_at no_block bs
      (λ i h.
      let low : i < n = omega (arith, blocks_length store blocks n) in
      rw (blocks_at store blocks n i no_block low) (t.bounded.rows (suc i) (omega arith) (omega arith)).by_end)

  -- the count of the blocks alone
  countable : (none : List ℕ) → Countable (rows_to_count blocks n none 0 e) nodes bs [] []
  unfolding count count_from
  countable none = record {
    zeros = t.node_zeros;
    some = t.some;
    small = t.small;
    known = rw (append-nil bs) each_known;
    few = t.few;
    blocks_are = row_lives store blocks n;
    pieces_are = refl;
    all_pieces = λ k. refl;
  }

  counted_as : {none nodes' : List ℕ} {r : Told Unit Refusal} → CountedTrees (rows_to_count blocks n none 0 e) nodes entries nodes' r → CountedAs nodes entries nodes' e (trees_of e bs) r
  counted_as {none} c = rw (append-nil bs) at (c.done bs [] [] (countable none))

  -- what is built of blocks that share nothing keeps the rules
  index_of : {nodes₁ nodes' entries' : List ℕ} {r : Told Unit Refusal} → CountedAs nodes entries nodes₁ e (trees_of e bs) r → r ≡ Ok tt → length nodes₁ ≡ length nodes
      → length entries' ≡ length entries → fill.ClosedTrees (lent_tables blocks nodes₁ entries) (lent_tables blocks nodes' entries') n e → Unshared blocks n
      → ClosedTrees (lent blocks nodes' entries') e bs
  index_of {nodes₁} {nodes'} {entries'} {r} c z long same made u =
      let apart : Apart bs = unshared_apart store t.stored u in
      let fits : entries_all (trees_of e bs) ≤ entry_rows_in entries = room_space (rows_in nodes) (entry_rows_in entries) (trees_of e bs) c.answer z in
      let closed : Closed (lent_tables blocks nodes' entries') e (trees_of e bs) =
      made.done bs (closable store blocks refl t.small each_known (c.counted z) (omega (arith, t.nodes_headed)) t.entries_headed fits) in
      record {
        trees = trees_of e bs;
        block_room = omega (arith, t.room, blocks_length store blocks n);
        entry_room = omega (arith, closed.all_entries_lem, t.entries_headed);
        closed = closed;
        each = λ kind low.
            rw (trees_at e bs kind (omega arith))
            (record {
              rooted = tree_of_rooted kind e bs;
              rule_21 = tree_of-halved kind e bs t.small;
              rule_23 = tree_of-rule23 kind e bs t.some t.small apart each_stands each_ends;
            });
      }

-- ── an open index can be tried ──

pub tryable : {t : Tables} {l : Ledger} → StandsOpen t l → Blank t → length t.blocks < 2 ^ 64
    → Tryable t.store t.blocks t.nodes t.entries l.opening.end (length l.now.blocks)
tryable s blank few_blocks = record {
  node_zeros = blank.nodes;
  entry_zeros = blank.entries;
  nodes_headed = (heads s).nodes;
  entries_headed = (heads s).entries;
  some = omega (arith, s.sound.board.some_tick);
  small = s.sound.board.end_most;
  few = omega (arith, few_rows s few_blocks);
  room = omega (arith, room s);
  unordered = unordered s;
  stored = stored s;
  bounded = bounded s;
  known = known s;
}

-- ── the return of `order_apart` ──

pub order_tried : {blocks b b' : List ℕ} {n : ℕ} {r : Bool} → Sorted blocks b n → TestedApart b n r → b' ≡ cleared b n → OrderApart blocks n b' r
order_tried {blocks} {b} {b'} {n} {r} sort test clear = record {
  done = λ store none room full inside.
      let o = sort.done room in
      let same : blocks_of store b n ≡ blocks_of store blocks n = blocks_order store n o.only in
      let kept : Stored (length store) b n = stored_order o.only inside in
      record {
        same = clear ∙ cleared_back blocks b n none o.only;
        decides = decides_iff r (λ u. apart_unshared store inside (subst Apart same (unshared_apart store kept u)))
            (λ u. apart_unshared store kept (subst Apart (sym same) (unshared_apart store inside u))) (test.decides o.order (comparable_whole (filled_order o.only full)));
      };
}

-- ── the returns of `blocks_apart` ──

-- what is no refusal is accepted
is_full : (r : Told Unit Refusal) → is_err r ≡ true → r ≡ Ok tt → ⊥
is_full (Ok u) f e = false≢true f
is_full (Err x) f e = cc

is_room : (r : Told Unit Refusal) → is_err r ≡ false → r ≡ Ok tt
is_room (Ok u) f = refl
is_room (Err x) f = absurd (false≢true (sym f))

module _ {blocks nodes entries : List ℕ} {e n : ℕ} {none nodes₁ : List ℕ} {told : Told Unit Refusal}
    (counted : CountedTrees (rows_to_count blocks n none 0 e) nodes entries nodes₁ told) {full : Bool} (is : full ≡ is_err told) where
  pub tried_order : {b : List ℕ} {r : Bool} → full ≡ true → OrderApart blocks n b r → BlocksApart blocks nodes entries e n b nodes₁ entries r
  tried_order f d = record {
    done = λ store t.
        let tried = d.done store t.unordered t.room (filled t) t.stored in
        record { blocks_same = tried.same; nodes_same = (counted_as t counted).refused (is_full told (sym is ∙ f)); entries_same = refl; decides = tried.decides };
  }

  pub tried_trees : {nodes₂ entries₂ nodes₃ entries₃ : List ℕ} {r : Bool} → full ≡ false → length nodes₁ ≡ length nodes → length nodes₂ ≡ length nodes
      → length entries₂ ≡ length entries → fill.ClosedTrees (lent_tables blocks nodes₁ entries) (lent_tables blocks nodes₂ entries₂) n e
      → StandsApart (lent blocks nodes₂ entries₂) e n r → nodes₃ ≡ replicate (length nodes₂) 0 → entries₃ ≡ replicate (length entries₂) 0
      → BlocksApart blocks nodes entries e n blocks nodes₃ entries₃ r
  tried_trees f long₁ long₂ long made d zero-nodes zero-entries = record {
    done = λ store t. record {
      blocks_same = refl;
      nodes_same = zero-nodes ∙ ap (λ (k : ℕ). replicate k 0) long₂ ∙ sym t.node_zeros;
      entries_same = zero-entries ∙ ap (λ (k : ℕ). replicate k 0) long ∙ sym t.entry_zeros;
      decides = record {
        yes = λ y. d.shown y (bs t) (block_rows_lem t) t.bounded;
        not = λ y u. d.shares y (bs t) (block_rows_lem t) t.bounded (index_of t (counted_as t counted) (is_room told (sym is ∙ f)) long₁ long made u) u;
      };
    };
  }

pub ruleset trying = (tried_order, tried_trees)
