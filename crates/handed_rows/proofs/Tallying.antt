-- What is counted for each row when the first k of all rows were looked at: one step for each turn and each return. Assumes nothing.
use mathlib.Core.Path.{◌≡◌, refl, sym, subst, ◌∙◌}
use mathlib.Core.Bool.{Bool, true}
use mathlib.Core.List.{List, [], ◌∷◌, ◌++◌}
use Prim.Native.Nat.{ℕ, suc, ◌+◌, ◌-◌, ◌≤◌, ◌<◌}
use native.Mathlib.Omega.{arith}
use lib.Dec.{ltb}
use borrow.Author.Tests.{ltb-true}
use native.Mathlib.Numerals.{add-one}
use Rattle.lists.specs.Lists.{count_from}
use Rattle.lists.proofs.Lists.{count-append}
use Rattle.lists.proofs.Counting.{count_from_append}
use Rattle.history.specs.Words.{Block, cell_place}
use Rattle.history.specs.Lent.{row_width}
use Rattle.tables.specs.Columns.{column, block_column, block_first, block_length, block_created, block_destroyed, block_owner, block_next, piece_first, piece_length, piece_written, piece_owner}
use Rattle.block_table.specs.Blocks.{place_at, length_at, destroyed_at}
use Rattle.ordering.specs.Order.{next_at, OnlyOrder, Unordered}
use Rattle.ordering.proofs.Keeping.{order_column}
use Rattle.apart_laws.specs.Cover.{cut}
use Rattle.apart_laws.specs.Slots.{stretch_at, Slot, Counts, TakesIn}
use Rattle.apart_laws.proofs.Slots.{slot_steps}
use Rattle.block_table.specs.declared.Row.{Row}
use Rattle.block_table.specs.RowRead.{Reads}
use Rattle.ends_apart.specs.Rows.{LivesAt}
use Rattle.handed_rows.specs.Numbered.{Given, all_rows}
use Rattle.handed_rows.specs.Handed.{in_common, Grows, stays, takes, HandsOn, TakenOver, AllTaken, slot_at, Tallied, TalliedRows, Written, TalliedPieces}
use Rattle.handed_rows.proofs.Numbered.{Is, row_is, piece_is}
use Rattle.handed_rows.proofs.Along.{only_same, only_both}

-- ── one of all rows more ──

-- the numbers that were looked at, with one more
one_more : (k : ℕ) → count_from 0 (k + 1) ≡ count_from 0 k ++ k ∷ []
unfolding count_from
one_more k = let e : 0 + k ≡ k = omega arith in rw e at (count_from_append 0 k 1)

-- a sum that fell short may be less
counts_less : {bs : List Block} {t : ℕ} {xs : List ℕ} (b : List ℕ) (link : ℕ) {sum sum' : ℕ} → sum' ≤ sum → Counts bs t xs (slot_at b link sum) → Counts bs t xs (slot_at b link sum')
counts_less b link h c = record { blocks = c.blocks; among = c.among; born = c.born; adds = omega (arith, c.adds) }

counts-on : {bs : List Block} {t : ℕ} (k : ℕ) {s : Slot} → Counts bs t (count_from 0 k) s → Counts bs t (count_from 0 (k + 1)) s
counts-on {bs} {t} k {s} c =
    rw (one_more k) (slot_steps.more bs t (count_from 0 k) (count_from 0 k ++ k ∷ []) s (λ j. omega (arith, count-append j (count_from 0 k) (k ∷ []))) c)

-- one that has no life, or is passed over
pub tally_on : {g : Given} {b : List ℕ} {k : ℕ} → Tallied g b k → Tallied g b (k + 1)
tally_on {k = k} t = record { only = t.only; counts = λ link p q. counts-on k (t.counts link p q) }

-- one that has a life, and is created at the tick for which it was counted
pub tally_one : {g : Given} {b b' : List ℕ} {k first length tick destroyed : ℕ} → Tallied g b k → Is (all_rows g) k first length tick destroyed → tick < destroyed
    → HandsOn b b' g.n first length tick → Tallied g b' (k + 1)
unfolding cut
tally_one {g} {b} {b'} {k} {first} {length} {tick} {destroyed} t is lives hands = record {
  only = only_both t.only hands.only;
  counts = λ link p q. go link (t.counts link p q) (hands.grows link);
}
  where
    was : (link c : ℕ) → c < row_width → (c ≡ block_next → ⊥) → block_column b link c ≡ block_column g.blocks link c
    was link c = order_column t.only link c

    taken : (link : ℕ) → next_at b' link ≤ next_at b link + in_common (place_at b link) (length_at b link) first length
        → TakesIn (stretch_at (all_rows g) k) (slot_at g.blocks link (next_at b link)) (slot_at g.blocks link (next_at b' link))
    taken link h = record {
      lower = omega arith;
      upper = omega arith;
      adds = rw (is.from, is.many, ← was link block_owner (omega arith) (λ z. omega arith), ← was link block_first (omega arith) (λ z. omega arith), ← was link block_length (omega arith) (λ z. omega arith)) h;
    }

    go : (link : ℕ) → Counts (all_rows g) (destroyed_at g.blocks link) (count_from 0 k) (slot_at g.blocks link (next_at b link)) → Grows b b' first length tick link
        → Counts (all_rows g) (destroyed_at g.blocks link) (count_from 0 (k + 1)) (slot_at g.blocks link (next_at b' link))
    go link c (stays h) = counts-on k (counts_less g.blocks link h c)
    go link c (takes d h) =
        let at : destroyed_at g.blocks link ≡ tick = sym (was link block_destroyed (omega arith) (λ z. omega arith)) ∙ d in
        rw (one_more k)
        (slot_steps.takes (all_rows g) (destroyed_at g.blocks link) (count_from 0 k) k (slot_at g.blocks link (next_at b link)) (slot_at g.blocks link (next_at b' link))
        (record { created = is.born ∙ sym at; alive = omega (arith, is.dies) }) (taken link h) c)

-- ── the loop of `tally_rows` ──

pub record RowsTo (b₀ b : List ℕ) (n k : ℕ) : Type 0 where
  pub within : k ≤ n
  pub only : OnlyOrder b₀ b n
  pub done : (g : Given) → g.blocks ≡ b₀ → g.n ≡ n → Unordered b₀ n → Tallied g b k

pub rows_start : {b : List ℕ} {n : ℕ} → RowsTo b b n 0
unfolding count_from
rows_start {b} {n} = record {
  within = omega arith;
  only = only_same;
  done = λ g eb en u. record {
    only = rw eb only_same;
    counts = λ link p q. slot_steps.none (all_rows g) (destroyed_at g.blocks link) [] (slot_at g.blocks link (next_at b link)) (u.none link (omega arith));
  };
}

module _ {b₀ b : List ℕ} {n k : ℕ} {row : Row} (t : RowsTo b₀ b n k) (h : k < n) (r : Reads b (k + 1) row) where
  pub rows_pass : RowsTo b₀ b n (k + 1)
  rows_pass = record { within = omega arith; only = t.only; done = λ g eb en u. tally_on (t.done g eb en u) }

  pub rows_count : {b' : List ℕ} {l : Bool} → l ≡ ltb row.created row.destroyed → l ≡ true → HandsOn b b' n (cell_place row.owner row.first) row.length row.created
      → RowsTo b₀ b' n (k + 1)
  rows_count {b'} el alive hands = record { within = omega arith; only = only_both t.only hands.only; done = go }
    where
      lives : row.created < row.destroyed
      lives = ltb-true row.created row.destroyed (sym el ∙ alive)

      go : (g : Given) → g.blocks ≡ b₀ → g.n ≡ n → Unordered b₀ n → Tallied g b' (k + 1)
      go g eb en u =
          let s : Tallied g b k = t.done g eb en u in
          let was : (c : ℕ) → c < row_width → (c ≡ block_next → ⊥) → block_column b (suc k) c ≡ block_column g.blocks (suc k) c = λ c. order_column s.only (suc k) c in
          let is = row_is g k (omega arith) in
          let e : Reads b (suc k) row = rw (add-one k) at r in
          let reads : Is (all_rows g) k (cell_place row.owner row.first) row.length row.created row.destroyed = record {
            from = is.from ∙ rw (← was block_owner (omega arith) (λ z. omega arith), ← was block_first (omega arith) (λ z. omega arith), ← e.owner, ← e.first);
            many = is.many ∙ sym (was block_length (omega arith) (λ z. omega arith)) ∙ sym e.length;
            born = is.born ∙ sym (was block_created (omega arith) (λ z. omega arith)) ∙ sym e.created;
            dies = is.dies ∙ sym (was block_destroyed (omega arith) (λ z. omega arith)) ∙ sym e.destroyed;
          } in
          tally_one s reads lives (rw en hands)

pub rows_end : {b₀ b : List ℕ} {n k : ℕ} → RowsTo b₀ b n k → n ≤ k → TalliedRows b₀ b n
rows_end {b₀} {b} {n} {k} t h = record { only = t.only; done = λ g eb en u. let e : n ≡ k = omega (arith, t.within) in rw e (t.done g eb en u) }

pub ruleset rows = (rows_end)

-- ── the loop of `tally_pieces` ──

pub record PiecesTo (pieces : List ℕ) (m : ℕ) (b₀ b : List ℕ) (n k : ℕ) : Type 0 where
  pub within : k ≤ m
  pub only : OnlyOrder b₀ b n
  pub done : (g : Given) → g.pieces ≡ pieces → g.m ≡ m → g.n ≡ n → Written g → Tallied g b₀ n → Tallied g b (n + k)

pub pieces_start : {pieces b : List ℕ} {m n : ℕ} → PiecesTo pieces m b b n 0
pieces_start {n = n} = record { within = omega arith; only = only_same; done = λ g ep em en w t. let e : n + 0 ≡ n = omega arith in rw e t }

pub pieces_count_lem : {pieces b₀ b b' : List ℕ} {m n k kind first length written : ℕ} → PiecesTo pieces m b₀ b n k → k < m → kind ≡ column pieces (k + 1) piece_owner → first ≡ column pieces (k + 1) piece_first
    → length ≡ column pieces (k + 1) piece_length → written ≡ column pieces (k + 1) piece_written → HandsOn b b' n (cell_place kind first) length written → PiecesTo pieces m b₀ b' n (k + 1)
pieces_count_lem {pieces} {b₀} {b} {b'} {m} {n} {k} {kind} {first} {length} {written} t h eo ef el ew hands = record { within = omega arith; only = only_both t.only hands.only; done = go }
  where
    go : (g : Given) → g.pieces ≡ pieces → g.m ≡ m → g.n ≡ n → Written g → Tallied g b₀ n → Tallied g b' (n + (k + 1))
    go g ep em en w s =
        let is = piece_is g k (omega arith) in
        let next : n + (k + 1) ≡ g.n + k + 1 = omega arith in
        let link : suc k ≡ k + 1 = omega arith in
        let reads : Is (all_rows g) (g.n + k) (cell_place kind first) length written g.gone = rw (eo, ef, el, ew, ← ep, ← link) is in
        let so_far : Tallied g b (g.n + k) = subst (λ (x : ℕ). Tallied g b (x + k)) (sym en) (t.done g ep em en w s) in
        rw next (tally_one so_far reads (rw (ew, ← ep, ← link) (w (suc k) (omega arith) (omega arith))) (rw en hands))

pub pieces_end : {pieces b₀ b : List ℕ} {m n k : ℕ} → PiecesTo pieces m b₀ b n k → m ≤ k → TalliedPieces pieces m b₀ b n
pieces_end {pieces} {b₀} {b} {m} {n} {k} t h = record { only = t.only; done = λ g ep em en w s. let e : m ≡ k = omega (arith, t.within) in rw e (t.done g ep em en w s) }

pub ruleset pieces = (pieces_start, pieces_end)

-- ── all rows taken over ──

-- the row behind i is taken over, if it has a life
pub record RowTaken (blocks : List ℕ) (i : ℕ) : Type 0 where
  pub taken : LivesAt blocks (i + 1) → length_at blocks (i + 1) ≤ next_at blocks (i + 1)

pub row_taken : {blocks : List ℕ} {i : ℕ} {row : Row} → Reads blocks (i + 1) row → TakenOver row true → RowTaken blocks i
row_taken r t = record { taken = λ lives. let z = t.shown refl (omega (arith, r.created, r.destroyed, lives)) in omega (arith, z, r.length, r.next) }

pub rows_taken : {blocks : List ℕ} {n : ℕ} {q : Bool} → (q ≡ true → (i : ℕ) → 0 ≤ i → i < n → RowTaken blocks i) → AllTaken blocks n q
rows_taken {blocks} each = record {
  shown = λ e link a b.
      let z : link - 1 + 1 ≡ link = omega arith in
      rw z at ((each e (link - 1) (omega arith) (omega arith)).taken);
}
