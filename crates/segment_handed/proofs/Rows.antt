-- The rows of a block table as the blocks of one kind: what the tables say of block k holds of it. Assumes nothing.
use mathlib.Core.Path.{◌≡◌, ap, ◌∙◌}
use mathlib.Core.List.{List}
use Prim.Native.Nat.{ℕ, suc, ◌+◌, ◌<◌}
use native.Mathlib.Omega.{arith}
use lib.ListN.{length, get_or, length-replicate}
use borrow.Author.Tests.{eq-eqb}
use Rattle.lists.specs.Lists.{count_from}
use Rattle.lists.proofs.Lists.{count_from_length, count_from_at}
use Rattle.lists.proofs.Maps.{length_of_map, get_d_of_map}
use Rattle.history.specs.Words.{Block, line_of, first_cell, ends}
use Rattle.history.specs.Tree.{no_block, block_at}
use Rattle.tables.specs.Columns.{block_column, block_length}
use Rattle.slots.specs.Steps.{Spans, Reads}
use Rattle.apart_laws.specs.Slots.{stretch_at}
use Rattle.segment_table.specs.Closed.{first_cell_in}
use Rattle.segment_test.specs.Test.{owner_in, created_in, destroyed_in}
use Rattle.segment_test.specs.Parts.{own_created, own_destroyed, OwnRows}
use Rattle.segment_clear.specs.declared.Own.{Own}
use Rattle.segment_clear.specs.Clear.{end_in, Owns}
use Rattle.segment_handed.specs.Rows.{row_block, row_blocks, Known, Fits}

-- by cells: the first kind's line begins at 0
cell_first : (blocks : List ℕ) (kind k : ℕ) → first_cell (row_block blocks kind k) ≡ first_cell_in blocks k
unfolding row_block line_of
cell_first blocks kind k = omega arith

module _ (blocks : List ℕ) (n kind : ℕ) where
  pub rows-many : length (row_blocks blocks n kind) ≡ n
  unfolding row_blocks
  rows-many = length_of_map (row_block blocks kind) (count_from 0 n) ∙ count_from_length 0 n

  row_at_lem : (k : ℕ) → k < n → block_at (row_blocks blocks n kind) k ≡ row_block blocks kind k
  unfolding row_blocks
  row_at_lem k h =
      let low : k < length (count_from 0 n) = rw (count_from_length 0 n) h in
      let same : get_or (count_from 0 n) k 0 ≡ k = count_from_at 0 n k h ∙ omega arith in
      rw same at (get_d_of_map (row_block blocks kind) (count_from 0 n) k 0 no_block low)

  -- the rows are these blocks, as the kind sees them
  pub rows-own : OwnRows blocks kind n (row_blocks blocks n kind)
  unfolding row_block
  rows-own = record {
    many = rows-many;
    first = λ k h. ap first_cell (row_at_lem k h) ∙ cell_first blocks kind k;
    created = λ k h. ap (λ (b : Block). b.created) (row_at_lem k h);
    destroyed = λ k h. ap (λ (b : Block). b.destroyed) (row_at_lem k h);
  }

  pub row_spans : (k : ℕ) → k < n → Spans (stretch_at (row_blocks blocks n kind) k) (first_cell_in blocks k) (end_in blocks k)
  unfolding row_block
  row_spans k h = record {
    from = ap (λ (b : Block). b.stretch.first) (row_at_lem k h);
    to = ap (λ (b : Block). ends b.stretch) (row_at_lem k h) ∙ ap (λ (m : ℕ). first_cell_in blocks k + m) (length-replicate {A = ℕ} (block_column blocks (suc k) block_length) 0);
  }

  -- a block of the kind is what its row says
  pub row_reads : (k : ℕ) → Known blocks n kind k → Reads (row_blocks blocks n kind) k (created_in blocks k) (destroyed_in blocks k) (first_cell_in blocks k) (end_in blocks k)
  row_reads k known =
      let own = eq-eqb (owner_in blocks k) kind known.own in
      let begins : own_created blocks kind k ≡ created_in blocks k = rw own in
      let dies : own_destroyed blocks kind k ≡ destroyed_in blocks k = rw own in
      record { born = rows-own.created k known.low ∙ begins; gone = rows-own.destroyed k known.low ∙ dies; spans = row_spans k known.low }

  -- and what was read of it
  pub own_reads : (k : ℕ) {created destroyed : ℕ} {own : Own} → Known blocks n kind k → Fits blocks n → created ≡ created_in blocks k → destroyed ≡ destroyed_in blocks k
      → Owns blocks k own → Reads (row_blocks blocks n kind) k created destroyed own.first own.end
  own_reads k known fits ec ed is = rw (ec, ed, is.first, is.end (fits.each k known.low)) (row_reads k known)
