-- A block by its number is what its row says. Assumes nothing.
use mathlib.Core.Path.{◌≡◌, ap, ◌∙◌}
use mathlib.Core.Bool.{true, false}
use mathlib.Core.List.{List}
use Prim.Native.Nat.{ℕ, suc, ◌+◌, ◌-◌, ◌<◌}
use native.Mathlib.Omega.{arith}
use lib.ListN.{length, length-replicate}
use lib.Dec.{ltb}
use borrow.Author.Tests.{lt-ltb, le-ltb}
use Rattle.lists.specs.Lists.{count_from}
use Rattle.lists.proofs.Lists.{count_from_length, count_from_at}
use Rattle.lists.proofs.Maps.{length_of_map, get_d_of_map}
use Rattle.history.specs.Words.{Block, size}
use Rattle.history.specs.Tree.{no_block, block_at}
use Rattle.tables.specs.Columns.{column, piece_length, piece_written}
use Rattle.block_table.specs.Blocks.{place_at, length_at, created_at, destroyed_at}
use Rattle.handed_rows.specs.Numbered.{Given, block_row, piece_row, numbered, all_rows}
use Rattle.handed_rows.specs.Handed.{piece_place}

-- block k has these cells and this life
pub record Is (bs : List Block) (k first length created destroyed : ℕ) : Type 0 where
  pub from : (block_at bs k).stretch.first ≡ first
  pub many : size (block_at bs k).stretch ≡ length
  pub born : (block_at bs k).created ≡ created
  pub dies : (block_at bs k).destroyed ≡ destroyed

module _ (g : Given) where
  pub all_many : length (all_rows g) ≡ g.n + g.m
  unfolding all_rows
  all_many = length_of_map (numbered g) (count_from 0 (g.n + g.m)) ∙ count_from_length 0 (g.n + g.m)

  all_at : (k : ℕ) → k < g.n + g.m → block_at (all_rows g) k ≡ numbered g k
  unfolding all_rows
  all_at k h =
      get_d_of_map (numbered g) (count_from 0 (g.n + g.m)) k 0 no_block (rw (count_from_length 0 (g.n + g.m)) h)
      ∙ ap (numbered g) (let e : 0 + k ≡ k = omega arith in count_from_at 0 (g.n + g.m) k h ∙ e)

  pub row_is : (k : ℕ) → k < g.n
      → Is (all_rows g) k (place_at g.blocks (suc k)) (length_at g.blocks (suc k)) (created_at g.blocks (suc k)) (destroyed_at g.blocks (suc k))
  unfolding numbered
  row_is k h =
      let low : ltb k g.n ≡ true = lt-ltb k g.n h in
      let at : block_at (all_rows g) k ≡ block_row g.blocks (suc k) = all_at k (omega arith) ∙ rw low in
      record {
        from = ap (λ (b : Block). b.stretch.first) at;
        many = ap (λ (b : Block). size b.stretch) at ∙ length-replicate {A = ℕ} (length_at g.blocks (suc k)) 0;
        born = ap (λ (b : Block). b.created) at;
        dies = ap (λ (b : Block). b.destroyed) at;
      }

  pub piece_is : (k : ℕ) → k < g.m
      → Is (all_rows g) (g.n + k) (piece_place g.pieces (suc k)) (column g.pieces (suc k) piece_length) (column g.pieces (suc k) piece_written) g.gone
  unfolding numbered
  piece_is k h =
      let high : ltb (g.n + k) g.n ≡ false = le-ltb (g.n + k) g.n (omega arith) in
      let e : g.n + k - g.n ≡ k = omega arith in
      let at : block_at (all_rows g) (g.n + k) ≡ piece_row g.pieces g.gone (suc k) = all_at (g.n + k) (omega arith) ∙ rw (high, e) in
      record {
        from = ap (λ (b : Block). b.stretch.first) at;
        many = ap (λ (b : Block). size b.stretch) at ∙ length-replicate {A = ℕ} (column g.pieces (suc k) piece_length) 0;
        born = ap (λ (b : Block). b.created) at;
        dies = ap (λ (b : Block). b.destroyed) at;
      }
