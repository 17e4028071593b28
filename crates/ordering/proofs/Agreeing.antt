-- Rule 24 over the rows of a table is rule 24 of history over the blocks that they stand for. Assumes nothing.
use mathlib.Core.Path.{◌≡◌}
use mathlib.Core.Logic.{⊎_elim}
use mathlib.Core.List.{List}
use Prim.Native.Nat.{ℕ, zero, suc, ◌+◌, ◌≤◌, ◌<◌}
use native.Mathlib.Omega.{arith}
use lib.ListN.{length, get_or}
use Rattle.lists.proofs.Lists.{pairs_at, pairs_of_at}
use Rattle.lists.proofs.Numbers.{lt_or_le}
use Rattle.history.specs.Words.{Holds}
use Rattle.history.specs.Tree.{no_block}
use Rattle.history.specs.Rules.{Apart}
use Rattle.block_table.specs.Blocks.{length_at, offset_at, block_of_row, blocks_of, Stored}
use Rattle.block_table.proofs.Blocks.{bytes_length, blocks_length, blocks_at}
use Rattle.ordering.specs.Apart.{HoldsAt, Clash, Unshared}
use Rattle.ordering.proofs.Parting.{clash_turned}

-- ── a row and its block ──

module _ (store t : List ℕ) (link : ℕ) (inside : offset_at t link + length_at t link ≤ length store) where
  pub row_holds : {tick cell : ℕ} → Holds tick cell (block_of_row store t link) → HoldsAt t tick cell link
  unfolding block_of_row
  row_holds h =
      record {
        from = h.has.from;
        below = rw (← bytes_length store t link inside) h.has.below;
        born = h.born;
        alive = h.alive;
      }

  pub holds_row : {tick cell : ℕ} → HoldsAt t tick cell link → Holds tick cell (block_of_row store t link)
  unfolding block_of_row
  holds_row h =
      record {
        born = h.born;
        alive = h.alive;
        has = record { from = h.from; below = rw (bytes_length store t link inside) h.below };
      }

-- ── all of them ──

module _ (store : List ℕ) {t : List ℕ} {n : ℕ} (stored : Stored (length store) t n) where
  pub unshared_apart : Unshared t n → Apart (blocks_of store t n)
  unshared_apart u = pairs_of_at no_block (blocks_of store t n) (λ i j h z. pair i j h (rw (blocks_length store t n) at z))
    where
      pair : (i j : ℕ) → i < j → j < n → (tick cell : ℕ) → Holds tick cell (get_or (blocks_of store t n) i no_block)
          → Holds tick cell (get_or (blocks_of store t n) j no_block) → ⊥
      pair i j h z tick cell a b =
          let one : Holds tick cell (block_of_row store t (suc i)) = rw (blocks_at store t n i no_block (omega arith)) at a in
          let other : Holds tick cell (block_of_row store t (suc j)) = rw (blocks_at store t n j no_block z) at b in
          let clash : Clash t (suc i) (suc j) = record {
            cell = cell;
            tick = tick;
            one = row_holds store t (suc i) (stored.inside (suc i) (omega arith) (omega arith)) one;
            other = row_holds store t (suc j) (stored.inside (suc j) (omega arith) (omega arith)) other;
          } in
          u.apart (suc i) (suc j) (omega arith) (omega arith) (omega arith) (omega arith) (λ e. omega arith) clash

  pub apart_unshared : Apart (blocks_of store t n) → Unshared t n
  apart_unshared p = record { apart = both }
    where
      pair : (i j : ℕ) → i < j → j < n → Clash t (suc i) (suc j) → ⊥
      pair i j h z c =
          let one : Holds c.tick c.cell (block_of_row store t (suc i)) =
          holds_row store t (suc i) (stored.inside (suc i) (omega arith) (omega arith)) c.one in
          let other : Holds c.tick c.cell (block_of_row store t (suc j)) =
          holds_row store t (suc j) (stored.inside (suc j) (omega arith) (omega arith)) c.other in
          pairs_at no_block p i j h (rw (blocks_length store t n) z) c.tick c.cell (rw (blocks_at store t n i no_block (omega arith)) one)
          (rw (blocks_at store t n j no_block z) other)

      both : (j k : ℕ) → 0 < j → j ≤ n → 0 < k → k ≤ n → (j ≡ k → ⊥) → Clash t j k → ⊥
      both zero k a b c d ne clash = absurd (omega arith)
      both (suc j) zero a b c d ne clash = absurd (omega arith)
      both (suc j) (suc k) a b c d ne clash =
          ⊎_elim (λ h. pair j k h (omega arith) clash) (λ h. pair k j (less h) (omega arith) (clash_turned clash)) (lt_or_le j k)
        where
          less : k ≤ j → k < j
          less h = omega arith
