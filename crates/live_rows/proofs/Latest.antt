-- The returns of `later`, and where a node's rows stand.
use Rattle.std.specs.Prelude.{Option, Some, None}
use mathlib.Core.Path.{◌≡◌, refl, ap}
use mathlib.Core.List.{List}
use Prim.Native.Nat.{ℕ, ◌-◌, ◌≤◌, ◌<◌}
use native.Mathlib.Omega.{arith}
use Rattle.segment_table.specs.Closed.{block_in}
use Rattle.segment_walk.specs.declared.rows.Rows.{Rows}
use Rattle.segment_walk.specs.Rowing.{table_rows, rows_at, key_at, Lower}
use Rattle.segment_walk.proofs.Rowing.{rows_inside}
use Rattle.segment_near.specs.declared.Side.TheVariants.{Before}
use Rattle.segment_near.specs.declared.Neighbour.{Neighbour}
use Rattle.segment_near.specs.Neighbours.{Nearer}
use Rattle.segment_near.proofs.Neighbouring.{own_is_before, own_none_before, nearer_below, nearer_own, nearer_before_below, nearer_before_own}
use Rattle.live_rows.specs.Extents.{Later}

-- ── the returns of `later` ──

alone : (best : Option Neighbour) → Nearer Before best None best
alone None = nearer_below refl
alone (Some b) = nearer_own refl refl

module _ {entries : List ℕ} {rows : Rows} {row : ℕ} {best : Option Neighbour} where
  pub later_none : row ≤ rows.from → Later entries rows row best best
  later_none h = record { of_place = λ place l. (None, own_none_before l refl h, alone best) }

  module _ {own : Neighbour} (h : rows.from < row) (o : own ≡ record { number = block_in entries (row - 1); first = key_at entries (row - 1) }) where
    pub later_first : best ≡ None → Later entries rows row best (Some own)
    later_first e = record { of_place = λ place l. (Some own, own_is_before l refl h (ap (λ (n : Neighbour). Some n) o), nearer_below e) }

    module _ {block : Neighbour} (e : best ≡ Some block) where
      pub later_own : block.first < own.first → Later entries rows row best (Some own)
      later_own q = record { of_place = λ place l. (Some own, own_is_before l refl h (ap (λ (n : Neighbour). Some n) o), nearer_before_below e refl refl q) }

      pub later_best : own.first ≤ block.first → Later entries rows row best (Some block)
      later_best q = record { of_place = λ place l. (Some own, own_is_before l refl h (ap (λ (n : Neighbour). Some n) o), nearer_before_own e refl refl q) }

pub ruleset latest = (later_none, later_first, later_own, later_best)

-- ── a node's rows stand in the table, and so does the place where those of a window begin ──

module _ (nodes entries : List ℕ) (link : ℕ) {rows : Rows} (e : rows ≡ rows_at nodes entries link) where
  pub rows_in_table : rows.to ≤ table_rows entries
  rows_in_table = rw e (rows_inside nodes entries link).1

  pub row_in_table : {start row : ℕ} → Lower entries rows start row → row ≤ table_rows entries
  row_in_table low = let inside : rows.from ≤ rows.to = rw e (rows_inside nodes entries link).0 in omega (arith, low.inside inside, rows_in_table)
