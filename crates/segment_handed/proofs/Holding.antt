-- A node's run: a step for each return and turn of `hold_run`. Assumes nothing.
use mathlib.Core.Path.{◌≡◌, refl, sym, ◌∙◌}
use mathlib.Core.Bool.{Bool, true}
use mathlib.Core.List.{List, [], ◌∷◌, ◌++◌}
use Prim.Native.Nat.{ℕ, suc, ◌+◌, ◌≤◌, ◌<◌}
use native.Mathlib.Omega.{arith}
use Rattle.lists.specs.Lists.{All, all_nil, all_cons, pairs_nil, pairs_cons}
use Rattle.lists.proofs.Lists.{all_append, all_map, pairs-append}
use Rattle.history.specs.Tree.{Tree}
use Rattle.tables.specs.Sums.{plus_up_to}
use Rattle.apart_laws.specs.RightFirst.{HeldAll, held_none}
use Rattle.apart_laws.proofs.RightFirst.{held_last}
use Rattle.slots.specs.declared.Slots.{Slots}
use Rattle.slots.specs.Steps.{slots_of, Counts}
use Rattle.block_table.specs.declared.Row.{Row}
use Rattle.block_table.specs.RowRead.{Reads}
use Rattle.segment_table.specs.Closed.{run, block_in}
use Rattle.segment_table.proofs.Closed.{run-append}
use Rattle.segment_walk.specs.declared.walk.Node.{Node}
use Rattle.segment_test.specs.Parts.{RunRows}
use Rattle.segment_clear.specs.declared.Own.{Own}
use Rattle.segment_clear.specs.Clear.{end_in, Owned}
use Rattle.segment_clear.specs.Above.{Chained}
use Rattle.segment_clear.proofs.Clearing.{owned_owns}
use Rattle.segment_handed.specs.Rows.{row_blocks, Known, Fits}
use Rattle.segment_handed.specs.Tree.{Place, Entered, OpenAt, Owed, BlockHeld, RunStood, RunHeld}
use Rattle.segment_handed.proofs.Rows.{own_reads}

-- the blocks of the first j entries are held, and their entries are right
pub record HeldTo (blocks nodes entries : List ℕ) (root top : Node) (first many lo hi : ℕ) (after born : Slots) (j place : ℕ) (slots : Slots) : Type 0 where
  pub held : (n kind : ℕ) (at : Node) (whole : Tree) (above : List ℕ) → at.min ≡ lo → at.max ≡ hi → Place blocks nodes entries n kind root top at whole above
      → at.min < at.max → Entered blocks entries n kind first many lo
      → HeldAll (row_blocks blocks n kind) root.max (OpenAt blocks n kind root whole) lo hi above (slots_of after) (run entries first j) (slots_of born) (slots_of slots)
  pub chained : (n kind : ℕ) → Fits blocks n → Entered blocks entries n kind first many lo → Chained blocks (run entries first j)
  pub ends : (n kind : ℕ) → Fits blocks n → Entered blocks entries n kind first many lo → All (λ i. end_in blocks i ≤ place) (run entries first j)

-- one entry more
run_last : (entries : List ℕ) (first j : ℕ) → run entries first (j + 1) ≡ run entries first j ++ block_in entries (first + j) ∷ []
unfolding run
run_last entries first j = run-append entries first j 1

-- ── one block ──

-- if it is destroyed at max, nothing is owed for it
pub block_held : {blocks nodes entries : List ℕ} {root top : Node} {lo hi k : ℕ} {row : Row} {after born slots : Slots} {own : Own} → Owned k row own
    → (row.destroyed ≡ hi → Owed blocks nodes entries root top lo hi own after true) → Counts born lo row.created own.first own.end slots
    → BlockHeld blocks nodes entries root top lo hi k row after born slots true
block_held {blocks} {k = k} {row = row} is owed counts = record {
  shown = λ z n kind at whole above el eh w wide known read alive.
      let owns = owned_owns read is in
      let reads = own_reads blocks n kind k known w.all.fits read.created read.destroyed owns in
      record {
        slots = counts.slots (row_blocks blocks n kind) k row.destroyed reads (rw read.destroyed alive);
        clear = λ dies.
            let at-max = sym reads.gone ∙ dies in
            ((owed at-max).shown refl n kind k at whole above el eh w wide known owns (sym read.destroyed ∙ at-max)).clear;
        owes = λ dies.
            let at-max = sym reads.gone ∙ dies in
            ((owed at-max).shown refl n kind k at whole above el eh w wide known owns (sym read.destroyed ∙ at-max)).owes;
      };
}

-- ── the run ──

module _ {blocks nodes entries : List ℕ} {root top : Node} {first many lo hi : ℕ} {after born : Slots} where
  pub run_starts : HeldTo blocks nodes entries root top first many lo hi after born 0 0 born
  unfolding run
  run_starts = record {
    held = λ n kind at whole above el eh w wide entered. held_none;
    chained = λ n kind fits entered. pairs_nil;
    ends = λ n kind fits entered. all_nil;
  }

  -- all are held
  pub run_done : {j place : ℕ} {slots : Slots} {r : Bool} → j ≤ many → (j < many → ⊥) → HeldTo blocks nodes entries root top first many lo hi after born j place slots
      → RunHeld blocks nodes entries root top first many lo hi after born slots r
  run_done {j} most over held = record {
    shown = λ z n kind at whole above el eh w wide entered.
        let e : j ≡ many = omega arith in
        rw e at (held.held n kind at whole above el eh w wide entered);
    chained = λ z n kind fits entered. let e : j ≡ many = omega arith in rw e at (held.chained n kind fits entered);
  }

  module _ {j place place' k : ℕ} {read : Row} {slots : Slots} (h : j < many) (held : HeldTo blocks nodes entries root top first many lo hi after born j place slots)
      (ek : k ≡ block_in entries (first + j)) (is : Reads blocks (suc k) read) (behind : place ≤ read.first) (ep : place' ≡ plus_up_to read.first read.length) where
    -- one more
    pub run_holds : {r : Bool} {slots' : Slots} → BlockHeld blocks nodes entries root top lo hi k read after slots slots' r → r ≡ true
        → HeldTo blocks nodes entries root top first many lo hi after born (j + 1) place' slots'
    run_holds one y = record {
      held = λ n kind at whole above el eh w wide entered.
          rw (run_last entries first j, ← ek)
          (held_last (row_blocks blocks n kind) root.max (OpenAt blocks n kind root whole) (held.held n kind at whole above el eh w wide entered)
          (one.shown y n kind at whole above el eh w wide (known n kind entered) is (rw ek (entered.alive j h))));
      chained = λ n kind fits entered.
          rw (run_last entries first j, ← ek)
          (pairs-append (held.chained n kind fits entered) (pairs_cons all_nil pairs_nil)
          (all_map (λ i x. all_cons (omega (arith, behind, is.first)) all_nil) (held.ends n kind fits entered)));
      ends = λ n kind fits entered.
          let end = ended n kind fits entered in
          rw (run_last entries first j, ← ek)
          (all_append (all_map (λ i x. omega (arith, end, behind, is.first)) (held.ends n kind fits entered)) (all_cons (omega (arith, end)) all_nil));
    }
      where
        known : (n kind : ℕ) → Entered blocks entries n kind first many lo → Known blocks n kind k
        known n kind entered = rw ek (entered.known j h)

        ended : (n kind : ℕ) → Fits blocks n → Entered blocks entries n kind first many lo → place' ≡ end_in blocks k
        ended n kind fits entered = omega (arith, ep, is.first, is.length, fits.each k (known n kind entered).low)

-- ── the entries ──

pub rows_none : {blocks entries : List ℕ} {n kind first lo hi from to : ℕ} → RunRows blocks entries n kind first 0 lo hi from to
rows_none = record { each = λ j h. absurd (omega arith); ascending = λ j h. absurd (omega arith) }

pub rows_done : {blocks entries : List ℕ} {n kind first many lo hi from to j : ℕ} {r : Bool} → j ≤ many → (j < many → ⊥)
    → RunRows blocks entries n kind first j lo hi from to → RunStood blocks entries n kind first many lo hi from to r
rows_done {many = many} {j = j} most over rows = record { shown = λ z. let e : j ≡ many = omega arith in rw e at rows }
