-- One node's entries: a turn of `test_run`. Assumes nothing.
use mathlib.Core.Path.{◌≡◌}
use mathlib.Core.Bool.{Bool, true}
use mathlib.Core.List.{List}
use Prim.Native.Nat.{ℕ, ◌+◌}
use borrow.Author.Count.{below_more}
use Rattle.lists.specs.Tests.{Decides}
use Rattle.segment_test.specs.Parts.{EntryRow, Follows, RunRows}

-- one row more is right
pub run_more : {blocks entries : List ℕ} {n kind row lo hi from to j : ℕ} {this after : Bool} → RunRows blocks entries n kind row j lo hi from to
    → Decides this (EntryRow blocks entries n kind (row + j) lo hi from to) → this ≡ true
    → Decides after (Follows entries row j) → after ≡ true → RunRows blocks entries n kind row (j + 1) lo hi from to
run_more {blocks} {entries} {n} {kind} {row} {lo} {hi} {from} {to} {j} seen d p f q = record {
  each = below_more (λ (i : ℕ). EntryRow blocks entries n kind (row + i) lo hi from to) j seen.each (d.yes p);
  ascending = below_more (λ (i : ℕ). Follows entries row i) j seen.ascending (f.yes q);
}
