-- Rows written to the answer: one step for the turn of `extend_from_self` and of `write`, and for each of their returns. Assumes nothing.
use mathlib.Core.Path.{◌≡◌, refl, sym, ◌∙◌}
use mathlib.Core.List.{List, [], ◌∷◌}
use Prim.Native.Nat.{ℕ, ◌+◌, ◌-◌, ◌≤◌, ◌<◌}
use native.Mathlib.Omega.{arith}
use lib.ListN.{length, set, length-set}
use lib.Seq.{sets, length-sets}
use Rattle.lists.proofs.Stores.{sets-append}
use Rattle.segment_table.specs.Closed.{run, block_in}
use Rattle.segment_table.proofs.Closed.{run_length, run-append}
use Rattle.segment_walk.specs.declared.rows.Rows.{Rows}
use Rattle.segment_walk.specs.Rowing.{blocks_in}
use Rattle.segment_find.specs.Notes.{rows_in, noted, Fitting, Room}
use Rattle.segment_find.proofs.Noting.{noted_next, noted-count, noted_grows}

-- ── the rows of a node ──

-- i rows stand in the answer from place `at` on
pub record Extended (entries before : List ℕ) (at from : ℕ) (answer : List ℕ) (i : ℕ) : Type 0 where
  pub kept : length answer ≡ length before
  pub written : answer ≡ sets before at (run entries from i)

pub extended_none : {entries answer : List ℕ} {at from : ℕ} → Extended entries answer at from answer 0
unfolding run
extended_none = record { kept = refl; written = refl }

pub extended_more : {entries before : List ℕ} {at from : ℕ} {answer : List ℕ} {i : ℕ} → Extended entries before at from answer i
    → Extended entries before at from (set answer (at + i) (block_in entries (from + i))) (i + 1)
unfolding run
extended_more {entries} {before} {at} {from} {answer} {i} s =
    record {
      kept = length-set answer (at + i) (block_in entries (from + i)) ∙ s.kept;
      written =
          rw (s.written, run-append entries from i 1, sets-append before at (run entries from i) (block_in entries (from + i) ∷ []), run_length entries from i);
    }

-- ── all rows noted ──

-- the rows at the first k places stand in the answer
pub record Writing (entries : List ℕ) (notes : List Rows) (before : List ℕ) (count : ℕ) (answer : List ℕ) (k place : ℕ) : Type 0 where
  pub inside : k ≤ count
  pub kept : length answer ≡ length before
  pub many : place ≡ length (noted entries notes k)
  pub left : answer ≡ sets before 0 (noted entries notes k)

pub writing_none : {entries answer : List ℕ} {notes : List Rows} {count : ℕ} → Writing entries notes answer count answer 0 0
unfolding noted
writing_none = record { inside = omega arith; kept = refl; many = refl; left = refl }

module _ {entries : List ℕ} {notes : List Rows} {before : List ℕ} {count : ℕ} {answer : List ℕ} {k place : ℕ} (s : Writing entries notes before count answer k place) where
  module _ (some : k < count) where
    pub writing_room : Fitting entries notes count (length before) → Room entries (rows_in notes k) answer place
    writing_room f =
        let below = noted_grows entries notes (k + 1) count (omega arith) in
        record { stand = f.rows k some; fits = omega (arith, s.kept, s.many, noted-count entries notes k, below, f.fits) }

    pub writing_more : {answer' : List ℕ} → answer' ≡ sets answer place (blocks_in entries (rows_in notes k))
        → Writing entries notes before count answer' (k + 1) (place + ((rows_in notes k).to - (rows_in notes k).from))
    writing_more {answer'} e =
        record {
          inside = omega arith;
          kept = rw e (length-sets answer place (blocks_in entries (rows_in notes k)) ∙ s.kept);
          many = omega (arith, s.many, noted-count entries notes k);
          left =
              let z : 0 + length (noted entries notes k) ≡ length (noted entries notes k) = omega arith in
              rw (e, s.left, s.many, noted_next entries notes k)
              (sym (rw z at (sets-append before 0 (noted entries notes k) (blocks_in entries (rows_in notes k)))));
        }
