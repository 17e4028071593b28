-- Blocks counted one after the other: one step for the turn of `blocks::pass` and for each of its returns. Assumes nothing.
use mathlib.Core.Path.{◌≡◌, refl, sym, ◌∙◌, ap}
use mathlib.Core.List.{List, ◌∷◌}
use Prim.Native.Nat.{ℕ, suc, ◌+◌, ◌-◌, ◌≤◌, ◌<◌}
use native.Mathlib.Omega.{arith}
use lib.ListN.{length}
use Rattle.lists.specs.Lists.{sum_of}
use Rattle.lists.proofs.Numbers.{suc_of}
use Rattle.history.specs.Words.{Block, size}
use Rattle.history.specs.File.{Read, got, fault, onward, ◌>>=◌, give, many, read_block}
use Rattle.std.specs.Prelude.{Ok, Err}
use Rattle.refusals.specs.declared.Refusal.{Refusal}
use Rattle.fields.specs.Fields.{Moves}
use Rattle.fields.specs.declared.Reader.{Reader}
use Rattle.fields.proofs.Moving.{same_bytes}
use Rattle.file_scan.specs.Rows.{answer_of, block_of}
use Rattle.file_scan.specs.Counts.{bytes_in, blocks_from}
use Rattle.file_scan.proofs.RowReads.{block_passes}

-- ── one more block ──

blocks_cons : (bytes : ℕ) (x : Block) (o : Read (List Block))
    → blocks_from bytes (onward o (λ xs next. got (x ∷ xs) next)) ≡ blocks_from (bytes + size x.stretch) o
unfolding blocks_from onward sum_of
blocks_cons bytes x (got xs n) =
    let e : bytes + (size x.stretch + bytes_in xs) ≡ bytes + size x.stretch + bytes_in xs = omega arith in
    ap (λ (k : ℕ). got k n) e
blocks_cons bytes x (fault i) = refl

module _ (kind : ℕ) (file : List ℕ) (at left bytes : ℕ) where
  blocks_more : {x : Block} {n : ℕ} → read_block kind file at ≡ got x n
      → blocks_from bytes (many (read_block kind) (suc left) file at) ≡ blocks_from (bytes + size x.stretch) (many (read_block kind) left file n)
  unfolding many ◌>>=◌ onward give
  blocks_more {x} {n} e = rw e (blocks_cons bytes x (many (read_block kind) left file n))

  blocks_stop : {i : ℕ} → read_block kind file at ≡ fault i → blocks_from bytes (many (read_block kind) (suc left) file at) ≡ fault i
  unfolding many ◌>>=◌ onward give blocks_from
  blocks_stop e = rw e refl

-- ── the loop ──

-- the blocks that are left, with the bytes counted so far, say the same as all of them
pub record Counts (kind count : ℕ) (start : Reader) (left bytes : ℕ) (reader : Reader) : Type 0 where
  pub same_file : reader.file ≡ start.file
  pub same : blocks_from bytes (many (read_block kind) left reader.file.now reader.at) ≡ blocks_from 0 (many (read_block kind) count start.file.now start.at)
  pub bound : bytes ≤ reader.at

-- nothing is counted yet
pub pass_start : (kind count : ℕ) (start : Reader) → Counts kind count start count 0 start
pass_start kind count start = record { same_file = refl; same = refl; bound = omega arith }

module _ {kind count : ℕ} {start : Reader} {left bytes : ℕ} {reader : Reader} (s : Counts kind count start left bytes reader) where
  module _ {x : Block} {after : Reader} (m : Moves (read_block kind) (λ at. got x at) reader after) where
    -- the bytes counted are bytes of the file
    pub pass_room : (bytes + size x.stretch ≤ after.at) × (after.at ≤ length reader.file.now)
    pass_room =
        let p = block_passes kind reader.file.now reader.at (sym m.is) in
        (omega (arith, s.bound, p.place), p.inside)

    -- one block more
    pub pass_turn : {rest : ℕ} → left ≡ suc rest → Counts kind count start rest (bytes + size x.stretch) after
    pass_turn {rest} h =
        record {
          same_file = m.same_file ∙ s.same_file;
          same =
              ap (λ (file : List ℕ). blocks_from (bytes + size x.stretch) (many (read_block kind) rest file after.at)) (same_bytes m)
              ∙ sym (blocks_more kind reader.file.now reader.at rest bytes (sym m.is)) ∙ rw h at s.same;
          bound = pass_room.0;
        }

  pub pass_fault : {after : Reader} (i : Refusal) → Moves (read_block kind) (answer_of (block_of kind) (Err i)) reader after → 0 < left
      → Moves (λ file at. blocks_from 0 (many (read_block kind) count file at)) (answer_of (λ (n : ℕ). n) (Err i)) start after
  pass_fault i m h =
      record {
        same_file = m.same_file ∙ s.same_file;
        is =
            sym (rw (← (suc_of left (λ k. omega arith))) at (blocks_stop kind reader.file.now reader.at (left - 1) bytes (sym m.is)))
            ∙ s.same;
      }

  pub pass_done : left ≤ 0 → Moves (λ file at. blocks_from 0 (many (read_block kind) count file at)) (answer_of (λ (n : ℕ). n) (Ok bytes)) start reader
  unfolding many give blocks_from sum_of
  pass_done h =
      let z : left ≡ 0 = omega arith in
      let n : bytes + 0 ≡ bytes = omega arith in
      record { same_file = s.same_file; is = rw (z, n) at s.same }
