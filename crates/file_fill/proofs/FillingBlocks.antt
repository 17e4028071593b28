-- Blocks written one after the other: one step for the turn of `fill_blocks` and for each of its returns. Assumes nothing.
use mathlib.Core.Path.{◌≡◌, refl, sym, ◌∙◌, ap}
use mathlib.Core.List.{List, [], ◌∷◌, flat_map}
use Prim.Native.Nat.{ℕ, suc, ◌+◌, ◌*◌, ◌-◌, ◌≤◌, ◌<◌}
use native.Mathlib.Omega.{arith}
use lib.ListN.{length}
use lib.Seq.{sets}
use Rattle.lists.proofs.Numbers.{suc_of}
use Rattle.lists.proofs.Stores.{sets-append}
use Rattle.history.specs.Lent.{row_width}
use Rattle.history.specs.Words.{Block, size, cell_of, cell_place}
use Rattle.history.specs.File.{got, fault, onward, ◌>>=◌, give, many, read_block}
use Rattle.history.proofs.FileYields.{got_value, got_next, fault_got}
use Rattle.tables.specs.Columns.{block_base}
use Rattle.std.specs.Prelude.{Ok, Err}
use Rattle.refusals.specs.declared.Refusal.{Refusal}
use Rattle.refusals.specs.Numbers.{number_of}
use Rattle.fields.specs.Fields.{Moves}
use Rattle.fields.specs.declared.Reader.{Reader}
use Rattle.fields.proofs.Moving.{same_bytes}
use Rattle.file_scan.specs.declared.rows.BlockRow.{BlockRow}
use Rattle.file_scan.specs.Rows.{answer_of, block_of}
use Rattle.file_scan.proofs.Readers.{onward_got}
use Rattle.file_scan.proofs.RowReads.{block_passes}
use Rattle.layout.specs.Rows.{block_numbers, blocks_numbers}
use Rattle.file_fill.specs.Fill.{bytes_of_all, FilledBlocks}

-- ── the loop ──

-- `left` blocks written behind so many rows and used bytes
pub record Behind (file : List ℕ) (kind left rows used place : ℕ) (blocks store blocks' store' : List ℕ) : Type 0 where
  pub numbers : (bs : List Block) (next : ℕ) → many (read_block kind) left file place ≡ got bs next
      → blocks' ≡ sets blocks (row_width * (rows + 1) + block_base) (blocks_numbers used bs)
  pub bytes : (bs : List Block) (next : ℕ) → many (read_block kind) left file place ≡ got bs next → store' ≡ sets store used (bytes_of_all bs)

-- a block in front of those that are left
module _ {file : List ℕ} {kind left rows used place n : ℕ} {blocks store blocks₁ store₁ blocks' store' : List ℕ} (x : Block)
    (read : read_block kind file place ≡ got x n) (put : blocks₁ ≡ sets blocks (row_width * (rows + 1) + block_base) (block_numbers used x))
    (copied : store₁ ≡ sets store used x.stretch.bytes) where
  blocks_front : Behind file kind (left - 1) (rows + 1) (used + size x.stretch) n blocks₁ store₁ blocks' store' → 0 < left
      → Behind file kind left rows used place blocks store blocks' store'
  unfolding many ◌>>=◌ give blocks_numbers block_numbers flat_map
  blocks_front h some =
      record { numbers = λ bs next g. turn bs next g (λ p q. p); bytes = λ bs next g. turn bs next g (λ p q. q) }
    where
      turn : {G : Type 0} (bs : List Block) (next : ℕ) → many (read_block kind) left file place ≡ got bs next
          → (blocks' ≡ sets blocks (row_width * (rows + 1) + block_base) (blocks_numbers used bs) → store' ≡ sets store used (bytes_of_all bs) → G) → G
      turn bs next g k =
          let one : many (read_block kind) (suc (left - 1)) file place ≡ got bs next = rw (suc_of left (λ z. omega arith)) at g in
          onward_got _ _ one λ y m e₁ r₁.
          onward_got _ _ r₁ λ ys m₂ e₂ r₂.
          let later : many (read_block kind) (left - 1) file n ≡ got ys m₂ = rw (got_next (sym e₁ ∙ read)) at e₂ in
          let all : x ∷ ys ≡ bs = ap (λ (b : Block). b ∷ ys) (got_value (sym read ∙ e₁)) ∙ got_value r₂ in
          let p : row_width * (rows + 1 + 1) + block_base ≡ row_width * (rows + 1) + block_base + 8 = omega arith in
          k
          (rw (← all)
          (h.numbers ys m₂ later
          ∙ rw (put, p) (sym (sets-append blocks (row_width * (rows + 1) + block_base) (block_numbers used x) (blocks_numbers (used + size x.stretch) ys)))))
          (rw (← all) (h.bytes ys m₂ later ∙ rw copied (sym (sets-append store used x.stretch.bytes (bytes_of_all ys)))))

-- what the rest leaves, all leave from the start; each row and each byte has bytes of its own
pub record Onward (file : List ℕ) (kind count at : ℕ) (blocks₀ store₀ blocks store : List ℕ) (left rows used : ℕ) (reader : Reader) : Type 0 where
  pub same : reader.file.now ≡ file
  pub few : rows ≤ reader.at
  pub low : used ≤ reader.at
  pub rest : (blocks' store' : List ℕ) → Behind file kind left rows used reader.at blocks store blocks' store'
      → FilledBlocks file kind count at blocks₀ store₀ blocks' store'

pub fill_start : (kind count : ℕ) (reader : Reader) (blocks store : List ℕ) → Onward reader.file.now kind count reader.at blocks store blocks store count 0 0 reader
fill_start kind count reader blocks store =
    record { same = refl; few = omega arith; low = omega arith; rest = λ b s h. record { rows = h.numbers; bytes = h.bytes } }

module _ {file : List ℕ} {kind count at : ℕ} {blocks₀ store₀ blocks store : List ℕ} {left rows used : ℕ} {reader : Reader}
    (o : Onward file kind count at blocks₀ store₀ blocks store left rows used reader) where
  module _ (row : BlockRow) {after : Reader} (m : Moves (read_block kind) (answer_of (block_of kind) (Ok row)) reader after) where
    read : read_block kind file reader.at ≡ got (block_of kind row) after.at
    read = ap (λ (f : List ℕ). read_block kind f reader.at) (sym o.same) ∙ sym m.is

    pub fill_room : (rows + 1 ≤ after.at) × (used + length row.bytes.now ≤ after.at) × (after.at ≤ length file)
    fill_room =
        let p = block_passes kind file reader.at read in
        (omega (arith, o.few, p.place), omega (arith, o.low, p.place), p.inside)

    module _ {blocks₁ store₁ : List ℕ}
        (put : blocks₁
        ≡ sets blocks (row_width * (rows + 1) + block_base)
        (row.first ∷ length row.bytes.now ∷ row.created ∷ row.destroyed ∷ used ∷ kind ∷ 0 ∷ 0 ∷ []))
        (copied : store₁ ≡ sets store used row.bytes.now) where
      put_is : blocks₁ ≡ sets blocks (row_width * (rows + 1) + block_base) (block_numbers used (block_of kind row))
      unfolding block_numbers
      put_is =
          let cell : row.first ≡ cell_of kind (cell_place kind row.first) = omega arith in
          put
          ∙ ap
          (λ (first : ℕ). sets blocks (row_width * (rows + 1) + block_base) (first ∷ length row.bytes.now ∷ row.created ∷ row.destroyed ∷ used ∷ kind ∷ 0 ∷ 0 ∷ []))
          cell

      turn : 0 < left → Onward file kind count at blocks₀ store₀ blocks₁ store₁ (left - 1) (rows + 1) (used + length row.bytes.now) after
      turn h =
          record {
            same = same_bytes m ∙ o.same;
            few = fill_room.0;
            low = fill_room.1;
            rest = λ b s r. o.rest b s (blocks_front (block_of kind row) read put_is copied r h);
          }

      pub fill_turn : {rest : ℕ} → left ≡ suc rest → Onward file kind count at blocks₀ store₀ blocks₁ store₁ rest (rows + 1) (used + length row.bytes.now) after
      fill_turn {rest} h =
          let one : rest ≡ left - 1 = omega arith in
          rw one (turn (omega arith))

  pub fill_fault : {after : Reader} (i : Refusal) → Moves (read_block kind) (answer_of (block_of kind) (Err i)) reader after → 0 < left
      → FilledBlocks file kind count at blocks₀ store₀ blocks store
  unfolding many ◌>>=◌ onward give
  fill_fault i m h = o.rest blocks store (record { numbers = λ bs n g. absurd (none g); bytes = λ bs n g. absurd (none g) })
    where
      faulty : read_block kind file reader.at ≡ fault (number_of i)
      faulty = ap (λ (f : List ℕ). read_block kind f reader.at) (sym o.same) ∙ sym m.is

      none : {bs : List Block} {n : ℕ} → many (read_block kind) left file reader.at ≡ got bs n → ⊥
      none {bs} {n} g =
          let one : many (read_block kind) (suc (left - 1)) file reader.at ≡ got bs n = rw (suc_of left (λ z. omega arith)) at g in
          fault_got (rw faulty at one)

  pub fill_done : left ≤ 0 → FilledBlocks file kind count at blocks₀ store₀ blocks store
  unfolding many give blocks_numbers flat_map
  fill_done h = o.rest blocks store (record { numbers = λ bs n g. rw (← (empty g)) refl; bytes = λ bs n g. rw (← (empty g)) refl })
    where
      empty : {bs : List Block} {n : ℕ} → many (read_block kind) left file reader.at ≡ got bs n → [] ≡ bs
      empty {bs} {n} g =
          let z : left ≡ 0 = omega arith in
          got_value (rw z at g)
