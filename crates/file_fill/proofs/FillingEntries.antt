-- Entries written one after the other: one step for the turn of `fill_entries` and for each of its returns. Assumes nothing.
use mathlib.Core.Path.{◌≡◌, refl, sym, ◌∙◌, ap}
use mathlib.Core.List.{List, [], ◌∷◌}
use Prim.Native.Nat.{ℕ, suc, ◌+◌, ◌*◌, ◌-◌, ◌≤◌, ◌<◌}
use native.Mathlib.Omega.{arith}
use lib.ListN.{length}
use lib.Seq.{sets}
use Rattle.lists.proofs.Numbers.{suc_of}
use Rattle.history.specs.Lent.{entry_width, entry_head}
use Rattle.history.specs.File.{got, fault, onward, ◌>>=◌, give, number, many}
use Rattle.history.proofs.FileYields.{got_value, got_next, fault_got}
use Rattle.std.specs.Prelude.{Some, None}
use Rattle.fields.specs.Fields.{Moves, read_of}
use Rattle.fields.specs.declared.Reader.{Reader}
use Rattle.fields.proofs.Moving.{same_bytes}
use Rattle.fields.proofs.Reading.{number_passes}
use Rattle.file_scan.proofs.Readers.{onward_got}
use Rattle.layout.specs.Rows.{entry_numbers}
use Rattle.file_fill.specs.Fill.{first_cell_of, entry_place, FilledEntries}

-- what the rest leaves, all leave from the start; each entry has bytes of its own
pub record Onward (blocks file : List ℕ) (at first count : ℕ) (start entries : List ℕ) (row left : ℕ) (reader : Reader) : Type 0 where
  pub same : reader.file.now ≡ file
  pub few : row ≤ reader.at
  pub rest : (entries' : List ℕ) → FilledEntries blocks file reader.at row left entries entries' → FilledEntries blocks file at first count start entries'

pub entries_start : (blocks : List ℕ) (first count : ℕ) (reader : Reader) (entries : List ℕ) → first ≤ reader.at
    → Onward blocks reader.file.now reader.at first count entries entries first count reader
entries_start blocks first count reader entries h = record { same = refl; few = h; rest = λ e r. r }

module _ {blocks file : List ℕ} {at first count : ℕ} {start entries : List ℕ} {row left : ℕ} {reader : Reader}
    (o : Onward blocks file at first count start entries row left reader) where
  module _ {v : ℕ} {after : Reader} (m : Moves (number 8) (read_of (λ n. n) (Some v)) reader after) where
    read : number 8 file reader.at ≡ got v after.at
    read = ap (λ (f : List ℕ). number 8 f reader.at) (sym o.same) ∙ sym m.is

    pub entries_room : (row + 1 ≤ after.at) × (after.at ≤ length file)
    entries_room =
        let p = number_passes file reader.at 8 read in
        (omega (arith, o.few, p.place), p.inside)

    module _ {cell : ℕ} {entries₁ : List ℕ} (key : cell ≡ first_cell_of blocks v) (put : entries₁ ≡ sets entries (entry_head + entry_width * row) (v ∷ cell ∷ [])) where
      front : {entries' : List ℕ} → FilledEntries blocks file after.at (row + 1) (left - 1) entries₁ entries' → 0 < left
          → FilledEntries blocks file reader.at row left entries entries'
      unfolding many ◌>>=◌ give entry_numbers
      front {entries'} h some = record { rows = turn }
        where
          turn : (ks : List ℕ) (next : ℕ) → many (number 8) left file reader.at ≡ got ks next
              → entries' ≡ sets entries (entry_place row) (entry_numbers (first_cell_of blocks) ks)
          turn ks next g =
              let one : many (number 8) (suc (left - 1)) file reader.at ≡ got ks next = rw (suc_of left (λ z. omega arith)) at g in
              onward_got _ _ one λ x next₁ e₁ r₁.
              onward_got _ _ r₁ λ xs m₂ e₂ r₂.
              let x_is : x ≡ v = got_value (sym e₁ ∙ read) in
              let m_is : next₁ ≡ after.at = got_next (sym e₁ ∙ read) in
              let later : many (number 8) (left - 1) file after.at ≡ got xs m₂ = rw m_is at e₂ in
              let p : entry_place (row + 1) ≡ suc (suc (entry_place row)) = omega arith in
              let all : entries' ≡ sets entries (entry_place row) (entry_numbers (first_cell_of blocks) (v ∷ xs)) =
              h.rows xs m₂ later ∙ rw (put, key, p) refl in
              rw (← (got_value r₂), x_is) all

      pub entries_turn : {row₁ rest : ℕ} → row₁ ≡ row + 1 → left ≡ suc rest → Onward blocks file at first count start entries₁ row₁ rest after
      entries_turn {row₁} {rest} p h =
          let one : rest ≡ left - 1 = omega arith in
          rw (p, one) (record { same = same_bytes m ∙ o.same; few = entries_room.0; rest = λ e r. o.rest e (front r (omega arith)) })

  pub entries_end : {after : Reader} → Moves (number 8) (read_of (λ n. n) None) reader after → 0 < left → FilledEntries blocks file at first count start entries
  unfolding many ◌>>=◌ onward give
  entries_end m h = o.rest entries (record { rows = λ ks n g. absurd (none g) })
    where
      none : {ks : List ℕ} {n : ℕ} → many (number 8) left file reader.at ≡ got ks n → ⊥
      none {ks} {n} g =
          let one : many (number 8) (suc (left - 1)) file reader.at ≡ got ks n = rw (suc_of left (λ z. omega arith)) at g in
          let end : number 8 file reader.at ≡ fault 17 = ap (λ (f : List ℕ). number 8 f reader.at) (sym o.same) ∙ sym m.is in
          fault_got (rw end at one)

  pub entries_done : left ≤ 0 → FilledEntries blocks file at first count start entries
  unfolding many give entry_numbers
  entries_done h = o.rest entries (record { rows = λ ks n g. rw (← (empty g)) refl })
    where
      empty : {ks : List ℕ} {n : ℕ} → many (number 8) left file reader.at ≡ got ks n → [] ≡ ks
      empty {ks} {n} g =
          let z : left ≡ 0 = omega arith in
          got_value (rw z at g)
