-- Rows of the file: one step for each return of `four`, `block` and `node`, and where a row ends. Assumes nothing.
use mathlib.Core.Path.{◌≡◌, refl, sym, ◌∙◌, ap, ap₂, subst}
use mathlib.Core.Bool.{Bool, true, false, cond}
use mathlib.Core.List.{List}
use Prim.Native.Nat.{ℕ, ◌+◌, ◌-◌, ◌*◌, ◌≤◌, ◌<◌, ◌^◌, min}
use native.Mathlib.Omega.{arith}
use lib.ListN.{length}
use lib.Dec.{eqb}
use borrow.Author.Tests.{eq-eqb, ne_eqb, le-leb, lt-leb}
use Rattle.history.specs.Words.{Block, a_block, size}
use Rattle.history.specs.File.{Read, got, fault, Reader, onward, ◌>>=◌, ◌>>◌, give, refuse◌unless◌, field, number, many, read_block}
use Rattle.history.proofs.FileYields.{got_value, got_next}
use Rattle.fields.specs.Fields.{Moves, read_of}
use Rattle.fields.specs.declared.Reader.{Reader as Cursor}
use Rattle.fields.proofs.Moving.{goes_on, ends, same_bytes}
use Rattle.std.specs.Prelude.{Option, Some, None, Ok, Err, ok_or}
use Rattle.std.specs.Borrow.{Bor}
use Rattle.refusals.specs.declared.Refusal.{Refusal}
use Rattle.refusals.specs.declared.Refusal.TheVariants.{FileEnds, FileKind, FilePresence}
use Rattle.file_scan.specs.declared.rows.NodeRow.{NodeRow}
use Rattle.file_scan.specs.declared.rows.NodeRow.TheVariants as node
use Rattle.file_scan.specs.Rows.{Numbers, read_four, four_of, row_head, answer_of, block_of, Head, head_absent, head_present, read_present, read_head, node_row, read_node}
use Rattle.fields.proofs.Reading.{Passes, number_passes}
use Rattle.file_scan.proofs.Readers.{onward_through, onward_same, onward_gives, onward_got, refuse_got, four_passes}
use Rattle.fields.proofs.Reading.{field_passes, field_short}
use Rattle.file_scan.proofs.Readers.{numbers_at, numbers_at-length, many_got, many_end, many_passes}

-- ── one step after another ──

-- a test that is passed, or is not
module _ {A : Type 0} {t : Bool} where
  pub passes : (n : ℕ) (reading : Reader A) {file : List ℕ} {at : ℕ} {y : Read A} → t ≡ true → y ≡ reading file at → y ≡ ((refuse n unless t) >> reading) file at
  unfolding ◌>>=◌ onward refuse◌unless◌
  passes n reading e h = rw e h

  pub stops : {n : ℕ} (reading : Reader A) (file : List ℕ) (at : ℕ) → t ≡ false → fault n ≡ ((refuse n unless t) >> reading) file at
  unfolding ◌>>=◌ onward refuse◌unless◌
  stops reading file at e = rw e refl

module _ {A B : Type 0} {reading : Reader A} (of : B → A) {before after : Cursor} where
  -- a value that is given, or none, which is refused where the file ends
  pub given : (o : Option B) {x : B} → Moves reading (read_of of o) before after → o ≡ Some x → Moves reading (λ at. got (of x) at) before after
  given o m e = subst (λ (o : Option B). Moves reading (read_of of o) before after) e m

  pub none : (o : Option B) {f : Refusal} → Moves reading (read_of of o) before after → Err f ≡ ok_or o FileEnds → Moves reading (λ at. fault 17) before after × (f ≡ FileEnds)
  none None m e = (m, cc)
  none (Some x) m e = absurd (cc)

-- ── the returns of `four` ──

-- each field begins where the one before it ends
module _ {r₀ r₁ : Cursor} where
  pub four_first : Moves (number 8) (read_of (λ (n : ℕ). n) None) r₀ r₁ → Moves read_four (read_of four_of None) r₀ r₁
  unfolding read_four
  four_first m₁ = record { same_file = m₁.same_file; is = ends m₁ _ refl }

  module _ {a : ℕ} (m₁ : Moves (number 8) (read_of (λ n. n) (Some a)) r₀ r₁) {r₂ : Cursor} where
    pub four_second : Moves (number 8) (read_of (λ (n : ℕ). n) None) r₁ r₂ → Moves read_four (read_of four_of None) r₀ r₂
    unfolding read_four
    four_second m₂ = record { same_file = m₂.same_file ∙ m₁.same_file; is = goes_on m₁ _ refl (ends m₂ _ refl) }

    module _ {b : ℕ} (m₂ : Moves (number 8) (read_of (λ n. n) (Some b)) r₁ r₂) {r₃ : Cursor} where
      pub four_third : Moves (number 8) (read_of (λ (n : ℕ). n) None) r₂ r₃ → Moves read_four (read_of four_of None) r₀ r₃
      unfolding read_four
      four_third m₃ = record { same_file = m₃.same_file ∙ m₂.same_file ∙ m₁.same_file; is = goes_on m₁ _ refl (goes_on m₂ _ refl (ends m₃ _ refl)) }

      module _ {c : ℕ} (m₃ : Moves (number 8) (read_of (λ n. n) (Some c)) r₂ r₃) {r₄ : Cursor} where
        pub four_fourth : Moves (number 8) (read_of (λ (n : ℕ). n) None) r₃ r₄ → Moves read_four (read_of four_of None) r₀ r₄
        unfolding read_four
        four_fourth m₄ =
            record {
              same_file = m₄.same_file ∙ m₃.same_file ∙ m₂.same_file ∙ m₁.same_file;
              is = goes_on m₁ _ refl (goes_on m₂ _ refl (goes_on m₃ _ refl (ends m₄ _ refl)));
            }

        pub four_all : {d : ℕ} → Moves (number 8) (read_of (λ n. n) (Some d)) r₃ r₄ → Moves read_four (read_of four_of (Some (a, b, c, d))) r₀ r₄
        unfolding read_four give
        four_all m₄ =
            record {
              same_file = m₄.same_file ∙ m₃.same_file ∙ m₂.same_file ∙ m₁.same_file;
              is = goes_on m₁ _ refl (goes_on m₂ _ refl (goes_on m₃ _ refl (goes_on m₄ _ refl refl)));
            }

pub ruleset numbering = (four_first, four_second, four_third, four_fourth, four_all)

-- ── a block ──

-- what is read behind the four numbers of a block
abbrev pub block_rest : (kind : ℕ) (file : List ℕ) → Numbers → ℕ → Read Block
block_rest kind file q at =
    onward (field q.b file at)
    (λ bytes next. got (a_block kind q.a bytes q.c q.d) next)

-- a block is its kind byte, four numbers and its bytes
pub block_parts : (kind : ℕ) (file : List ℕ) (at : ℕ)
    → read_block kind file at
    ≡ onward (number 1 file at) (λ own p. onward ((refuse 18 unless (eqb own kind)) file p) (λ _ p₁. onward (read_four file p₁) (block_rest own file)))
unfolding read_block read_four ◌>>=◌ give
block_parts kind file at =
    onward_same (number 1 file at) λ own p h.
    onward_same ((refuse 18 unless (eqb own kind)) file p) λ t p₁ h₁.
    onward_through (number 8 file p₁) _ _ λ a p₂.
    onward_through (number 8 file p₂) _ _ λ b p₃.
    onward_through (number 8 file p₃) _ _ λ c p₄.
    onward_through (number 8 file p₄) _ _ λ d p₅.
    onward_gives _ _ (block_rest own file)

-- where a block that was read ends
pub block_passes : (kind : ℕ) (file : List ℕ) (at : ℕ) {b : Block} {n : ℕ} → read_block kind file at ≡ got b n → Passes file at (row_head + size b.stretch) n
block_passes kind file at {b} {n} e =
    onward_got _ _ (sym (block_parts kind file at) ∙ e) λ own p e₁ r₁.
    refuse_got 18 _ _ _ _ r₁ λ t r₂.
    onward_got _ _ r₂ λ q p₂ e₂ r₃.
    onward_got _ _ r₃ λ bytes p₃ e₃ r₄.
    let s₁ = number_passes file at 1 e₁ in
    let s₂ = four_passes file p e₂ in
    let (s₃, l) = field_passes file p₂ q.b e₃ in
    let s : p₃ ≡ n = got_next r₄ in
    let z : size b.stretch ≡ length bytes = ap (λ (x : Block). size x.stretch) (sym (got_value r₄)) in
    record { place = omega arith; inside = omega arith }

-- ── the returns of `block` ──

-- the same, reading by reading
abbrev block_reading : (kind : ℕ) → Reader Block
block_reading kind =
    number 1 >>= λ own. (refuse 18 unless (eqb own kind)) >> (read_four >>= λ q. field q.b >>= λ bytes. give (a_block own q.a bytes q.c q.d))

by_readings : (kind : ℕ) (file : List ℕ) (at : ℕ) {y : Read Block} → y ≡ block_reading kind file at → y ≡ read_block kind file at
unfolding ◌>>=◌ give
by_readings kind file at e = e ∙ sym (block_parts kind file at)

-- o is what the read of the kind byte has answered, f that of the four numbers, b that of the bytes
module _ (kind : ℕ) {r₀ r₁ : Cursor} (o : Option ℕ) (m₁ : Moves (number 1) (read_of (λ n. n) o) r₀ r₁) where
  pub block_ends : {i : Refusal} → Err i ≡ ok_or o FileEnds → Moves (read_block kind) (answer_of (block_of kind) (Err i)) r₀ r₁
  block_ends e =
      let (m, k) = none _ o m₁ e in
      record { same_file = m₁.same_file; is = rw k (by_readings kind _ _ (ends m _ refl)) }

  module _ {own : ℕ} (e₁ : o ≡ Some own) where
    pub block_kind : (own ≡ kind → ⊥) → Moves (read_block kind) (answer_of (block_of kind) (Err FileKind)) r₀ r₁
    block_kind h = record { same_file = m₁.same_file; is = by_readings kind _ _ (goes_on (given _ o m₁ e₁) _ refl (stops _ _ _ (ne_eqb own kind h))) }

    module _ (same : own ≡ kind) {r₂ : Cursor} (f : Option (ℕ × ℕ × ℕ × ℕ)) (m₂ : Moves read_four (read_of four_of f) r₁ r₂) where
      pub block_four_ends : {i : Refusal} → Err i ≡ ok_or f FileEnds → Moves (read_block kind) (answer_of (block_of kind) (Err i)) r₀ r₂
      block_four_ends e =
          let (m, k) = none _ f m₂ e in
          record {
            same_file = m₂.same_file ∙ m₁.same_file;
            is = rw k (by_readings kind _ _ (goes_on (given _ o m₁ e₁) _ refl (passes _ _ (eq-eqb own kind same) (ends m _ refl))));
          }

      module _ {a l c d : ℕ} (e₂ : f ≡ Some (a, l, c, d)) {r₃ : Cursor} (b : Option (Bor (List ℕ))) (m₃ : Moves (field l) (read_of (λ bytes. bytes.now) b) r₂ r₃) where
        pub block_short : {i : Refusal} → Err i ≡ ok_or b FileEnds → Moves (read_block kind) (answer_of (block_of kind) (Err i)) r₀ r₃
        block_short e =
            let (m, k) = none _ b m₃ e in
            record {
              same_file = m₃.same_file ∙ m₂.same_file ∙ m₁.same_file;
              is =
                  rw k (by_readings kind _ _ (goes_on (given _ o m₁ e₁) _ refl (passes _ _ (eq-eqb own kind same) (goes_on (given _ f m₂ e₂) _ refl (ends m _ refl)))));
            }

        pub block_all : {bytes : Bor (List ℕ)} → b ≡ Some bytes
            → Moves (read_block kind) (answer_of (block_of kind) (Ok (record { first = a; created = c; destroyed = d; bytes = bytes }))) r₀ r₃
        unfolding give
        block_all {bytes} e =
            record {
              same_file = m₃.same_file ∙ m₂.same_file ∙ m₁.same_file;
              is =
                  ap (λ (k : ℕ). got (a_block k a bytes.now c d) r₃.at) (sym same)
                  ∙ by_readings kind _ _
                  (goes_on (given _ o m₁ e₁) _ refl (passes _ _ (eq-eqb own kind same) (goes_on (given _ f m₂ e₂) _ refl (goes_on (given _ b m₃ e) _ refl refl))));
            }

-- ── a node ──

-- what is read behind the four numbers of a node
abbrev pub present_rest : (file : List ℕ) → Numbers → ℕ → Read Head
present_rest file q at = onward (many (number 8) q.d file at) (λ es next. got (head_present q.a q.b q.c es) next)

-- a node that is present is four numbers and its entries
pub present_parts : (file : List ℕ) (at : ℕ) → read_present file at ≡ onward (read_four file at) (present_rest file)
unfolding read_present read_four ◌>>=◌ give
present_parts file at =
    onward_through (number 8 file at) _ _ λ a p₂.
    onward_through (number 8 file p₂) _ _ λ b p₃.
    onward_through (number 8 file p₃) _ _ λ c p₄.
    onward_through (number 8 file p₄) _ _ λ d p₅.
    onward_gives _ _ (present_rest file)

-- the bytes of a node without its children
abbrev pub head_size : Head → ℕ
head_size head_absent = 1
head_size (head_present min max middle es) = row_head + 8 * length es

-- where a node that was read ends
pub head_passes : (file : List ℕ) (at : ℕ) {h : Head} {n : ℕ} → read_head file at ≡ got h n → Passes file at (head_size h) n
unfolding read_head ◌>>=◌ give
head_passes file at {h} {n} e =
    onward_got _ _ e λ presence p e₁ r₁.
    refuse_got 19 _ _ _ _ r₁ λ t r₂.
    chosen (number_passes file at 1 e₁) (eqb presence 0) r₂
  where
    chosen : {p : ℕ} → Passes file at 1 p → (t : Bool) → cond t (give head_absent) read_present file p ≡ got h n → Passes file at (head_size h) n
    chosen s₁ true r = rw (← (got_value r), ← (got_next r)) s₁
    chosen {p} s₁ false r =
        onward_got _ _ (sym (present_parts file p) ∙ r) λ q p₂ e₂ r₂.
        onward_got _ _ r₂ λ es p₃ e₃ r₃.
        let s₂ = four_passes file p e₂ in
        let (s₃, l) = many_passes file p₂ q.d s₂.inside e₃ in
        rw (← (got_value r₃), ← (got_next r₃)) (record { place = omega arith; inside = omega arith })

-- ── the returns of `node` ──

-- a row that comes of a head that was read
row_of : (y : Read Head) (file : List ℕ) (at : ℕ) → y ≡ read_head file at → node_row at y ≡ read_node file at
row_of y file at e = ap (node_row at) e

-- a node that is present, reading by reading
abbrev present_reading : Reader Head
present_reading = read_four >>= λ q. many (number 8) q.d >>= λ es. give (head_present q.a q.b q.c es)

present_readings : (file : List ℕ) (at : ℕ) → present_reading file at ≡ read_present file at
unfolding ◌>>=◌ give
present_readings file at = sym (present_parts file at)

-- the way to its four numbers
chosen_present : {presence : ℕ} {y : Read Head} → (presence ≡ 0 → ⊥) → (file : List ℕ) (at : ℕ) → y ≡ present_reading file at
    → y ≡ cond (eqb presence 0) (give head_absent) read_present file at
chosen_present {presence} some file at e = rw (ne_eqb presence 0 some) (e ∙ present_readings file at)

-- o is what the read of the presence byte has answered, f that of the four numbers, b that of the entries' bytes
module _ {r₀ r₁ : Cursor} (o : Option ℕ) (m₁ : Moves (number 1) (read_of (λ n. n) o) r₀ r₁) where
  pub node_ends : {i : Refusal} → Err i ≡ ok_or o FileEnds → Moves read_node (answer_of (λ (row : NodeRow). row) (Err i)) r₀ r₁
  unfolding read_head node_row
  node_ends e =
      let (m, k) = none _ o m₁ e in
      record { same_file = m₁.same_file; is = rw k (row_of (fault 17) _ _ (ends m _ refl)) }

  module _ {presence : ℕ} (e₁ : o ≡ Some presence) where
    pub node_presence : 1 < presence → Moves read_node (answer_of (λ (row : NodeRow). row) (Err FilePresence)) r₀ r₁
    unfolding read_head node_row
    node_presence h = record { same_file = m₁.same_file; is = row_of (fault 19) _ _ (goes_on (given _ o m₁ e₁) _ refl (stops _ _ _ (lt-leb presence 1 h))) }

    pub node_absent : presence ≡ 0 → Moves read_node (answer_of (λ (row : NodeRow). row) (Ok node.Absent)) r₀ r₁
    unfolding read_head node_row give
    node_absent h =
        record {
          same_file = m₁.same_file;
          is =
              row_of (got head_absent r₁.at) _ _
              (goes_on (given _ o m₁ e₁) _ refl
              (passes _ _ (le-leb presence 1 (omega arith)) (ap (λ (t : Bool). cond t (give head_absent) read_present r₁.file.now r₁.at) (sym (eq-eqb presence 0 h)))));
        }

    module _ (low : presence ≤ 1) (some : presence ≡ 0 → ⊥) {r₂ : Cursor} (f : Option (ℕ × ℕ × ℕ × ℕ)) (m₂ : Moves read_four (read_of four_of f) r₁ r₂) where
      pub node_four_ends : {i : Refusal} → Err i ≡ ok_or f FileEnds → Moves read_node (answer_of (λ (row : NodeRow). row) (Err i)) r₀ r₂
      unfolding read_head node_row
      node_four_ends e =
          let (m, k) = none _ f m₂ e in
          record {
            same_file = m₂.same_file ∙ m₁.same_file;
            is = rw k (row_of (fault 17) _ _ (goes_on (given _ o m₁ e₁) _ refl (passes _ _ (le-leb presence 1 low) (chosen_present some _ _ (ends m _ refl)))));
          }

      module _ {a b c d : ℕ} (e₂ : f ≡ Some (a, b, c, d)) where
        -- the four numbers are inside, and the entries follow
        entries_from : (r₂.at ≤ length r₂.file.now) × (r₂.at ≡ r₀.at + row_head)
        entries_from =
            let m = given _ f m₂ e₂ in
            let s₁ = number_passes r₀.file.now r₀.at 1 (sym (given _ o m₁ e₁).is) in
            let s₂ = four_passes r₁.file.now r₁.at (sym m.is) in
            (rw (same_bytes m) s₂.inside, omega (arith, s₁.place, s₂.place))

        counted : (y : Read Head) → y ≡ (many (number 8) d >>= λ es. give (head_present a b c es)) r₂.file.now r₂.at → node_row r₀.at y ≡ read_node r₀.file.now r₀.at
        unfolding read_head
        counted y e = row_of y _ _ (goes_on (given _ o m₁ e₁) _ refl (passes _ _ (le-leb presence 1 low) (chosen_present some _ _ (goes_on (given _ f m₂ e₂) _ refl e))))

        module _ {size : ℕ} (fits : size ≡ min (d * 8) (2 ^ 64 - 1)) {r₃ : Cursor} (p : Option (Bor (List ℕ))) (m₃ : Moves (field size) (read_of (λ bytes. bytes.now) p) r₂ r₃) where
          -- more entries than there are bytes
          pub node_short : {i : Refusal} → Err i ≡ ok_or p FileEnds → Moves read_node (answer_of (λ (row : NodeRow). row) (Err i)) r₀ r₃
          unfolding node_row ◌>>=◌ onward
          node_short e =
              let (m, k) = none _ p m₃ e in
              let short : length r₂.file.now < r₂.at + 8 * d = omega (arith, fits, field_short r₂.file.now r₂.at size (sym m.is)) in
              record {
                same_file = m₃.same_file ∙ m₂.same_file ∙ m₁.same_file;
                is = rw k (counted (fault 17) (rw (many_end r₂.file.now r₂.at d entries_from.0 short) refl));
              }

          pub node_all : {bytes : Bor (List ℕ)} → p ≡ Some bytes → r₃.at < 2 ^ 64 → Moves read_node (answer_of (λ (row : NodeRow). row) (Ok (node.Present a b c d r₂.at))) r₀ r₃
          unfolding node_row ◌>>=◌ onward give
          node_all e within =
              let (s, l) = field_passes r₂.file.now r₂.at size (sym (given _ p m₃ e).is) in
              let whole : size ≡ 8 * d = omega (arith, fits, s.place, within, entries_from.1) in
              let room : r₂.at + 8 * d ≤ length r₂.file.now = omega (arith, s.inside, s.place, whole) in
              let next : r₃.at ≡ r₂.at + 8 * d = omega (arith, s.place, whole) in
              let row : node.Present a b c d r₂.at ≡ node.Present a b c (length (numbers_at r₂.file.now r₂.at d)) (r₀.at + row_head) =
              ap₂ (λ (count entries : ℕ). node.Present a b c count entries) (sym (numbers_at-length r₂.file.now r₂.at d)) entries_from.1 in
              record {
                same_file = m₃.same_file ∙ m₂.same_file ∙ m₁.same_file;
                is =
                    ap₂ (λ (x : NodeRow) (n : ℕ). got x n) row next
                    ∙ counted (got (head_present a b c (numbers_at r₂.file.now r₂.at d)) (r₂.at + 8 * d)) (rw (many_got r₂.file.now r₂.at d room) refl);
              }
