-- The whole file: one step for each return of `scan`. Assumes nothing.
use mathlib.Core.Path.{◌≡◌, refl, sym, ap}
use mathlib.Core.List.{List}
use Prim.Native.Nat.{ℕ, zero, suc, ◌+◌, ◌*◌, ◌≤◌, ◌<◌}
use native.Mathlib.Omega.{arith}
use lib.ListN.{length}
use borrow.Author.Tests.{le-leb, lt-leb}
use Rattle.lists.specs.Lists.{sum_of}
use Rattle.history.specs.Words.{Block}
use Rattle.history.specs.Tree.{node_count, entry_count}
use Rattle.history.specs.File.{File, Nodes, Read, got, fault, ◌>>=◌, give, number, many, read_block, read_root, read_file, tree_from}
use Rattle.history.proofs.FileYields.{got_value, got_next}
use Rattle.fields.specs.Fields.{Moves, read_of}
use Rattle.fields.specs.declared.Reader.{Reader}
use Rattle.fields.proofs.Moving.{goes_on, ends}
use Rattle.std.specs.Prelude.{Option, Some, Ok, Err, ok_or}
use Rattle.file_scan.specs.declared.nodes.Nodes.{Nodes as Trees}
use Rattle.history.specs.Refusals.{accepted, refused}
use Rattle.refusals.specs.declared.Refusal.{Refusal}
use Rattle.refusals.specs.declared.Refusal.TheVariants.{FileEnds}
use Rattle.refusals.specs.Numbers.{number_of}
use Rattle.file_scan.specs.Rows.{row_head, answer_of}
use Rattle.file_scan.specs.Counts.{Scanned, bytes_in, blocks_from, nodes_from, nodes_at, scan_of}
use Rattle.fields.proofs.Reading.{number_passes}
use Rattle.file_scan.proofs.Readers.{onward_got}
use Rattle.file_scan.proofs.RowReads.{block_passes, passes, stops, given, none}

-- ── what the counts say of the reading ──

abbrev counting_blocks : (kind count : ℕ) (file : List ℕ) (at : ℕ) → Read ℕ
counting_blocks kind count file at = blocks_from 0 (many (read_block kind) count file at)

abbrev counting_nodes : (file : List ℕ) (at : ℕ) → Read Trees
counting_nodes file at = nodes_from (read_root file at)

-- blocks that were counted were read, and a fault of the count is one of the reading
blocks_passed : {b n : ℕ} {G : Type 0} (o : Read (List Block)) → got b n ≡ blocks_from 0 o → ((bs : List Block) → got bs n ≡ o → b ≡ bytes_in bs → G) → G
unfolding blocks_from
blocks_passed {b} {n} (got bs m) e f =
    let next : n ≡ m = cc in
    let count : b ≡ 0 + bytes_in bs = cc in
    f bs (rw next refl) (omega arith)
blocks_passed (fault i) e f = absurd (cc)

blocks_fault : {i : ℕ} (o : Read (List Block)) → fault i ≡ blocks_from 0 o → fault i ≡ o
unfolding blocks_from
blocks_fault (got bs m) e = absurd (cc)
blocks_fault (fault j) e = cc

nodes_passed : {ns : Trees} {n : ℕ} {G : Type 0} (o : Read Nodes) → got ns n ≡ nodes_from o
    → ((t : Nodes) → got t n ≡ o → ns.nodes ≡ node_count (tree_from t) → ns.entries ≡ entry_count (tree_from t) → G) → G
unfolding nodes_from
nodes_passed {ns} {n} (got t m) e f =
    let next : n ≡ m = cc in
    let same : ns ≡ record { nodes = node_count (tree_from t); entries = entry_count (tree_from t) } = cc in
    f t (rw next refl) (rw same refl) (rw same refl)
nodes_passed (fault i) e f = absurd (cc)

nodes_fault : {i : ℕ} (o : Read Nodes) → fault i ≡ nodes_from o → fault i ≡ o
unfolding nodes_from
nodes_fault (got t m) e = absurd (cc)
nodes_fault (fault j) e = cc

-- where the blocks that were read end, and how many there are
pub blocks_end : (kind : ℕ) (file : List ℕ) (at count : ℕ) {bs : List Block} {n : ℕ} → many (read_block kind) count file at ≡ got bs n
    → (n ≡ at + (row_head * length bs + bytes_in bs)) × (length bs ≡ count)
unfolding many ◌>>=◌ give sum_of
blocks_end kind file at zero {bs} {n} e = rw (← (got_value e), ← (got_next e)) (omega arith, refl)
blocks_end kind file at (suc count) {bs} {n} e =
    onward_got _ _ e λ b p e₁ r₁.
    onward_got _ _ r₁ λ xs q e₂ r₂.
    let s = block_passes kind file at e₁ in
    let (place, many) = blocks_end kind file p count e₂ in
    rw (← (got_value r₂), ← (got_next r₂)) (omega arith, ap suc many)

-- ── the returns of `scan` ──

abbrev pub counts_of : (kind blocks bytes nodes entries blocks_at nodes_at next : ℕ) → Scanned
counts_of kind blocks bytes nodes entries blocks_at nodes_at next =
    record { kind = kind; blocks = blocks; bytes = bytes; nodes = nodes; entries = entries; blocks_at = blocks_at; nodes_at = nodes_at; next = next }

-- what is counted of a file that was read, or its fault
whole : (y : Read File) (file : List ℕ) (at : ℕ) → y ≡ read_file file at → scan_of at y ≡ scan_of at (read_file file at)
whole y file at e = ap (scan_of at) e

module _ {r₀ r₁ : Reader} (o : Option ℕ) (m₁ : Moves (number 1) (read_of (λ n. n) o) r₀ r₁) where
  pub scan_ends : {i : Refusal} → Err i ≡ ok_or o FileEnds → refused (number_of i) ≡ scan_of r₀.at (read_file r₀.file.now r₀.at)
  unfolding read_file scan_of
  scan_ends e =
      let (m, k) = none _ o m₁ e in
      rw k (whole (fault 17) _ _ (ends m _ refl))

  module _ {kind : ℕ} (e₁ : o ≡ Some kind) where
    pub scan_kind : 4 < kind → refused 18 ≡ scan_of r₀.at (read_file r₀.file.now r₀.at)
    unfolding read_file scan_of
    scan_kind h = whole (fault 18) _ _ (goes_on (given _ o m₁ e₁) _ refl (stops _ _ _ (lt-leb kind 4 h)))

    module _ (few : kind ≤ 4) {r₂ : Reader} (p : Option ℕ) (m₂ : Moves (number 8) (read_of (λ n. n) p) r₁ r₂) where
      pub scan_count-ends : {i : Refusal} → Err i ≡ ok_or p FileEnds → refused (number_of i) ≡ scan_of r₀.at (read_file r₀.file.now r₀.at)
      unfolding read_file scan_of
      scan_count-ends e =
          let (m, k) = none _ p m₂ e in
          rw k (whole (fault 17) _ _ (goes_on (given _ o m₁ e₁) _ refl (passes _ _ (le-leb kind 4 few) (ends m _ refl))))

      module _ {count : ℕ} (e₂ : p ≡ Some count) {r₃ : Reader} where
        pub scan_blocks : (i : Refusal) → Moves (counting_blocks kind count) (answer_of (λ (n : ℕ). n) (Err i)) r₂ r₃
            → refused (number_of i) ≡ scan_of r₀.at (read_file r₀.file.now r₀.at)
        unfolding read_file scan_of
        scan_blocks i m₃ =
            let m : Moves (many (read_block kind) count) (λ at. fault (number_of i)) r₂ r₃ =
            record { same_file = m₃.same_file; is = blocks_fault (many (read_block kind) count r₂.file.now r₂.at) m₃.is } in
            whole (fault (number_of i)) _ _ (goes_on (given _ o m₁ e₁) _ refl (passes _ _ (le-leb kind 4 few) (goes_on (given _ p m₂ e₂) _ refl (ends m _ refl))))

        module _ {bytes : ℕ} (m₃ : Moves (counting_blocks kind count) (answer_of (λ (n : ℕ). n) (Ok bytes)) r₂ r₃) {r₄ : Reader} where
          pub scan_nodes : (i : Refusal) → Moves counting_nodes (answer_of (λ (n : Trees). n) (Err i)) r₃ r₄
              → refused (number_of i) ≡ scan_of r₀.at (read_file r₀.file.now r₀.at)
          unfolding read_file scan_of
          scan_nodes i m₄ =
              blocks_passed (many (read_block kind) count r₂.file.now r₂.at) m₃.is λ bs h b.
              let m : Moves (many (read_block kind) count) (λ at. got bs at) r₂ r₃ = record { same_file = m₃.same_file; is = h } in
              let f : Moves read_root (λ at. fault (number_of i)) r₃ r₄ = record { same_file = m₄.same_file; is = nodes_fault (read_root r₃.file.now r₃.at) m₄.is } in
              whole (fault (number_of i)) _ _ (goes_on (given _ o m₁ e₁) _ refl (passes _ _ (le-leb kind 4 few) (goes_on (given _ p m₂ e₂) _ refl (goes_on m _ refl (ends f _ refl)))))

          pub scan_all : {ns : Trees} → Moves counting_nodes (answer_of (λ (n : Trees). n) (Ok ns)) r₃ r₄
              → accepted (counts_of kind count bytes ns.nodes ns.entries r₂.at r₃.at r₄.at) ≡ scan_of r₀.at (read_file r₀.file.now r₀.at)
          unfolding read_file scan_of give
          scan_all m₄ =
              blocks_passed (many (read_block kind) count r₂.file.now r₂.at) m₃.is λ bs h b.
              nodes_passed (read_root r₃.file.now r₃.at) m₄.is λ t g n e.
              let m : Moves (many (read_block kind) count) (λ at. got bs at) r₂ r₃ = record { same_file = m₃.same_file; is = h } in
              let f : Moves read_root (λ at. got t at) r₃ r₄ = record { same_file = m₄.same_file; is = g } in
              let s₁ = number_passes r₀.file.now r₀.at 1 (sym (given _ o m₁ e₁).is) in
              let s₂ = number_passes r₁.file.now r₁.at 8 (sym (given _ p m₂ e₂).is) in
              let (place, many) = blocks_end kind r₂.file.now r₂.at count (sym h) in
              let first : r₂.at ≡ r₀.at + 9 = omega (arith, s₁.place, s₂.place) in
              let begins : r₃.at ≡ nodes_at r₀.at bs = omega (arith, place, s₁.place, s₂.place) in
              rw (b, n, e, begins, first, ← many)
              (whole (got (record { kind = kind; blocks = bs; nodes = t }) r₄.at) _ _ (goes_on (given _ o m₁ e₁) _ refl (passes _ _ (le-leb kind 4 few) (goes_on (given _ p m₂ e₂) _ refl (goes_on m _ refl (goes_on f _ refl refl))))))
