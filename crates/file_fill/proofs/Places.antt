-- Where a node should stand: one step for each return of `is_place`, `right_start`, `half_at`, `root_end` and `first_cell`. Assumes nothing.
use mathlib.Core.Path.{◌≡◌, refl}
use mathlib.Core.Logic.{◌⊎◌, ⊎_elim}
use mathlib.Core.Bool.{true, false, ◌&&◌, and-false}
use mathlib.Core.List.{List}
use Prim.Native.Nat.{ℕ, ◌+◌, ◌-◌, ◌^◌, ◌≤◌, ◌<◌}
use native.Mathlib.Omega.{arith}
use native.Mathlib.Numerals.{add-one}
use lib.Dec.{ltb, eqb}
use lib.ListN.{length}
use borrow.Author.Tests.{ltb-true, lt-ltb, le-ltb, le-leb, lt-leb, eq-eqb, ne_eqb}
use Rattle.lists.proofs.Numbers.{bool_cases, and_left}
use Rattle.history.specs.Tree.{mid}
use Rattle.history.specs.File.{Read, got, fault}
use Rattle.tables.specs.Columns.{block_column, block_first}
use Rattle.tables.proofs.Past.{read_past}
use Rattle.std.specs.Prelude.{Some, None, Result, Ok, Err}
use Rattle.std.specs.Result.{result_ok}
use Rattle.refusals.specs.declared.Refusal.{Refusal}
use Rattle.file_scan.specs.declared.rows.NodeRow.{NodeRow}
use Rattle.file_scan.specs.declared.rows.NodeRow.TheVariants as node
use Rattle.file_scan.specs.Rows.{row_head, answer_of, Head, head_absent, head_present, node_row}
use Rattle.file_scan.proofs.RowSays.{row_present, row_absent, row_fault}
use Rattle.file_fill.specs.declared.nodes.Half.TheVariants as half
use Rattle.file_fill.specs.Fill.{is_place, right_start, half_of, root_end, first_cell_of}

-- ── the returns of `is_place` ──

module _ (lo hi low high middle : ℕ) where
  pub place_none : hi ≤ lo → false ≡ is_place lo hi low high middle
  unfolding is_place
  place_none h = rw (le-ltb lo hi h) refl

  module _ (some : lo < hi) where
    pub place_low : (low ≡ lo → ⊥) → false ≡ is_place lo hi low high middle
    unfolding is_place
    place_low h = rw (lt-ltb lo hi some, ne_eqb low lo h) refl

    module _ (same_low : low ≡ lo) where
      pub place_high : (high ≡ hi → ⊥) → false ≡ is_place lo hi low high middle
      unfolding is_place
      place_high h = rw (lt-ltb lo hi some, eq-eqb low lo same_low, ne_eqb high hi h) refl

      pub place_middle : high ≡ hi → {m : ℕ} → (lo < hi → m ≡ mid lo hi) → eqb middle m ≡ is_place lo hi low high middle
      unfolding is_place
      place_middle h e = rw (lt-ltb lo hi some, eq-eqb low lo same_low, eq-eqb high hi h, e some) refl

  -- a node has a tick
  pub place_some : is_place lo hi low high middle ≡ true → lo < hi
  unfolding is_place
  place_some h = ltb-true lo hi (and_left (ltb lo hi) (eqb low lo && (eqb high hi && eqb middle (mid lo hi))) h)

pub ruleset placing = (place_none, place_low, place_high, place_middle)

-- ── the returns of `right_start` ──

module _ (lo hi : ℕ) where
  pub start_narrow : hi - lo ≤ 1 → lo < hi → hi ≡ right_start lo hi
  unfolding right_start
  start_narrow h k = rw (le-ltb (lo + 1) hi (omega arith)) refl

  pub start_middle : 1 < hi - lo → mid lo hi ≡ right_start lo hi
  unfolding right_start
  start_middle h = rw (lt-ltb (lo + 1) hi (omega arith)) refl

-- ── the returns of `half_at` and `root_end` ──

module _ (lo hi at : ℕ) (o : Read Head) (next : ℕ) where
  pub half_fault : (r : Result NodeRow Refusal) → None ≡ result_ok r → answer_of (λ (x : NodeRow). x) r next ≡ node_row at o → None ≡ half_of lo hi at o
  unfolding half_of
  half_fault (Ok x) t e = absurd (cc)
  half_fault (Err f) t e = rw (row_fault at o e) refl

  pub half_absent : (r : Result NodeRow Refusal) → Some node.Absent ≡ result_ok r → answer_of (λ (x : NodeRow). x) r next ≡ node_row at o
      → Some (half.Absent next) ≡ half_of lo hi at o
  unfolding half_of
  half_absent (Ok x) t e =
      let same : x ≡ node.Absent = cc in
      rw (row_absent at o (rw same at e)) refl
  half_absent (Err f) t e = absurd (cc)

  module _ {a b c d q : ℕ} where
    pub half_wrong : (r : Result NodeRow Refusal) → Some (node.Present a b c d q) ≡ result_ok r → answer_of (λ (x : NodeRow). x) r next ≡ node_row at o
        → false ≡ is_place lo hi a b c → None ≡ half_of lo hi at o
    unfolding half_of
    half_wrong (Ok x) t e place =
        let same : x ≡ node.Present a b c d q = cc in
        row_present at o (rw same at e) λ es g z w. rw (g, ← place) refl
    half_wrong (Err f) t e place = absurd (cc)

    pub half_present : (r : Result NodeRow Refusal) → Some (node.Present a b c d q) ≡ result_ok r → answer_of (λ (x : NodeRow). x) r next ≡ node_row at o
        → true ≡ is_place lo hi a b c → Some (half.Present d q next) ≡ half_of lo hi at o
    unfolding half_of
    half_present (Ok x) t e place =
        let same : x ≡ node.Present a b c d q = cc in
        row_present at o (rw same at e) λ es g z w. rw (g, ← place, z, w) refl
    half_present (Err f) t e place = absurd (cc)

module _ (at : ℕ) (o : Read Head) (next : ℕ) where
  pub end_fault : (r : Result NodeRow Refusal) → None ≡ result_ok r → answer_of (λ (x : NodeRow). x) r next ≡ node_row at o → None ≡ root_end o
  unfolding root_end
  end_fault (Ok x) t e = absurd (cc)
  end_fault (Err f) t e = rw (row_fault at o e) refl

  pub end_absent : (r : Result NodeRow Refusal) → Some node.Absent ≡ result_ok r → answer_of (λ (x : NodeRow). x) r next ≡ node_row at o → None ≡ root_end o
  unfolding root_end
  end_absent (Ok x) t e =
      let same : x ≡ node.Absent = cc in
      rw (row_absent at o (rw same at e)) refl
  end_absent (Err f) t e = absurd (cc)

  module _ {a b c d q : ℕ} where
    pub end_out_of_range : (r : Result NodeRow Refusal) → Some (node.Present a b c d q) ≡ result_ok r → answer_of (λ (x : NodeRow). x) r next ≡ node_row at o
        → ((b ≡ 0) ⊎ ((b ≡ 0 → ⊥) × (2 ^ 63 < b))) → None ≡ root_end o
    unfolding root_end
    end_out_of_range (Ok x) t e h =
        let same : x ≡ node.Present a b c d q = cc in
        row_present at o (rw same at e) λ es g z w.
        ⊎_elim (λ p. rw (g, le-ltb 0 b (omega arith)) refl) (λ p. rw (g, lt-leb b (2 ^ 63) p.1, and-false (ltb 0 b)) refl) h
    end_out_of_range (Err f) t e h = absurd (cc)

    pub end_there : (r : Result NodeRow Refusal) → Some (node.Present a b c d q) ≡ result_ok r → answer_of (λ (x : NodeRow). x) r next ≡ node_row at o → (b ≡ 0 → ⊥) → b ≤ 2 ^ 63
        → Some b ≡ root_end o
    unfolding root_end
    end_there (Ok x) t e p h =
        let same : x ≡ node.Present a b c d q = cc in
        row_present at o (rw same at e) λ es g z w. rw (g, lt-ltb 0 b (omega arith), le-leb b (2 ^ 63) h) refl
    end_there (Err f) t e p h = absurd (cc)

-- ── what half_at says of the reading ──

pub half_is_absent : (lo hi at : ℕ) {n : ℕ} (o : Read Head) → Some (half.Absent n) ≡ half_of lo hi at o → o ≡ got head_absent n
unfolding half_of
half_is_absent lo hi at (got head_absent m) e = cc
half_is_absent lo hi at (got (head_present a b c es) m) e =
    ⊎_elim
    (λ p. absurd (let w = rw p at e in cc))
    (λ p. absurd (let w = rw p at e in cc))
    (bool_cases (is_place lo hi a b c))
half_is_absent lo hi at (fault i) e = absurd (cc)

pub half_is_wrong : (lo hi at : ℕ) {G : Type 0} (o : Read Head) → None ≡ half_of lo hi at o
    → ((i : ℕ) → o ≡ fault i → G) → ((a b c : ℕ) (es : List ℕ) (n : ℕ) → o ≡ got (head_present a b c es) n → is_place lo hi a b c ≡ false → G) → G
unfolding half_of
half_is_wrong lo hi at (got head_absent m) e f g = absurd (cc)
half_is_wrong lo hi at (got (head_present a b c es) m) e f g =
    ⊎_elim
    (λ p. absurd (let w = rw p at e in cc))
    (λ p. g a b c es m refl p)
    (bool_cases (is_place lo hi a b c))
half_is_wrong lo hi at (fault i) e f g = f i refl

-- the node that was read
pub record There (lo hi at : ℕ) (o : Read Head) (count place next : ℕ) : Type 0 where
  pub low : ℕ
  pub high : ℕ
  pub middle : ℕ
  pub entries : List ℕ
  pub read : o ≡ got (head_present low high middle entries) next
  pub stands : is_place lo hi low high middle ≡ true
  pub many : length entries ≡ count
  pub behind : place ≡ at + row_head

pub half_is_there : (lo hi at : ℕ) {d q n : ℕ} (o : Read Head) → Some (half.Present d q n) ≡ half_of lo hi at o → There lo hi at o d q n
unfolding half_of
half_is_there lo hi at (got head_absent m) e = absurd (cc)
half_is_there lo hi at (got (head_present a b c es) m) e =
    ⊎_elim
    (λ p. let w = rw p at e in record { low = a; high = b; middle = c; entries = es; read = cc; stands = p; many = cc; behind = cc })
    (λ p. absurd (let w = rw p at e in cc))
    (bool_cases (is_place lo hi a b c))
half_is_there lo hi at (fault i) e = absurd (cc)

-- ── the returns of `first_cell` ──

pub cell_there : (blocks : List ℕ) (k : ℕ) {r : ℕ} → r ≡ block_column blocks (k + 1) block_first → r ≡ first_cell_of blocks k
cell_there blocks k e = rw add-one at e

pub cell_past : (blocks : List ℕ) (k : ℕ) → length blocks ≤ k → 0 ≡ first_cell_of blocks k
cell_past blocks k h = read_past blocks _ (omega arith)

pub ruleset reading = (cell_there, cell_past)
