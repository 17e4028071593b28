-- `matching` and `first_difference`: one step for each return. Assumes nothing.
use mathlib.Core.Path.{◌≡◌, refl, sym, ap, ◌∙◌}
use mathlib.Core.Logic.{◌⊎◌, inl, inr}
use mathlib.Core.Option.{Option, some}
use mathlib.Core.List.{List}
use Prim.Native.Nat.{ℕ, ◌+◌, ◌-◌, ◌≤◌, ◌<◌, ◌^◌, min}
use native.Mathlib.Omega.{arith}
use lib.ListN.{length, get_or}
use Rattle.lists.proofs.Numbers.{lt_or_le}
use Rattle.history.specs.Words.{Stretch, line_of, cell_place, byte_at}
use Rattle.history.proofs.ByKind.{line_next}
use Rattle.history.proofs.Comparing.{Agrees, Other, differs_nowhere, differs_at}
use Rattle.tables.specs.Sums.{plus_up_to}
use Rattle.piece_table.specs.Piece.{PieceRow, row_of, Filled}
use Rattle.piece_table.specs.Shown.{shown, Stored}
use Rattle.piece_table.proofs.Cells.{Misses, byte_none, byte_some}
use Rattle.comparison.specs.Comparison.{Matching, Compared}
use Rattle.piece_table.specs.declared.Piece.{Piece}
use Rattle.std.specs.Prelude.{Some, None}

-- ── the cells in common ──

-- Of a piece of so many cells from `was` on, stored from `offset` on, and `many` bytes from `first` on: `run` cells are in common, the first after `from` bytes, and stored from `at` on.
record Common (was size offset first many from run at : ℕ) : Type 0 where
  ahead : (k : ℕ) → k < from → first + k < was
  behind : (k : ℕ) → from + run ≤ k → k < many → was + size ≤ first + k
  inside : (k : ℕ) → k < run → (was ≤ first + (from + k)) × (first + (from + k) < was + size) × (from + k < many)
  place : offset + size < 2 ^ 64 → (k : ℕ) → k < run → offset + (first + (from + k) - was) ≡ at + k

-- the first of them in the store, where the piece starts in front of the operation
place_over : (offset size was first skip at k : ℕ) → skip + was ≡ first → at ≡ plus_up_to offset skip → offset + size < 2 ^ 64 → skip ≤ size → offset + (first + (0 + k) - was) ≡ at + k
place_over offset size was first skip at k a e b c =
    let z : at ≡ offset + skip = omega arith in
    let y : first + (0 + k) - was ≡ skip + k = omega (arith, a) in
    omega arith

-- or behind its start
place_from_lem : (offset size was first from at k : ℕ) → from + first ≡ was → at ≡ plus_up_to offset 0 → offset + size < 2 ^ 64 → offset + (first + (from + k) - was) ≡ at + k
place_from_lem offset size was first from at k a e b =
    let z : at ≡ offset = omega arith in
    let y : first + (from + k) - was ≡ k = omega (arith, a) in
    omega arith

common : {was size offset first many from skip run at : ℕ} → skip ≡ first - was → from ≡ was - first → run ≡ min (size - skip) (many - from) → at ≡ plus_up_to offset skip
    → Common was size offset first many from run at
common {was} {size} {offset} {first} {many} {from} {skip} {run} {at} ek ef er ea = go (lt_or_le was first)
  where
    go : (was < first) ⊎ (first ≤ was) → Common was size offset first many from run at
    go (inl h) =
        let f : from ≡ 0 = omega arith in
        let k₀ : skip + was ≡ first = omega arith in
        record {
          ahead = λ k l. absurd (omega arith);
          behind = λ k l m. omega arith;
          inside = λ k l. (omega arith, omega arith, omega arith);
          place = λ b k l. rw f (place_over offset size was first skip at k k₀ ea b (omega (arith, er)));
        }
    go (inr h) =
        let f : from + first ≡ was = omega arith in
        let k₀ : skip ≡ 0 = omega arith in
        record {
          ahead = λ k l. omega arith;
          behind = λ k l m. omega arith;
          inside = λ k l. (omega arith, omega arith, omega arith);
          place = λ b k l. place_from_lem offset size was first from at k f (rw k₀ at ea) b;
        }

-- ── `first_difference` ──

module _ (store : List ℕ) (p : PieceRow) (first : ℕ) (bytes : List ℕ) (from run at : ℕ)
    (cells : Common p.first p.size p.offset first (length bytes) from run at) (st : Stored store p) where
  abbrev its : Stretch
  its = (shown store p).stretch

  -- a cell that is not in common
  beside : (k : ℕ) → k < length bytes → (k < from) ⊎ (from + run ≤ k) → Agrees its (first + k) (get_or bytes k 0)
  beside k h (inl low) = inl (byte_none store (first + k) p st (inr (cells.ahead k low)))
  beside k h (inr high) = inl (byte_none store (first + k) p st (inl (cells.behind k high h)))

  module _ (whole : Filled p) where
    -- one in common
    stored : (k : ℕ) → k < run → byte_at (first + (from + k)) its ≡ some (get_or store (at + k) 0)
    stored k h =
        byte_some store (first + (from + k)) p st (cells.inside k h).0 (cells.inside k h).1
        ∙ ap {B = Option ℕ} (λ (i : ℕ). some (get_or store i 0)) (cells.place whole.stored k h)

    module _ {j : ℕ} (m : Matching store at bytes from run j) where
      upto : (k : ℕ) → k < from + j → k < length bytes → Agrees its (first + k) (get_or bytes k 0)
      upto k h l = go (lt_or_le k from)
        where
          go : (k < from) ⊎ (from ≤ k) → Agrees its (first + k) (get_or bytes k 0)
          go (inl low) = beside k l (inl low)
          go (inr high) =
              let z : from + (k - from) ≡ k = omega arith in
              inr (rw (← z) (stored (k - from) (omega (arith, m.most)) ∙ ap {B = Option ℕ} some (sym (m.same (k - from) (omega arith)))))

      alike : run ≤ j → (k : ℕ) → k < length bytes → Agrees its (first + k) (get_or bytes k 0)
      alike all k h = elim (lt_or_le k (from + j)) [ inl low ↦ upto k low h | inr high ↦ beside k h (inr (omega arith)) ]

      other : j < run → Other its (first + (from + j)) (get_or bytes (from + j) 0)
      other less = record { x = get_or store (at + j) 0; has = stored j less; other = m.differs less }

last_below : (run : ℕ) → (run ≡ 0 → ⊥) → run - 1 < run
last_below run nz = omega arith

-- the store has not all of the cells in common
none_lost : (offset size was cell many at run left : ℕ) → left ≡ many - at → left < run → offset + (cell - was) ≡ at + (run - 1) → was ≤ cell → cell < was + size → offset + size ≤ many → ⊥
none_lost offset size was cell many at run left e h a b c d = let z : at + run ≤ many = omega (arith, h, a, b, c, d) in omega (arith, z, e, h)

cell_sum : (first from j low cell many : ℕ) → from + j < many → first + many < 2 ^ 64 → low ≡ plus_up_to first from → cell ≡ plus_up_to low j → cell ≡ first + (from + j)
cell_sum first from j low cell many a b el ec = let z : low ≡ first + from = omega (arith, a, b, el) in omega (arith, z, a, b, ec)

line_sum : (l first k : ℕ) → l + (first + k) ≡ l + first + k
line_sum l first k = omega arith

-- a distance on one line
moved : (l k first was : ℕ) → k ≡ l → first - was ≡ k + first - (l + was)
moved l k first was e = omega arith

module _ (bytes : List ℕ) (p : Piece) (kind first : ℕ) where
  abbrev row : PieceRow
  row = row_of p

  abbrev start : ℕ
  start = cell_place kind first

  -- a piece of another kind
  pub compared_other : {store : List ℕ} → (p.owner ≡ kind → ⊥) → Compared store p kind first bytes None
  compared_other {store} n = record {
    is = λ whole st near. sym (differs_nowhere (shown store row).stretch start bytes (λ k h. inl (byte_none store (start + k) row st (away whole near k h (lt_or_le kind p.owner)))));
  }
    where
      away : Filled row → first + length bytes < 2 ^ 64 → (k : ℕ) → k < length bytes → (kind < p.owner) ⊎ (p.owner ≤ kind) → Misses (start + k) row
      away whole near k h (inl low) = inr (omega (arith, line_next kind p.owner low))
      away whole near k h (inr high) = inl (omega (arith, whole.near, line_next p.owner kind (omega (arith, n))))

  abbrev from : ℕ
  from = p.first - first

  abbrev run : ℕ
  run = min (p.size - (first - p.first)) (length bytes - from)

  abbrev at : ℕ
  at = plus_up_to p.offset (first - p.first)

  module _ (own : p.owner ≡ kind) where
    line : line_of kind ≡ line_of p.owner
    line = ap line_of (sym own)

    meets : Common row.first row.size row.offset start (length bytes) from run at
    meets = common (moved (line_of p.owner) (line_of kind) first p.first line) (moved (line_of kind) (line_of p.owner) p.first first (sym line)) refl refl

    pub compared_apart : {store : List ℕ} → run ≡ 0 → Compared store p kind first bytes None
    compared_apart {store} z = record {
      is = λ whole st near.
          sym (differs_nowhere (shown store row).stretch start bytes (λ k h.
          beside store row start bytes from run at meets st k h (elim (lt_or_le k from) [ inl low ↦ inl low | inr high ↦ inr (omega arith) ])));
    }

    -- what cannot be where the store has the piece's bytes
    pub compared_lost : {store : List ℕ} → (run ≡ 0 → ⊥) → length store - at < run → Compared store p kind first bytes None
    compared_lost {store} nz h = record {
      is = λ whole st near.
          let k : run - 1 < run = last_below run nz in
          let in-piece = meets.inside (run - 1) k in
          absurd (none_lost _ _ _ _ _ at run _ refl h (meets.place whole.stored (run - 1) k) in-piece.0 in-piece.1 st.has);
    }

    pub compared_alike : {store : List ℕ} {j : ℕ} → Matching store at bytes from run j → run ≤ j → Compared store p kind first bytes None
    compared_alike {store} m all = record {
      is = λ whole st near. sym (differs_nowhere (shown store row).stretch start bytes (alike store row start bytes from run at meets st whole m all));
    }

    pub compared_cell : {store : List ℕ} {j : ℕ} → Matching store at bytes from run j → j < run → Compared store p kind first bytes (Some (plus_up_to (plus_up_to first from) j))
    compared_cell {store} {j} m less = record {
      is = λ whole st near.
          let small : from + j < length bytes = (meets.inside j less).2 in
          let sum : plus_up_to (plus_up_to first from) j ≡ first + (from + j) = cell_sum first from j _ _ (length bytes) small near refl refl in
          ap {B = Option ℕ} some (ap (cell_place kind) sum ∙ line_sum (line_of kind) first (from + j))
          ∙ sym (differs_at (shown store row).stretch start bytes (from + j) small (λ k h. upto store row start bytes from run at meets st whole m k h (omega arith)) (other store row start bytes from run at meets st whole m less));
    }

-- the steps, one for each return
pub ruleset comparing = (compared_other, compared_apart, compared_lost, compared_alike, compared_cell)
