-- The rows of a tick, along which a stretch is counted: one step for each turn and each return. Assumes nothing.
use mathlib.Core.Path.{◌≡◌, refl, sym, ◌∙◌}
use mathlib.Core.Logic.{inl, inr}
use mathlib.Core.List.{List}
use Prim.Native.Nat.{ℕ, ◌+◌, ◌-◌, ◌*◌, ◌≤◌, ◌<◌, min, max}
use native.Mathlib.Omega.{arith}
use lib.ListN.{length, get_or, set, length-set}
use lib.Seq.{get_or-set_same, get_or-set_other}
use Rattle.std.proofs.lemmas.List.{get_or_past}
use Rattle.lists.proofs.Numbers.{lt_or_le, eq_or_ne}
use Rattle.history.specs.Words.{line_of, cell_place}
use Rattle.history.specs.Lent.{row_width}
use Rattle.tables.specs.Columns.{block_column, block_base, block_first, block_length, block_destroyed, block_owner, block_next}
use Rattle.tables.specs.Sums.{plus_up_to}
use Rattle.block_table.specs.Blocks.{first_cell_at, length_at, owner_at, place_at}
use Rattle.ordering.specs.Order.{next_at, next_place, OnlyOrder}
use Rattle.ordering.proofs.Keeping.{order_column}
use Rattle.block_table.specs.declared.Row.{Row}
use Rattle.block_table.specs.RowRead.{Reads}
use Rattle.handed_rows.specs.Handed.{in_common, Common, Grows, stays, takes, HandsOn}

-- ── the order alone changed ──

pub only_same : {b : List ℕ} {n : ℕ} → OnlyOrder b b n
only_same = record { len = refl; same = λ i f. refl }

pub only_both : {b b₁ b₂ : List ℕ} {n : ℕ} → OnlyOrder b b₁ n → OnlyOrder b₁ b₂ n → OnlyOrder b b₂ n
only_both o p = record { len = p.len ∙ o.len; same = λ i f. p.same i f ∙ o.same i f }

only_set : (b : List ℕ) {n : ℕ} (link v : ℕ) → link ≤ n → OnlyOrder b (set b (next_place link) v) n
only_set b link v h = record { len = length-set b (next_place link) v; same = λ i f. get_or-set_other b (next_place link) i v 0 (f link h) }

-- a store past the end is none, and reads as 0
set_at_most : (b : List ℕ) (i v : ℕ) → get_or (set b i v) i 0 ≤ v
set_at_most b i v =
    elim (lt_or_le i (length b)) [
      | inl h ↦ omega (arith, get_or-set_same b i v 0 h)
      | inr h ↦ omega (arith, get_or_past (set b i v) i 0 (omega (arith, length-set b i v)))
    ]

-- ── along the rows ──

-- Up to row i each has grown as it may, and from there on all are as they were.
pub record Along (b₀ b : List ℕ) (n first length tick i : ℕ) : Type 0 where
  pub only : OnlyOrder b₀ b n
  pub done : (j : ℕ) → Grows b₀ b first length tick j
  pub rest : (j : ℕ) → i < j → next_at b j ≡ next_at b₀ j

-- stretches of one line have no more in common than without the cut
less : (a a' b b' m m' line : ℕ) → a ≤ a' → b ≤ b' → m' ≡ line + m → min a b - m ≤ min (line + a') (line + b') - m'
less a a' b b' m m' line p q e = omega arith

pub common_told : {row : Row} {kind first length one other lo hi r : ℕ} → row.owner ≡ kind → lo ≡ max row.first first → one ≡ plus_up_to row.first row.length
    → other ≡ plus_up_to first length → hi ≡ min one other → r ≡ hi - lo → Common row kind first length r
common_told {row} {kind} {first} {length} {one} {other} {lo} {hi} {r} own l o p h e = record { most = rw (own, e, h) (within (omega arith) (omega arith)) }
  where
    within : one ≤ row.first + row.length → other ≤ first + length
        → min one other - lo ≤ min (line_of kind + row.first + row.length) (line_of kind + first + length) - max (line_of kind + row.first) (line_of kind + first)
    within u v =
        let a : line_of kind + row.first + row.length ≡ line_of kind + (row.first + row.length) = omega arith in
        let b : line_of kind + first + length ≡ line_of kind + (first + length) = omega arith in
        rw (a, b) (less one (row.first + row.length) other (first + length) lo _ (line_of kind) u v (omega arith))

pub common_none : {row : Row} {kind first length : ℕ} → Common row kind first length 0
common_none = record { most = omega arith }

module _ {n first length tick : ℕ} where
  pub along_start : {b : List ℕ} {i : ℕ} → Along b b n first length tick i
  along_start = record { only = only_same; done = λ j. stays (omega arith); rest = λ j h. refl }

  pub along_end : {b₀ b : List ℕ} {i : ℕ} → Along b₀ b n first length tick i → HandsOn b₀ b n first length tick
  along_end a = record { only = a.only; grows = a.done }

  pub along_pass : {b₀ b : List ℕ} {i j : ℕ} → Along b₀ b n first length tick i → i + 1 ≤ j → Along b₀ b n first length tick j
  along_pass a h = record { only = a.only; done = a.done; rest = λ k g. a.rest k (omega arith) }

pub along_count : {n kind cell length tick : ℕ} {b₀ b b' : List ℕ} {i part sum : ℕ} {row : Row} → Along b₀ b n (cell_place kind cell) length tick i → i < n → Reads b (i + 1) row → row.destroyed ≡ tick
    → Common row kind cell length part → sum ≡ plus_up_to row.next part → b' ≡ set b (row_width * (i + 1) + (block_base + block_next)) sum
    → Along b₀ b' n (cell_place kind cell) length tick (i + 1)
along_count {n} {kind} {cell} {length} {tick} {b₀} {b} {b'} {i} {part} {sum} {row} a h r dies c s e = record {
  only = only_both a.only (rw e (only_set b (i + 1) sum (omega arith)));
  done = done;
  rest = λ j g. other j (omega arith) ∙ a.rest j (omega arith);
}
  where
    other : (j : ℕ) → (j ≡ i + 1 → ⊥) → next_at b' j ≡ next_at b j
    other j f = rw e (get_or-set_other b (next_place (i + 1)) (next_place j) sum 0 (λ q. f (omega arith)))

    was : (c : ℕ) → c < row_width → (c ≡ block_next → ⊥) → block_column b (i + 1) c ≡ block_column b₀ (i + 1) c
    was c = order_column a.only (i + 1) c

    grown : next_at b' (i + 1) ≤ next_at b₀ (i + 1) + in_common (place_at b₀ (i + 1)) (length_at b₀ (i + 1)) (cell_place kind cell) length
    grown =
        let put : next_at b' (i + 1) ≤ sum = rw e (set_at_most b (next_place (i + 1)) sum) in
        let same : next_at b (i + 1) ≡ next_at b₀ (i + 1) = a.rest (i + 1) (omega arith) in
        let from : row.first ≡ first_cell_at b₀ (i + 1) = r.first ∙ was block_first (omega arith) (λ z. omega arith) in
        let own : row.owner ≡ owner_at b₀ (i + 1) = r.owner ∙ was block_owner (omega arith) (λ z. omega arith) in
        let many : row.length ≡ length_at b₀ (i + 1) = r.length ∙ was block_length (omega arith) (λ z. omega arith) in
        let most : part ≤ in_common (place_at b₀ (i + 1)) (length_at b₀ (i + 1)) (cell_place kind cell) length = rw (own, from, many) at c.most in
        sums _ put (omega (arith, s)) most (omega (arith, r.next))
      where
        sums : (more : ℕ) → next_at b' (i + 1) ≤ sum → sum ≤ row.next + part → part ≤ more → row.next ≡ next_at b₀ (i + 1) → next_at b' (i + 1) ≤ next_at b₀ (i + 1) + more
        sums more p q u v = omega arith

    kept : {j : ℕ} → next_at b' j ≡ next_at b j → Grows b₀ b (cell_place kind cell) length tick j → Grows b₀ b' (cell_place kind cell) length tick j
    kept q (stays g) = stays (rw q g)
    kept q (takes d g) = takes d (rw q g)

    done : (j : ℕ) → Grows b₀ b' (cell_place kind cell) length tick j
    done j =
        elim (eq_or_ne j (i + 1)) [
          | inl q ↦ rw q (takes (sym (was block_destroyed (omega arith) (λ z. omega arith)) ∙ sym r.destroyed ∙ dies) grown)
          | inr q ↦ kept (other j q) (a.done j)
        ]

pub ruleset along = (along_start, along_end, along_pass)
