-- The rows of a node painted: the turn and the returns of `paint_rows`. Assumes nothing.
use mathlib.Core.Path.{◌≡◌, refl, ap, ◌∙◌}
use mathlib.Core.Logic.{◌⊎◌, inl, inr}
use mathlib.Core.List.{List, [], ◌∷◌, ◌++◌}
use Prim.Native.Nat.{ℕ, ◌+◌, ◌-◌, ◌≤◌, ◌<◌}
use native.Mathlib.Omega.{arith}
use lib.ListN.{length}
use Rattle.lists.specs.Lists.{Mem, all_nil, all_cons}
use Rattle.lists.proofs.Lists.{all_append, all_mem, mem_left}
use Rattle.lists.proofs.Numbers.{lt_or_le}
use Rattle.segment_table.specs.Closed.{run, block_in, first_cell_in}
use Rattle.segment_table.proofs.Closed.{run_split, run_mem}
use Rattle.segment_walk.specs.declared.rows.Rows.{Rows}
use Rattle.segment_walk.specs.Rowing.{key_at, RunOf}
use Rattle.segment_near.specs.declared.Neighbour.{Neighbour}
use Rattle.cells_paint.specs.Painting.{Covers, Drawn, left, drawn, Slices, Painted, PaintedFrom, RowsPainted, Ascending, AscendingPainted}
use Rattle.cells_paint.proofs.Drawing.{drawn_append, painted_none}

-- the block of a row before `row` has all its cells below `place` in the store
pub record Reached (entries blocks store : List ℕ) (from row place : ℕ) : Type 0 where
  pub at : ℕ
  pub low : from ≤ at
  pub high : at < row
  pub covers : (c : ℕ) → first_cell_in blocks (block_in entries at) ≤ c → c < place → Covers blocks store (block_in entries at) c

-- the rows before `row` are painted, where the rows ascend; `place` is behind the last cell that was
pub record Rowing (entries blocks store : List ℕ) (rows : Rows) (start stop : ℕ) (bytes₀ bytes held₀ held : List ℕ) (row place : ℕ) : Type 0 where
  pub window : Slices start stop bytes held
  pub onward : start ≤ place
  pub reached : (place ≡ start) ⊎ Reached entries blocks store rows.from row place
  pub painted : Ascending blocks entries rows → Painted blocks store (run entries rows.from (row - rows.from)) start stop bytes₀ bytes held₀ held
  pub below : (i : ℕ) → rows.from ≤ i → i < row → key_at entries i < stop

pub rowing_none : {entries blocks store : List ℕ} {rows : Rows} {start stop : ℕ} {bytes held : List ℕ} → Slices start stop bytes held
    → Rowing entries blocks store rows start stop bytes bytes held held rows.from start
unfolding run
rowing_none {rows = rows} w =
    let z : rows.from - rows.from ≡ 0 = omega arith in
    record { window = w; onward = omega arith; reached = inl refl; painted = λ _. rw z painted_none; below = λ i a b. absurd (omega arith) }

-- the block of a row
abbrev row_block : (entries : List ℕ) (row : ℕ) → Neighbour
row_block entries row = record { number = block_in entries row; first = key_at entries row }

module _ {entries blocks store : List ℕ} {rows : Rows} {start stop row place r : ℕ} {bytes₀ bytes bytes' held₀ held held' : List ℕ}
    (s : Rowing entries blocks store rows start stop bytes₀ bytes held₀ held row place) (low : rows.from ≤ row) (inside : row < rows.to)
    (p : PaintedFrom blocks store (block_in entries row) start place stop r bytes bytes' held held') where
  -- what the block has below `place` is painted already, as the block that reaches there starts no later
  painted_before : Ascending blocks entries rows → (i : ℕ) → start + i < place → Covers blocks store (block_in entries row) (start + i)
      → (k : ℕ) × Mem k (run entries rows.from (row - rows.from)) × Covers blocks store k (start + i)
  painted_before o i h v =
      elim s.reached [
        | inl e ↦ absurd (omega arith)
        | inr q ↦
            (let first : first_cell_in blocks (block_in entries q.at) ≤ first_cell_in blocks (block_in entries row) = o.firsts q.at row q.low (omega (arith, q.high)) inside in
            (block_in entries q.at, run_mem entries rows.from (row - rows.from) q.at q.low (omega (arith, q.high)), q.covers (start + i) (omega (arith, first, v.from)) h))
      ]

  painted_more : Ascending blocks entries rows → Painted blocks store (run entries rows.from (row - rows.from) ++ (block_in entries row ∷ [])) start stop bytes₀ bytes' held₀ held'
  painted_more o =
      record {
        cell = λ i a. elim (lt_or_le (start + i) place) [
          | inl h ↦ early i h (p.kept i h) ((s.painted o).cell i a)
          | inr h ↦ drawn_append ((s.painted o).cell i a) (p.cell i a h)
        ];
      }
    where
      early : (i : ℕ) → start + i < place → {b₀ h₀ b h b' h' : ℕ} → (b' ≡ b) × (h' ≡ h)
          → Drawn blocks store (run entries rows.from (row - rows.from)) (start + i) b₀ h₀ b h
          → Drawn blocks store (run entries rows.from (row - rows.from) ++ (block_in entries row ∷ [])) (start + i) b₀ h₀ b' h'
      early i u same (drawn k m v e f) = drawn k (mem_left (run entries rows.from (row - rows.from)) (block_in entries row ∷ []) m) v (same.0 ∙ e) (same.1 ∙ f)
      early i u same (left none e f) =
          left (all_append none (all_cons (λ v. let q = painted_before o i u v in all_mem none q.1 q.2) all_nil)) (same.0 ∙ e) (same.1 ∙ f)

  reached_more : (r ≡ start) ⊎ Reached entries blocks store rows.from (row + 1) r
  reached_more =
      elim p.reached [
        | inr c ↦ inr (record { at = row; low = low; high = omega arith; covers = c })
        | inl e ↦ elim s.reached [
          | inl z ↦ inl (e ∙ z)
          | inr q ↦ inr (record { at = q.at; low = q.low; high = omega (arith, q.high); covers = λ c u v. q.covers c u (omega arith) })
        ]
      ]

  -- one more, which starts before the end of the window
  rowing_row : key_at entries row < stop → length bytes' ≡ length bytes → length held' ≡ length held
      → Rowing entries blocks store rows start stop bytes₀ bytes' held₀ held' (row + 1) r
  unfolding run
  rowing_row h same same' =
      let one : row + 1 - row ≡ 1 = omega arith in
      let next : run entries rows.from (row + 1 - rows.from) ≡ run entries rows.from (row - rows.from) ++ (block_in entries row ∷ []) =
      run_split entries rows.from row (row + 1) low (omega arith) ∙ rw one refl in
      record {
        window = record { bytes_long = same ∙ s.window.bytes_long; held_long = same' ∙ s.window.held_long };
        onward = omega (arith, s.onward, p.onward);
        reached = reached_more;
        painted = λ o. rw next (painted_more o);
        below = λ i x y. elim (lt_or_le i row) [ inl q ↦ s.below i x q | inr q ↦ (let here : i ≡ row = omega arith in rw here h) ];
      }

pub rowing_more : {entries blocks store : List ℕ} {rows : Rows} {start stop row place r : ℕ} {own : Neighbour} {bytes₀ bytes bytes' held₀ held held' : List ℕ}
    → Rowing entries blocks store rows start stop bytes₀ bytes held₀ held row place → rows.from ≤ row → row < rows.to → own ≡ row_block entries row → own.first < stop
    → length bytes' ≡ length bytes → length held' ≡ length held → PaintedFrom blocks store own.number start place stop r bytes bytes' held held'
    → Rowing entries blocks store rows start stop bytes₀ bytes' held₀ held' (row + 1) r
rowing_more s low inside o h same same' p = rowing_row s low inside (rw o at p) (rw o at h) same same'

module _ {entries blocks store : List ℕ} {rows : Rows} {start stop row place : ℕ} {bytes₀ bytes held₀ held : List ℕ}
    (s : Rowing entries blocks store rows start stop bytes₀ bytes held₀ held row place) (low : rows.from ≤ row) where
  -- the rows end at the first that starts behind the window
  pub rowing_past : {own : Neighbour} → row < rows.to → own ≡ row_block entries row → stop ≤ own.first → AscendingPainted entries blocks store rows start stop bytes₀ bytes held₀ held
  rowing_past inside o h =
      record {
        past = row;
        ends = record {
          inside = λ _. (low, omega arith);
          parts = λ room order. record { below = s.below; above = λ i x y. omega (arith, order.order row i low x y, ap (λ (n : Neighbour). n.first) o) };
        };
        painted = s.painted;
      }

  -- or where there are no more
  pub rowing_all : rows.to ≤ row → (rows.from ≤ rows.to → row ≤ rows.to) → AscendingPainted entries blocks store rows start stop bytes₀ bytes held₀ held
  rowing_all h high =
      record {
        past = row;
        ends = record { inside = λ o. (low, high o); parts = λ room order. record { below = s.below; above = λ i x y. absurd (omega arith) } };
        painted = s.painted;
      }

-- rows that ascend are painted whole
abbrev pub rows_painted : {entries blocks store : List ℕ} {rows : Rows} {start stop : ℕ} {bytes bytes' held held' : List ℕ} → Ascending blocks entries rows
    → AscendingPainted entries blocks store rows start stop bytes bytes' held held' → RowsPainted entries blocks store rows start stop bytes bytes' held held'
rows_painted o p = record { past = p.past; ends = p.ends; painted = p.painted o }

-- the rows of a node that stands in the tables, from one of them on, ascend
pub ascending_from : {blocks entries : List ℕ} {rows : Rows} {xs : List ℕ} {row : ℕ} → RunOf blocks entries rows xs → rows.from ≤ row
    → Ascending blocks entries (record { from = row; to = rows.to })
ascending_from o low =
    record {
      firsts = λ i j a b c.
          omega (arith, o.ordered.order i j (omega arith) b c, o.keyed i (omega arith) (omega arith), o.keyed j (omega arith) (omega arith));
    }
