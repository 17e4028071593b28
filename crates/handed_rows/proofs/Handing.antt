-- Rows that are taken over whole, and ends apart, show rule 24 of blocks and pieces: theorem H. Pieces are destroyed at a tick after all others, so that
-- nothing is owed for them, and H1 asks only that they share no cell. Assumes nothing.
use mathlib.Core.Path.{◌≡◌, refl, sym, subst, ◌∙◌}
use mathlib.Core.Bool.{Bool, true}
use mathlib.Core.Logic.{◌⊎◌, inl, inr}
use mathlib.Core.List.{List}
use Prim.Native.Nat.{ℕ, zero, suc, ◌+◌, ◌-◌, ◌≤◌, ◌<◌, max}
use native.Mathlib.Omega.{arith}
use Rattle.lists.specs.Lists.{count, count_from}
use Rattle.lists.proofs.Numbers.{lt_or_le, eq_or_ne}
use Rattle.lists.proofs.Lists.{all_of_at, pairs_at, pairs_of_at, mem_place}
use Rattle.lists.proofs.Counting.{count_from_out, count_from_count}
use Rattle.history.specs.Words as words
use Rattle.history.specs.Words.{Block, Holds, line_of}
use Rattle.history.proofs.ByKind.{line_next}
use Rattle.history.specs.Tree.{no_block, block_at}
use Rattle.history.specs.Rules.{Apart}
use Rattle.tables.specs.Columns.{column, piece_written, pieces_count, block_length, block_created, block_destroyed}
use Rattle.block_table.specs.Blocks.{length_at, created_at, destroyed_at, owner_at}
use Rattle.ordering.specs.Order.{next_at, Unordered, cleared}
use Rattle.ordering.specs.Apart.{HoldsAt, Clash}
use Rattle.ordering.proofs.Keeping.{order_column}
use Rattle.ordering.proofs.Clearing.{cleared_back}
use Rattle.apart_laws.specs.Ticks as ticks
use Rattle.apart_laws.specs.Ticks.{Lives, DestroyedBy, Disjoint, ApartAt, HandedOn, HandedAt}
use Rattle.apart_laws.specs.Slots.{stretch_at, Counts}
use Rattle.apart_laws.proofs.Downward.{theorem_h}
use Rattle.apart_laws.proofs.Slots.{slot_law}
use Rattle.ends_apart.specs.Rows.{LivesAt, CellAt, NoWrap}
use Rattle.ends_apart.specs.Turns as turns
use Rattle.ends_apart.specs.Turns.{EndsApart}
use Rattle.handed_rows.specs.Numbered.{Given, all_rows}
use Rattle.handed_rows.specs.Handed.{slot_at, Tallied, TalliedRows, Written, TalliedPieces, AllTaken, BlockCell, PieceCell, Sound, RowsApart, SeenHanded}
use Rattle.handed_rows.proofs.Numbered.{Is, all_many, row_is, piece_is}
use Rattle.handed_rows.proofs.Along.{only_both}

-- a number of all rows is that of a block, or of a piece
row_or_piece : (n m k : ℕ) → k < n + m → (k < n) ⊎ ((i : ℕ) × (i < m) × (k ≡ n + i))
row_or_piece n m k h = elim (lt_or_le k n) [ inl l ↦ inl l | inr l ↦ inr (k - n, omega arith, omega arith) ]

-- a cell of block k is a cell of its row
cell_from : {bs : List Block} {k first length created destroyed cell : ℕ} → Is bs k first length created destroyed → words.HasCell (stretch_at bs k) cell → first ≤ cell
cell_from is c = omega (arith, is.from, c.from)

cell_below : {bs : List Block} {k first length created destroyed cell : ℕ} → Is bs k first length created destroyed → words.HasCell (stretch_at bs k) cell → cell < first + length
cell_below is c = omega (arith, is.from, is.many, c.below)

-- a row holds a cell at a tick
holds : {bs : List Block} {k first length created destroyed : ℕ} (t cell : ℕ) → Is bs k first length created destroyed → created ≤ t → t < destroyed → first ≤ cell
    → cell < first + length → Holds t cell (block_at bs k)
holds t cell is a b c d = record { born = omega (arith, is.born); alive = omega (arith, is.dies); has = record { from = omega (arith, is.from); below = omega (arith, is.from, is.many) } }

-- two rows that have one place are of one kind
one_kind : {b : List ℕ} {n : ℕ} → NoWrap b n → (i j place : ℕ) → 0 < i → i ≤ n → 0 < j → j ≤ n → BlockCell b i place → BlockCell b j place → owner_at b i ≡ owner_at b j
one_kind {b} w i j place p q r s x y =
    elim (eq_or_ne (owner_at b i) (owner_at b j)) [
      | inl e ↦ e
      | inr f ↦ elim (lt_or_le (owner_at b i) (owner_at b j)) [
        | inl l ↦ absurd (omega (arith, line_next (owner_at b i) (owner_at b j) l, w.each i p q, x.below, y.from))
        | inr l ↦ absurd (omega (arith, line_next (owner_at b j) (owner_at b i) (omega arith), w.each j r s, y.below, x.from))
      ]
    ]

-- and the place is a cell of that kind
kind_cell : {b : List ℕ} {link kind place : ℕ} → owner_at b link ≡ kind → BlockCell b link place → CellAt b link kind (place - line_of kind)
kind_cell {b} {link} {kind} {place} e x =
    let from = rw e at x.from in
    let below = rw e at x.below in
    record { own = e; from = omega arith; below = omega arith }

module _ (g : Given) (end : ℕ) (after : end < g.gone) (sound : Sound g.pieces g.blocks g.n g.m end) (own : EndsApart g.blocks g.n) {b : List ℕ}
    (tallied : Tallied g b (g.n + g.m)) (taken : (link : ℕ) → 0 < link → link ≤ g.n → LivesAt g.blocks link → length_at g.blocks link ≤ next_at b link) where
  abbrev bs : List Block
  bs = all_rows g

  row_cell : {k cell : ℕ} → k < g.n → words.HasCell (stretch_at bs k) cell → BlockCell g.blocks (suc k) cell
  row_cell {k} h c = record { from = cell_from (row_is g k h) c; below = cell_below (row_is g k h) c }

  row_lives : {k : ℕ} → k < g.n → Lives (block_at bs k) → LivesAt g.blocks (suc k)
  row_lives {k} h l = let is = row_is g k h in omega (arith, is.born, is.dies)

  piece_cell : {i cell : ℕ} → i < g.m → words.HasCell (stretch_at bs (g.n + i)) cell → PieceCell g.pieces (suc i) cell
  piece_cell {i} h c = record { from = cell_from (piece_is g i h) c; below = cell_below (piece_is g i h) c }

  -- ── H1 ──

  by_gone : DestroyedBy g.gone bs
  by_gone = all_of_at no_block bs (λ k h. go k (row_or_piece g.n g.m k (omega (arith, all_many g))))
    where
      go : (k : ℕ) → (k < g.n) ⊎ ((i : ℕ) × (i < g.m) × (k ≡ g.n + i)) → (block_at bs k).destroyed ≤ g.gone
      go k (inl l) = let is = row_is g k l in omega (arith, is.dies, sound.by_end (suc k) (omega arith) (omega arith))
      go k (inr z) = let is = piece_is g z.0 z.1 in rw z.2 (omega (arith, is.dies))

  h1 : ticks.EndsApart bs
  h1 = pairs_of_at no_block bs (λ j k p q. go j k p (row_or_piece g.n g.m j (omega (arith, all_many g))) (row_or_piece g.n g.m k (omega (arith, all_many g))))
    where
      Row_or_piece : (k : ℕ) → Type 0
      Row_or_piece k = (k < g.n) ⊎ ((i : ℕ) × (i < g.m) × (k ≡ g.n + i))

      go : (j k : ℕ) → j < k → Row_or_piece j → Row_or_piece k → Lives (block_at bs j) → Lives (block_at bs k) → (block_at bs j).destroyed ≡ (block_at bs k).destroyed
          → Disjoint (stretch_at bs j) (stretch_at bs k)
      go j k p (inl u) (inl v) lj lk e cell cj ck =
          let one : owner_at g.blocks (suc j) ≡ owner_at g.blocks (suc k)
          = one_kind sound.no_wrap (suc j) (suc k) cell (omega arith) (omega arith) (omega arith) (omega arith) (row_cell u cj) (row_cell v ck) in
          own.apart (suc j) (suc k) (omega arith) (omega arith) (omega arith) (row_lives u lj) (row_lives v lk) (omega (arith, (row_is g j u).dies, (row_is g k v).dies))
          (owner_at g.blocks (suc j)) (cell - line_of (owner_at g.blocks (suc j))) (kind_cell refl (row_cell u cj)) (kind_cell (sym one) (row_cell v ck))
      go j k p (inl u) (inr z) lj lk e cell cj ck =
          let at : (block_at bs k).destroyed ≡ g.gone = rw z.2 (piece_is g z.0 z.1).dies in
          omega (arith, (row_is g j u).dies, sound.by_end (suc j) (omega arith) (omega arith))
      go j k p (inr y) (inl v) lj lk e cell cj ck = omega (arith, y.2)
      go j k p (inr y) (inr z) lj lk e cell cj ck =
          sound.parted (suc y.0) (suc z.0) (omega arith) (omega (arith, y.2, z.2)) (omega (arith, z.1)) cell
          (piece_cell y.1 (rw y.2 at cj)) (piece_cell z.1 (rw z.2 at ck))

  -- ── H2 ──

  once : (k : ℕ) → count k (count_from 0 (g.n + g.m)) ≤ 1
  once k =
      elim (lt_or_le k (g.n + g.m)) [
        | inl h ↦ omega (arith, count_from_count k 0 (g.n + g.m) (omega arith) (omega arith))
        | inr h ↦ omega (arith, count_from_out k 0 (g.n + g.m) (inr (omega arith)))
      ]

  h2 : (t : ℕ) → t < g.gone → ApartAt t bs → HandedAt t bs
  h2 t h apart a listed lives dies =
      let z = mem_place no_block listed in
      subst (λ (x : Block). HandedOn t x bs) z.2
      (go z.0 (row_or_piece g.n g.m z.0 (omega (arith, z.1, all_many g))) (rw z.2 lives) (rw z.2 dies))
    where
      go : (k : ℕ) → (k < g.n) ⊎ ((i : ℕ) × (i < g.m) × (k ≡ g.n + i)) → Lives (block_at bs k) → (block_at bs k).destroyed ≡ t → HandedOn t (block_at bs k) bs
      go k (inr z) l d = let at : (block_at bs k).destroyed ≡ g.gone = rw z.2 (piece_is g z.0 z.1).dies in absurd (omega arith)
      go k (inl u) l d = λ cell c.
          let tick : destroyed_at g.blocks (suc k) ≡ t = sym (row_is g k u).dies ∙ d in
          let here : BlockCell g.blocks (suc k) cell = row_cell u c in
          let counts : Counts bs t (count_from 0 (g.n + g.m)) (slot_at g.blocks (suc k) (next_at b (suc k)))
          = rw tick at (tallied.counts (suc k) (omega arith) (omega arith)) in
          slot_law.covers bs t (count_from 0 (g.n + g.m)) (slot_at g.blocks (suc k) (next_at b (suc k))) apart once counts
          (record { is = omega (arith, taken (suc k) (omega arith) (omega arith) (row_lives u l)) }) cell here.from here.below

  all_apart : Apart bs
  all_apart = theorem_h.leaning g.gone bs by_gone h1 h2

  -- ── over rows ──

  pub rows_apart : RowsApart g.pieces g.blocks g.n g.m
  rows_apart = record { blocks_apart = record { apart = apart }; pieces_apart = across }
    where
      row_holds : (t cell k : ℕ) → k < g.n → HoldsAt g.blocks t cell (suc k) → Holds t cell (block_at bs k)
      row_holds t cell k h x = holds t cell (row_is g k h) x.born x.alive x.from x.below

      two : (j k : ℕ) → j < k → k < g.n → Clash g.blocks (suc j) (suc k) → ⊥
      two j k p q x =
          pairs_at no_block all_apart j k p (omega (arith, all_many g)) x.tick x.cell (row_holds x.tick x.cell j (omega arith) x.one)
          (row_holds x.tick x.cell k q x.other)

      apart : (j k : ℕ) → 0 < j → j ≤ g.n → 0 < k → k ≤ g.n → (j ≡ k → ⊥) → Clash g.blocks j k → ⊥
      apart zero k a b c d ne x = absurd (omega arith)
      apart (suc j) zero a b c d ne x = absurd (omega arith)
      apart (suc j) (suc k) a b c d ne x =
          elim (lt_or_le j k) [
            | inl h ↦ two j k h (omega arith) x
            | inr h ↦ elim (eq_or_ne j k) [
              | inl e ↦ ne (omega arith)
              | inr e ↦ two k j (omega arith) (omega arith) (record { cell = x.cell; tick = x.tick; one = x.other; other = x.one })
            ]
          ]

      across : (link k : ℕ) → 0 < link → link ≤ g.n → 0 < k → k ≤ g.m → LivesAt g.blocks link → column g.pieces k piece_written < destroyed_at g.blocks link
          → (cell : ℕ) → BlockCell g.blocks link cell → PieceCell g.pieces k cell → ⊥
      across zero k a b c d lives early cell x y = absurd (omega arith)
      across (suc j) zero a b c d lives early cell x y = absurd (omega arith)
      across (suc j) (suc k) a b c d lives early cell x y =
          let t = max (created_at g.blocks (suc j)) (column g.pieces (suc k) piece_written) in
          pairs_at no_block all_apart j (g.n + k) (omega arith) (omega (arith, all_many g)) t cell
          (holds t cell (row_is g j (omega arith)) (omega arith) (omega arith) x.from x.below)
          (holds t cell (piece_is g k (omega arith)) (omega arith) (omega (arith, sound.by_end (suc j) (omega arith) (omega arith))) y.from y.below)

-- ── the returns of `handed_on` ──

pub handed_told : {pieces b b₁ b₂ b₃ : List ℕ} {n m : ℕ} {q r : Bool} → turns.SeenApart b n q → q ≡ true → TalliedRows b b₁ n → m ≡ column pieces 0 pieces_count
    → TalliedPieces pieces m b₁ b₂ n → AllTaken b₂ n r → b₃ ≡ cleared b₂ n → SeenHanded pieces b n (column pieces 0 pieces_count) b₃ r
handed_told {pieces} {b} {b₁} {b₂} {b₃} {n} {m} {q} {r} ends f rows em more all e = rw (← em) (record { kept = kept; shown = shown })
  where
    given : ℕ → Given
    given gone = record { pieces = pieces; blocks = b; n = n; m = m; gone = gone }

    whole : (gone : ℕ) → Written (given gone) → Unordered b n → Tallied (given gone) b₂ (n + m)
    whole gone w u = more.done (given gone) refl refl refl w (rows.done (given gone) refl refl u)

    kept : Unordered b n → b₃ ≡ b
    kept u = e ∙ cleared_back b b₂ n u (only_both rows.only more.only)

    shown : r ≡ true → Unordered b n → (end : ℕ) → Sound pieces b n m end → RowsApart pieces b n m
    shown y u end s =
        let t : Tallied (given (suc end)) b₂ (n + m) = whole (suc end) (λ link p k. omega (arith, s.written link p k)) u in
        rows_apart (given (suc end)) end (omega arith) s (ends.shown f s.no_wrap) t (taken t)
      where
        taken : {gone : ℕ} → Tallied (given gone) b₂ (n + m) → (link : ℕ) → 0 < link → link ≤ n → LivesAt b link → length_at b link ≤ next_at b₂ link
        taken t link p k lives =
            rw (← order_column t.only link block_length (omega arith) (λ z. omega arith))
            (all.shown y link p k
            (rw (order_column t.only link block_created (omega arith) (λ z. omega arith), order_column t.only link block_destroyed (omega arith) (λ z. omega arith)) lives))

pub ruleset handing = (handed_told)
