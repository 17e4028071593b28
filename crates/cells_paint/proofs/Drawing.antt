-- Blocks painted one after the other, and the returns of `fill` and `paint`. Assumes nothing.
use mathlib.Core.Path.{◌≡◌, refl, sym, ap, ◌∙◌}
use mathlib.Core.Logic.{◌⊎◌, inl, inr}
use mathlib.Core.List.{List, [], ◌∷◌, ◌++◌}
use Prim.Native.Nat.{ℕ, suc, ◌+◌, ◌-◌, ◌≤◌, ◌<◌, min, max}
use native.Mathlib.Omega.{arith}
use lib.ListN.{length, get_or, take, drop, replicate, length-replicate, get_or-replicate, length-take, length-drop}
use lib.Seq.{sets, get_or-take, get_or-drop}
use Rattle.std.proofs.Common.{append_assoc}
use Rattle.std.proofs.lemmas.List.{drop-drop}
use Rattle.std.proofs.lemmas.List.Edits.{sets-eq}
use Rattle.lists.specs.Lists.{all_nil, all_cons, here}
use Rattle.lists.proofs.Lists.{all_append, mem_left, mem_right}
use Rattle.lists.proofs.Numbers.{lt_or_le}
use Rattle.lists.proofs.Stores.{get_d_sets_in, get_d_sets_out}
use Rattle.block_table.specs.Blocks.{Room, first_cell_at, offset_at}
use Rattle.live_rows.specs.declared.Extent.{Extent}
use Rattle.live_rows.specs.Extents.{ExtentOf}
use Rattle.cells_paint.specs.Painting.{Covers, Drawn, left, drawn, Slices, Painted, PaintedFrom}

-- ── blocks one after the other ──

module _ {blocks store : List ℕ} where
  pub drawn_append : {xs ys : List ℕ} {c b b₁ b₂ h h₁ h₂ : ℕ} → Drawn blocks store xs c b h b₁ h₁ → Drawn blocks store ys c b₁ h₁ b₂ h₂
      → Drawn blocks store (xs ++ ys) c b h b₂ h₂
  drawn_append (left n e f) (left m p q) = left (all_append n m) (p ∙ e) (q ∙ f)
  drawn_append {xs} {ys} (drawn k m v e f) (left _ p q) = drawn k (mem_left xs ys m) v (p ∙ e) (q ∙ f)
  drawn_append {xs} {ys} _ (drawn k m v e f) = drawn k (mem_right xs ys m) v e f

  module _ {start stop : ℕ} {bytes held : List ℕ} where
    pub painted_none : Painted blocks store [] start stop bytes bytes held held
    painted_none = record { cell = λ i a. left all_nil refl refl }

    -- a block painted from the start of the window on
    pub painted_whole : {k r : ℕ} {bytes' held' : List ℕ} → PaintedFrom blocks store k start start stop r bytes bytes' held held'
        → Painted blocks store (k ∷ []) start stop bytes bytes' held held'
    painted_whole p = record { cell = λ i a. p.cell i a (omega arith) }

    pub painted_append : {xs ys bytes₁ bytes₂ held₁ held₂ : List ℕ} → Painted blocks store xs start stop bytes bytes₁ held held₁
        → Painted blocks store ys start stop bytes₁ bytes₂ held₁ held₂ → Painted blocks store (xs ++ ys) start stop bytes bytes₂ held held₂
    painted_append p q = record { cell = λ i a. drawn_append (p.cell i a) (q.cell i a) }

-- ── the return of `fill` ──

pub filled_part : (at count value many : ℕ) (out ys : List ℕ) → at + count ≤ length out → many ≡ count → ys ≡ replicate (length (take many (drop at out))) value
    → take at out ++ (ys ++ drop many (drop at out)) ≡ sets out at (replicate count value)
filled_part at count value many out ys room m filled =
    let wide : length (take many (drop at out)) ≡ count = omega (arith, length-take many (drop at out), length-drop at out) in
    let vs : List ℕ = replicate count value in
    let long : length vs ≡ count = length-replicate count value in
    rw (filled, wide, m, drop-drop count at out) (sym (rw (long, append_assoc (take at out) vs (drop (at + count) out)) at (sets-eq vs out at (omega (arith, long)))))

-- ── the returns of `paint` ──

-- a list that was written at a place
written_in : (vs l : List ℕ) (at i : ℕ) → at ≤ i → i < at + length vs → at + length vs ≤ length l → get_or (sets l at vs) i 0 ≡ get_or vs (i - at) 0
written_in vs l at i a b room = let e : at + (i - at) ≡ i = omega arith in rw e at (get_d_sets_in vs l at (i - at) room (omega arith))

module _ {blocks store : List ℕ} {k start place stop : ℕ} {bytes held : List ℕ} where
  unpainted : ((c : ℕ) → place ≤ c → c < stop → Covers blocks store k c → ⊥) → PaintedFrom blocks store k start place stop place bytes bytes held held
  unpainted none =
      record {
        cell = λ i a b. left (all_cons (none (start + i) b (omega arith)) all_nil) refl refl;
        kept = λ i a. (refl, refl);
        onward = omega arith;
        reached = inl refl;
        inside = λ a. a;
        spent = none;
      }

  pub no_row : (Room blocks (suc k) → ⊥) → PaintedFrom blocks store k start place stop place bytes bytes held held
  no_row none = unpainted (λ c a b v. none v.row)

  module _ {r : Extent} (row : ExtentOf blocks k r) where
    pub not_stored : length store < r.offset + r.length → PaintedFrom blocks store k start place stop place bytes bytes held held
    not_stored h = unpainted (λ c a b v. omega (arith, v.stored, row.offset, row.length))

    module _ {from past : ℕ} (low : from ≡ max r.first place) (high : past ≡ min (min (r.first + r.length) 18446744073709551615) stop) (small : stop < 18446744073709551616) where
      pub not_reached : past ≤ from → PaintedFrom blocks store k start place stop place bytes bytes held held
      not_reached h = unpainted (λ c a b v. omega (arith, v.from, v.below, row.first, row.length))

      pub part_painted : {n : ℕ} {bytes' held' : List ℕ} → Slices start stop bytes held → start ≤ place → r.offset + r.length ≤ length store → from < past → n ≡ past - from
          → bytes' ≡ sets bytes (from - start) (take n (drop (r.offset + (from - r.first)) store)) → held' ≡ sets held (from - start) (replicate (past - from) 1)
          → PaintedFrom blocks store k start place stop past bytes bytes' held held'
      part_painted {n} {bytes'} {held'} w behind stored some size b h =
          record {
            cell = go;
            kept = before;
            onward = omega arith;
            reached = inr (λ c u v. covered c u (omega arith));
            inside = λ a. omega arith;
            spent = λ c u v on. omega (arith, on.below, row.first, row.length);
          }
        where
          at : ℕ
          at = from - start

          source : ℕ
          source = r.offset + (from - r.first)

          part : List ℕ
          part = take n (drop source store)

          ones : List ℕ
          ones = replicate (past - from) 1

          part_long : length part ≡ past - from
          part_long = length-take n (drop source store) ∙ rw (length-drop source store) (omega arith)

          ones_long : length ones ≡ past - from
          ones_long = length-replicate {A = ℕ} (past - from) 1

          covered : (c : ℕ) → first_cell_at blocks (suc k) ≤ c → c < past → Covers blocks store k c
          covered c u v =
              record { row = row.room; stored = omega (arith, row.length, row.offset); from = u; below = omega (arith, row.first, row.length) }

          Here : (i : ℕ) → Type 0
          Here i = Drawn blocks store (k ∷ []) (start + i) (get_or bytes i 0) (get_or held i 0) (get_or bytes' i 0) (get_or held' i 0)

          untouched : (i : ℕ) → (i < at) ⊎ (at + (past - from) ≤ i) → (get_or bytes' i 0 ≡ get_or bytes i 0) × (get_or held' i 0 ≡ get_or held i 0)
          untouched i out = rw (b, h) (get_d_sets_out part bytes at i (rw part_long out), get_d_sets_out ones held at i (rw ones_long out))

          before : (i : ℕ) → start + i < place → (get_or bytes' i 0 ≡ get_or bytes i 0) × (get_or held' i 0 ≡ get_or held i 0)
          before i u = untouched i (inl (omega arith))

          outside : (i : ℕ) → (i < at) ⊎ (at + (past - from) ≤ i) → (Covers blocks store k (start + i) → ⊥) → Here i
          outside i out none = left (all_cons none all_nil) (untouched i out).0 (untouched i out).1

          inside : (i : ℕ) → i < stop - start → at ≤ i → i < at + (past - from) → Here i
          inside i a x y =
              let slot : source + (i - at) ≡ offset_at blocks (suc k) + (start + i - first_cell_at blocks (suc k)) = omega (arith, row.first, row.offset) in
              rw (b, h)
              (drawn k (here refl) (covered (start + i) (omega (arith, row.first)) (omega arith))
              (written_in part bytes at i x (omega (arith, part_long)) (omega (arith, part_long, w.bytes_long))
              ∙ get_or-take n (drop source store) (i - at) 0 (omega arith)
              ∙ get_or-drop source store (i - at) 0
              ∙ ap (λ (j : ℕ). get_or store j 0) slot)
              (written_in ones held at i x (omega (arith, ones_long)) (omega (arith, ones_long, w.held_long)) ∙ get_or-replicate (past - from) (i - at) 1 0 (omega arith)))

          go : (i : ℕ) → i < stop - start → place ≤ start + i → Here i
          go i a u =
              elim (lt_or_le i at) [
                | inl x ↦ outside i (inl x) (λ v. omega (arith, v.from, row.first))
                | inr x ↦ elim (lt_or_le i (at + (past - from))) [
                  | inl y ↦ inside i a x y
                  | inr y ↦ outside i (inr y) (λ v. omega (arith, v.below, row.first, row.length))
                ]
              ]
