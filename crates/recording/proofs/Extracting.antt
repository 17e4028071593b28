-- `extract` and `extract_members`: one step for each return. Assumes nothing.
use mathlib.Core.Path.{◌≡◌, sym, ap, ◌∙◌}
use mathlib.Core.List.{List, [], ◌∷◌, ◌++◌, map}
use Prim.Native.Nat.{ℕ, suc, ◌+◌, ◌-◌, ◌≤◌}
use native.Mathlib.Omega.{arith}
use lib.ListN.{length, length-append, length-map}
use Rattle.lists.proofs.Maps.{map-append}
use Rattle.tables.specs.Columns.{column, piece_left, piece_right, pieces_root}
use Rattle.block_table.specs.Appended.{Countable, AppendedRow}
use Rattle.block_table.proofs.Appending.{appended-none, countable_less}
use Rattle.merge_set.specs.Tree.{Tree, leaf, node, height, rows}
use Rattle.merge_set.specs.Table.{Shape}
use Rattle.piece_table.specs.Piece.{PieceRow, row_of, read_at, piece_at}
use Rattle.piece_table.specs.declared.Piece.{Piece}
use Rattle.piece_table.specs.Rep.{Rep}
use Rattle.piece_table.proofs.Removing.{linked_depth}
use Rattle.recording.specs.Recorded.{recorded, block_row_of}
use Rattle.recording.specs.Calls.{Extracted, ExtractedMembers}
use Rattle.recording.proofs.Recorded.{recorded-append, recorded_more}

-- ── `extract` ──

pub extract_leaf : {t b : List ℕ} {link end fuel : ℕ} → link ≡ 0 → Extracted t b b link end fuel
unfolding Shape rows
extract_leaf {t} {b} {link} {end} {fuel} z = record { done = go }
  where
    go : (T : Tree) → Shape t link T → height T ≤ fuel → Countable b (length (rows T)) → b ≡ recorded end (map (piece_at t) (rows T)) b
    go leaf s h c = sym (appended-none b)
    go (node A x B) s h c = absurd (omega (arith, s.is, s.valid.some))

pub extract_stop : {t b : List ℕ} {link end fuel : ℕ} → fuel ≡ 0 → Extracted t b b link end fuel
unfolding Shape height rows
extract_stop {t} {b} {link} {end} {fuel} z = record { done = go }
  where
    go : (T : Tree) → Shape t link T → height T ≤ fuel → Countable b (length (rows T)) → b ≡ recorded end (map (piece_at t) (rows T)) b
    go leaf s h c = sym (appended-none b)
    go (node A x B) s h c = absurd (omega arith)

module _ {t b : List ℕ} {link end fuel : ℕ} (nz : link ≡ 0 → ⊥) where
  pub extract_node : {b₁ b₂ b₃ : List ℕ} {l r : ℕ} {p : Piece} → l ≡ column t link piece_left → r ≡ column t link piece_right → p ≡ read_at t link
      → Extracted t b b₁ l end (fuel - 1) → AppendedRow b₁ b₂ (block_row_of end (row_of p))
      → Extracted t b₂ b₃ r end (fuel - 1) → Extracted t b b₃ link end fuel
  unfolding Shape height rows
  extract_node {b₁} {b₂} {b₃} {l} {r} {p} el er ep one two three = record { done = go }
    where
      at : ℕ → PieceRow
      at = piece_at t

      go : (T : Tree) → Shape t link T → height T ≤ fuel → Countable b (length (rows T)) → b₃ ≡ recorded end (map (piece_at t) (rows T)) b
      go leaf s h c = absurd (nz s)
      go (node A x B) s h c =
          let L : List PieceRow = map at (rows A) in
          let R : List PieceRow = map at (rows B) in
          let all : map at (rows A ++ x ∷ rows B) ≡ L ++ at x ∷ R = map-append at (rows A) (x ∷ rows B) in
          let n_l : length L ≡ length (rows A) = length-map (rows A) at in
          let n_r : length R ≡ length (rows B) = length-map (rows B) at in
          let n_t : length (rows A ++ x ∷ rows B) ≡ length (rows A) + suc (length (rows B)) = length-append (rows A) (x ∷ rows B) in
          let c_l : Countable b (length (rows A)) = countable_less (omega arith) c in
          let e₁ : b₁ ≡ recorded end L b = one.done A (rw (el, s.is) s.left) (omega arith) c_l in
          let c₁ : Countable b (length (L ++ at x ∷ R)) = countable_less (omega (arith, length-append L (at x ∷ R))) c in
          let c₂ : Countable b₁ (length (at x ∷ R)) = rw e₁ (recorded_more end L (at x ∷ R) b c₁) in
          let px : row_of p ≡ at x = rw (← s.is) (ap row_of ep) in
          let e₂ : b₂ ≡ recorded end (at x ∷ []) b₁ = two.done (countable_less (omega arith) c₂) ∙ ap (λ (q : PieceRow). recorded end (q ∷ []) b₁) px in
          let c₃ : Countable b₂ (length (rows B)) = rw (e₂, ← n_r) (recorded_more end (at x ∷ []) R b₁ c₂) in
          let e₃ : b₃ ≡ recorded end R b₂ = three.done B (rw (er, s.is) s.right) (omega arith) c₃ in
          e₃
          ∙ ap (recorded end R) e₂
          ∙ recorded-append end (at x ∷ []) R b₁ c₂.head
          ∙ ap (recorded end (at x ∷ R)) e₁
          ∙ recorded-append end L (at x ∷ R) b c.head
          ∙ ap (λ (l : List PieceRow). recorded end l b) (sym all)

-- ── `extract_members` ──

pub extract_members_done : {t b b' : List ℕ} {root end : ℕ} → root ≡ column t 0 pieces_root → Extracted t b b' root end 92 → ExtractedMembers t b b' end
extract_members_done {t} {b} {b'} {root} {end} er one = record { done = go }
  where
    go : (ps : List PieceRow) → Rep t ps → Countable b (length ps) → b' ≡ recorded end ps b
    go ps r c =
        let T : Tree = r.linked.dense.tree in
        let is : map (piece_at t) (rows T) ≡ ps = ap (map (piece_at t)) r.linked.dense.is ∙ r.pieces in
        let n : length (rows T) ≡ length ps = sym (length-map (rows T) (piece_at t)) ∙ ap length is in
        one.done T (rw er r.linked.dense.shape) (linked_depth r.linked) (rw n c) ∙ ap (λ (l : List PieceRow). recorded end l b) is

-- the steps, one for each return
pub ruleset extracting = (extract_leaf, extract_stop, extract_node, extract_members_done)
