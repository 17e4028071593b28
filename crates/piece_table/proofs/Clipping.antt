-- What `clip` gives of a piece that meets the range: it goes by cells, and this says it by places. Assumes nothing.
use mathlib.Core.Path.{◌≡◌, refl, ap, ◌∙◌}
use Prim.Native.Nat.{ℕ, ◌+◌, ◌-◌, ◌<◌, ◌^◌, min, max}
use native.Mathlib.Omega.{arith}
use borrow.Author.Tests.{lt-ltb}
use Rattle.std.specs.Prelude.{Option, Some, None}
use Rattle.std.proofs.lemmas.Option.{none-some, same_Some}
use Rattle.history.specs.Words.{line_of, cell_place}
use Rattle.tables.specs.Sums.{plus_up_to}
use Rattle.piece_table.specs.Calls.{Clipped}
use Rattle.piece_table.specs.Piece.{PieceRow, row_of, row_end, part, cell_part, Filled}
use Rattle.piece_table.specs.declared.Piece.{Piece}

-- by cells
clip_meets : {p : Piece} {from to : ℕ} {out : Option Piece} (a b : ℕ) → Clipped p from to out → Filled (row_of p) → max from p.first ≡ a → min to (p.first + p.size) ≡ b → a < b
    → out ≡ Some (cell_part a b p)
clip_meets {p} {from} {to} a b c f ea eb h =
    let near : plus_up_to p.first p.size ≡ p.first + p.size = omega (arith, f.near) in
    let far : p.offset + (a - p.first) < 2 ^ 64 = omega (arith, f.stored, ea, eb, h) in
    c.is ∙ rw (near, ea, eb, lt-ltb a b h, lt-ltb (p.offset + (a - p.first)) (2 ^ 64) far)

abbrev pub piece : ℕ → ℕ → ℕ → ℕ → ℕ → PieceRow
piece a b c d e = record { first = a; size = b; written = c; offset = d; owner = e }

-- a piece is its five numbers
pub piece_eq : {a b c d e a' b' c' d' e' : ℕ} → a ≡ a' → b ≡ b' → c ≡ c' → d ≡ d' → e ≡ e' → piece a b c d e ≡ piece a' b' c' d' e'
piece_eq p q r s u = rw (p, q, r, s, u)

-- the part of a piece in cells is the part in places
pub part_of_cells : (p : Piece) (a b : ℕ) → row_of (cell_part a b p) ≡ part (cell_place p.owner a) (cell_place p.owner b) (row_of p)
part_of_cells p a b = piece_eq refl (omega arith) refl (omega arith) refl

module _ {p : Piece} {from to : ℕ} (a b : ℕ) where
  -- where the part is not empty there is such a part ..
  pub clip_some : Clipped p from to None → Filled (row_of p) → max (cell_place p.owner from) (row_of p).first ≡ a → min (cell_place p.owner to) (row_end (row_of p)) ≡ b → a < b → ⊥
  clip_some c f ea eb h = none-some (cell_part (a - line_of p.owner) (b - line_of p.owner) p) (clip_meets (a - line_of p.owner) (b - line_of p.owner) c f (omega arith) (omega arith) (omega arith))

  -- .. and it is this one
  pub clip_is : {q : Piece} → Clipped p from to (Some q) → Filled (row_of p) → max (cell_place p.owner from) (row_of p).first ≡ a → min (cell_place p.owner to) (row_end (row_of p)) ≡ b → a < b
      → row_of q ≡ part a b (row_of p)
  clip_is {q} c f ea eb h =
      let x : ℕ = a - line_of p.owner in
      let y : ℕ = b - line_of p.owner in
      let is : q ≡ cell_part x y p = same_Some q (cell_part x y p) (clip_meets x y c f (omega arith) (omega arith) (omega arith)) in
      let ax : cell_place p.owner x ≡ a = omega arith in
      let by : cell_place p.owner y ≡ b = omega arith in
      rw (ax, by) at (ap row_of is ∙ part_of_cells p x y)
