-- A piece lies on the line of its kind: which pieces meet cells of a kind, and that rows do not wrap. Assumes nothing.
use mathlib.Core.Path.{◌≡◌}
use mathlib.Core.Logic.{inl, inr}
use mathlib.Core.List.{List}
use Prim.Native.Nat.{ℕ, ◌^◌, ◌<◌}
use native.Mathlib.Omega.{arith}
use Rattle.lists.proofs.Numbers.{lt_or_le, eq_or_ne}
use Rattle.history.specs.Words.{cell_place}
use Rattle.history.proofs.ByKind.{line_next}
use Rattle.piece_table.specs.Piece.{PieceRow, row_end, piece_at, Filled}
use Rattle.piece_table.specs.Calls.{OnLine}

-- a piece that meets cells of a kind is of that kind
pub same_kind : (p : PieceRow) → Filled p → (kind first end : ℕ) → end < 2 ^ 64 → cell_place kind first < row_end p → p.first < cell_place kind end → p.owner ≡ kind
same_kind p f kind first end small past below =
    elim (eq_or_ne p.owner kind) [
      | inl e ↦ e
      | inr n ↦ elim (lt_or_le kind p.owner) [
        | inl l ↦ absurd (omega (arith, line_next kind p.owner l, f.line))
        | inr l ↦ absurd (omega (arith, line_next p.owner kind (omega arith), f.near))
      ]
    ]

-- the cells of a filled piece do not wrap
pub on_line : {t : List ℕ} {link : ℕ} → Filled (piece_at t link) → OnLine t link
on_line f = record { fits = omega (arith, f.near) }
