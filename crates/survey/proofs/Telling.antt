-- What the survey tells is what the ledger says: whether the operation is a read, and how many pieces and blocks its update leaves. Assumes nothing.
use mathlib.Core.Path.{◌≡◌, refl, ap, ◌∙◌}
use mathlib.Core.Bool.{Bool, true, false, not, cond}
use mathlib.Core.Option.{none, some}
use mathlib.Core.List.{List, ◌∷◌, map}
use Prim.Native.Nat.{ℕ, ◌+◌}
use native.Mathlib.Omega.{arith}
use lib.ListN.{length, length-append, length-map}
use lib.Dec.{ltb}
use Rattle.lists.specs.Lists.{All}
use Rattle.history.specs.Words.{Piece, Operation, stretch_of, piece_of, block_of, below, inside, above, ends}
use Rattle.history.specs.Ledger.{Moment, changed, is_none, is_read, update_by}
use Rattle.piece_table.specs.Piece.{PieceRow, rows_below, rows_inside, rows_above}
use Rattle.piece_table.specs.Shown.{shown, Stored}
use Rattle.piece_table.proofs.Showing.{shown-below, shown-inside, shown-above}
use Rattle.survey.specs.Survey.{change_at, Counts}
use Rattle.survey.specs.declared.Report.{Report}

module _ (store : List ℕ) (ps : List PieceRow) (stored : All (Stored store) ps) (m : Moment) (o : Operation) (now : m.pieces ≡ map (shown store) ps) (s : Report)
    (counts : Counts store ps (stretch_of o).first (stretch_of o).bytes s) where
  -- it is a read exactly when all its cells are held with their bytes
  pub survey_read : is_read m o ≡ not (ltb s.same (length (stretch_of o).bytes))
  unfolding changed
  survey_read = rw (now, counts.change) (go (ltb s.same (length (stretch_of o).bytes)))
    where
      go : (q : Bool) → is_none (cond q (some ((stretch_of o).first + s.same)) none) ≡ not q
      go true = refl
      go false = refl

  -- the first change is told by how many leading cells are
  pub survey_changed : changed m o ≡ change_at (stretch_of o).first (length (stretch_of o).bytes) s.same
  unfolding changed
  survey_changed = rw now counts.change

  pub survey_pieces : length (update_by m o).pieces ≡ s.pieces
  unfolding update_by
  survey_pieces =
      let f : ℕ = (stretch_of o).first in
      let e : ℕ = ends (stretch_of o) in
      let b : length (below f m.pieces) ≡ length (rows_below f ps) = ap (λ (l : List Piece). length (below f l)) now ∙ ap length (shown-below store ps stored f) ∙ length-map (rows_below f ps) (shown store) in
      let a : length (above e m.pieces) ≡ length (rows_above e ps) = ap (λ (l : List Piece). length (above e l)) now ∙ ap length (shown-above store ps stored e) ∙ length-map (rows_above e ps) (shown store) in
      omega (arith, length-append (below f m.pieces) (piece_of o ∷ above e m.pieces), counts.pieces)

  pub survey_blocks : length (update_by m o).blocks ≡ length m.blocks + s.blocks
  unfolding update_by
  survey_blocks =
      let f : ℕ = (stretch_of o).first in
      let e : ℕ = ends (stretch_of o) in
      let i : length (inside f e m.pieces) ≡ length (rows_inside f e ps) = ap (λ (l : List Piece). length (inside f e l)) now ∙ ap length (shown-inside store ps stored f e) ∙ length-map (rows_inside f e ps) (shown store) in
      omega (arith, length-append m.blocks (map (block_of o.tick) (inside f e m.pieces)), length-map (inside f e m.pieces) (block_of o.tick), counts.blocks)
