-- full, or a piece that does not fit
use Rattle.piece_table.proofs.Testing.{walk_full, walk_misfit}
use Rattle.piece_table.proofs.test.+walk_tree.Goals as goal
use Rattle.piece_table.proofs.test.+walk_tree.Goals.{then-limits-left-via-then-limits-left, then-limits-left-via-else-limits-left+then-not-row_fits}

pub returns-then-limits-left : goal.returns-then-limits-left
returns-then-limits-left t c =
    elim c.then-limits-left.branch [
      | then-limits-left-via-then-limits-left w ↦
          walk_full c.if-link-eq0.false c.row_stands.ensures c.if-not-row_stands.false c.get.ensures c.walk_tree.ensures c.in_ok-left.was w.if-limits-left.true
      | then-limits-left-via-else-limits-left+then-not-row_fits w ↦
          walk_misfit c.if-link-eq0.false c.row_stands.ensures c.if-not-row_stands.false c.get.ensures c.walk_tree.ensures c.in_ok-left.was w.row_fits.ensures
          w.if-not-row_fits.true
    ]
