-- The tree of pieces is not deep: one tree stands in the table, and it is balanced. Assumes nothing.
use mathlib.Core.Path.{◌≡◌, ap, sym, ◌∙◌, subst}
use native.Mathlib.Omega.{arith}
use lib.ListN.{length, length-map}
use Rattle.history.specs.Ledger.{Ledger}
use Rattle.tables.specs.Columns.{column, pieces_root}
use Rattle.merge_set.specs.Tree.{Tree, rows, Balanced}
use Rattle.merge_set.specs.Table.{Shape}
use Rattle.merge_set.proofs.Heights.{height_4096, height_92}
use Rattle.piece_table.specs.Piece.{piece_at}
use Rattle.piece_table.specs.Shown.{shown}
use Rattle.layout.specs.Tables.{Tables}
use Rattle.layout.specs.Encodes.{Encodes}
use Rattle.layout.specs.Law.{ShallowTrees}
use Rattle.piece_table.proofs.Testing.{shape_one}

module _ (t : Tables) (l : Ledger) (e : Encodes t l) (tree : Tree) (stands : Shape t.pieces (column t.pieces 0 pieces_root) tree) where
  same : e.pieces.linked.tree ≡ tree
  same = shape_one t.pieces (column t.pieces 0 pieces_root) e.pieces.linked.tree tree e.pieces.linked.shape stands

  balanced : Balanced tree
  balanced = subst Balanced same e.pieces.linked.balanced

  -- it has a link for each piece
  links : length (rows tree) ≡ length e.pieces.links
  links = ap (λ (T : Tree). length (rows T)) (sym same) ∙ ap length e.pieces.linked.is

  pieces : length l.now.pieces ≡ length e.pieces.links
  pieces = ap length e.pieces.shows ∙ length-map e.pieces.links (λ link. shown t.store (piece_at t.pieces link))

pub shallow_trees : ShallowTrees
shallow_trees t l e tree stands =
    let many = links t l e tree stands in
    let b = balanced t l e tree stands in
    record {
      pieces_4096 = λ few. height_4096 tree b (omega (arith, pieces t l e tree stands));
      any_table = λ few. height_92 tree b (omega (arith, e.pieces.linked.count, e.pieces.linked.room));
    }
