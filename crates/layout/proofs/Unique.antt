-- One ledger for each set of tables: every part of a ledger is told by the tables that stand for it. Assumes nothing.
use mathlib.Core.Path.{◌≡◌, refl, ap, sym, ◌∙◌}
use mathlib.Core.Option.{Option, none, some}
use mathlib.Core.List.{List, map}
use Prim.Native.Nat.{ℕ}
use native.Mathlib.Omega.{arith}
use Rattle.piece_table.proofs.Testing.{shape_one}
use Rattle.history.specs.Tree as segment
use Rattle.history.specs.Ledger.{Ledger}
use Rattle.tables.specs.Columns.{column, pieces_root}
use Rattle.merge_set.specs.Tree.{rows}
use Rattle.piece_table.specs.Piece.{piece_at}
use Rattle.piece_table.specs.Rep.{Links}
use Rattle.piece_table.specs.Shown.{shown}
use Rattle.segment_table.proofs.Closed.{trees_one}
use Rattle.day_table.proofs.DayLists.{days_one}
use Rattle.calendar_table.proofs.Calendars.{calendar-one}
use Rattle.layout.specs.Tables.{Tables, tree_tables}
use Rattle.layout.specs.Encodes.{state_of, TreesIn, Encodes}

-- ── pieces ──

-- a table has one list of links
pub links_one : (pieces xs ys : List ℕ) → Links pieces xs → Links pieces ys → xs ≡ ys
links_one pieces xs ys h k = sym h.is ∙ ap rows (shape_one pieces (column pieces 0 pieces_root) h.tree k.tree h.shape k.shape) ∙ k.is

-- ── trees ──

-- the state says whether there are trees, and the node and entry tables say which
trees_same : (t : Tables) (l m : Ledger) (a b : Option (List segment.Tree)) → l.opening.end ≡ m.opening.end
    → state_of a ≡ state_of b → TreesIn t l a → TreesIn t m b → a ≡ b
trees_same t l m none none e s h h' = refl
trees_same t l m none (some b) e s h h' = absurd (omega (arith, s))
trees_same t l m (some a) none e s h h' = absurd (omega (arith, s))
trees_same t l m (some a) (some b) e s h h' = ap some (trees_one (tree_tables t) l.opening.end a b h (rw e h'))

-- ── the whole ──

-- no two ledgers have the same tables
pub unique : (t : Tables) (l m : Ledger) → Encodes t l → Encodes t m → l ≡ m
unique t l m e f = λ i. record { opening = opening i; now = now i; trees = trees i; calendar = calendar i; days = days i }
  where
    calendar : l.calendar ≡ m.calendar
    calendar = calendar-one t.blocks l.calendar m.calendar e.calendar f.calendar

    days : l.days ≡ m.days
    days = days_one t.blocks l.days m.days e.days f.days

    same_end : l.opening.end ≡ m.opening.end
    same_end = sym e.end ∙ f.end

    same_kinds : l.opening.kinds ≡ m.opening.kinds
    same_kinds = e.kinds ∙ sym f.kinds

    opening : l.opening ≡ m.opening
    opening = λ i. record { end = same_end i; kinds = same_kinds i; lent = (e.lengths ∙ sym f.lengths) i }

    pieces : l.now.pieces ≡ m.now.pieces
    pieces =
        e.pieces.shows
        ∙ ap (map (λ link. shown t.store (piece_at t.pieces link))) (links_one t.pieces e.pieces.links f.pieces.links e.pieces.linked f.pieces.linked)
        ∙ sym f.pieces.shows

    now : l.now ≡ m.now
    now = λ i. record {
      pieces = pieces i;
      blocks = (e.blocks ∙ sym f.blocks) i;
      last = (sym e.last ∙ f.last) i;
      store = (e.store ∙ sym f.store) i;
    }

    trees : l.trees ≡ m.trees
    trees = trees_same t l m l.trees m.trees same_end (sym e.state ∙ f.state) e.trees f.trees
