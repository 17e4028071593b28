-- The way down, and all together: the returns of `paint_way` and `show`. Assumes nothing.
use Rattle.std.specs.Prelude.{Option, Some, None}
use mathlib.Core.Path.{◌≡◌, sym, subst}
use mathlib.Core.Logic.{inl, inr}
use mathlib.Core.Bool.{Bool, true}
use mathlib.Core.List.{List, [], ◌∷◌}
use Prim.Native.Nat.{ℕ}
use lib.ListN.{get_or, replicate, length-replicate, get_or-replicate}
use Rattle.std.proofs.lemmas.List.{get_or_past}
use Rattle.lists.specs.Tests.{Decides}
use Rattle.lists.proofs.Numbers.{lt_or_le}
use Rattle.history.specs.Tree.{Tree, hole, node}
use Rattle.history.specs.Find.{path, window}
use Rattle.history.proofs.FindOrder.{window-append}
use Rattle.tables.specs.Columns.{block_column, head_end}
use Rattle.segment_table.specs.Closed.{TreeAt, first_cell_in}
use Rattle.segment_walk.specs.declared.walk.Node.{Node}
use Rattle.segment_walk.specs.declared.rows.Rows.{Rows}
use Rattle.segment_walk.specs.Walking.{Stands, root_at, Absent, half_at}
use Rattle.segment_walk.specs.Rowing.{rows_at, blocks_in, Lower, RunOf, InWindow}
use Rattle.segment_walk.proofs.Halving.{Present, absent_hole, Down, down}
use Rattle.segment_walk.proofs.Rowing.{run_of}
use Rattle.segment_walk.proofs.Windows.{in_window}
use Rattle.segment_near.specs.declared.Neighbour.{Neighbour}
use Rattle.segment_near.proofs.Neighbouring.{nearest_none, nearest_both, nearest_live}
use Rattle.live_rows.specs.Extents.{Later, one_of}
use Rattle.cells_paint.specs.Painting.{Painted, AscendingPainted, WayPainted, Shown}
use Rattle.cells_paint.proofs.Drawing.{painted_none, painted_append}
use Rattle.cells_paint.proofs.Rows.{rows_painted, ascending_from}

-- ── the returns of `paint_way` ──

module _ {blocks nodes entries store : List ℕ} {n : Node} {tick start stop : ℕ} {best : Option Neighbour} {bytes held : List ℕ} where
  pub way_none : {t : Bool} → Decides t (Absent n) → t ≡ true → WayPainted blocks nodes entries store n tick start stop best best bytes bytes held held
  unfolding path window
  way_none d e = record { near = nearest_none d e; painted = λ kind tree s. rw (absent_hole (d.yes e) s) painted_none }

  -- the rows of a node in the window, then what is painted on the way down from its half
  pub way_both : {rows : Rows} {h : Node} {row : ℕ} {near r : Option Neighbour} {bytes₁ bytes₂ held₁ held₂ : List ℕ} → Present n → rows ≡ rows_at nodes entries n.link
      → Lower entries rows start row → Later entries rows row best near
      → AscendingPainted entries blocks store (record { from = row; to = rows.to }) start stop bytes bytes₁ held held₁ → h ≡ half_at nodes tick n
      → WayPainted blocks nodes entries store h tick start stop near r bytes₁ bytes₂ held₁ held₂
      → WayPainted blocks nodes entries store n tick start stop best r bytes bytes₂ held held₂
  unfolding TreeAt
  way_both {rows} {h} {row} {near} {r} {bytes₁} {bytes₂} {held₁} {held₂} there e low late here half below =
      record {
        near = (let own = late.of_place start low in nearest_both there e own.1 half own.2 below.near);
        painted = go;
      }
    where
      w : InWindow nodes entries n.link start stop (record { from = row; to = here.past })
      w = in_window nodes entries n.link start stop row here.past rows e low here.ends

      go : (kind : ℕ) (tree : Tree) → Stands blocks nodes entries kind n tree
          → Painted blocks store (window (first_cell_in blocks) start stop (path tick n.min n.max tree)) start stop bytes bytes₂ held held₂
      go kind hole s = absurd (there.row s.stood)
      go kind (node xs l r') s =
          let d : Down blocks nodes entries kind tick n h xs (node xs l r') = down blocks nodes entries kind tick n xs l r' s h half in
          let run : RunOf blocks entries (rows_at nodes entries n.link) xs = run_of blocks nodes entries kind n xs l r' s in
          let own : blocks_in entries (record { from = row; to = here.past }) ≡ window (first_cell_in blocks) start stop xs = w.lists blocks xs run in
          let all : RunOf blocks entries rows xs = rw (← e) at run in
          let whole = rows_painted (ascending_from all (low.inside all.order).0) here in
          rw (d.way, window-append, ← own) (painted_append whole.painted (below.painted kind d.below d.stands))

-- ── the returns of `show` ──

zeros : (n i : ℕ) → get_or (replicate {A = ℕ} n 0) i 0 ≡ 0
zeros n i = elim (lt_or_le i n) [ inl h ↦ get_or-replicate n i 0 0 h | inr h ↦ get_or_past (replicate {A = ℕ} n 0) i 0 (rw (length-replicate {A = ℕ} n 0) h) ]

module _ (n m : ℕ) {blocks nodes entries store : List ℕ} {kind end tick start stop : ℕ} {root : Node} {before : Option Neighbour} {bytes₀ held₀ bytes₁ held₁ : List ℕ}
    (b : bytes₀ ≡ replicate n 0) (h : held₀ ≡ replicate m 0) (last : end ≡ block_column blocks 0 head_end) (e : root ≡ root_at nodes kind end)
    (way : WayPainted blocks nodes entries store root tick start stop None before bytes₀ bytes₁ held₀ held₁) where
  shown : {bytes held : List ℕ} → Painted blocks store (one_of before) start stop bytes₁ bytes held₁ held → Shown blocks nodes entries store kind tick start stop bytes held
  shown p =
      record {
        before = before;
        near = rw last at (nearest_live e way.near);
        cell = λ tree r i a.
            let st : Stands blocks nodes entries kind root tree = rw (e, last) r in
            rw (b, h, zeros n i, zeros m i, e, last) at ((painted_append (way.painted kind tree st) p).cell i a);
      }

  pub shown_none : before ≡ None → Shown blocks nodes entries store kind tick start stop bytes₁ held₁
  shown_none z = shown (subst (λ (x : Option Neighbour). Painted blocks store (one_of x) start stop bytes₁ bytes₁ held₁ held₁) (sym z) painted_none)

  pub shown_before : {bytes held : List ℕ} {block : Neighbour} → before ≡ Some block → Painted blocks store (block.number ∷ []) start stop bytes₁ bytes held₁ held
      → Shown blocks nodes entries store kind tick start stop bytes held
  shown_before {bytes} {held} z p = shown (subst (λ (x : Option Neighbour). Painted blocks store (one_of x) start stop bytes₁ bytes held₁ held) (sym z) p)
