-- A block against a run and a way down: one step for each return and turn. Assumes nothing.
use mathlib.Core.Path.{◌≡◌, refl, sym, ap, ◌∙◌}
use mathlib.Core.Logic.{⊎_elim}
use mathlib.Core.Bool.{Bool, true, false, not, true≢false, false≢true}
use mathlib.Core.List.{List, ◌++◌}
use Prim.Native.Nat.{ℕ, suc, ◌+◌, ◌-◌, ◌^◌, ◌≤◌, ◌<◌}
use native.Mathlib.Omega.{arith}
use lib.ListN.{length, get_or}
use borrow.Author.Tests.{not-true, not-false}
use Rattle.lists.specs.Lists.{All, all_nil, Ascending}
use Rattle.lists.specs.Tests.{Decides}
use Rattle.lists.proofs.Numbers.{le_or_lt}
use Rattle.lists.proofs.Lists.{all_append, all_map, mem_left, mem_right, pairs_at}
use Rattle.history.specs.Tree.{Tree, hole, node}
use Rattle.history.specs.Find.{path}
use Rattle.history.proofs.RulesLaws.{ascends_decides, sorted_here}
use Rattle.block_table.specs.declared.Row.{Row}
use Rattle.block_table.specs.RowRead.{Reads}
use Rattle.segment_table.specs.Closed.{TreeAt, run, block_in, first_cell_in}
use Rattle.segment_table.proofs.Closed.{run_all, run_mem, run_at, run_length}
use Rattle.segment_walk.specs.declared.walk.Node.{Node}
use Rattle.segment_walk.specs.declared.rows.Rows.{Rows}
use Rattle.segment_walk.specs.Walking.{Stands, Absent, half_at}
use Rattle.segment_walk.specs.Rowing.{rows_at, RunOf, Parts, Lower}
use Rattle.segment_walk.proofs.Halving.{present, absent_hole, Down, down}
use Rattle.segment_walk.proofs.Rowing.{run_of}
use Rattle.segment_clear.specs.declared.Own.{Own}
use Rattle.segment_clear.specs.Clear.{end_in, EndsBy, Owned, Owns, Parted, Reached, Clears, RunClear, WayClear}

-- ── blocks ──

-- what the row of block k says is what is owned
pub owned_owns : {t : List ℕ} {k : ℕ} {row : Row} {own : Own} → Reads t (suc k) row → Owned k row own → Owns t k own
owned_owns reads is = record {
  number = is.number;
  first = is.first ∙ reads.first;
  end = λ fits. let e = is.end (rw (reads.first, reads.length) fits) in e ∙ rw (reads.first, reads.length) refl;
  forward = is.forward;
}

-- ── a run ──

module _ {t entries : List ℕ} {rows : Rows} {row : ℕ} {xs : List ℕ} (k : ℕ) (own : RunOf t entries rows xs) (parts : Parts entries rows (end_in t k) row)
    (low : rows.from ≤ row) (high : row ≤ rows.to) where
  -- what starts before the end stands before the row
  before : (i : ℕ) → rows.from ≤ i → i < rows.to → first_cell_in t (block_in entries i) < end_in t k → i < row
  before i a b h =
      ⊎_elim (λ (p : row ≤ i). absurd (omega (arith, parts.above i p b, own.keyed i a b))) (λ (p : i < row). p) (le_or_lt row i)

  none_before : ((i : ℕ) → rows.from ≤ i → i < row → block_in entries i ≡ k) → Clears t xs k true
  none_before only = record {
    clear = λ _. rw (← own.lists)
        (run_all entries rows.from (rows.to - rows.from) (λ i a b ne h. absurd (ne (only i a (before i a (omega arith) h)))));
    reached = λ e. absurd (true≢false e);
  }

  -- row p is the last one before it that is not the block's own
  last_before : (p : ℕ) → rows.from ≤ p → p < row → ((i : ℕ) → p < i → i < row → block_in entries i ≡ k) → (block_in entries p ≡ k → ⊥)
      → {r : Bool} → Decides r (EndsBy t (block_in entries p) (first_cell_in t k)) → Clears t xs k r
  last_before p from to only other {r} d = record { clear = clear; reached = reached }
    where
      clear : r ≡ true → All (λ j. (j ≡ k → ⊥) → first_cell_in t j < end_in t k → Parted t xs k j) xs
      clear e =
          rw (← own.lists)
          (run_all entries rows.from (rows.to - rows.from)
          (λ i a b ne h.
          let i_low : i < row = before i a (omega arith) h in
          record {
            by = block_in entries p;
            listed = run_mem entries rows.from (rows.to - rows.from) p from (omega arith);
            from =
                ⊎_elim (λ (q : i ≤ p). omega (arith, own.keyed i a (omega arith), own.keyed p from (omega arith), own.ordered.order i p a q (omega arith)))
                (λ (q : p < i). absurd (ne (only i q i_low))) (le_or_lt i p);
            ends = (d.yes e).is;
          }))

      reached : r ≡ false → Reached t xs k
      reached e = record {
        by = block_in entries p;
        listed = rw (← own.lists) (run_mem entries rows.from (rows.to - rows.from) p from (omega arith));
        other = other;
        starts = omega (arith, parts.below p from to, own.keyed p from (omega arith));
        ends =
            ⊎_elim (λ (h : end_in t (block_in entries p) ≤ first_cell_in t k). absurd (d.not e (record { is = h })))
            (λ (h : first_cell_in t k < end_in t (block_in entries p)). h) (le_or_lt (end_in t (block_in entries p)) (first_cell_in t k));
      }

-- keys of rows ascend strictly
rows_ascend : {t entries : List ℕ} {rows : Rows} {xs : List ℕ} → RunOf t entries rows xs → Ascending (first_cell_in t) xs → (i j : ℕ) → rows.from ≤ i → i < j
    → j < rows.to → first_cell_in t (block_in entries i) < first_cell_in t (block_in entries j)
rows_ascend {t} {entries} {rows} {xs} own up i j a h b =
    let at : (m : ℕ) → rows.from ≤ m → m < rows.to → get_or xs (m - rows.from) 0 ≡ block_in entries m =
    λ m p q. let e : rows.from + (m - rows.from) ≡ m = omega arith in
    rw (e, own.lists) at (run_at entries rows.from (rows.to - rows.from) (m - rows.from) (omega arith)) in
    let many : length xs ≡ rows.to - rows.from = ap length (sym own.lists) ∙ run_length entries rows.from (rows.to - rows.from) in
    rw (at i a (omega arith), at j (omega arith) b) at (pairs_at 0 up (i - rows.from) (j - rows.from) (omega arith) (omega arith))

module _ {t entries : List ℕ} {rows : Rows} {own : Own} {row : ℕ} (l : Lower entries rows own.end row) where
  -- the search parts the rows at the block's end
  parts_at : (k : ℕ) (xs : List ℕ) → Owns t k own → end_in t k ≤ 2 ^ 64 - 1 → RunOf t entries rows xs → Parts entries rows (end_in t k) row
  parts_at k xs is fits run = rw (← is.end fits) (l.parts run.room run.ordered)

  pub run_none : row ≤ rows.from → RunClear t entries rows own true
  run_none h = record {
    of_run = λ k xs is fits run up.
        let at = l.inside run.order in
        none_before k run (parts_at k xs is fits run) at.0 at.1 (λ i a b. absurd (omega arith));
  }

  module _ {last : ℕ} (some : rows.from < row) (el : last ≡ block_in entries (row - 1)) where
    pub run_last : {r : Bool} → (last ≡ own.number → ⊥) → Decides r (EndsBy t last own.first) → RunClear t entries rows own r
    run_last other d = record {
      of_run = λ k xs is fits run up.
          let at = l.inside run.order in
          last_before k run (parts_at k xs is fits run) at.0 at.1 (row - 1) (omega arith) (omega arith) (λ i a b. absurd (omega arith))
          (λ e. other (el ∙ e ∙ sym is.number)) (rw (el, is.first) at d);
    }

    pub run_own : last ≡ own.number → row - 1 ≤ rows.from → RunClear t entries rows own true
    run_own same h = record {
      of_run = λ k xs is fits run up.
          let at = l.inside run.order in
          none_before k run (parts_at k xs is fits run) at.0 at.1
          (λ i a b. let e : i ≡ row - 1 = omega arith in rw e (sym el ∙ same ∙ is.number));
    }

    pub run_other : {other : ℕ} {r : Bool} → last ≡ own.number → rows.from < row - 1 → other ≡ block_in entries (row - 2)
        → Decides r (EndsBy t other own.first) → RunClear t entries rows own r
    run_other {other} {r} same h eo d = record {
      of_run = λ k xs is fits run up.
          let at = l.inside run.order in
          let mine : block_in entries (row - 1) ≡ k = sym el ∙ same ∙ is.number in
          last_before k run (parts_at k xs is fits run) at.0 at.1 (row - 2) (omega arith) (omega arith)
          (λ i a b. let e : i ≡ row - 1 = omega arith in rw e mine)
          (λ e. omega (arith, rows_ascend run up (row - 2) (row - 1) (omega arith) (omega arith) (omega (arith, at.1)), ap (first_cell_in t) e, ap (first_cell_in t) mine))
          (rw (eo, is.first) at d);
    }

-- ── lists joined ──

module _ {t : List ℕ} {k : ℕ} (xs ys : List ℕ) where
  parted_left : (j : ℕ) → Parted t xs k j → Parted t (xs ++ ys) k j
  parted_left j p = record { by = p.by; listed = mem_left xs ys p.listed; from = p.from; ends = p.ends }

  parted_right : (j : ℕ) → Parted t ys k j → Parted t (xs ++ ys) k j
  parted_right j p = record { by = p.by; listed = mem_right xs ys p.listed; from = p.from; ends = p.ends }

  clears_both : {r : Bool} → Clears t xs k true → Clears t ys k r → Clears t (xs ++ ys) k r
  clears_both a b = record {
    clear = λ e. all_append (all_map (λ j p ne h. parted_left j (p ne h)) (a.clear refl)) (all_map (λ j p ne h. parted_right j (p ne h)) (b.clear e));
    reached = λ e. let p = b.reached e in
        record { by = p.by; listed = mem_right xs ys p.listed; other = p.other; starts = p.starts; ends = p.ends };
  }

  clears_not : Clears t xs k false → Clears t (xs ++ ys) k false
  clears_not a = record {
    clear = λ e. absurd (false≢true e);
    reached = λ e. let p = a.reached e in
        record { by = p.by; listed = mem_left xs ys p.listed; other = p.other; starts = p.starts; ends = p.ends };
  }

-- ── a way down ──

-- what is said of the way from n on is said of the way from the root on
pub record Leads (t nodes entries : List ℕ) (root n : Node) (tick : ℕ) (own : Own) : Type 0 where
  pub back : (r : Bool) → WayClear t nodes entries n tick own r → WayClear t nodes entries root tick own r

module _ {t nodes entries : List ℕ} {root : Node} {tick : ℕ} {own : Own} where
  pub way_ends : {n : Node} {q : Bool} → Leads t nodes entries root n tick own → Decides q (Absent n) → not q ≡ false → WayClear t nodes entries root tick own true
  unfolding path
  way_ends {n} {q} lead d e =
      lead.back true
      (record {
        of_way = λ k kind tree is fits s. rw (absent_hole (d.yes (not-false q e)) s) (record { clear = λ _. all_nil; reached = λ z. absurd (true≢false z) });
      })

  module _ {n : Node} {q : Bool} {rows : Rows} {c : Bool} (lead : Leads t nodes entries root n tick own) (d : Decides q (Absent n)) (e : not q ≡ true)
      (er : rows ≡ rows_at nodes entries n.link) (run : RunClear t entries rows own c) where
    pub way_reached : not c ≡ true → WayClear t nodes entries root tick own false
    unfolding TreeAt
    way_reached f = lead.back false (record { of_way = go })
      where
        go : (k kind : ℕ) (tree : Tree) → Owns t k own → end_in t k ≤ 2 ^ 64 - 1 → Stands t nodes entries kind n tree → Clears t (path tick n.min n.max tree) k false
        go k kind hole is fits s = absurd ((present d (not-true q e)).row s.stood)
        go k kind (node xs l r) is fits s =
            let w : Down t nodes entries kind tick n (half_at nodes tick n) xs (node xs l r) = down t nodes entries kind tick n xs l r s (half_at nodes tick n) refl in
            rw w.way
            (clears_not xs _
            (rw (not-true c f) at
            (run.of_run k xs is fits (rw er (run_of t nodes entries kind n xs l r s)) ((ascends_decides (first_cell_in t) xs).yes (sorted_here (first_cell_in t) xs l r s.ascend)))))

    pub way_goes : {h : Node} → not c ≡ false → h ≡ half_at nodes tick n → Leads t nodes entries root h tick own
    unfolding TreeAt
    way_goes {h} f eh = record { back = λ b w. lead.back b (record { of_way = go b w }) }
      where
        go : (b : Bool) → WayClear t nodes entries h tick own b → (k kind : ℕ) (tree : Tree) → Owns t k own → end_in t k ≤ 2 ^ 64 - 1
            → Stands t nodes entries kind n tree → Clears t (path tick n.min n.max tree) k b
        go b below k kind hole is fits s = absurd ((present d (not-true q e)).row s.stood)
        go b below k kind (node xs l r) is fits s =
            let w : Down t nodes entries kind tick n h xs (node xs l r) = down t nodes entries kind tick n xs l r s h eh in
            rw w.way
            (clears_both xs _
            (rw (not-false c f) at
            (run.of_run k xs is fits (rw er (run_of t nodes entries kind n xs l r s)) ((ascends_decides (first_cell_in t) xs).yes (sorted_here (first_cell_in t) xs l r s.ascend))))
            (below.of_way k kind w.below is fits w.stands))

pub ruleset going = (way_ends, way_reached, way_goes)
