-- The rows of a node in a window: two lower bounds enclose them. Assumes nothing.
use mathlib.Core.Path.{◌≡◌, refl, sym, ◌∙◌, ap}
use mathlib.Core.Bool.{true, false}
use mathlib.Core.List.{List, [], ◌∷◌, ◌++◌, append-nil}
use Prim.Native.Nat.{ℕ, zero, suc, ◌+◌, ◌-◌, ◌≤◌, ◌<◌}
use native.Mathlib.Omega.{arith}
use Rattle.history.specs.Words.{within}
use Rattle.history.specs.Find.{window}
use Rattle.history.proofs.Within.{within_low, within_in, within_high}
use Rattle.history.proofs.FindOrder.{window-append}
use Rattle.segment_table.specs.Closed.{run, block_in, first_cell_in}
use Rattle.segment_table.proofs.Closed.{run_split}
use Rattle.segment_walk.specs.declared.rows.Rows.{Rows}
use Rattle.segment_walk.specs.Rowing.{table_rows, rows_at, blocks_in, key_at, RunOf, Parts, Lower, InWindow}
use Rattle.segment_walk.proofs.Rowing.{rows_inside}

-- ── windows ──

module _ (key : ℕ → ℕ) (s e : ℕ) (entries : List ℕ) where
  -- rows that lie outside of the window, before it or behind it
  window_out : (row n : ℕ) → ((i : ℕ) → row ≤ i → i < row + n → within s e (key (block_in entries i)) ≡ false) → window key s e (run entries row n) ≡ []
  unfolding window run
  window_out row zero f = refl
  window_out row (suc n) f = rw (f row (omega arith) (omega arith)) (window_out (suc row) n (λ i a b. f i (omega arith) (omega arith)))

  window_in : (row n : ℕ) → ((i : ℕ) → row ≤ i → i < row + n → within s e (key (block_in entries i)) ≡ true) → window key s e (run entries row n) ≡ run entries row n
  unfolding window run
  window_in row zero f = refl
  window_in row (suc n) f =
      rw (f row (omega arith) (omega arith)) (ap (λ (l : List ℕ). block_in entries row ∷ l) (window_in (suc row) n (λ i a b. f i (omega arith) (omega arith))))

-- the window of a run lies between the first row from its start on and, from there, the first row from its end on
pub in_window : (nodes entries : List ℕ) (link start stop a b : ℕ) (rows : Rows) → rows ≡ rows_at nodes entries link → Lower entries rows start a
    → Lower entries (record { from = a; to = rows.to }) stop b → InWindow nodes entries link start stop (record { from = a; to = b })
in_window nodes entries link start stop a b rows e p q =
    let in_table : (rows.from ≤ rows.to) × (rows.to ≤ table_rows entries) = rw e (rows_inside nodes entries link) in
    let ia = p.inside in_table.0 in
    let ib = q.inside ia.1 in
    record {
      order = ib.0;
      room = omega arith;
      low = rw (← e) ia.0;
      high = rw (← e) ib.1;
      lists = λ blocks xs own. part blocks xs (rw (← e) at own) ia ib;
    }
  where
    part : (blocks xs : List ℕ) → RunOf blocks entries rows xs → (rows.from ≤ a) × (a ≤ rows.to) → (a ≤ b) × (b ≤ rows.to)
        → run entries a (b - a) ≡ window (first_cell_in blocks) start stop xs
    part blocks xs own ia ib =
        let key : ℕ → ℕ = first_cell_in blocks in
        let keyed : (i : ℕ) → rows.from ≤ i → i < rows.to → key_at entries i ≡ key (block_in entries i) = own.keyed in
        let pa : Parts entries rows start a = p.parts own.room own.ordered in
        let pb : Parts entries (record { from = a; to = rows.to }) stop b =
        q.parts own.room (record { order = λ i j u v w. own.ordered.order i j (omega arith) v w }) in
        let cut : blocks_in entries rows ≡ run entries rows.from (a - rows.from) ++ (run entries a (b - a) ++ run entries b (rows.to - b)) =
        run_split entries rows.from a rows.to ia.0 ia.1
        ∙ ap (λ (l : List ℕ). run entries rows.from (a - rows.from) ++ l) (run_split entries a b rows.to ib.0 ib.1) in
        let low : window key start stop (run entries rows.from (a - rows.from)) ≡ [] =
        window_out key start stop entries rows.from (a - rows.from)
        (λ i u v. within_low start stop (key (block_in entries i)) (rw (keyed i u (omega arith)) at (pa.below i u (omega arith)))) in
        let mid : window key start stop (run entries a (b - a)) ≡ run entries a (b - a) =
        window_in key start stop entries a (b - a)
        (λ i u v.
        within_in start stop (key (block_in entries i)) (rw (keyed i (omega arith) (omega arith)) at (pa.above i u (omega arith)))
        (rw (keyed i (omega arith) (omega arith)) at (pb.below i u (omega arith)))) in
        let high : window key start stop (run entries b (rows.to - b)) ≡ [] =
        window_out key start stop entries b (rows.to - b)
        (λ i u v. within_high start stop (key (block_in entries i)) (rw (keyed i (omega arith) (omega arith)) at (pb.above i u (omega arith)))) in
        rw (← own.lists, cut, window-append, window-append, low, mid, high) (sym (append-nil (run entries a (b - a))))
