-- Every byte of an accepted update stands in one piece or one block: the sizes of all add up to the store use. Assumes nothing.
use mathlib.Core.Path.{◌≡◌, refl, sym, ◌∙◌, ap}
use mathlib.Core.Bool.{Bool, true, false, cond}
use mathlib.Core.List.{◌∷◌, map}
use Prim.Native.Nat.{ℕ, ◌+◌}
use native.Mathlib.Nat.{add_comm}
use native.Mathlib.Omega.{arith}
use lib.ListN.{length, length-append}
use Rattle.lists.specs.Lists.{sum_of}
use Rattle.history.specs.Words.{Operation, ends, stretch_of, piece_of, block_of, below, inside, above}
use Rattle.history.specs.Ledger.{Moment, Ledger, opened, Opening, is_read, read_by, update_by, record_by, settled}
use Rattle.history.specs.Results.{Result}
use Rattle.history.specs.Refusals.{Answer, accepted, refused}
use Rattle.history.specs.Calls.{record_call, answer_to, accepted_by, leaves, after}
use Rattle.history.proofs.Cutting.{cells_in, block_cells, cells_append, block_cells_append, destroyed_cells, parts_cells}

-- ── a ledger ──

-- all bytes of the updates stand in pieces and blocks
pub record Held (m : Moment) : Type 0 where
  pub all_there : cells_in m.pieces + block_cells m.blocks ≡ length m.store

pub held-opened : (a : Opening) → Held (opened a).now
unfolding opened sum_of
held-opened a = record { all_there = refl }

updated : (a b c n k : ℕ) {p q s : ℕ} → p ≡ a + (n + c) → q ≡ k + b → a + (b + c) ≡ s → p + q ≡ (s + k) + n
updated a b c n k h i j = omega arith

held_update : (m : Moment) (o : Operation) → Held m → Held (update_by m o)
unfolding update_by stretch_of sum_of
held_update m o h =
    let f = (stretch_of o).first in
    let e = ends (stretch_of o) in
    let ps = m.pieces in
    record {
      all_there = updated _ _ _ _ _ (cells_append (below f ps) (piece_of o ∷ above e ps))
          (block_cells_append m.blocks (map (block_of o.tick) (inside f e ps)) ∙ ap (λ (n : ℕ). block_cells m.blocks + n) (destroyed_cells o.tick (inside f e ps)))
          (parts_cells f e (omega arith) ps)
          ∙ ap (λ (n : ℕ). n + length o.bytes) h.all_there
          ∙ sym (length-append m.store o.bytes);
    }

held_read : (m : Moment) (o : Operation) → Held m → Held (read_by m o)
unfolding read_by
held_read m o h = record { all_there = h.all_there }

pub held_record : (l : Ledger) (scratch : ℕ) (o : Operation) → Held l.now → Held (after l (record_call scratch o)).now
unfolding after leaves accepted_by record_by
held_record l scratch o h = go (answer_to l (record_call scratch o))
  where
    either : (t : Bool) → Held (cond t (read_by l.now o) (update_by l.now o))
    either true = held_read l.now o h
    either false = held_update l.now o h

    go : (a : Answer Result) → Held (leaves a l (record_by l o)).now
    go (accepted u) = either (is_read l.now o)
    go (refused n) = h

-- once settled, they stand in blocks
pub held-settled : (e : ℕ) (m : Moment) → Held m → block_cells (settled e m) ≡ length m.store
unfolding settled
held-settled e m h =
    block_cells_append m.blocks (map (block_of e) m.pieces)
    ∙ ap (λ (n : ℕ). block_cells m.blocks + n) (destroyed_cells e m.pieces)
    ∙ add_comm (block_cells m.blocks) (cells_in m.pieces)
    ∙ h.all_there
