-- The state of tables: what the test finds is true, and what a true state is good for. Assumes nothing.
use mathlib.Core.Logic.{◌⊎◌, inl, inr}
use mathlib.Core.Path.{◌≡◌, refl, sym, ap, ◌∙◌, subst}
use mathlib.Core.Bool.{Bool, true, false, not}
use mathlib.Core.List.{List}
use Prim.Native.Nat.{ℕ, ◌-◌, ◌/◌, ◌+◌, ◌≤◌}
use native.Mathlib.Omega.{arith}
use lib.ListN.{length}
use lib.Dec.{leb}
use borrow.Author.Tests.{leb-true, leb-false, not-true, not-false}
use Rattle.lists.specs.Tests.{Decides}
use Rattle.lists.proofs.Maps.{length_of_map}
use Rattle.lists.proofs.Numbers.{refute}
use Rattle.history.specs.Lent.{row_width, piece_head, block_head}
use Rattle.history.specs.Ledger.{Ledger}
use Rattle.history.specs.Refusals.{Answer, refused}
use Rattle.std.specs.Prelude.{Ok, Err}
use Rattle.refusals.specs.declared.Refusal.{Refusal}
use Rattle.refusals.specs.declared.Refusal.TheVariants.{Malformed, NotFinished}
use Rattle.refusals.specs.Numbers.{number_of}
use Rattle.index_test.specs.States.{when_formed, when_closed, state_number}
use Rattle.tables.specs.Columns.{column, pieces_count, block_column, head_count}
use Rattle.piece_table.specs.Piece.{piece_at}
use Rattle.piece_table.specs.Shown.{shown}
use Rattle.layout.specs.Tables.{Tables}
use Rattle.layout.specs.Encodes.{open_state, closed_state}
use Rattle.layout.specs.Formed.{WellFormed}
use Rattle.layout.specs.Reads.{ReadBy}
use Rattle.layout.proofs.ReadLaws.{still_open, is_closed}
use Rattle.index_test.specs.Board.{OpenFormed, ClosedFormed, Outcome}
use Rattle.index_test.specs.declared.State.{State}
use Rattle.index_test.specs.declared.State.TheVariants.{Bad, Open, Closed}
use Rattle.index_test.proofs.Told.{Stands, told_bad, Refuses, refused_read}
use Rattle.index_test.proofs.Tested.{passes_formed, open_passes, closed_passes}
use Rattle.index_tested.specs.Kept.{StandsIn, Kept, BlocksFit, CountsFit}
use Rattle.index_tested.specs.Law.{TestKeeps}

-- ── the test ──

pub test_keeps : TestKeeps
test_keeps s t told =
    record {
      unformed = told_bad told;
      opened = λ e. let o : OpenFormed t = subst (λ (x : State). Outcome x t) e told in record { formed = passes_formed (open_passes t o); state = o.state };
      closed = λ e. let c : ClosedFormed t = subst (λ (x : State). Outcome x t) e told in record { formed = passes_formed (closed_passes t c); state = c.state };
    }

-- ── a true state ──

pub stands_open : {t : Tables} → StandsIn open_state t → Stands t false
stands_open h = record { formed = h.formed; state = λ l enc. still_open enc h.state }

pub stands_closed : {t : Tables} → StandsIn closed_state t → Stands t true
stands_closed h = record { formed = h.formed; state = λ l enc. is_closed enc h.state }

-- no state is two
other : {A : Type 0} {s : State} (x y : State) → (state_number x ≡ state_number y → ⊥) → s ≡ x → s ≡ y → A
other x y differ e f = absurd (differ (ap state_number (sym e ∙ f)))

pub kept_open : {s : State} {t : Tables} → s ≡ Open → StandsIn open_state t → Kept s t
kept_open e h = record { unformed = other Open Bad (λ z. omega arith) e; opened = λ _. h; closed = other Open Closed (λ z. omega arith) e }

pub kept_closed : {s : State} {t : Tables} → s ≡ Closed → StandsIn closed_state t → Kept s t
kept_closed e h = record { unformed = other Closed Bad (λ z. omega arith) e; opened = other Closed Open (λ z. omega arith) e; closed = λ _. h }

-- ── a refusal by the state alone ──

kept_refused : {t : Tables} (e : Refusal) (s : State) → Kept s t → when_formed s ≡ Err e → (WellFormed t → ⊥) × (number_of e ≡ 2)
kept_refused e Bad k is = let q : e ≡ Malformed = cc in (k.unformed refl, rw q refl)
kept_refused e Open k is = cc
kept_refused e Closed k is = cc

pub kept_formed : {t : Tables} {u : Unit} (s : State) → Kept s t → when_formed s ≡ Ok u → WellFormed t
kept_formed Bad k is = cc
kept_formed Open k is = (k.opened refl).formed
kept_formed Closed k is = (k.closed refl).formed

pub kept_not_formed : {A : Type 0} {asked : Ledger → Answer A} {t : Tables} (e : Refusal) (s : State) → Kept s t → when_formed s ≡ Err e → (Handed : ℕ → Answer A → Type 0)
    → Handed 2 (refused 2) → ReadBy t asked (Handed (number_of e))
kept_not_formed e s k is Handed h =
    let q = kept_refused e s k is in
    rw q.1 (record { formed = λ l enc sound. absurd (q.0 (record { ledger = l; encodes = enc; sound = sound })); unformed = λ _. h })

-- the same of a closed index
kept_closed_refused : {t : Tables} (e : Refusal) (s : State) → Kept s t → when_closed s ≡ Err e → ((WellFormed t → ⊥) × (number_of e ≡ 2)) ⊎ (Stands t false × (number_of e ≡ 4))
kept_closed_refused e Bad k is = let q : e ≡ Malformed = cc in inl (k.unformed refl, rw q refl)
kept_closed_refused e Open k is = let q : e ≡ NotFinished = cc in inr (stands_open (k.opened refl), rw q refl)
kept_closed_refused e Closed k is = cc

pub kept_closed_taken : {t : Tables} {u : Unit} (s : State) → Kept s t → when_closed s ≡ Ok u → Stands t true
kept_closed_taken Bad k is = cc
kept_closed_taken Open k is = cc
kept_closed_taken Closed k is = stands_closed (k.closed refl)

pub kept_not_closed : {A : Type 0} {asked : Ledger → Answer A} {t : Tables} (e : Refusal) (s : State) → Kept s t → when_closed s ≡ Err e → (Handed : ℕ → Answer A → Type 0)
    → Refuses asked false 4 → ((n : ℕ) → Handed n (refused n)) → ReadBy t asked (Handed (number_of e))
kept_not_closed e s k is Handed refuses h = refused_read e Handed (kept_closed_refused e s k is) refuses h

-- ── guards ──

-- well-formed tables have the rows that their heads count
pub formed_fits : {t : Tables} → WellFormed t → CountsFit t.pieces t.blocks
formed_fits {t} w =
    let e = w.encodes in
    let board = w.sound.board in
    let many : length w.ledger.now.pieces ≡ length e.pieces.links = ap length e.pieces.shows ∙ length_of_map (λ link. shown t.store (piece_at t.pieces link)) e.pieces.links in
    let pieces : length w.ledger.now.pieces ≤ (length t.pieces - piece_head) / row_width = rw e.lengths at board.pieces_fit in
    let blocks : length w.ledger.now.blocks + length w.ledger.now.pieces ≤ (length t.blocks - block_head) / row_width = rw e.lengths at board.blocks_fit in
    record { blocks_fit = record { rows = omega (arith, blocks, e.count) }; pieces_fit = omega (arith, pieces, many, e.pieces.linked.count) }

pub blocks_counted : {blocks : List ℕ} {count rows : ℕ} → count ≡ block_column blocks 0 head_count → rows ≡ (length blocks - block_head) / row_width
    → Decides (leb count rows) (BlocksFit blocks)
blocks_counted {blocks} {count} {rows} c r = record {
  yes = λ e. record { rows = omega (arith, c, r, leb-true count rows e) };
  not = λ e f. omega (arith, c, r, leb-false count rows e, f.rows);
}

pub counts_blocks : {pieces blocks : List ℕ} {b : Bool} → Decides b (BlocksFit blocks) → not b ≡ true → Decides false (CountsFit pieces blocks)
counts_blocks {b = b} d e = refute (λ f. d.not (not-true b e) f.blocks_fit)

pub counts_pieces : {pieces blocks : List ℕ} {b : Bool} {count rows : ℕ} → Decides b (BlocksFit blocks) → not b ≡ false → count ≡ column pieces 0 pieces_count
    → rows ≡ (length pieces - piece_head) / row_width → Decides (leb count rows) (CountsFit pieces blocks)
counts_pieces {b = b} {count} {rows} d e c r = record {
  yes = λ h. record { blocks_fit = d.yes (not-false b e); pieces_fit = omega (arith, c, r, leb-true count rows h) };
  not = λ h f. omega (arith, c, r, leb-false count rows h, f.pieces_fit);
}

pub ruleset counting = (blocks_counted, counts_blocks, counts_pieces)
