-- The returns of `read_cells`: 2 and 4 by what the state of the tables, else what the inner call hands out. Assumes nothing.
use mathlib.Core.Path.{◌≡◌, sym, ◌∙◌}
use mathlib.Core.List.{List}
use Prim.Native.Nat.{ℕ}
use Rattle.history.specs.Refusals.{Answer, refused, first_of, window_refusals}
use Rattle.layout.specs.Tables.{tables}
use Rattle.index_test.specs.Board.{Outcome}
use Rattle.index_test.specs.declared.State.{State}
use Rattle.index_test.specs.States.{when_closed}
use Rattle.index_test.proofs.Told.{closed_taken, read_not_closed, closed_read}
use Rattle.std.specs.Prelude.{Result, Ok, Err}
use Rattle.refusals.specs.declared.Refusal.{Refusal}
use Rattle.refusals.specs.Numbers.{number_of}
use Rattle.cells_read.specs.Answers.{CellsHanded, ReadClosed}
use Rattle.cells_read.proofs.Reading.{cells_refused}
use Rattle.cells.specs.Answers.{CellsReadBy}

module _ {pieces blocks store nodes entries : List ℕ} {kind tick start stop : ℕ} {bytes held : List ℕ} (r : State) {x : Result Unit Refusal}
    (told : Outcome r (tables pieces blocks store nodes entries)) (is : x ≡ when_closed r) where
  pub cells_not_closed : {e : Refusal} → x ≡ Err e → CellsReadBy (tables pieces blocks store nodes entries) kind tick start stop bytes bytes held held (refused (number_of e))
  unfolding window_refusals first_of
  cells_not_closed q = record {
    read = read_not_closed (λ n. CellsHanded bytes bytes held held (refused n)) r told (sym is ∙ q) (λ l heads still. rw (heads, still)) (λ n. cells_refused);
  }

  pub cells_read : {u : Unit} {bytes' held' : List ℕ} {a : Answer Unit} → x ≡ Ok u → ReadClosed blocks store nodes entries kind tick start stop bytes bytes' held held' a
      → CellsReadBy (tables pieces blocks store nodes entries) kind tick start stop bytes bytes' held held' a
  cells_read q f = record { read = closed_read (closed_taken r told (sym is ∙ q)) (f.read pieces) }
