-- The returns of `serialize_to`: refused by the state, else what the inner call hands out. Assumes nothing.
use mathlib.Core.Path.{◌≡◌, sym, ◌∙◌}
use mathlib.Core.List.{List}
use Prim.Native.Nat.{ℕ}
use lib.ListN.{length}
use Rattle.std.specs.Prelude.{Result, Ok, Err}
use Rattle.history.specs.Refusals.{Answer, refused, first_of, write_refusals}
use Rattle.layout.specs.Tables.{tables}
use Rattle.layout.specs.Reads.{HandedInto}
use Rattle.layout.specs.Files.{WrittenBy}
use Rattle.layout.proofs.ReadLaws.{into_refused}
use Rattle.refusals.specs.declared.Refusal.{Refusal}
use Rattle.refusals.specs.Numbers.{number_of}
use Rattle.index_test.specs.Board.{Outcome}
use Rattle.index_test.specs.declared.State.{State}
use Rattle.index_test.specs.States.{when_closed}
use Rattle.index_test.proofs.Told.{closed_taken, read_not_closed, closed_read}
use Rattle.file_write.specs.Answers.{WrittenClosed}

module _ {pieces blocks store nodes entries out : List ℕ} (r : State) {x : Result Unit Refusal} (told : Outcome r (tables pieces blocks store nodes entries)) (is : x ≡ when_closed r) where
  pub write_refused : {e : Refusal} → x ≡ Err e → WrittenBy (tables pieces blocks store nodes entries) out out (refused (number_of e))
  unfolding write_refusals first_of
  write_refused q = record {
    read = read_not_closed (λ n. HandedInto length (λ file. file) out out (refused n)) r told (sym is ∙ q) (λ l heads still. rw (heads, still)) (λ n. into_refused);
  }

  pub write_taken : {u : Unit} {out' : List ℕ} {a : Answer ℕ} → x ≡ Ok u → WrittenClosed blocks store nodes entries out out' a
      → WrittenBy (tables pieces blocks store nodes entries) out out' a
  write_taken q f = record { read = closed_read (closed_taken r told (sym is ∙ q)) (f.written pieces) }
