-- The returns of the public calls: refused by the state of the tables, else what the inner call hands out. Assumes nothing.
use mathlib.Core.Path.{◌≡◌, sym, ◌∙◌}
use mathlib.Core.List.{List}
use Prim.Native.Nat.{ℕ}
use lib.ListN.{length}
use Rattle.std.specs.Prelude.{Result, Ok, Err}
use Rattle.history.specs.Refusals.{Answer, refused, first_of, window_refusals, neighbour_refusals}
use Rattle.refusals.specs.declared.Refusal.{Refusal}
use Rattle.refusals.specs.Numbers.{number_of}
use Rattle.layout.specs.Tables.{tables}
use Rattle.layout.specs.Reads.{HandedOut, HandedInto}
use Rattle.layout.specs.Relations.{TouchedBy, Near, near_of}
use Rattle.layout.proofs.ReadLaws.{out_refused, into_refused}
use Rattle.index_test.specs.Board.{Outcome}
use Rattle.index_test.specs.declared.State.{State}
use Rattle.index_test.specs.States.{when_closed}
use Rattle.index_test.proofs.Told.{closed_taken, read_not_closed, closed_read}
use Rattle.segment_near.specs.declared.Side.{Side}
use Rattle.segment_near.specs.declared.Side.TheVariants.{From, Before}
use Rattle.touching.specs.Sides.{NearGivenBy}
use Rattle.touching_read.specs.Reads.{TouchingClosed, NearClosed}

module _ {pieces blocks store nodes entries : List ℕ} (r : State) {x : Result Unit Refusal} (told : Outcome r (tables pieces blocks store nodes entries)) (is : x ≡ when_closed r) where
  -- ── touching ──

  module _ {kind tick start stop : ℕ} {out : List ℕ} where
    pub touching_refused : {e : Refusal} → x ≡ Err e → TouchedBy (tables pieces blocks store nodes entries) kind tick start stop out out (refused (number_of e))
    unfolding window_refusals first_of
    touching_refused q = record {
      read = read_not_closed (λ n. HandedInto length (λ ks. ks) out out (refused n)) r told (sym is ∙ q) (λ l heads still. rw (heads, still)) (λ n. into_refused);
    }

    pub touching_taken : {u : Unit} {out' : List ℕ} {a : Answer ℕ} → x ≡ Ok u → TouchingClosed blocks nodes entries kind tick start stop out out' a
        → TouchedBy (tables pieces blocks store nodes entries) kind tick start stop out out' a
    touching_taken q f = record { read = closed_read (closed_taken r told (sym is ∙ q)) (f.touched pieces store) }

-- ── next and last: the side does not tell the tables, so they are given ──

module _ (pieces blocks store nodes entries : List ℕ) (kind tick cell : ℕ) (r : State) {x : Result Unit Refusal} (told : Outcome r (tables pieces blocks store nodes entries)) (is : x ≡ when_closed r) where
  pub near_refused : {e : Refusal} (side : Side) → x ≡ Err e → NearGivenBy side (tables pieces blocks store nodes entries) kind tick cell (refused (number_of e))
  unfolding neighbour_refusals first_of
  near_refused From q = record { read = read_not_closed (λ n. HandedOut near_of (refused n)) r told (sym is ∙ q) (λ l heads still. rw (heads, still)) (λ n. out_refused) }
  near_refused Before q = record { read = read_not_closed (λ n. HandedOut near_of (refused n)) r told (sym is ∙ q) (λ l heads still. rw (heads, still)) (λ n. out_refused) }

  pub near_taken : {u : Unit} (a : Answer Near) (side : Side) → x ≡ Ok u → NearClosed side blocks nodes entries kind tick cell a
      → NearGivenBy side (tables pieces blocks store nodes entries) kind tick cell a
  near_taken a From q f = record { read = closed_read (closed_taken r told (sym is ∙ q)) (f.given pieces store) }
  near_taken a Before q f = record { read = closed_read (closed_taken r told (sym is ∙ q)) (f.given pieces store) }
