-- The returns of `finalize`. Assumes nothing.
use mathlib.Core.Logic.{inl, inr}
use mathlib.Core.Path.{◌≡◌, refl, sym, ◌∙◌, subst}
use mathlib.Core.Bool.{true, true≢false}
use mathlib.Core.Option.{Option, none, some}
use mathlib.Core.List.{List, append-nil}
use Prim.Native.Nat.{ℕ, ◌<◌, ◌^◌}
use lib.ListN.{length}
use Rattle.history.specs.Rules.{Apart}
use Rattle.history.specs.Tree.{Tree}
use Rattle.history.specs.Ledger.{Ledger, is_some, settled}
use Rattle.history.specs.Results.{Result}
use Rattle.history.specs.Refusals.{Answer, refused, first_of, finish_refusals, finish_answer}
use Rattle.history.specs.Sound.{SoundTrees}
use Rattle.layout.specs.Tables.{tables}
use Rattle.layout.specs.Relations.{FinishedBy}
use Rattle.index_finish.specs.Answers.{FinishesOpen}
use Rattle.index_test.specs.Board.{OpenFormed, Outcome}
use Rattle.index_test.specs.declared.State.{State}
use Rattle.index_test.specs.declared.State.TheVariants.{Bad, Open, Closed}
use Rattle.index_test.specs.States.{when_open}
use Rattle.index_test.proofs.Told.{told_open, Refuses, stands_refuses, open_refused}
use Rattle.std.specs.Prelude.{Ok, Err, Result as Told}
use Rattle.refusals.specs.declared.Refusal.{Refusal}
use Rattle.refusals.specs.Numbers.{number_of}

-- a finished ledger answers 3
finish_3 : Refuses finish_answer true 3
unfolding finish_refusals first_of
finish_3 l held done = rw (held, done)

-- the blocks of a closed ledger are all there are
closed_apart : (l : Ledger) (x : Option (List Tree)) → is_some x ≡ true → SoundTrees l x → Apart (settled l.opening.end l.now)
unfolding settled
closed_apart l none e s = absurd (true≢false (sym e))
closed_apart l (some trees) e s = subst Apart (sym all) s.rule_24
  where
    all : settled l.opening.end l.now ≡ l.now.blocks
    all = rw s.no_pieces (append-nil l.now.blocks)

-- an index that is open
pub is_open : {u : Unit} (r : State) → when_open r ≡ Ok u → r ≡ Open
is_open Bad e = cc
is_open Closed e = cc
is_open Open e = refl

module _ {pieces blocks store nodes entries : List ℕ} (r : State) {s : Told Unit Refusal} (told : Outcome r (tables pieces blocks store nodes entries)) (is : s ≡ when_open r) where
  pub finalize_refused : {e : Refusal} → s ≡ Err e → FinishedBy (tables pieces blocks store nodes entries) (tables pieces blocks store nodes entries) (refused (number_of e))
  finalize_refused {e} q = elim (open_refused e r told (sym is ∙ q)) [
    | inl p ↦ rw p.1 (record {
      formed = λ w. absurd (p.0 (record { ledger = w.ledger; encodes = w.encodes; sound = w.sound.sound }));
      unformed = λ _. (refl, refl);
    })
    | inr p ↦ rw p.1 (record {
      formed = λ w. let asked = stands_refuses p.0 finish_3 w.ledger w.encodes in (sym asked, rw asked refl);
      unformed = λ n. absurd (n (record {
        ledger = p.0.formed.ledger;
        encodes = p.0.formed.encodes;
        sound = record {
          sound = p.0.formed.sound;
          apart = closed_apart p.0.formed.ledger p.0.formed.ledger.trees (p.0.state p.0.formed.ledger p.0.formed.encodes) p.0.formed.sound.closed;
        };
        blank = λ still. absurd (true≢false (sym (p.0.state p.0.formed.ledger p.0.formed.encodes) ∙ still));
      }));
    })
  ]

  pub finalize_open : {u : Unit} {pieces' blocks' nodes' entries' : List ℕ} {a : Answer Result} → length store < 2 ^ 64 → s ≡ Ok u
      → FinishesOpen pieces blocks nodes entries pieces' blocks' nodes' entries' a
      → FinishedBy (tables pieces blocks store nodes entries) (tables pieces' blocks' store nodes' entries') a
  finalize_open few q f =
      let e : r ≡ Open = is_open r (sym is ∙ q) in
      let formed : OpenFormed (tables pieces blocks store nodes entries) = subst (λ (x : State). Outcome x (tables pieces blocks store nodes entries)) e told in
      f.done store few formed.state (told_open told e).formed
