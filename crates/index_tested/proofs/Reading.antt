-- The returns of the reads at a state. Assumes nothing.
use mathlib.Core.Path.{◌≡◌, refl, sym, ◌∙◌, subst}
use mathlib.Core.List.{List}
use Prim.Native.Nat.{ℕ, ◌+◌, ◌-◌, ◌≤◌, ◌<◌}
use native.Mathlib.Omega.{arith}
use lib.ListN.{length}
use Rattle.history.specs.Refusals.{Answer, accepted, refused, block_answer}
use Rattle.tables.specs.Parts.{part_of}
use Rattle.layout.specs.Tables.{tables}
use Rattle.layout.specs.Reads.{HandedInto}
use Rattle.layout.specs.Relations.{Counts, counts_of, Fields, BlockHanded}
use Rattle.layout.proofs.ReadLaws.{into_refused, block_refused}
use Rattle.std.specs.Prelude.{Result, Ok, Err}
use Rattle.refusals.specs.declared.Refusal.{Refusal}
use Rattle.refusals.specs.declared.Refusal.TheVariants.{Malformed}
use Rattle.refusals.specs.Numbers.{number_of, answer_by}
use Rattle.index_read.specs.Answers.{fields_given}
use Rattle.index_read.specs.Reads.{BlockClosed, FindClosed}
use Rattle.index_read.specs.declared.Block.{Block}
use Rattle.index.proofs.Answering.{block_4, find_4, bytes_some, bytes_none}
use Rattle.index_test.specs.declared.State.{State}
use Rattle.index_test.specs.States.{when_closed}
use Rattle.index_tested.specs.Tested.{FoundTested, HeldInside, BlockTested, BytesTested}
use Rattle.index_test.proofs.Told.{closed_read}
use Rattle.index_tested.proofs.Keeping.{kept_not_closed, kept_closed_taken}

-- ── find ──

module _ (s : State) {x : Result Unit Refusal} {blocks nodes entries : List ℕ} {kind tick start stop : ℕ} {out : List ℕ} (is : x ≡ when_closed s) where
  pub found_not_closed : {e : Refusal} → x ≡ Err e → FoundTested s blocks nodes entries kind tick start stop out out (refused (number_of e))
  found_not_closed {e} q = record {
    done = λ pieces store k. record {
      read = kept_not_closed e s k (sym is ∙ q) (λ n. HandedInto counts_of (λ f. f.numbers) out out (refused n)) (find_4 kind tick start stop (length out)) (λ n. into_refused);
    };
  }

  pub found_closed : {u : Unit} {out' : List ℕ} {a : Answer Counts} → x ≡ Ok u → FindClosed blocks nodes entries kind tick start stop out out' a
      → FoundTested s blocks nodes entries kind tick start stop out out' a
  found_closed q f = record { done = λ pieces store k. record { read = closed_read (kept_closed_taken s k (sym is ∙ q)) (f.found pieces store) } }

-- ── in the store ──

never : {f : Fields} {n : ℕ} {A : Type 0} → ◌≡◌ {A = Answer Fields} (refused n) (accepted f) → A
never e = let z : ◌≡◌ {A = ℕ} 0 1 = cc in absurd (omega arith)

same_fields : {f g : Fields} → ◌≡◌ {A = Answer Fields} (accepted f) (accepted g) → f ≡ g
same_fields e = cc

module _ {given : Block} {room : ℕ} where
  pub held_long : room < given.length → HeldInside given room (Err Malformed)
  held_long h = record { same = λ i. absurd (omega arith); whole = λ f q. never q }

  pub held-past : given.length ≤ room → room - given.length < given.offset → HeldInside given room (Err Malformed)
  held-past h p = record { same = λ i. absurd (omega arith); whole = λ f q. never q }

  pub held_here : given.length ≤ room → given.offset ≤ room - given.length → HeldInside given room (Ok given)
  held_here h p =
      let inside : given.offset + given.length ≤ room = omega arith in
      record {
        same = λ i. refl;
        whole = λ f q. subst (λ (g : Fields). g.offset + g.length ≤ room) (same_fields q) inside;
      }

pub ruleset holding = (held_long, held-past, held_here, arith)

-- ── block by number ──

module _ (s : State) {x : Result Unit Refusal} {blocks store : List ℕ} {k : ℕ} (is : x ≡ when_closed s) where
  pub block_not_closed : {e : Refusal} → x ≡ Err e → BlockTested s blocks store k (refused (number_of e))
  block_not_closed {e} q = record {
    done = λ pieces nodes entries kept. record {
      read = kept_not_closed e s kept (sym is ∙ q) (λ n. BlockHanded (tables pieces blocks store nodes entries) k (refused n)) (block_4 k) (λ n. block_refused);
    };
    whole = λ f r. never r;
  }

  module _ {u : Unit} (q : x ≡ Ok u) {given : Result Block Refusal} (b : BlockClosed blocks k (answer_by fields_given given)) where
    -- none of that number
    pub block_none : {e : Refusal} → given ≡ Err e → BlockTested s blocks store k (refused (number_of e))
    block_none g = record {
      done = λ pieces nodes entries kept. record { read = closed_read (kept_closed_taken s kept (sym is ∙ q)) (rw g at (b.given pieces store nodes entries)) };
      whole = λ f r. never r;
    }

    -- there is one
    pub block_there : {block : Block} {r : Result Block Refusal} → given ≡ Ok block → HeldInside block (length store) r → BlockTested s blocks store k (answer_by fields_given r)
    block_there {block} {r} g held = record {
      done = λ pieces nodes entries kept.
          let t = tables pieces blocks store nodes entries in
          record {
            read = closed_read (kept_closed_taken s kept (sym is ∙ q)) (record {
              closed = λ l enc sound over.
                  let here : BlockHanded t k (accepted (fields_given block)) (block_answer l k) = rw g at ((b.given pieces store nodes entries).closed l enc sound over) in
                  subst (λ (y : Result Block Refusal). BlockHanded t k (answer_by fields_given y) (block_answer l k)) (sym (held.same (here.whole (fields_given block) refl))) here;
            });
          };
      whole = held.whole;
    }

-- ── the bytes of a block ──

module _ {s : State} {blocks store : List ℕ} {k : ℕ} {r : Result Block Refusal} (told : BlockTested s blocks store k (answer_by fields_given r)) where
  pub carried_some : {b : Block} {bytes : List ℕ} → r ≡ Ok b → bytes ≡ part_of store b.offset b.length → BytesTested s blocks store k bytes
  carried_some e p = record { done = λ pieces nodes entries kept. bytes_some (told.done pieces nodes entries kept) e p }

  pub carried_none : {x : Refusal} {bytes : List ℕ} → r ≡ Err x → bytes ≡ part_of store 0 0 → BytesTested s blocks store k bytes
  carried_none e p = record { done = λ pieces nodes entries kept. bytes_none (told.done pieces nodes entries kept) e p }

pub ruleset carrying = (carried_some, carried_none)
