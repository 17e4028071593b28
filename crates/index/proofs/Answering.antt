-- The returns of the public reads: 2 and 4 by what the test of the tables found, else what the inner call hands out. Assumes nothing.
use mathlib.Core.Path.{◌≡◌, sym, ap, ◌∙◌, subst}
use mathlib.Core.Bool.{false}
use mathlib.Core.List.{List}
use Prim.Native.Nat.{ℕ}
use native.Mathlib.Omega.{arith}
use lib.ListN.{length}
use Rattle.history.specs.Refusals.{Answer, accepted, refused, first_of, window_refusals, find_answer, block_refusals, block_answer}
use Rattle.tables.specs.Parts.{part_of}
use Rattle.tables.proofs.Parts.{part-whole}
use Rattle.layout.specs.Tables.{tables}
use Rattle.layout.specs.Reads.{HandedInto}
use Rattle.layout.specs.Relations.{Counts, counts_of, FoundBy, Fields, BlockHanded, BlockGivenBy}
use Rattle.layout.proofs.ReadLaws.{into_refused, block_refused, block_whole}
use Rattle.std.specs.Prelude.{Result, Ok, Err}
use Rattle.refusals.specs.declared.Refusal.{Refusal}
use Rattle.refusals.specs.Numbers.{number_of, answer_by}
use Rattle.index_read.specs.Answers.{fields_given}
use Rattle.index_read.specs.Reads.{BlockClosed, FindClosed}
use Rattle.index_read.specs.declared.Block.{Block}
use Rattle.index_test.specs.Board.{Outcome}
use Rattle.index_test.specs.declared.State.{State}
use Rattle.index_test.specs.States.{when_closed}
use Rattle.index_test.proofs.Told.{Refuses, closed_taken, read_not_closed, closed_read}
use Rattle.index.specs.Answers.{bytes_of, BytesGivenBy}

-- ── block by number ──

pub block_4 : (k : ℕ) → Refuses (λ l. block_answer l k) false 4
unfolding block_refusals first_of
block_4 k l held still = rw (held, still)

module _ {pieces blocks store nodes entries : List ℕ} {k : ℕ} (r : State) {s : Result Unit Refusal} (told : Outcome r (tables pieces blocks store nodes entries)) (is : s ≡ when_closed r) where
  pub block_not_closed : {e : Refusal} → s ≡ Err e → BlockGivenBy (tables pieces blocks store nodes entries) k (refused (number_of e))
  block_not_closed q =
      record { read = read_not_closed (λ n. BlockHanded (tables pieces blocks store nodes entries) k (refused n)) r told (sym is ∙ q) (block_4 k) (λ n. block_refused) }

  pub block_given : {u : Unit} {a : Answer Fields} → s ≡ Ok u → BlockClosed blocks k a → BlockGivenBy (tables pieces blocks store nodes entries) k a
  block_given q b = record { read = closed_read (closed_taken r told (sym is ∙ q)) (b.given pieces store nodes entries) }

-- ── find ──

pub find_4 : (kind tick start stop room : ℕ) → Refuses (λ l. find_answer l kind tick start stop room) false 4
unfolding window_refusals first_of
find_4 kind tick start stop room l held still = rw (held, still)

module _ {pieces blocks store nodes entries : List ℕ} {kind tick start stop : ℕ} {out : List ℕ} (r : State) {s : Result Unit Refusal} (told : Outcome r (tables pieces blocks store nodes entries)) (is : s ≡ when_closed r) where
  pub find_not_closed : {e : Refusal} → s ≡ Err e → FoundBy (tables pieces blocks store nodes entries) kind tick start stop out out (refused (number_of e))
  find_not_closed q =
      record { read = read_not_closed (λ n. HandedInto counts_of (λ f. f.numbers) out out (refused n)) r told (sym is ∙ q) (find_4 kind tick start stop (length out)) (λ n. into_refused) }

  pub find_found : {u : Unit} {out' : List ℕ} {a : Answer Counts} → s ≡ Ok u → FindClosed blocks nodes entries kind tick start stop out out' a
      → FoundBy (tables pieces blocks store nodes entries) kind tick start stop out out' a
  find_found q f = record { read = closed_read (closed_taken r told (sym is ∙ q)) (f.found pieces store) }

-- ── the bytes of a block ──

module _ {pieces blocks store nodes entries : List ℕ} {k : ℕ} {r : Result Block Refusal} (told : BlockGivenBy (tables pieces blocks store nodes entries) k (answer_by fields_given r)) where
  pub bytes_some : {b : Block} {bytes : List ℕ} → r ≡ Ok b → bytes ≡ part_of store b.offset b.length → BytesGivenBy (tables pieces blocks store nodes entries) k bytes
  bytes_some {b} e p =
      let t = tables pieces blocks store nodes entries in
      let g : BlockGivenBy t k (accepted (fields_given b)) = subst (λ (x : Result Block Refusal). BlockGivenBy t k (answer_by fields_given x)) e told in
      let there = p ∙ part-whole store b.offset b.length (block_whole g) in
      record {
        read = record {
          formed = λ l enc s. there ∙ ap bytes_of (g.read.formed l enc s).bytes_there;
          unformed = λ n. there ∙ ap bytes_of (g.read.unformed n).bytes_there;
        };
      }

  pub bytes_none : {x : Refusal} {bytes : List ℕ} → r ≡ Err x → bytes ≡ part_of store 0 0 → BytesGivenBy (tables pieces blocks store nodes entries) k bytes
  bytes_none {x} e p =
      let t = tables pieces blocks store nodes entries in
      let g : BlockGivenBy t k (refused (number_of x)) = subst (λ (y : Result Block Refusal). BlockGivenBy t k (answer_by fields_given y)) e told in
      let empty = p ∙ part-whole store 0 0 (omega arith) in
      record {
        read = record {
          formed = λ l enc s. empty ∙ ap bytes_of (g.read.formed l enc s).bytes_there;
          unformed = λ never. empty ∙ ap bytes_of (g.read.unformed never).bytes_there;
        };
      }

pub ruleset carrying = (bytes_some, bytes_none)
