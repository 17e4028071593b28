-- Blocks: one step for each return of `list_one`, `list` and `finish`, and for a turn of the loop of `list`. Assumes nothing.
use mathlib.Core.Path.{◌≡◌, refl, sym, ◌∙◌, ap, subst}
use mathlib.Core.Bool.{true}
use mathlib.Core.List.{List, [], ◌∷◌, ◌++◌, append_assoc, append-nil, flat_map}
use Prim.Native.Nat.{ℕ, ◌+◌, ◌≤◌, ◌<◌, ◌^◌}
use native.Mathlib.Numerals.{add-one}
use native.Mathlib.Omega.{arith}
use lib.ListN.{length, take, drop}
use lib.Seq.{take-suc, take_all}
use Rattle.history.specs.Words.{Block, cell_of, cell_place}
use Rattle.history.specs.Tree.{no_block}
use Rattle.history.specs.Ledger.{Ledger, finished, finish_by}
use Rattle.history.specs.Reads.{block_by}
use Rattle.history.specs.Results.{Result, done}
use Rattle.history.specs.Refusals.{Answer, accepted, refused, finish_answer, block_answer}
use Rattle.history.specs.Calls.{finish_call, answer_to, accepted_by, leaves, after}
use Rattle.history.specs.Sound.{Sound}
use Rattle.history.specs.Printed.{block_line, refused_line, finish_text, last_lines}
use Rattle.history.proofs.EveryList.{law_after, finish_done}
use Rattle.tables.specs.Columns.{block_column, head_count, head_state}
use Rattle.tables.specs.Parts.{part_of}
use Rattle.tables.proofs.Parts.{part-whole}
use Rattle.layout.specs.Tables.{Tables, tables, head_at}
use Rattle.layout.specs.Encodes.{Encodes, open_state}
use Rattle.layout.specs.Formed.{WellFormed, WellFormedForFinish}
use Rattle.layout.specs.Reads.{values_of}
use Rattle.layout.specs.Relations.{Fields, block_in, FinishLeaves}
use Rattle.layout.proofs.ReadLaws.{open_without_tree, block_there}
use Rattle.std.specs.Prelude.{Ok, Err, Result as Told}
use Rattle.refusals.specs.declared.Refusal.{Refusal}
use Rattle.refusals.specs.Numbers.{number_of, answer_by}
use Rattle.index_read.specs.Answers.{fields_given}
use Rattle.index_read.specs.Reads.{BlockClosed}
use Rattle.index_read.specs.declared.Block.{Block as Given}
use Rattle.index_finish.specs.Answers.{FinishesOpen}
use Rattle.board_text.specs.declared.Output.{Output}
use Rattle.board_text.specs.Wrote.{Wrote}
use Rattle.board_text.specs.Line.{block_line_of}
use Rattle.board_text.proofs.Lines.{law_of_lines, wrote_none, wrote_append}
use Rattle.board_lines.specs.Lines.{Standing, ListedOne, Listed, FinishPut}

-- ── the returns of `list_one` ──

module _ {blocks store : List ℕ} {k : ℕ} {r : Told Given Refusal} (d : BlockClosed blocks k (answer_by fields_given r)) where
  pub one_none : {x : Refusal} {out : Output} → r ≡ Err x → ListedOne blocks store k out out
  one_none {x} e =
      record {
        same_loan = refl;
        line = λ pieces nodes entries l enc s done below.
            let given : ◌≡◌ {A = Answer Block} (refused (number_of x)) (block_answer l k) = rw e at ((d.given pieces store nodes entries).closed l enc s done).bytes_there in
            let never : ◌≡◌ {A = Answer Block} (refused (number_of x)) (accepted (block_by l k)) = given ∙ block_there enc done k below in
            let z : ◌≡◌ {A = ℕ} 0 1 = cc in
            absurd (omega arith);
      }

  pub one_line : {b : Given} {bytes : List ℕ} {out out' : Output} → r ≡ Ok b
      → bytes ≡ part_of store b.offset b.length → Wrote out (block_line_of b.first b.created b.destroyed bytes) out' → ListedOne blocks store k out out'
  one_line {b} {bytes} {out} {out'} e part put =
      record {
        same_loan = put.same_loan;
        line = λ pieces nodes entries l enc s done below.
            let g = (d.given pieces store nodes entries).closed l enc s done in
            let f : Fields = fields_given b in
            let same : answer_by fields_given r ≡ accepted f = ap (answer_by fields_given) e in
            let given : ◌≡◌ {A = Answer Block} (accepted (block_in store f)) (accepted (block_by l k)) =
            ap (values_of (block_in store)) (sym same) ∙ g.bytes_there ∙ block_there enc done k below in
            let block : block_in store f ≡ block_by l k = cc in
            let whole : bytes ≡ take f.length (drop f.offset store) = part ∙ part-whole store f.offset f.length (g.whole f same) in
            let cell : f.first ≡ cell_of f.kind (cell_place f.kind f.first) = omega arith in
            let text : block_line_of f.first f.created f.destroyed bytes ≡ block_line (block_by l k) =
            ap (block_line_of f.first f.created f.destroyed) whole
            ∙ ap (λ (c : ℕ). block_line_of c f.created f.destroyed (take f.length (drop f.offset store))) cell
            ∙ sym (law_of_lines.in_parts (block_in store f)) ∙ ap block_line block in
            subst (λ (x : List ℕ). Wrote out x out') text put;
      }

pub ruleset listing_one = (one_none, one_line)

-- ── the loop of `list` ──

-- the lines of the first blocks are put
pub record Listing (blocks store : List ℕ) (out₀ : Output) (number : ℕ) (out : Output) : Type 0 where
  pub same_loan : out.buffer.ghost_name ≡ out₀.buffer.ghost_name
  pub lines : (pieces nodes entries : List ℕ) (l : Ledger) → Encodes (tables pieces blocks store nodes entries) l → Sound l → finished l ≡ true
      → Wrote out₀ (flat_map block_line (take number l.now.blocks)) out

lines_append : (xs ys : List Block) → flat_map block_line (xs ++ ys) ≡ flat_map block_line xs ++ flat_map block_line ys
unfolding flat_map
lines_append [] ys = refl
lines_append (x ∷ xs) ys = ap (λ (t : List ℕ). block_line x ++ t) (lines_append xs ys) ∙ sym (append_assoc (block_line x) (flat_map block_line xs) (flat_map block_line ys))

lines_one : (b : Block) → flat_map block_line (b ∷ []) ≡ block_line b
unfolding flat_map
lines_one b = append-nil (block_line b)

pub listing_none : (blocks store : List ℕ) (out : Output) → Listing blocks store out 0 out
unfolding flat_map
listing_none blocks store out = record { same_loan = refl; lines = λ pieces nodes entries l enc s done. wrote_none out }

module _ {blocks store : List ℕ} {out₀ out : Output} {number : ℕ} (count : ℕ) (counts : count ≡ block_column blocks 0 head_count)
    (so_far : Listing blocks store out₀ number out) where
  pub listing-on : {out' : Output} → number < count → ListedOne blocks store number out out' → Listing blocks store out₀ (number + 1) out'
  listing-on {out'} below one =
      record {
        same_loan = one.same_loan ∙ so_far.same_loan;
        lines = λ pieces nodes entries l enc s done.
            let bs = l.now.blocks in
            let inside : number < length bs = omega (arith, counts, enc.count) in
            let text : flat_map block_line (take (number + 1) bs) ≡ flat_map block_line (take number bs) ++ block_line (block_by l number) =
            ap (λ (n : ℕ). flat_map block_line (take n bs)) (add-one number)
            ∙ ap (flat_map block_line) (take-suc bs number no_block inside)
            ∙ lines_append (take number bs) (block_by l number ∷ [])
            ∙ ap (λ (t : List ℕ). flat_map block_line (take number bs) ++ t) (lines_one (block_by l number)) in
            subst (λ (x : List ℕ). Wrote out₀ x out') (sym text)
            (wrote_append (so_far.lines pieces nodes entries l enc s done) (one.line pieces nodes entries l enc s done inside));
      }

  pub listing_all : count ≤ number → Listed blocks store out₀ out
  listing_all past =
      record {
        same_loan = so_far.same_loan;
        lines = λ pieces nodes entries l enc s done.
            let all : take number l.now.blocks ≡ l.now.blocks = take_all number l.now.blocks (omega (arith, counts, enc.count)) in
            rw all at (so_far.lines pieces nodes entries l enc s done);
      }

-- ── the returns of `finish` ──

-- what finish answers and leaves
given : {pieces blocks store nodes entries pieces' blocks' nodes' entries' : List ℕ} {a : Answer Result} → length store < 2 ^ 64
    → FinishesOpen pieces blocks nodes entries pieces' blocks' nodes' entries' a → (l : Ledger) → Standing (tables pieces blocks store nodes entries) l
    → (a ≡ finish_answer l) × FinishLeaves (finish_answer l) l (tables pieces blocks store nodes entries) (tables pieces' blocks' store nodes' entries')
given {pieces} {blocks} {store} {nodes} {entries} fits d l s =
    let t : Tables = tables pieces blocks store nodes entries in
    let state : head_at t head_state ≡ open_state = s.encodes.state ∙ open_without_tree l.trees s.unfinished in
    let formed : WellFormed t = record { ledger = l; encodes = s.encodes; sound = s.law.sound.sound } in
    let w : WellFormedForFinish t = record { ledger = l; encodes = s.encodes; sound = s.law.sound; blank = λ _. s.blank } in
    (d.done store fits state formed).formed w

module _ {pieces blocks store nodes entries pieces' blocks' nodes' entries' : List ℕ} {r : Told Unit Refusal} (fits : length store < 2 ^ 64)
    (d : FinishesOpen pieces blocks nodes entries pieces' blocks' nodes' entries' (answer_by (λ _. done) r)) where
  pub finish_refused : {n : ℕ} {out out' : Output} {x : Refusal} → r ≡ Err x → n ≡ number_of x → Wrote out (refused_line finish_text n) out'
      → FinishPut (tables pieces blocks store nodes entries) out out'
  unfolding answer_to last_lines
  finish_refused e m put = record { same_loan = put.same_loan; lines = λ l s. rw (← (given fits d l s).0, e, ← m) put }

  pub finish_listed : {out out' : Output} {u : Unit} → r ≡ Ok u → Listed blocks' store out out'
      → FinishPut (tables pieces blocks store nodes entries) out out'
  unfolding answer_to last_lines after leaves accepted_by
  finish_listed {out} {out'} e listed =
      record {
        same_loan = listed.same_loan;
        lines = λ l s.
            go l (finish_answer l) (sym (given fits d l s).0 ∙ ap (answer_by (λ _. done)) e) (law_after l s.calls finish_call s.law).sound.sound
            (given fits d l s).1;
      }
    where
      go : (l : Ledger) (a : Answer Result) → a ≡ accepted done → Sound (leaves a l (finish_by l))
          → FinishLeaves a l (tables pieces blocks store nodes entries) (tables pieces' blocks' store nodes' entries')
          → Wrote out (last_lines (leaves a l (finish_by l)) a) out'
      go l (accepted u) h sound x = listed.lines pieces' nodes' entries' (finish_by l) x.0 sound (finish_done l)
      go l (refused n) h sound x = let z : ◌≡◌ {A = ℕ} 0 1 = cc in absurd (omega arith)
