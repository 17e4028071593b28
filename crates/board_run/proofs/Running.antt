-- The whole: one step for each return of `play_open`, `play`, `lend`, `run_first` and `run`. Assumes nothing.
use mathlib.Core.Path.{◌≡◌, refl, sym, ◌∙◌, ap, subst}
use Rattle.std.proofs.Common.{Some, None, Ok, Err}
use mathlib.Core.Bool.{false}
use mathlib.Core.Logic.{⊎_elim}
use Rattle.lists.proofs.Numbers.{le_or_lt}
use mathlib.Core.List.{List, [], ◌∷◌, ◌++◌}
use Prim.Native.Nat.{min, ℕ, ◌≤◌, ◌<◌}
use native.Mathlib.Omega.{arith}
use lib.ListN.{length, take, length-take}
use lib.Seq.{take_all, length-take-le, length-sets}
use Rattle.history.specs.Lent.{Lent, too_short}
use Rattle.history.specs.Ledger.{Opening, opened, opening_for}
use Rattle.history.specs.Refusals.{Answer, accepted, refused, open_answer}
use Rattle.history.specs.Printed.{Records, bad, all, input_most, board_lent, header_text, bad_record_text, open_text, newline, decimal, refused_line, lines_from, open_lines, record_lines, printed, Booking, board_opening}
use Rattle.layout.specs.Tables.{Tables, tables}
use Rattle.layout.specs.Relations.{opening_of, opened_tables, left_by, OpenedBy}
use Rattle.std.specs.Prelude.{Result as Told}
use Rattle.refusals.specs.declared.Refusal.{Refusal}
use Rattle.refusals.specs.Numbers.{number_of, answer_by}
use Rattle.board_input.specs.Input.{start_of, records_of, check_of}
use Rattle.lists.specs.Puts.{Put}
use Rattle.board_text.specs.declared.Output.{Output}
use Rattle.board_text.specs.Wrote.{Wrote}
use Rattle.board_input.specs.declared.Start.{Start}
use Rattle.board_input.proofs.Meeting.{law_of_input}
use Rattle.board_text.proofs.Lines.{law_of_lines, wrote_append}
use Rattle.board_lines.specs.Lines.{Standing, RecordedAll, FinishPut}
use Rattle.board_lines.proofs.Standing.{opened_stands}
use Rattle.board_run.specs.Runs.{OpenPut, PlayPut, LendPut, printed_of}
use Rattle.board_run.specs.Room.{output_most, PrintsBoard}
use Rattle.board_run.proofs.Room.{room}

-- ── `play_open` ──

pub open_lines_lem : {pieces blocks store nodes entries pieces' blocks' store' input : List ℕ} {kind : ℕ} {out o₁ o₂ out' : Output}
    → Wrote out (header_text ++ (newline ∷ [])) o₁ → RecordedAll input pieces blocks store pieces' blocks' store' kind o₁ o₂
    → FinishPut (tables pieces' blocks' store' nodes entries) o₂ out' → OpenPut (tables pieces blocks store nodes entries) input kind out out'
unfolding lines_from
open_lines_lem {nodes} {entries} header records last =
    record {
      same_loan = last.same_loan ∙ records.same_loan ∙ header.same_loan;
      lines = λ l s os w.
          let m = records.recorded nodes entries l os s w in
          rw m.rest (wrote_append header (wrote_append m.put (last.lines m.ledger m.standing)));
    }

-- ── `play` ──

lines_refused : (end kind n : ℕ) (os : List Booking) → open_answer (board_opening end kind) ≡ refused n → record_lines end kind (all os) ≡ refused_line open_text n
unfolding record_lines open_lines
lines_refused end kind n os e = rw e

lines_taken : (end kind : ℕ) (os : List Booking) → open_answer (board_opening end kind) ≡ accepted tt
    → record_lines end kind (all os) ≡ header_text ++ (newline ∷ lines_from kind 1 (opened (board_opening end kind)) os)
unfolding record_lines open_lines
lines_taken end kind os e = rw e

board_fits : too_short board_lent ≡ false
unfolding too_short
board_fits = refl

module _ {start : Start} {t t' : Tables} {r : Told Unit Refusal} (d : OpenedBy start.end (start.kind ∷ []) t t' (answer_by (λ u. u) r)) where
  pub play_refused : {n : ℕ} {input : List ℕ} {out out' : Output} {x : Refusal} → r ≡ Err x → n ≡ number_of x → Wrote out (refused_line open_text n) out'
      → PlayPut t input start out out'
  play_refused {n} e m put =
      let end = start.end in
      let kind = start.kind in
      record {
        same_loan = put.same_loan;
        lines = λ lent os w.
            let answer : open_answer (board_opening end kind) ≡ refused n =
            ap (λ (x : Lent). open_answer (opening_for end (kind ∷ []) x)) (sym lent) ∙ sym d.answered ∙ ap (answer_by (λ u. u)) e ∙ ap refused (sym m) in
            rw (lines_refused end kind n os answer) put;
      }

  pub play_opened : {input : List ℕ} {out out' : Output} {u : Unit} → r ≡ Ok u → OpenPut t' input start.kind out out' → PlayPut t input start out out'
  unfolding left_by
  play_opened {input} {out} {out'} e puts =
      let end = start.end in
      let kind = start.kind in
      record {
        same_loan = puts.same_loan;
        lines = λ lent os w.
            let taken : open_answer (opening_of end (kind ∷ []) t) ≡ accepted tt = sym d.answered ∙ ap (answer_by (λ u. u)) e in
            let same : opening_of end (kind ∷ []) t ≡ board_opening end kind = ap (opening_for end (kind ∷ [])) lent in
            let left : t' ≡ opened_tables end (kind ∷ []) t = d.left ∙ ap (λ (x : Answer Unit). left_by x t (opened_tables end (kind ∷ []) t)) (ap (answer_by (λ u. u)) e) in
            let stands : Standing t' (opened (opening_of end (kind ∷ []) t)) =
            subst (λ (x : Tables). Standing x (opened (opening_of end (kind ∷ []) t))) (sym left) (opened_stands end (kind ∷ []) t (ap too_short lent ∙ board_fits) taken) in
            let text : record_lines end kind (all os) ≡ header_text ++ (newline ∷ lines_from kind 1 (opened (opening_of end (kind ∷ []) t)) os) =
            lines_taken end kind os (ap open_answer (sym same) ∙ taken) ∙ ap (λ (a : Opening). header_text ++ (newline ∷ lines_from kind 1 (opened a) os)) (sym same) in
            subst (λ (x : List ℕ). Wrote out x out') (sym text) (puts.lines (opened (opening_of end (kind ∷ []) t)) stands os w);
      }

-- ── `lend` ──

pub lend_lines : {pieces blocks store nodes entries input : List ℕ} {out out' : Output} {start : Start} → length pieces ≡ board_lent.pieces
    → length blocks ≡ board_lent.blocks → length store ≡ board_lent.store → length nodes ≡ board_lent.nodes → length entries ≡ board_lent.entries
    → PlayPut (tables pieces blocks store nodes entries) input start out out' → LendPut input start out out'
lend_lines a b c d e puts = record { same_loan = puts.same_loan; lines = puts.lines (rw (a, b, c, d, e)) }

-- ── `run_first` ──

-- what is found bad is bad, and what is found good has records
found_bad : (x : Records) (k : ℕ) → Err k ≡ check_of x → x ≡ bad k
found_bad (bad n) k e = let same : n ≡ k = cc in ap bad same
found_bad (all os) k e = cc

found_good : (x : Records) → Ok tt ≡ check_of x → (os : List Booking) × (x ≡ all os)
found_good (bad n) e = let never = e in absurd (cc)
found_good (all os) e = (os, refl)

bad_lines : (input : List ℕ) (k : ℕ) → records_of input ≡ bad k → printed_of input ≡ bad_record_text ++ decimal k (newline ∷ [])
unfolding printed_of record_lines
bad_lines input k e = rw e

module _ (input : List ℕ) {out out' : Output} where
  pub first_short : None ≡ start_of input → Wrote out (bad_record_text ++ decimal 0 (newline ∷ [])) out' → Wrote out (printed_of input) out'
  first_short e put = rw (bad_lines input 0 (law_of_input.too_short input e)) put

  pub first_bad : {k : ℕ} → Err k ≡ check_of (records_of input) → Wrote out (bad_record_text ++ decimal k (newline ∷ [])) out'
      → Wrote out (printed_of input) out'
  first_bad {k = k} e put = rw (bad_lines input k (found_bad (records_of input) k e)) put

  pub first_good : {s : Start} → Some s ≡ start_of input → Ok tt ≡ check_of (records_of input) → LendPut input s out out'
      → Wrote out (printed_of input) out'
  unfolding printed_of
  first_good {s} starts e puts =
      let found = found_good (records_of input) e in
      let says = law_of_input.opened_with input s starts in
      rw (says.0, says.1, found.1) (puts.lines found.0 (law_of_input.all_met input found.0 found.1))

-- ── `run` ──

first_bytes : (input : List ℕ) → printed input ≡ printed_of (take input_most input)
unfolding printed printed_of
first_bytes input = rw (law_of_input.first_bytes input)

-- what is put of all that is printed
prints : (input : List ℕ) {out out' : List ℕ} {next : ℕ} → Put out 0 (printed input) out' next → PrintsBoard input out out' next
prints input {out} {out'} {next} put =
    let short : length (printed input) ≤ output_most = rw (first_bytes input) (room (take input_most input) (omega (arith, length-take input_most input))) in
    let same : length out' ≡ length out = ap length put.stands ∙ length-sets out 0 (printed input) in
    let inside : next ≤ length out' = omega (arith, put.ends) in
    record {
      put = put;
      whole = λ h. law_of_lines.shown out 0 (printed input) out' next put (omega arith);
      within = inside;
      counts = sym (length-take-le next out' inside);
    }

-- the first bytes, or all where there are fewer
pub run_lines : (input : List ℕ) (n : ℕ) {out out' : List ℕ} {next : ℕ} → n ≡ min (length input) 65536 → Put out 0 (printed_of (take n input)) out' next
    → PrintsBoard input out out' next
run_lines input n e put =
    let same : take n input ≡ take 65536 input =
    ⊎_elim
    (λ (h : 65536 ≤ length input). let most : n ≡ 65536 = omega arith in ap (λ (m : ℕ). take m input) most)
    (λ (h : length input < 65536). take_all n input (omega arith) ∙ sym (take_all 65536 input (omega arith)))
    (le_or_lt 65536 (length input)) in
    prints input (rw (first_bytes input, ← same) put)
