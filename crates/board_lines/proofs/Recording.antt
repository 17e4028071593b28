-- Records: one step for each return of `record_one` and `record_all`, and for a turn of its loop. Assumes nothing.
use mathlib.Core.Path.{◌≡◌, refl, sym, ◌∙◌, subst}
use Rattle.std.proofs.Common.{Some, Ok, Err}
use Rattle.std.specs.Prelude.{Option, Result}
use mathlib.Core.List.{List, [], ◌∷◌, ◌++◌, append_assoc}
use Prim.Native.Nat.{ℕ, suc, ◌+◌, ◌-◌, ◌^◌, ◌≤◌, ◌<◌}
use native.Mathlib.Numerals.{add-one}
use native.Mathlib.Omega.{arith}
use lib.ListN.{length, take, drop}
use Rattle.history.specs.Words.{Operation}
use Rattle.history.specs.Ledger.{Ledger}
use Rattle.history.specs.Refusals.{record_answer}
use Rattle.history.specs.Calls.{record_call, answer_to, after}
use Rattle.history.specs.Printed.{board_scratch, op_line, lines_from, refused_line, op_text, decimal, Booking, operation_of}
use Rattle.layout.specs.Tables.{tables}
use Rattle.layout.specs.Relations.{RecordLeaves}
use Rattle.refusals.specs.declared.Refusal.{Refusal}
use Rattle.refusals.specs.Numbers.{number_of, answer_by}
use Rattle.index_record.specs.Calls.{recorded, RecordedOpen}
use Rattle.board_input.specs.Input.{item_at, first_record}
use Rattle.board_input.specs.Walk.{Walk, walk_end, walk_on}
use Rattle.board_text.specs.declared.Output.{Output}
use Rattle.board_text.specs.Wrote.{Wrote}
use Rattle.board_input.specs.declared.Record.{Record}
use Rattle.board_input.proofs.Walking.{OneMore, records_on}
use Rattle.board_text.proofs.Lines.{wrote_none, wrote_append}
use Rattle.board_lines.specs.Lines.{Standing, RecordedOne, Midway, RecordedAll}
use Rattle.board_lines.proofs.Standing.{record_stands}

-- ── the returns of `record_one` ──

module _ {pieces blocks store pieces' blocks' store' : List ℕ} {o : Operation} {r : Result (Option ℕ) Refusal} (d : RecordedOpen pieces blocks store pieces' blocks' store' o r) where
  given : (nodes entries : List ℕ) (l : Ledger) → Standing (tables pieces blocks store nodes entries) l
      → (answer_by recorded r ≡ record_answer l board_scratch o)
      × RecordLeaves (record_answer l board_scratch o) l o (tables pieces blocks store nodes entries) (tables pieces' blocks' store' nodes entries)
  given nodes entries l s = d.formed nodes entries l board_scratch refl s.encodes s.law.sound.sound s.unfinished

  left : (nodes entries : List ℕ) (l : Ledger) → Standing (tables pieces blocks store nodes entries) l
      → Standing (tables pieces' blocks' store' nodes entries) (after l (record_call board_scratch o))
  left nodes entries l s = record_stands o _ _ l s (given nodes entries l s).1

  answer : (nodes entries : List ℕ) (l : Ledger) → Standing (tables pieces blocks store nodes entries) l → answer_by recorded r ≡ answer_to l (record_call board_scratch o)
  unfolding answer_to
  answer nodes entries l s = (given nodes entries l s).0

  pub one_taken : {k : ℕ} {out : Output} {cell : Option ℕ} → r ≡ Ok cell → RecordedOne pieces blocks store pieces' blocks' store' o k out out
  unfolding op_line
  one_taken {k} {out} e =
      record { same_loan = refl; line = λ nodes entries l s. rw (← (answer nodes entries l s), e) (wrote_none out); left = left }

  pub one_refused : {n k : ℕ} {out out' : Output} {x : Refusal} → r ≡ Err x → n ≡ number_of x → Wrote out (refused_line (op_text ++ decimal k []) n) out'
      → RecordedOne pieces blocks store pieces' blocks' store' o k out out'
  unfolding op_line
  one_refused e m p =
      record { same_loan = p.same_loan; line = λ nodes entries l s. rw (← (answer nodes entries l s), e, ← m) p; left = left }

-- ── the loop of `record_all` ──

-- from the record at a position on, counted k, what is to be printed of all follows what is put
pub record Turning (input pieces₀ blocks₀ store₀ : List ℕ) (kind : ℕ) (out₀ : Output) (pieces blocks store : List ℕ) (out : Output) (position k : ℕ) : Type 0 where
  pub same_loan : out.buffer.ghost_name ≡ out₀.buffer.ghost_name
  pub counted : k ≤ position
  pub turned : (nodes entries : List ℕ) (l : Ledger) (os : List Booking) → Standing (tables pieces₀ blocks₀ store₀ nodes entries) l → Walk input first_record os
      → (rest : List Booking) × Walk input position rest × Midway kind (lines_from kind 1 l os) k rest (tables pieces blocks store nodes entries) out₀ out

pub turn_first : (input pieces blocks store : List ℕ) (kind : ℕ) (out : Output) → Turning input pieces blocks store kind out pieces blocks store out first_record 1
turn_first input pieces blocks store kind out = record {
  same_loan = refl;
  counted = omega arith;
  turned = λ nodes entries l os s w. (os, w, record { ledger = l; standing = s; text = []; put = wrote_none out; rest = refl });
}

-- one record further: its line is put behind the others
midway_on : {lines pieces blocks store pieces' blocks' store' nodes entries : List ℕ} {out₀ out out' : Output} {kind k : ℕ} (b : Booking) {bs : List Booking}
    → RecordedOne pieces blocks store pieces' blocks' store' (operation_of kind b) k out out'
    → Midway kind lines k (b ∷ bs) (tables pieces blocks store nodes entries) out₀ out
    → Midway kind lines (suc k) bs (tables pieces' blocks' store' nodes entries) out₀ out'
unfolding lines_from
midway_on {nodes} {entries} {kind = kind} {k} b d m =
    let l = m.ledger in
    let call = record_call board_scratch (operation_of kind b) in
    record {
      ledger = after l call;
      standing = d.left nodes entries l m.standing;
      text = m.text ++ op_line k (answer_to l call);
      put = wrote_append m.put (d.line nodes entries l m.standing);
      rest = m.rest ∙ sym (append_assoc m.text (op_line k (answer_to l call)) _);
    }

module _ {input pieces₀ blocks₀ store₀ pieces blocks store : List ℕ} {out₀ out : Output} {kind position k : ℕ}
    (turn : Turning input pieces₀ blocks₀ store₀ kind out₀ pieces blocks store out position k) where
  module _ {r : Record} (e : Some (Ok r) ≡ item_at input position) where
    more : OneMore input k position r
    more = records_on input k position e

    pub turn_inside : r.next ≤ length input
    turn_inside = more.inside

    pub turn_forward : r.start ≤ r.next
    turn_forward = more.forward

    pub turn_less : position < r.next
    turn_less = omega (arith, more.behind, more.forward)

    -- there are fewer records than bytes
    pub turn_count : length input < 2 ^ 64 → k + 1 < 2 ^ 64
    turn_count h = omega (arith, turn.counted, turn_less, turn_inside)

    pub turn_on : {pieces' blocks' store' : List ℕ} {out' : Output}
        → RecordedOne pieces blocks store pieces' blocks' store' (record { kind = kind; tick = r.tick; first = r.first; bytes = take (r.next - r.start) (drop r.start input) }) k out out'
        → Turning input pieces₀ blocks₀ store₀ kind out₀ pieces' blocks' store' out' r.next (k + 1)
    turn_on {pieces'} {blocks'} {store'} {out'} d =
        rw (add-one k)
        (record {
          same_loan = d.same_loan ∙ turn.same_loan;
          counted = omega (arith, turn.counted, turn_less);
          turned = λ nodes entries l os s w. go r e d nodes entries (turn.turned nodes entries l os s w);
        })
      where
        go : {lines : List ℕ} (r : Record) → Some (Ok r) ≡ item_at input position
            → RecordedOne pieces blocks store pieces' blocks' store' (record { kind = kind; tick = r.tick; first = r.first; bytes = take (r.next - r.start) (drop r.start input) }) k out out'
            → (nodes entries : List ℕ) → (rest : List Booking) × Walk input position rest × Midway kind lines k rest (tables pieces blocks store nodes entries) out₀ out
            → (rest : List Booking) × Walk input r.next rest × Midway kind lines (suc k) rest (tables pieces' blocks' store' nodes entries) out₀ out'
        go r e one nodes entries (rest, walk_end h, m) = let never = e ∙ sym h in cc
        go {lines} r e one nodes entries (rest, walk_on {r = r'} {os = os} h w, m) =
            let same : r' ≡ r = let both = h ∙ sym e in cc in
            let here = subst (λ (x : Record). Walk input x.next os) same w in
            let met = subst (λ (x : Record). Midway kind lines k (record { tick = x.tick; first = x.first; bytes = take (x.next - x.start) (drop x.start input) } ∷ os) (tables pieces blocks store nodes entries) out₀ out) same m in
            (os, here, midway_on _ one met)

  -- where no record stands, which no bad one can be
  pub turn_end : ((r : Record) → Some (Ok r) ≡ item_at input position → ⊥) → RecordedAll input pieces₀ blocks₀ store₀ pieces blocks store kind out₀ out
  unfolding lines_from
  turn_end none = record { same_loan = turn.same_loan; recorded = λ nodes entries l os s w. go (turn.turned nodes entries l os s w) }
    where
      go : {lines : List ℕ} {nodes entries : List ℕ} → (rest : List Booking) × Walk input position rest × Midway kind lines k rest (tables pieces blocks store nodes entries) out₀ out
          → Midway kind lines 0 [] (tables pieces blocks store nodes entries) out₀ out
      go (rest, walk_end h, m) = record { ledger = m.ledger; standing = m.standing; text = m.text; put = m.put; rest = m.rest }
      go (rest, walk_on {r = r} h w, m) = absurd (none r h)
