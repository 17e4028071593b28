-- A board whose tables grow is the board of tables that had the room from the start. Assumes nothing.
use mathlib.Core.Path.{◌≡◌, refl, ap, sym, ◌∙◌, subst}
use mathlib.Core.Bool.{true}
use mathlib.Core.List.{List, [], ◌∷◌}
use Prim.Native.Nat.{ℕ}
use native.Mathlib.Omega.{arith}
use Rattle.lists.specs.Lists.{All, all_nil, all_cons}
use Rattle.history.specs.Lent.{Lent}
use Rattle.history.specs.Ledger.{Ledger, opening_for, opened}
use Rattle.history.specs.Results.{Result}
use Rattle.history.specs.Refusals.{Answer, accepted, refused, open_refusals}
use Rattle.history.specs.Calls.{Call, record_call, finish_call, calendar_call, days_call, answer_to, accepted_by, leaves, after, answers, after_all}
use Rattle.history.proofs.EveryList.{the_law}
use Rattle.layout.proofs.Lengths.{lent_same}
use Rattle.growth.specs.Longer.{lengthened, lent_more}
use Rattle.growth.specs.Steps.{Step, calls, grows, after_steps, grown_by, is_accepted, taken, GrownBoards}
use Rattle.growth.proofs.Answering.{takes_alike}

-- ── growth ──

-- no growth, and growth after growth
more_none : (l : Ledger) → l ≡ lent_more (grown_by []) l
unfolding grown_by
more_none l = λ i. record { opening = record { end = l.opening.end; kinds = l.opening.kinds; lent = same i }; now = l.now; trees = l.trees; calendar = l.calendar; days = l.days }
  where
    same : l.opening.lent ≡ lengthened (grown_by []) l.opening.lent
    same = lent_same _ _ (omega arith) (omega arith) (omega arith) (omega arith) (omega arith)

more_more : (a b : Lent) (l : Ledger) → lent_more b (lent_more a l) ≡ lent_more (lengthened b a) l
more_more a b l = λ i. record { opening = record { end = l.opening.end; kinds = l.opening.kinds; lent = same i }; now = l.now; trees = l.trees; calendar = l.calendar; days = l.days }
  where
    same : lengthened b (lengthened a l.opening.lent) ≡ lengthened (lengthened b a) l.opening.lent
    same = lent_same _ _ (omega arith) (omega arith) (omega arith) (omega arith) (omega arith)

-- ── a call that is accepted ──

module _ (more : Lent) (l : Ledger) where
  answer_more : (k : Call) (r : Result) → answer_to l k ≡ accepted r → answer_to (lent_more more l) k ≡ accepted r
  unfolding answer_to
  answer_more (record_call scratch o) r e = (takes_alike more l).records scratch o r e
  answer_more finish_call r e = (takes_alike more l).finishes r e
  answer_more (calendar_call numbers) r e = (takes_alike more l).installs numbers r e
  answer_more (days_call numbers) r e = (takes_alike more l).installs_days numbers r e

  accepted_more : (k : Call) → accepted_by (lent_more more l) k ≡ lent_more more (accepted_by l k)
  unfolding accepted_by
  accepted_more (record_call scratch o) = (takes_alike more l).recorded o
  accepted_more finish_call = (takes_alike more l).finished
  accepted_more (calendar_call numbers) = (takes_alike more l).installed numbers
  accepted_more (days_call numbers) = (takes_alike more l).days_installed numbers

after_accepted : (l : Ledger) (k : Call) (r : Result) → answer_to l k ≡ accepted r → after l k ≡ accepted_by l k
unfolding after leaves
after_accepted l k r e = rw e

after_refused : (l : Ledger) (k : Call) (n : ℕ) → answer_to l k ≡ refused n → after l k ≡ l
unfolding after leaves
after_refused l k n e = rw e

after_more : (more : Lent) (l : Ledger) (k : Call) (r : Result) → answer_to l k ≡ accepted r → after (lent_more more l) k ≡ lent_more more (after l k)
after_more more l k r e =
    after_accepted (lent_more more l) k r (answer_more more l k r e) ∙ accepted_more more l k ∙ ap (lent_more more) (sym (after_accepted l k r e))

-- ── all steps ──

abbrev Accepted : Answer Result → Type 0
Accepted x = is_accepted x ≡ true

-- both clauses
record Grown (l : Ledger) (ss : List Step) : Type 0 where
  accepts : All Accepted (answers (lent_more (grown_by ss) l) (taken l ss))
  same : after_steps l ss ≡ after_all (lent_more (grown_by ss) l) (taken l ss)

taken_accepted : (l : Ledger) (k : Call) (ss : List Step) (r : Result) → answer_to l k ≡ accepted r → taken l (calls k ∷ ss) ≡ k ∷ taken (after l k) ss
unfolding taken
taken_accepted l k ss r e = rw e

taken_refused : (l : Ledger) (k : Call) (ss : List Step) (n : ℕ) → answer_to l k ≡ refused n → taken l (calls k ∷ ss) ≡ taken (after l k) ss
unfolding taken
taken_refused l k ss n e = rw e

grown_call : (l : Ledger) (k : Call) (ss : List Step) (x : Answer Result) → answer_to l k ≡ x → Grown (after l k) ss → Grown l (calls k ∷ ss)
unfolding after_steps grown_by answers after_all
grown_call l k ss (accepted r) e g =
    let next = after_more (grown_by ss) l k r e in
    let rest : All Accepted (answers (after (lent_more (grown_by ss) l) k) (taken (after l k) ss)) = rw next g.accepts in
    let all : All Accepted (answers (lent_more (grown_by ss) l) (k ∷ taken (after l k) ss)) = all_cons (ap is_accepted (answer_more (grown_by ss) l k r e)) rest in
    let end : after_steps (after l k) ss ≡ after_all (after (lent_more (grown_by ss) l) k) (taken (after l k) ss) = rw next g.same in
    record {
      accepts = rw (taken_accepted l k ss r e) all;
      same = rw (taken_accepted l k ss r e) end;
    }
grown_call l k ss (refused n) e g =
    let back = after_refused l k n e in
    record {
      accepts = rw (taken_refused l k ss n e)
          (subst (λ (m : Ledger). All Accepted (answers (lent_more (grown_by ss) m) (taken (after l k) ss))) back g.accepts);
      same = rw (taken_refused l k ss n e) (subst (λ (m : Ledger). after_steps (after l k) ss ≡ after_all (lent_more (grown_by ss) m) (taken (after l k) ss)) back g.same);
    }

grown : (l : Ledger) (ss : List Step) → Grown l ss
unfolding after_steps grown_by taken answers after_all
grown l [] = record { accepts = all_nil; same = more_none l }
grown l (calls k ∷ ss) = grown_call l k ss (answer_to l k) refl (grown (after l k) ss)
grown l (grows more ∷ ss) =
    let g = grown (lent_more more l) ss in
    let sum = more_more more (grown_by ss) l in
    record {
      accepts = subst (λ (m : Ledger). All Accepted (answers m (taken (lent_more more l) ss))) sum g.accepts;
      same = subst (λ (m : Ledger). after_steps (lent_more more l) ss ≡ after_all m (taken (lent_more more l) ss)) sum g.same;
    }

pub grown_boards : GrownBoards
unfolding opened open_refusals
grown_boards = record {
  accepts = λ l ss. (grown l ss).accepts;
  same = λ l ss. (grown l ss).same;
  law = λ a taken_in ss. rw (grown (opened a) ss).same (the_law (opening_for a.end a.kinds (lengthened (grown_by ss) a.lent)) taken_in (taken (opened a) ss));
}
