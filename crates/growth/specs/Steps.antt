-- Calls and growth in any order: a board whose tables grow is the board of tables that had the room from the start. Statements alone: the proofs stand in
-- proofs/.
use Rattle.std.specs.Prelude.{◌≡◌, Bool, true, false, cond, List, [], ◌∷◌}
use Rattle.lists.specs.Lists.{All}
use Rattle.history.specs.Lent.{Lent}
use Rattle.history.specs.Ledger.{Opening, Ledger, opened}
use Rattle.history.specs.Results.{Result}
use Rattle.history.specs.Refusals.{Answer, accepted, refused, open_answer}
use Rattle.history.specs.Calls.{Call, answer_to, after, answers, after_all, history}
use Rattle.history.specs.Law.{LedgerLaw}
use Rattle.growth.specs.Longer.{lengthened, lent_more}

-- a call, or tables that grow
pub data Step : Type 0 where
  calls : Call → Step
  grows : (more : Lent) → Step

-- the ledger after them
unfoldable pub after_steps : Ledger → List Step → Ledger
after_steps l [] = l
after_steps l (calls k ∷ ss) = after_steps (after l k) ss
after_steps l (grows more ∷ ss) = after_steps (lent_more more l) ss

-- how much the tables have grown by all of them
unfoldable pub grown_by : List Step → Lent
grown_by [] = record { pieces = 0; blocks = 0; store = 0; nodes = 0; entries = 0 }
grown_by (calls k ∷ ss) = grown_by ss
grown_by (grows more ∷ ss) = lengthened (grown_by ss) more

abbrev pub is_accepted : Answer Result → Bool
is_accepted (accepted r) = true
is_accepted (refused n) = false

-- the calls that were accepted
unfoldable pub taken : Ledger → List Step → List Call
taken l [] = []
taken l (calls k ∷ ss) =
    let later = taken (after l k) ss in
    cond (is_accepted (answer_to l k)) (k ∷ later) later
taken l (grows more ∷ ss) = taken (lent_more more l) ss

pub record GrownBoards : Type 0 where
  -- In tables that had the room from the start every call that was accepted is accepted,
  pub accepts : (l : Ledger) (ss : List Step) → All (λ x. is_accepted x ≡ true) (answers (lent_more (grown_by ss) l) (taken l ss))
  -- and they leave the same ledger.
  pub same : (l : Ledger) (ss : List Step) → after_steps l ss ≡ after_all (lent_more (grown_by ss) l) (taken l ss)
  -- So the law of calls holds of a board that grows: it is well formed, and shows what the history of its accepted calls has.
  pub law : (a : Opening) → open_answer a ≡ accepted tt → (ss : List Step)
      → LedgerLaw (after_steps (opened a) ss) (history [] (lent_more (grown_by ss) (opened a)) (taken (opened a) ss))
