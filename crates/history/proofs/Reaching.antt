-- What the calls keep of a board and its history holds after every list of calls: whoever shows it of open, record and finish need not look at the others.
-- Assumes nothing.
use mathlib.Core.Path.{◌≡◌, refl, sym, subst}
use mathlib.Core.Bool.{Bool, true, false}
use mathlib.Core.List.{List, [], ◌∷◌}
use Prim.Native.Nat.{ℕ}
use Rattle.history.specs.Words.{Operation}
use Rattle.history.specs.Ledger.{Opening, Moment, Ledger, opened, finished, record_by, finish_by, install_by, install_days_by}
use Rattle.history.specs.Results.{Result}
use Rattle.history.specs.Refusals.{Answer, accepted, refused, open_answer, record_answer, finish_answer, install_answer, days_answer}
use Rattle.history.specs.Calls.{Call, record_call, finish_call, calendar_call, days_call, answer_to, accepted_by, leaves, after, after_all, noted, history}
use Rattle.history.specs.Law.{LedgerLaw}
use Rattle.history.proofs.Passing.{taken, finishes}
use Rattle.history.proofs.EveryList.{the_law, law_after}

-- a property of a board, as it was opened and as it stands, closed or not, with its history
module _ (P : (closed : Bool) → Opening → Moment → List Operation → Type 0) where
  pub record KeptByCalls : Type 0 where
    pub opens : (a : Opening) → open_answer a ≡ accepted tt → P false (opened a).opening (opened a).now []
    pub records : (l : Ledger) (h : List Operation) (scratch : ℕ) (o : Operation) {r : Result} → record_answer l scratch o ≡ accepted r → LedgerLaw l h
        → P false l.opening l.now h → P false l.opening (record_by l o).now (o ∷ h)
    pub finishes : (l : Ledger) (h : List Operation) {r : Result} → finish_answer l ≡ accepted r → LedgerLaw l h → P false l.opening l.now h → P true l.opening (finish_by l).now h

  abbrev Reached : Ledger → List Operation → Type 0
  Reached l h = P (finished l) l.opening l.now h

  module _ (kept : KeptByCalls) where
    -- an open board
    open_now : (l : Ledger) (h : List Operation) → finished l ≡ false → Reached l h → P false l.opening l.now h
    open_now l h still x = subst (λ (b : Bool). P b l.opening l.now h) still x

    after_record : (l : Ledger) (h : List Operation) (scratch : ℕ) (o : Operation) {r : Result} → record_answer l scratch o ≡ accepted r → LedgerLaw l h → Reached l h
        → Reached (record_by l o) (o ∷ h)
    unfolding record_by
    after_record l h scratch o e law x =
        let still = (taken l scratch o e).still_open in
        subst (λ (b : Bool). P b l.opening (record_by l o).now (o ∷ h)) (sym still) (kept.records l h scratch o e law (open_now l h still x))

    after_call : (l : Ledger) (h : List Operation) (k : Call) → LedgerLaw l h → Reached l h → Reached (after l k) (noted h k (answer_to l k))
    unfolding after leaves noted answer_to accepted_by finish_by install_by install_days_by
    after_call l h (record_call scratch o) law x = go (record_answer l scratch o) refl
      where
        go : (a : Answer Result) → record_answer l scratch o ≡ a → Reached (leaves a l (record_by l o)) (noted h (record_call scratch o) a)
        go (accepted r) e = after_record l h scratch o e law x
        go (refused n) e = x
    after_call l h finish_call law x = go (finish_answer l) refl
      where
        go : (a : Answer Result) → finish_answer l ≡ a → Reached (leaves a l (finish_by l)) h
        go (accepted r) e = kept.finishes l h e law (open_now l h (finishes l e).still_open x)
        go (refused n) e = x
    after_call l h (calendar_call numbers) law x = go (install_answer l numbers)
      where
        go : (a : Answer Result) → Reached (leaves a l (install_by l numbers)) h
        go (accepted r) = x
        go (refused n) = x
    after_call l h (days_call numbers) law x = go (days_answer l numbers)
      where
        go : (a : Answer Result) → Reached (leaves a l (install_days_by l numbers)) h
        go (accepted r) = x
        go (refused n) = x

    after_calls : (ks : List Call) (l : Ledger) (h : List Operation) → LedgerLaw l h → Reached l h → Reached (after_all l ks) (history h l ks)
    unfolding after_all history
    after_calls [] l h law x = x
    after_calls (k ∷ ks) l h law x = after_calls ks (after l k) (noted h k (answer_to l k)) (law_after l h k law) (after_call l h k law x)

    start : (a : Opening) → open_answer a ≡ accepted tt → Reached (opened a) []
    unfolding opened
    start a e = kept.opens a e

    pub every_board : (a : Opening) → open_answer a ≡ accepted tt → (ks : List Call)
        → P (finished (after_all (opened a) ks)) (after_all (opened a) ks).opening (after_all (opened a) ks).now (history [] (opened a) ks)
    unfolding after_all history
    every_board a e ks = after_calls ks (opened a) [] (the_law a e []) (start a e)
