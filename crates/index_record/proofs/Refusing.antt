-- The ledger's refusals of record from those of the numbers: the call's come first, then that of the calendar, and those of space are an update's alone.
-- Assumes nothing.
use mathlib.Core.Path.{◌≡◌, refl, ◌∙◌}
use mathlib.Core.Bool.{Bool, true, false, cond, ◌&&◌, not}
use mathlib.Core.List.{List, [], ◌∷◌, ◌++◌}
use Prim.Native.Nat.{ℕ, ◌+◌, ◌-◌, ◌^◌, ◌<◌}
use native.Mathlib.Omega.{arith}
use lib.Dec.{ltb}
use lib.ListN.{length}
use borrow.Author.Tests.{ltb-false, eqb-false}
use Rattle.history.specs.Words.{Operation}
use Rattle.history.specs.Hours.{closed_by}
use Rattle.history.specs.Lent.{too_short, piece_rows, block_rows, least_scratch}
use Rattle.history.specs.Ledger.{changed, Ledger, finished, opens_kind, is_read, update_by}
use Rattle.history.specs.Results.{Result, result_of}
use Rattle.history.specs.Refusals.{Answer, accepted, refused, Refusal, ◌if◌, first_of, record_refusals, record_answer}
use Rattle.history.proofs.Passing.{passed}
use Rattle.index_record.specs.Refusing.{call_refusals, space_refusals, first_answer}

-- ── one list behind another ──

first_front : (rs ss : List Refusal) (n : ℕ) → first_answer rs ≡ refused n → first_answer (rs ++ ss) ≡ refused n
unfolding first_of
first_front [] ss n e = let z : ◌≡◌ {A = ℕ} 0 1 = cc in absurd (omega arith)
first_front (r ∷ rs) ss n e = go r.holds e (first_front rs ss n)
  where
    go : (b : Bool) → cond b (refused r.number) (first_answer rs) ≡ refused n → (first_answer rs ≡ refused n → first_answer (rs ++ ss) ≡ refused n)
        → cond b (refused r.number) (first_answer (rs ++ ss)) ≡ refused n
    go true e k = e
    go false e k = k e

first_back : (rs ss : List Refusal) → first_answer rs ≡ accepted tt → first_answer (rs ++ ss) ≡ first_answer ss
unfolding first_of
first_back [] ss e = refl
first_back (r ∷ rs) ss e = go r.holds e (first_back rs ss)
  where
    go : (b : Bool) → cond b (refused r.number) (first_answer rs) ≡ accepted tt → (first_answer rs ≡ accepted tt → first_answer (rs ++ ss) ≡ first_answer ss)
        → cond b (refused r.number) (first_answer (rs ++ ss)) ≡ first_answer ss
    go true e k = let z : ◌≡◌ {A = ℕ} 0 1 = cc in absurd (omega arith)
    go false e k = k e

-- whatever is given where none holds
value_refused : {A : Type 0} (rs : List Refusal) (a : A) (n : ℕ) → first_answer rs ≡ refused n → first_of rs a ≡ refused n
unfolding first_of
value_refused [] a n e = let z : ◌≡◌ {A = ℕ} 0 1 = cc in absurd (omega arith)
value_refused {A} (r ∷ rs) a n e = go r.holds e (value_refused rs a n)
  where
    go : (b : Bool) → cond b (refused r.number) (first_answer rs) ≡ refused n → (first_answer rs ≡ refused n → first_of rs a ≡ refused n)
        → cond {A = Answer A} b (refused r.number) (first_of rs a) ≡ refused n
    go true e k = let z : r.number ≡ n = cc in rw z
    go false e k = k e

value_accepted : {A : Type 0} (rs : List Refusal) (a : A) → first_answer rs ≡ accepted tt → first_of rs a ≡ accepted a
unfolding first_of
value_accepted [] a e = refl
value_accepted {A} (r ∷ rs) a e = go r.holds e (value_accepted rs a)
  where
    go : (b : Bool) → cond b (refused r.number) (first_answer rs) ≡ accepted tt → (first_answer rs ≡ accepted tt → first_of rs a ≡ accepted a)
        → cond {A = Answer A} b (refused r.number) (first_of rs a) ≡ accepted a
    go true e k = let z : ◌≡◌ {A = ℕ} 0 1 = cc in absurd (omega arith)
    go false e k = k e

-- ── the call ──

-- what is known of a call that passes 25 and 5 to 8
pub record Sized (first size : ℕ) : Type 0 where
  pub some : 0 < size
  pub near : first + size < 2 ^ 64

pub call_sized : (opened : Bool) (end last tick first size : ℕ) → first_answer (call_refusals opened end last tick first size) ≡ accepted tt → Sized first size
unfolding call_refusals
call_sized opened end last tick first size e =
    let p = passed _ tt e in
    record { some = above (eqb-false _ _ p.1.0); near = omega (arith, ltb-false (2 ^ 64 - 1) (first + size) p.1.1.0) }
  where
    above : (size ≡ 0 → ⊥) → 0 < size
    above h = omega arith

-- ── the ledger's answer ──

-- of an open one
module _ (l : Ledger) (scratch : ℕ) (o : Operation) (fits : too_short l.opening.lent ≡ false) (long : ltb scratch least_scratch ≡ false) (still : finished l ≡ false) where
  abbrev of_call : List Refusal
  of_call = call_refusals (opens_kind l o.kind) l.opening.end l.now.last o.tick o.first (length o.bytes)

  -- those of space, if it is an update
  abbrev of_update : (update : Bool) → List Refusal
  of_update update =
      let next = update_by l.now o in
      9 if (update && ltb (piece_rows l.opening.lent) (length next.pieces))
      ∷ 10 if (update && ltb (block_rows l.opening.lent) (length next.blocks + length next.pieces))
      ∷ 11 if (update && ltb l.opening.lent.store (length next.store))
      ∷ []

  abbrev of_space_lem : List Refusal
  of_space_lem =
      let next = update_by l.now o in
      space_refusals (piece_rows l.opening.lent) (block_rows l.opening.lent) l.opening.lent.store (length next.pieces) (length next.blocks) (length next.store)

  -- 26 in front of them
  abbrev outside : Bool
  outside = closed_by l.days l.calendar o.first o.bytes

  abbrev rest : List Refusal
  rest = 26 if outside ∷ of_update (not (is_read l.now o))

  -- what an accepted call gives
  abbrev given : Result
  given = result_of o.kind (changed l.now o)

  split : record_answer l scratch o ≡ first_of (of_call ++ rest) given
  unfolding record_refusals call_refusals first_of
  split = rw (fits, long, still)

  pub answer_call : (n : ℕ) → first_answer of_call ≡ refused n → record_answer l scratch o ≡ refused n
  answer_call n e = split ∙ value_refused (of_call ++ rest) given n (first_front of_call rest n e)

  module _ (e : first_answer of_call ≡ accepted tt) where
    pub answer_closed : outside ≡ true → record_answer l scratch o ≡ refused 26
    unfolding first_of
    answer_closed out = split ∙ value_refused (of_call ++ rest) given 26 (first_back of_call rest e ∙ rw out)

    module _ (inside : outside ≡ false) where
      pub answer_read : is_read l.now o ≡ true → record_answer l scratch o ≡ accepted (result_of o.kind (changed l.now o))
      unfolding first_of
      answer_read read = split ∙ value_accepted (of_call ++ rest) given (first_back of_call rest e ∙ rw (inside, read))

      of_space : is_read l.now o ≡ false → first_answer (of_call ++ rest) ≡ first_answer of_space_lem
      unfolding space_refusals first_of
      of_space read = first_back of_call rest e ∙ rw (inside, read)

      pub answer_space : is_read l.now o ≡ false → (n : ℕ) → first_answer of_space_lem ≡ refused n → record_answer l scratch o ≡ refused n
      answer_space read n full = split ∙ value_refused (of_call ++ rest) given n (of_space read ∙ full)

      pub answer_update : is_read l.now o ≡ false → first_answer of_space_lem ≡ accepted tt → record_answer l scratch o ≡ accepted (result_of o.kind (changed l.now o))
      answer_update read free = split ∙ value_accepted (of_call ++ rest) given (of_space read ∙ free)
