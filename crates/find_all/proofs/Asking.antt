-- The steps of `find_all`: a find takes no more numbers than it is lent; each return; the loop, in which what is asked from a query on completes what was asked
-- before it. Assumes nothing.
use mathlib.Core.Path.{◌≡◌, refl, sym, ◌∙◌, subst}
use mathlib.Core.Logic.{◌⊎◌, inl, inr, ⊎_elim}
use mathlib.Core.List.{List, [], ◌∷◌, ◌++◌, append-nil, append_assoc}
use Prim.Native.Nat.{ℕ, suc, ◌+◌, ◌-◌, ◌*◌, ◌/◌, ◌^◌, ◌≤◌, ◌<◌, min}
use native.Mathlib.Omega.{arith}
use lib.ListN.{length, get_or, take, drop, length-drop}
use lib.Dec.{ltb}
use lib.Seq.{sets, take_all, drop-length}
use borrow.Author.Tests.{ltb-false}
use borrow.Rule.Slice.PartMut.{Post-is}
use Rattle.history.specs.Ledger.{Ledger}
use Rattle.history.specs.Reads.{Found, find_by}
use Rattle.history.specs.Refusals.{Answer, accepted, refused, Refusal, first_of, window_refusals, find_answer}
use Rattle.history.proofs.Passing.{Passed, passed}
use Rattle.layout.specs.Tables.{Tables, tables}
use Rattle.layout.specs.Formed.{WellFormed}
use Rattle.layout.specs.Reads.{values_of}
use Rattle.layout.specs.Relations.{Counts, counts_of, FoundBy}
use Rattle.std.specs.Prelude.{Result, Ok, Err}
use Rattle.refusals.specs.declared.Refusal.{Refusal as Named}
use Rattle.refusals.specs.Numbers.{number_of, answer_by}
use Rattle.index_read.specs.Answers.{counts_given}
use Rattle.index_read.specs.declared.Found.{Found as Told}
use Rattle.index_test.specs.Board.{Outcome}
use Rattle.index_test.specs.declared.State.{State}
use Rattle.index_test.specs.declared.State.TheVariants.{Bad, Open, Closed}
use Rattle.index_tested.specs.Kept.{Kept}
use Rattle.index_tested.specs.Tested.{FoundTested}
use Rattle.index_tested.proofs.Keeping.{test_keeps}
use Rattle.call_lists.proofs.Threes.{Shown, shown-none, shown-length, shown_more}
use Rattle.find_all.specs.Many.{shown_of, taken, Finds, finds_none, finds_more, FoundAll, FoundBehind, FoundOne}

-- ── no more numbers than are lent ──

same_found : {f g : Found} → ◌≡◌ {A = Answer Found} (accepted f) (accepted g) → f ≡ g
same_found e = cc

-- of the ledger: else it is refused 16
module _ (l : Ledger) (kind tick start stop room : ℕ) where
  abbrev found : Found
  found = find_by l kind tick start stop

  abbrev refusals : List Refusal
  refusals = window_refusals l kind tick start stop (ltb room (length found.numbers))

  answer_given : Passed refusals → find_answer l kind tick start stop room ≡ accepted found
  unfolding window_refusals first_of
  answer_given p = rw (p.0, p.1.0, p.1.1.0, p.1.1.1.0, p.1.1.1.1.0, p.1.1.1.1.1.0) refl

  answer_fits : (x : Answer Found) → find_answer l kind tick start stop room ≡ x → taken (values_of counts_of x) ≤ room
  unfolding window_refusals
  answer_fits (refused n) e = omega arith
  answer_fits (accepted f) e = let p = passed refusals found e in rw (same_found (sym e ∙ answer_given p)) (ltb-false _ _ p.1.1.1.1.1.0)

-- tables of which a state is true are well formed, or are not
formed_or : {t : Tables} (s : State) → Kept s t → WellFormed t ⊎ (WellFormed t → ⊥)
formed_or Bad k = inr (k.unformed refl)
formed_or Open k = inl (k.opened refl).formed
formed_or Closed k = inl (k.closed refl).formed

found_fits : {s : State} {t : Tables} {kind tick start stop : ℕ} {out out' : List ℕ} {a : Answer Counts} → Kept s t → FoundBy t kind tick start stop out out' a → taken a ≤ length out
found_fits {s} {t} {kind} {tick} {start} {stop} {out} {out'} {a} k f =
    ⊎_elim
    (λ w. rw (f.read.formed w.ledger w.encodes w.sound).answered (answer_fits w.ledger kind tick start stop (length out) _ refl))
    (λ n. rw (f.read.unformed n).answered (omega arith))
    (formed_or s k)

-- ── one query ──

-- the part behind `used` numbers is all that there is
pub found_behind : {s : State} {blocks nodes entries queries numbers out : List ℕ} {kind i used : ℕ} {a : Answer Counts} → used ≤ length numbers
    → FoundTested s blocks nodes entries kind (get_or queries (3 * i) 0) (get_or queries (3 * i + 1) 0) (get_or queries (3 * i + 2) 0) (take (length numbers - used) (drop used numbers)) out a
    → FoundBehind s blocks nodes entries kind queries i numbers used (take used numbers ++ (out ++ drop (length numbers - used) (drop used numbers))) a
found_behind {queries = queries} {numbers} {out} {i = i} {used} inside f =
    let part : take (length numbers - used) (drop used numbers) ≡ drop used numbers = take_all (length numbers - used) (drop used numbers) (omega (arith, length-drop used numbers)) in
    let rest : drop (length numbers - used) (drop used numbers) ≡ [] = Post-is used (length numbers) numbers inside ∙ drop-length numbers in
    let first : 3 * i + 0 ≡ 3 * i = omega arith in
    record { out = out; tested = rw first (rw part at f); is = rw (rest, append-nil out) refl }

module _ {s : State} {blocks nodes entries queries answers answers' numbers numbers' : List ℕ} {kind i used : ℕ} {r : Result Told Named} where
  pub one-listed : {found : Told} {used' : ℕ} → r ≡ Ok found → FoundBehind s blocks nodes entries kind queries i numbers used numbers' (answer_by counts_given r)
      → answers' ≡ sets answers (3 * i) (0 ∷ found.count ∷ found.visited ∷ []) → used' ≡ min (used + found.count) (length numbers)
      → FoundOne s blocks nodes entries kind queries i answers answers' numbers numbers' used used'
  one-listed {found} e f p b = record { answer = accepted (counts_given found); found = rw e at f; shown = p; behind = b }

  pub one_refused : {x : Named} {n : ℕ} → r ≡ Err x → n ≡ number_of x → FoundBehind s blocks nodes entries kind queries i numbers used numbers' (answer_by counts_given r)
      → answers' ≡ sets answers (3 * i) (n ∷ 0 ∷ 0 ∷ []) → used ≤ length numbers → FoundOne s blocks nodes entries kind queries i answers answers' numbers numbers' used used
  one_refused {x} e m f p b = record { answer = refused (number_of x); found = rw e at f; shown = rw m at p; behind = omega arith }

pub ruleset ones = (one-listed, one_refused)

-- ── between turns ──

-- i queries have been asked, and whatever is asked from there on completes them
pub record Turning (s : State) (t : Tables) (kind : ℕ) (queries answers₀ answers numbers₀ numbers : List ℕ) (most i used : ℕ) : Type 0 where
  pub given : List (Answer Counts)
  pub kept : Kept s t
  pub shown : Shown shown_of given answers₀ answers i
  pub places : most ≡ min (length queries) (length answers₀) / 3
  pub few : length answers₀ < 2 ^ 64
  pub inside : used ≤ length numbers
  pub left : ℕ
  pub room : i + left ≡ most
  pub whole : (more : List (Answer Counts)) (numbers' : List ℕ) → Finds t kind queries left i numbers used more numbers' → Finds t kind queries most 0 numbers₀ 0 (given ++ more) numbers'

pub turn_first : {s : State} {t : Tables} {kind : ℕ} {queries answers numbers : List ℕ} {shorter : ℕ} → Outcome s t → length answers < 2 ^ 64
    → shorter ≡ min (length queries) (length answers) → Turning s t kind queries answers answers numbers numbers (shorter / 3) 0 0
turn_first {s} {t} {shorter = shorter} told few e = record {
  given = [];
  kept = test_keeps s t told;
  shown = shown-none;
  places = rw e refl;
  few = few;
  inside = omega arith;
  left = shorter / 3;
  room = omega arith;
  whole = λ more numbers' p. p;
}

module _ {s : State} {t : Tables} {kind : ℕ} {queries answers₀ answers numbers₀ numbers : List ℕ} {most i used : ℕ} (turn : Turning s t kind queries answers₀ answers numbers₀ numbers most i used) where
  -- there is a whole query more, and a place for its answer
  pub turn_query : i < most → 3 * i + 3 ≤ length queries
  turn_query h = omega (arith, turn.places)

  pub turn_room : i < most → 3 * i + 3 ≤ length answers
  turn_room h = omega (arith, turn.places, shown-length turn.shown)

  pub turn_inside : used ≤ length numbers
  turn_inside = turn.inside

  pub turn_count : i < most → i + 1 < 2 ^ 64
  turn_count h = omega (arith, turn.places, turn.few)

  -- none is left
  pub turn_end : most ≤ i → FoundAll t kind queries answers₀ answers numbers₀ numbers most
  turn_end h =
      let none : turn.left ≡ 0 = omega (arith, turn.room) in
      let all = turn.whole [] numbers (subst (λ (n : ℕ). Finds t kind queries n i numbers used [] numbers) (sym none) finds_none) in
      record {
        given = turn.given;
        calls =
            subst (λ (n : ℕ). Finds t kind queries n 0 numbers₀ 0 turn.given numbers) turn.places
            (subst (λ (g : List (Answer Counts)). Finds t kind queries most 0 numbers₀ 0 g numbers) (append-nil turn.given) all);
        shown = turn.shown.put;
        counted = omega (arith, turn.shown.counted, turn.room);
      }

module _ {s : State} {pieces blocks store nodes entries queries answers₀ answers numbers₀ numbers : List ℕ} {kind most i used : ℕ}
    (turn : Turning s (tables pieces blocks store nodes entries) kind queries answers₀ answers numbers₀ numbers most i used) (more : i < most) where
  -- one query more
  pub turn_on : {answers' numbers' : List ℕ} {used' : ℕ} → length numbers' ≡ length numbers
      → FoundOne s blocks nodes entries kind queries i answers answers' numbers numbers' used used'
      → Turning s (tables pieces blocks store nodes entries) kind queries answers₀ answers' numbers₀ numbers' most (i + 1) used'
  turn_on {answers'} {numbers'} {used'} long d =
      let t = tables pieces blocks store nodes entries in
      let a = d.answer in
      let one = d.found.tested.done pieces store turn.kept in
      let next : used + taken a ≡ used' = omega (arith, found_fits turn.kept one, length-drop used numbers, d.behind, turn.inside) in
      let one_left : turn.left ≡ suc (turn.left - 1) = omega (arith, turn.room) in
      record {
        given = turn.given ++ a ∷ [];
        kept = turn.kept;
        shown = shown_more turn.shown a d.shown;
        places = turn.places;
        few = turn.few;
        inside = omega (arith, d.behind, long);
        left = turn.left - 1;
        room = omega (arith, turn.room);
        whole = λ others numbers'' p.
            subst (λ (g : List (Answer Counts)). Finds t kind queries most 0 numbers₀ 0 g numbers'') (sym (append_assoc turn.given (a ∷ []) others))
            (turn.whole (a ∷ others) numbers''
            (subst (λ (n : ℕ). Finds t kind queries n i numbers used (a ∷ others) numbers'') (sym one_left)
            (finds_more one (rw (next, sym d.found.is) p))));
      }
