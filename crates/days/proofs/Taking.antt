-- Lists that are taken: one step for each return of the test. Assumes nothing.
use mathlib.Core.Path.{◌≡◌, sym, ◌∙◌}
use mathlib.Core.Bool.{Bool, true, false, ◌&&◌}
use mathlib.Core.List.{List, ◌++◌}
use Prim.Native.Nat.{ℕ, ◌≤◌, ◌<◌, min}
use Rattle.std.specs.Prelude.{Option, Some, None}
use lib.ListN.{length, get_or}
use lib.Dec.{leb}
use Rattle.std.proofs.lemmas.List.{nil_from_length}
use borrow.Author.Tests.{le-leb, lt-leb}
use Rattle.history.specs.Days.{days_of, most_days, listable, rises_from, days_taken}
use Rattle.days.specs.Stretches.{least_after}
use Rattle.days.proofs.Pairs.{pair_next}

-- what follows from the pairs that are left decides, behind the day before
pub record TakesRest (l left : List ℕ) (before : Option ℕ) : Type 0 where
  pub rest : days_taken (days_of l) ≡ rises_from (least_after before) (days_of left)

pub takes_many : (l : List ℕ) → most_days < length (days_of l) → false ≡ days_taken (days_of l)
unfolding days_taken
takes_many l h = rw (lt-leb (length (days_of l)) most_days h)

pub takes_start : (l : List ℕ) → length (days_of l) ≤ most_days → TakesRest l l None
unfolding days_taken
takes_start l h = record { rest = rw (le-leb (length (days_of l)) most_days h) }

module _ {l left : List ℕ} (pair rest : List ℕ) {w day minutes : ℕ} {before : Option ℕ} (s : TakesRest l left before) (two : w ≡ 2) (more : 0 < length left) (parts : left ≡ pair ++ rest)
    (size : length pair ≡ min w (length left)) (d : day ≡ get_or pair 0 0) (m : minutes ≡ get_or pair 1 0) where
  this : days_taken (days_of l) ≡ (leb (least_after before) day && (listable minutes && rises_from (least_after (Some day)) (days_of rest)))
  unfolding rises_from
  this = s.rest ∙ rw (pair_next left pair rest more parts (rw two at size), d, m)

  pub takes_low : {q : Bool} → q ≡ leb (least_after before) day → q ≡ false → false ≡ days_taken (days_of l)
  takes_low e h = sym (this ∙ rw (sym e ∙ h))

  pub takes_length : {q p : Bool} → q ≡ leb (least_after before) day → q ≡ true → p ≡ listable minutes → p ≡ false → false ≡ days_taken (days_of l)
  takes_length e h f g = sym (this ∙ rw (sym e ∙ h, sym f ∙ g))

  pub takes_more : {q p : Bool} → q ≡ leb (least_after before) day → q ≡ true → p ≡ listable minutes → p ≡ true → TakesRest l rest (Some day)
  takes_more e h f g = record { rest = this ∙ rw (sym e ∙ h, sym f ∙ g) }

pub takes_done : {l left : List ℕ} {before : Option ℕ} → TakesRest l left before → length left ≡ 0 → true ≡ days_taken (days_of l)
unfolding rises_from days_of
takes_done {left = left} s none = sym (s.rest ∙ rw (nil_from_length left none))

pub ruleset taking = (takes_many, takes_start, takes_low, takes_length, takes_more, takes_done)
