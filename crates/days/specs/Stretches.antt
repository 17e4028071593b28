-- What the functions of this crate ensure, beside the definitions of `Days` (crate history). Definitions alone: their laws stand in proofs/.
use Rattle.std.specs.Prelude.{◌≡◌, List, ℕ, suc, ◌+◌, ◌≤◌, ◌<◌, Option, Some, None}
use Rattle.history.specs.Days.{Day, Place, day_of, shown_on, label_minute}

-- the least day that may stand behind the day before, if there is one
abbrev pub least_after : (before : Option ℕ) → ℕ
least_after None = 0
least_after (Some last) = suc last

-- `day`, `minute` and `length` are those of a place
pub record Placed (place : Place) (day minute length : ℕ) : Type 0 where
  pub in-day : day ≡ place.day
  pub at_minute : minute ≡ place.minute
  pub of_length : length ≡ place.length

-- `turn` is a minute of the day behind this one up to which labels go on by one
pub record TurnsAt (length minute turn : ℕ) : Type 0 where
  pub after : minute < turn
  pub inside : turn ≤ length
  pub shows : (k : ℕ) → minute + k < turn → shown_on length (minute + k) ≡ shown_on length minute + k

-- n minutes from minute m on are of this day, and their labels go on by one from this one
pub record GoesOn (days : List Day) (m day label n : ℕ) : Type 0 where
  pub in-day : (k : ℕ) → k < n → day_of days (m + k) ≡ day
  pub shows : (k : ℕ) → k < n → label_minute days (m + k) ≡ label + k

-- the day of minute m and its label, and that n minutes, at least that one, go on so
pub record Stretches (days : List Day) (m day label n : ℕ) : Type 0 where
  pub in-day : day ≡ day_of days m
  pub shows : label ≡ label_minute days m
  pub some : 0 < n
  pub ahead : GoesOn days m day label n
