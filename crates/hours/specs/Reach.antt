-- What the functions of this crate ensure, beside the definitions of `Hours` (crate history). Definitions alone: their laws stand in proofs/.
use Rattle.std.specs.Prelude.{◌≡◌, ◌⊎◌, true, false, cond, List, [], ◌∷◌, map, ℕ, ◌+◌, ◌≤◌, ◌<◌, Option, Some, None, MatchOption}
use Rattle.std.proofs.Math.Option.{none, some}
use Rattle.lists.specs.Lists.{count_from}
use Rattle.history.specs.Days.{Day}
use Rattle.hours.specs.declared.Window as code
use Rattle.history.specs.Hours.{Window, Special, Calendar, window_at, special_at, calendar_of, hours_at, calendar_width, covers, special_of, open_cell}

-- a window as the code has it
abbrev pub the_window : code.Window → Window
the_window w = record { from = w.from; to = w.to }

-- the end of the first window that covers the minute of the day, if one does
unfoldable pub until_of : (minute : ℕ) → List Window → Option ℕ
until_of minute [] = None
until_of minute (w ∷ ws) = cond (covers minute w) (Some w.to) (until_of minute ws)

-- where the hours of the special day of this number stand, if there is such a day
pub record StandsAt (numbers : List ℕ) (day place : ℕ) : Type 0 where
  pub low : place ≤ calendar_width
  pub present : special_of day (calendar_of numbers).special ≡ some (hours_at numbers place).windows

abbrev pub SpecialStands : (numbers : List ℕ) (day : ℕ) (place : Option ℕ) → Type 0
SpecialStands numbers day place = MatchOption place (special_of day (calendar_of numbers).special ≡ none) (StandsAt numbers day)

-- n cells from this one on are open
pub record OpenFor (days : List Day) (c : Calendar) (cell n : ℕ) : Type 0 where
  pub each : (k : ℕ) → k < n → open_cell days c (cell + k) ≡ true

-- so many cells, at least this one, are open from this one on; if it says none, this one is closed
abbrev pub Reaches : (days : List Day) (c : Calendar) (cell : ℕ) (r : Option ℕ) → Type 0
Reaches days c cell r = MatchOption r (open_cell days c cell ≡ false) (λ n. (0 < n) × OpenFor days c cell n)

-- so many cells from this one on pass: they are open, or it is this one alone, with a byte of 0; if it says none, its byte is refused
abbrev pub Passes : (days : List Day) (c : Calendar) (cell byte : ℕ) (r : Option ℕ) → Type 0
Passes days c cell byte r =
    MatchOption r ((byte ≡ 0 → ⊥) × (open_cell days c cell ≡ false)) (λ n. (0 < n) × (((byte ≡ 0) × (n ≡ 1)) ⊎ OpenFor days c cell n))

-- n special days from the k-th on, as they stand
abbrev pub special_from : (numbers : List ℕ) (k n : ℕ) → List Special
special_from numbers k n = map (special_at numbers) (count_from k n)

-- n windows from the j-th on, of the hours that stand at a place
abbrev pub windows_from : (numbers : List ℕ) (at j n : ℕ) → List Window
windows_from numbers at j n = map (window_at numbers at) (count_from j n)
