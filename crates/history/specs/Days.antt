-- Days of 23 and 25 hours (02, item 6): a list of days with their lengths, read from numbers; which day a minute lies in, and what the clock shows then; which
-- lists can be installed. Minutes count elapsed time. Definitions alone: their laws stand in proofs/DaysLaws.antt.
use Rattle.std.specs.Prelude.{◌≡◌, ◌⊎◌, Bool, true, cond, ◌&&◌, ◌||◌, List, [], ◌∷◌, map, ℕ, suc, ◌+◌, ◌-◌, ◌*◌, ◌/◌, ◌%◌, ◌^◌, ◌≤◌, length, leb, ltb, eqb}
use Rattle.lists.specs.Lists.{All, Ascending, count_from, sum_of}

-- ── the list ──

-- minutes of a day that is not listed, of a short one, of a long one
abbrev pub day_minutes : ℕ
day_minutes = 1440

abbrev pub short_day : ℕ
short_day = 1380

abbrev pub long_day : ℕ
long_day = 1500

abbrev pub most_days : ℕ
most_days = 64

-- a listed day: its number, and how many minutes it has
pub record Day : Type 0 where
  pub day : ℕ
  pub minutes : ℕ

-- The pairs (day, minutes) of a list of numbers. A number past its end is 0: a last day without its minutes has 0 of them.
unfoldable pub days_of : (numbers : List ℕ) → List Day
days_of [] = []
days_of (day ∷ []) = record { day = day; minutes = 0 } ∷ []
days_of (day ∷ minutes ∷ rest) = record { day = day; minutes = minutes } ∷ days_of rest

-- ── lists that can be installed (refusal 28) ──

-- the lengths that a listed day may have
abbrev pub listable : (minutes : ℕ) → Bool
listable minutes = eqb minutes short_day || eqb minutes long_day

-- days from `from` on: each is above the one before it, and has a length that it may have
unfoldable pub rises_from : (from : ℕ) → List Day → Bool
rises_from from [] = true
rises_from from (e ∷ es) = leb from e.day && (listable e.minutes && rises_from (suc e.day) es)

unfoldable pub days_taken : List Day → Bool
days_taken days = leb (length days) most_days && rises_from 0 days

-- the same, fact by fact
pub record DaysTaken (days : List Day) : Type 0 where
  pub few : length days ≤ most_days
  pub ascending : Ascending (λ (e : Day). e.day) days
  pub lengths : All (λ (e : Day). (e.minutes ≡ short_day) ⊎ (e.minutes ≡ long_day)) days

-- ── days in a row ──

-- how many minutes a day has
unfoldable pub length_of : List Day → (day : ℕ) → ℕ
length_of [] d = day_minutes
length_of (e ∷ es) d = cond (eqb e.day d) e.minutes (length_of es d)

-- the minutes of `many` days from `from` on
unfoldable pub span_of : List Day → (from many : ℕ) → ℕ
span_of days from many = sum_of (map (length_of days) (count_from from many))

-- the first minute of a day: the lengths of all earlier ones
unfoldable pub start_of : List Day → (day : ℕ) → ℕ
start_of days d = span_of days 0 d

-- ── the day of a minute ──

-- the minute of a cell: its lower 32 bits
abbrev pub minute_of : (cell : ℕ) → ℕ
minute_of cell = cell % 2 ^ 32

-- a minute as a minute of a day, and how many that day has
pub record Place : Type 0 where
  pub day : ℕ
  pub minute : ℕ
  pub length : ℕ

-- no day from `from` on is listed, as far as the minute goes
unfoldable pub unlisted : (from minute : ℕ) → Place
unlisted from m = record { day = from + m / day_minutes; minute = m % day_minutes; length = day_minutes }

-- The place of a minute that is counted from the start of day `from`. It goes from one listed day to the next, so that it can be computed; that this
-- is the day d with start_of d ≤ minute < start_of (d + 1) is a law (DaysLaw).
unfoldable pub place_from : (from : ℕ) → List Day → (minute : ℕ) → Place
place_from from [] m = unlisted from m
place_from from (e ∷ es) m =
    let gap = e.day - from in
    let into = m - gap * day_minutes in
    let after = place_from (suc e.day) es (into - e.minutes) in
    cond (ltb (m / day_minutes) gap) (unlisted from m)
    (cond (ltb into e.minutes) (record { day = e.day; minute = into; length = e.minutes }) after)

abbrev pub place_of : List Day → (minute : ℕ) → Place
place_of days m = place_from 0 days m

abbrev pub day_of : List Day → (minute : ℕ) → ℕ
day_of days m = (place_of days m).day

abbrev pub minute_in : List Day → (minute : ℕ) → ℕ
minute_in days m = (place_of days m).minute

-- ── what the clock shows ──

-- The minute that the clock shows, as a minute of 24 hours. A short day goes from 01:59 to 03:00; a long one has 02:00 to 02:59 twice.
unfoldable pub shown_on : (length minute : ℕ) → ℕ
shown_on n m = cond (eqb n short_day) (cond (ltb m 120) m (m + 60)) (cond (eqb n long_day) (cond (ltb m 180) m (m - 60)) m)

-- the minute of the day that the label shows
unfoldable pub label_minute : List Day → (minute : ℕ) → ℕ
label_minute days m = shown_on (place_of days m).length (minute_in days m)
