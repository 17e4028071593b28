-- Which calendar stands in the front of the block table's head: a flag, and the numbers behind it. Definitions alone: their laws stand in
-- proofs/Calendars.antt.
use Rattle.std.specs.Prelude.{◌≡◌, Bool, true, List, ◌∷◌, ℕ, ◌+◌, ◌≤◌, get_or, drop}
use Rattle.std.proofs.Math.Option.{Option, none, some}
use Rattle.std.proofs.lemmas.List.Edits.{sets}
use Rattle.history.specs.Days.{Day}
use Rattle.history.specs.Hours.{Calendar, calendar_width, calendar_of, closed_by, calendar_taken}
use Rattle.tables.specs.Columns.{front_calendar}
use Rattle.day_table.specs.DayLists.{DaysIn, padded}

-- ── what stands there ──

-- 0 none, 1 installed
abbrev pub flag_of : Option Calendar → ℕ
flag_of none = 0
flag_of (some c) = 1

abbrev pub flag_in : (blocks : List ℕ) → ℕ
flag_in blocks = get_or blocks front_calendar 0

-- The numbers behind the flag. A calendar does not look past its 1,272nd number.
abbrev pub numbers_in : (blocks : List ℕ) → List ℕ
numbers_in blocks = drop (front_calendar + 1) blocks

-- the block table holds this calendar, or none
pub record CalendarIn (blocks : List ℕ) (x : Option Calendar) : Type 0 where
  pub flag : flag_in blocks ≡ flag_of x
  pub numbers : (c : Calendar) → x ≡ some c → calendar_of (numbers_in blocks) ≡ c

-- ── what the functions ensure ──

-- `closed`: refusal 26, of whatever calendar and list of days stand there
pub record ClosedTold (blocks : List ℕ) (first : ℕ) (bytes : List ℕ) (r : Bool) : Type 0 where
  pub says : (days : List Day) (x : Option Calendar) → DaysIn blocks days → CalendarIn blocks x → r ≡ closed_by days x first bytes

-- `formed`: no calendar, or one that install takes
pub record CalendarFormed (blocks : List ℕ) : Type 0 where
  pub flag : flag_in blocks ≤ 1
  pub taken : flag_in blocks ≡ 1 → calendar_taken (calendar_of (numbers_in blocks)) ≡ true

-- `install`: the flag and 1,272 numbers, zeros where there are fewer; all else as it was
abbrev pub calendar_numbers : (numbers : List ℕ) → List ℕ
calendar_numbers numbers = padded numbers calendar_width

abbrev pub installed_in : (blocks numbers : List ℕ) → List ℕ
installed_in blocks numbers = sets blocks front_calendar (1 ∷ calendar_numbers numbers)
