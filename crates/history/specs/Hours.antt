-- Station hours (02, items 5, 6 and 8): a calendar, read from numbers; which cells it opens; which calendars can be installed; which operations it refuses.
-- Definitions alone: their laws stand in proofs/HoursLaws.antt.
use Rattle.std.specs.Prelude.{◌≡◌, Bool, true, false, cond, not, ◌&&◌, ◌||◌, List, [], ◌∷◌, map, ℕ, suc, ◌+◌, ◌*◌, ◌%◌, ◌≤◌, ◌<◌, min, length, get_or, leb, ltb, eqb}
use Rattle.std.proofs.Math.Option.{Option, none, some}
use Rattle.lists.specs.Lists.{All, Ascending, count_from}
use Rattle.history.specs.Rules.{every}
use Rattle.history.specs.Days.{Day, day_minutes, minute_of, day_of, label_minute}

-- ── calendars ──

-- [from, to), in minutes of the day
pub record Window : Type 0 where
  pub from : ℕ
  pub to : ℕ

-- The windows of a day: how many it is said to have, and those of them that have a place, eight at most.
pub record Hours : Type 0 where
  pub stated : ℕ
  pub windows : List Window

-- a day by its number, with windows of its own
pub record Special : Type 0 where
  pub day : ℕ
  pub hours : Hours

-- The hours of the seven weekdays, Monday first; how many special days there are said to be, and those that have a place, 64 at most.
pub record Calendar : Type 0 where
  pub week : List Hours
  pub stated : ℕ
  pub special : List Special

abbrev pub weekdays : ℕ
weekdays = 7

abbrev pub most_windows : ℕ
most_windows = 8

abbrev pub most_special : ℕ
most_special = 64

-- ── a calendar from numbers ──

-- Seven times (count, eight pairs from, to), Monday first; a count; 64 times (day, count, eight pairs). Past the end of the numbers all are 0. Pairs and
-- days past their count are not looked at.

-- a count and eight pairs
abbrev pub hours_width : ℕ
hours_width = 17

-- the count of special days stands behind the week, and the first special day behind it
abbrev pub special_count : ℕ
special_count = 119

abbrev pub special_first : ℕ
special_first = 120

abbrev pub special_width : ℕ
special_width = 18

-- behind the 64th special day
abbrev pub calendar_width : ℕ
calendar_width = 1272

-- window j of the hours that stand at a place
abbrev pub window_at : (numbers : List ℕ) (at j : ℕ) → Window
window_at numbers at j = record { from = get_or numbers (at + 1 + 2 * j) 0; to = get_or numbers (at + 2 + 2 * j) 0 }

unfoldable pub hours_at : (numbers : List ℕ) (at : ℕ) → Hours
hours_at numbers at =
    record {
      stated = get_or numbers at 0;
      windows = map (window_at numbers at) (count_from 0 (min (get_or numbers at 0) most_windows));
    }

-- where the hours of a weekday stand, a special day, and its hours
abbrev pub weekday_place : (weekday : ℕ) → ℕ
weekday_place weekday = hours_width * weekday

abbrev pub special_place : (k : ℕ) → ℕ
special_place k = special_first + special_width * k

abbrev pub weekday_at : (numbers : List ℕ) (weekday : ℕ) → Hours
weekday_at numbers weekday = hours_at numbers (weekday_place weekday)

abbrev pub special_at : (numbers : List ℕ) (k : ℕ) → Special
special_at numbers k = record { day = get_or numbers (special_place k) 0; hours = hours_at numbers (special_place k + 1) }

unfoldable pub calendar_of : (numbers : List ℕ) → Calendar
calendar_of numbers =
    record {
      week = map (weekday_at numbers) (count_from 0 weekdays);
      stated = get_or numbers special_count 0;
      special = map (special_at numbers) (count_from 0 (min (get_or numbers special_count 0) most_special));
    }

-- ── open and closed ──

-- 0 is Monday, and so is day 0
abbrev pub weekday_of : (day : ℕ) → ℕ
weekday_of day = day % weekdays

abbrev pub covers : (minute : ℕ) → Window → Bool
covers minute w = leb w.from minute && ltb minute w.to

-- some window covers the minute of the day
unfoldable pub covered : (minute : ℕ) → List Window → Bool
covered minute [] = false
covered minute (w ∷ ws) = covers minute w || covered minute ws

-- the windows of the special day of this number; none where there is no such day. In a calendar that is taken, days do not repeat.
unfoldable pub special_of : (day : ℕ) → List Special → Option (List Window)
special_of day [] = none
special_of day (s ∷ ss) = cond (eqb s.day day) (some s.hours.windows) (special_of day ss)

-- those windows, or others where there is no such day
abbrev pub or_else : Option (List Window) → (others : List Window) → List Window
or_else none others = others
or_else (some ws) others = ws

-- a day without windows
abbrev pub shut : Hours
shut = record { stated = 0; windows = [] }

abbrev pub weekday_windows : Calendar → (day : ℕ) → List Window
weekday_windows c day = (get_or c.week (weekday_of day) shut).windows

-- The windows that count on a day: those of its special day alone, also where it has none; on any other day those of its weekday.
unfoldable pub windows_of : Calendar → (day : ℕ) → List Window
windows_of c day = or_else (special_of day c.special) (weekday_windows c day)

-- A minute of a platform is open: some window of its day covers its label. Day and label go by the list of days.
unfoldable pub open_minute : List Day → Calendar → (minute : ℕ) → Bool
open_minute days c minute = covered (label_minute days minute) (windows_of c (day_of days minute))

abbrev pub open_cell : List Day → Calendar → (cell : ℕ) → Bool
open_cell days c cell = open_minute days c (minute_of cell)

-- a byte on a cell is refused: it is not 0, and the cell is closed
abbrev pub refused_on : List Day → Calendar → (cell byte : ℕ) → Bool
refused_on days c cell byte = not (eqb byte 0) && not (open_cell days c cell)

-- Refusal 26: some byte of an operation is refused.
unfoldable pub closed_cell : List Day → Calendar → (first : ℕ) (bytes : List ℕ) → Bool
closed_cell days c first [] = false
closed_cell days c first (b ∷ bs) = refused_on days c first b || closed_cell days c (suc first) bs

-- Until the first calendar is installed, every cell is open.
abbrev pub closed_by : List Day → Option Calendar → (first : ℕ) (bytes : List ℕ) → Bool
closed_by days none first bytes = false
closed_by days (some c) first bytes = closed_cell days c first bytes

-- 26 of a calendar, by the place of the byte
pub record ClosedAt (days : List Day) (c : Calendar) (first : ℕ) (bytes : List ℕ) (place : ℕ) : Type 0 where
  pub inside : place < length bytes
  pub written : get_or bytes place 0 ≡ 0 → ⊥
  pub closed : open_cell days c (first + place) ≡ false

pub record SomeClosed (days : List Day) (c : Calendar) (first : ℕ) (bytes : List ℕ) : Type 0 where
  pub place : ℕ
  pub there : ClosedAt days c first bytes place

-- ── calendars that can be installed (refusal 27) ──

abbrev pub window_taken : Window → Bool
window_taken w = ltb w.from w.to && leb w.to day_minutes

unfoldable pub hours_taken : Hours → Bool
hours_taken h = leb h.stated most_windows && every window_taken h.windows

abbrev pub special_taken : Special → Bool
special_taken s = hours_taken s.hours

-- each day is above the one before it
unfoldable pub rises : (before : ℕ) → List Special → Bool
rises before [] = true
rises before (s ∷ ss) = ltb before s.day && rises s.day ss

unfoldable pub days_ascend : List Special → Bool
days_ascend [] = true
days_ascend (s ∷ ss) = rises s.day ss

unfoldable pub calendar_taken : Calendar → Bool
calendar_taken c = every hours_taken c.week && (leb c.stated most_special && (every special_taken c.special && days_ascend c.special))

-- the same, fact by fact
pub record WindowTaken (w : Window) : Type 0 where
  pub ordered : w.from < w.to
  pub in-day : w.to ≤ day_minutes

pub record HoursTaken (h : Hours) : Type 0 where
  pub few : h.stated ≤ most_windows
  pub all : All WindowTaken h.windows

pub record CalendarTaken (c : Calendar) : Type 0 where
  pub weekdays-taken : All HoursTaken c.week
  pub few : c.stated ≤ most_special
  pub special-taken : All (λ s. HoursTaken s.hours) c.special
  pub ascending : Ascending (λ s. s.day) c.special

-- install would take it: it is the calendar of some numbers, and has no such fault
pub record Installable (c : Calendar) : Type 0 where
  pub numbers : List ℕ
  pub is : calendar_of numbers ≡ c
  pub taken : calendar_taken c ≡ true

-- so is what is installed, if anything is
abbrev pub NoneOrInstallable : Option Calendar → Type 0
NoneOrInstallable none = Unit {0}
NoneOrInstallable (some c) = Installable c
