-- What is proved of station hours: of the definitions in Hours, and of the calls that go by them. Statements alone: the proofs stand in proofs/.
use Rattle.std.specs.Prelude.{◌≡◌, true, false, List, [], ◌∷◌, ℕ, ◌+◌, ◌*◌, ◌%◌, ◌^◌, ◌≤◌, ◌<◌, length, get_or, replicate}
use Rattle.std.proofs.Math.Option.{none, some}
use Rattle.lists.specs.Lists.{All, Mem, Ascending}
use Rattle.lists.specs.Tests.{Decides}
use Rattle.history.specs.Words.{Operation}
use Rattle.history.specs.Ledger.{Opening, Ledger, opened}
use Rattle.history.specs.Results.{Result}
use Rattle.history.specs.Refusals.{Answer, accepted, refused, record_answer}
use Rattle.history.specs.Calls.{Call, record_call, finish_call, calendar_call, days_call, answer_to, after, answers}
use Rattle.history.specs.Days.{Day, DaysTaken, day_minutes, minute_of, day_of, label_minute}
use Rattle.history.specs.Hours.{Window, Special, Calendar, weekdays, calendar_width, calendar_of, weekday_of, covered, special_of, weekday_windows, open_cell, closed_cell, SomeClosed, calendar_taken, CalendarTaken}

-- ── days, while none is listed ──

-- Within a day, day and label go on by the minute; at midnight the next day starts; after a Sunday a Monday comes.
pub record Within (minute : ℕ) : Type 0 where
  pub day : day_of [] (minute + 1) ≡ day_of [] minute
  pub label : label_minute [] (minute + 1) ≡ label_minute [] minute + 1

pub record Midnight (minute : ℕ) : Type 0 where
  pub day : day_of [] (minute + 1) ≡ day_of [] minute + 1
  pub weekday : weekday_of (day_of [] (minute + 1)) ≡ (weekday_of (day_of [] minute) + 1) % weekdays
  pub label : label_minute [] (minute + 1) ≡ 0

-- The last cell of a platform is of day 2,982,616, a Monday, at 04:15; the next one is minute 0 of the next platform, of day 0.
pub record PlatformEnd (platform : ℕ) : Type 0 where
  pub last_day : day_of [] (minute_of (platform * 2 ^ 32 + 0xffffffff)) ≡ 2982616
  pub last_label : label_minute [] (minute_of (platform * 2 ^ 32 + 0xffffffff)) ≡ 255
  pub next_minute : minute_of (platform * 2 ^ 32 + 0xffffffff + 1) ≡ 0

pub record LawOfPlainDays : Type 0 where
  pub within : (minute : ℕ) → label_minute [] minute + 1 < day_minutes → Within minute
  pub midnight : (minute : ℕ) → label_minute [] minute + 1 ≡ day_minutes → Midnight minute
  pub platform_end : (platform : ℕ) → PlatformEnd platform

-- ── open cells ──

-- one of the windows covers the minute
pub record SomeCovers (minute : ℕ) (ws : List Window) : Type 0 where
  pub window : Window
  pub member : Mem window ws
  pub from : window.from ≤ minute
  pub below : minute < window.to

abbrev pub whole_day : Window
whole_day = record { from = 0; to = day_minutes }

-- all of every weekday open, and no special day
pub record AlwaysOpen (c : Calendar) : Type 0 where
  pub seven : length c.week ≡ weekdays
  pub whole : All (λ h. Mem whole_day h.windows) c.week
  pub no_special : c.special ≡ []

pub record LawOfOpening : Type 0 where
  -- covered is by some window
  pub covers : (minute : ℕ) (ws : List Window) → Decides (covered minute ws) (SomeCovers minute ws)
  -- On a special day its windows alone count, also where it has none; any other day is open by the windows of its weekday, as before item 8.
  pub special_day : (days : List Day) (c : Calendar) (cell : ℕ) (ws : List Window) → special_of (day_of days (minute_of cell)) c.special ≡ some ws
      → open_cell days c cell ≡ covered (label_minute days (minute_of cell)) ws
  pub other_day : (days : List Day) (c : Calendar) (cell : ℕ) → special_of (day_of days (minute_of cell)) c.special ≡ none
      → open_cell days c cell ≡ covered (label_minute days (minute_of cell)) (weekday_windows c (day_of days (minute_of cell)))
  -- of days that ascend, each is found by its number, and no other
  pub found : (s : Special) (ss : List Special) → Ascending (λ s. s.day) ss → Mem s ss → special_of s.day ss ≡ some s.hours.windows
  pub missed : (day : ℕ) (ss : List Special) → All (λ s. s.day ≡ day → ⊥) ss → special_of day ss ≡ none
  -- no numbers: every cell is closed
  pub empty : (days : List Day) (cell : ℕ) → open_cell days (calendar_of []) cell ≡ false
  -- [0, 1440) on each weekday and no special day: every cell is open, whatever days are listed
  pub always : (days : List Day) (c : Calendar) → DaysTaken days → AlwaysOpen c → (cell : ℕ) → open_cell days c cell ≡ true
  -- what stands past the 64th special day means nothing
  pub alike : (a b : List ℕ) → ((i : ℕ) → i < calendar_width → get_or a i 0 ≡ get_or b i 0) → calendar_of a ≡ calendar_of b

-- ── refusals by a calendar ──

pub record LawOfClosing : Type 0 where
  -- 26: some byte that is not 0, on a closed cell
  pub closed : (days : List Day) (c : Calendar) (first : ℕ) (bytes : List ℕ) → Decides (closed_cell days c first bytes) (SomeClosed days c first bytes)
  pub zeros : (days : List Day) (c : Calendar) (first n : ℕ) → closed_cell days c first (replicate n 0) ≡ false
  pub always : (days : List Day) (c : Calendar) → DaysTaken days → AlwaysOpen c → (first : ℕ) (bytes : List ℕ) → closed_cell days c first bytes ≡ false
  -- 27: fact by fact
  pub taken : (c : Calendar) → Decides (calendar_taken c) (CalendarTaken c)

-- ── the calls ──

-- some byte of the operation is not 0 and stands on a cell that the installed calendar closes
pub record OutsideHours (l : Ledger) (o : Operation) : Type 0 where
  pub calendar : Calendar
  pub installed : l.calendar ≡ some calendar
  pub closed : SomeClosed l.days calendar o.first o.bytes

-- an answer that comes before the space is asked for: 26, or one with a place before it
pub record ByThen {A : Type 0} (answer : Answer A) : Type 0 where
  pub number : ℕ
  pub refuses : answer ≡ refused number
  pub known : Mem number (2 ∷ 3 ∷ 25 ∷ 5 ∷ 6 ∷ 7 ∷ 8 ∷ 26 ∷ [])

abbrev pub NotInstall : Call → Type 0
NotInstall (record_call scratch o) = Unit {0}
NotInstall finish_call = Unit {0}
NotInstall (calendar_call numbers) = ⊥
NotInstall (days_call numbers) = Unit {0}

pub record LawOfInstalling : Type 0 where
  -- 26 is given outside hours alone, to a read or an update; and there no call is accepted.
  pub outside : (l : Ledger) (scratch : ℕ) (o : Operation) → record_answer l scratch o ≡ refused 26 → OutsideHours l o
  pub refuses : (l : Ledger) (scratch : ℕ) (o : Operation) → OutsideHours l o → ByThen (record_answer l scratch o)
  -- Until the first install no call is refused 26.
  pub until_first : (a : Opening) (ks : List Call) → All NotInstall ks → All (λ x. x ≡ refused 26 → ⊥) (answers (opened a) ks)
  -- What is installed replaces all that was, and no other call changes it.
  pub replaced : (l : Ledger) (numbers : List ℕ) {r : Result} → answer_to l (calendar_call numbers) ≡ accepted r
      → (after l (calendar_call numbers)).calendar ≡ some (calendar_of numbers)
  pub kept : (l : Ledger) (k : Call) → NotInstall k → (after l k).calendar ≡ l.calendar
  pub refused_kept : (l : Ledger) (k : Call) (n : ℕ) → answer_to l k ≡ refused n → (after l k).calendar ≡ l.calendar

pub record LawOfHours : Type 0 where
  pub days : LawOfPlainDays
  pub opening : LawOfOpening
  pub closing : LawOfClosing
  pub installing : LawOfInstalling
