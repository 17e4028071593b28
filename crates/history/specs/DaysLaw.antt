-- What is proved of days of 23 and 25 hours: of the definitions in Days, of hours and labels that go by them, and of the call that installs a list.
-- Statements alone: the proofs stand in proofs/.
use Rattle.std.specs.Prelude.{◌≡◌, false, List, [], ◌++◌, ℕ, suc, ◌+◌, ◌-◌, ◌*◌, ◌/◌, ◌%◌, ◌^◌, ◌≤◌, ◌<◌}
use Rattle.lists.specs.Lists.{All, Mem}
use Rattle.lists.specs.Tests.{Decides}
use Rattle.history.specs.Lent.{Lent, too_short}
use Rattle.history.specs.Days.{Day, day_minutes, short_day, long_day, days_of, days_taken, DaysTaken, length_of, start_of, day_of, minute_in, shown_on, label_minute}
use Rattle.history.specs.Hours.{Calendar, covered, windows_of, open_minute}
use Rattle.history.specs.Ledger.{Opening, Ledger, opened}
use Rattle.history.specs.Results.{Result, done}
use Rattle.history.specs.Reads.{label_of, clock_label}
use Rattle.history.specs.Refusals.{accepted, refused, days_answer}
use Rattle.history.specs.Calls.{Call, record_call, finish_call, calendar_call, days_call, answer_to, after, after_all, last_days}
use Rattle.history.specs.File.{Loaded, loaded_ledger}

-- ── days ──

pub record LawOfPlaces : Type 0 where
  -- 28, fact by fact
  pub taken : (days : List Day) → Decides (days_taken days) (DaysTaken days)
  -- a listed day has the minutes that are listed, and any other 1,440
  pub listed : (days : List Day) (e : Day) → DaysTaken days → Mem e days → length_of days e.day ≡ e.minutes
  pub other : (days : List Day) (d : ℕ) → All (λ (e : Day). e.day ≡ d → ⊥) days → length_of days d ≡ day_minutes
  -- day 0 starts at minute 0, and each day where the one before ends
  pub first : (days : List Day) → start_of days 0 ≡ 0
  pub next : (days : List Day) (d : ℕ) → start_of days (suc d) ≡ start_of days d + length_of days d
  -- a minute lies in its day
  pub in-day : (days : List Day) (m : ℕ) → DaysTaken days → start_of days (day_of days m) + minute_in days m ≡ m
  pub below : (days : List Day) (m : ℕ) → DaysTaken days → minute_in days m < length_of days (day_of days m)
  -- and in no other
  pub only : (days : List Day) (d m : ℕ) → DaysTaken days → start_of days d ≤ m → m < start_of days (suc d) → day_of days m ≡ d
  -- minute k of day d is named again
  pub day_again : (days : List Day) (d k : ℕ) → DaysTaken days → k < length_of days d → day_of days (start_of days d + k) ≡ d
  pub minute_again : (days : List Day) (d k : ℕ) → DaysTaken days → k < length_of days d → minute_in days (start_of days d + k) ≡ k
  -- with nothing listed it is division
  pub plain_day : (m : ℕ) → day_of [] m ≡ m / day_minutes
  pub plain_minute : (m : ℕ) → minute_in [] m ≡ m % day_minutes

-- ── labels ──

pub record LawOfLabels : Type 0 where
  -- minute k of day d shows what its length says
  pub shown : (days : List Day) (d k : ℕ) → DaysTaken days → k < length_of days d → label_minute days (start_of days d + k) ≡ shown_on (length_of days d) k
  -- on a day of 24 hours nothing moves
  pub whole : (m : ℕ) → shown_on day_minutes m ≡ m
  -- a short day: 00:00 to 01:59, then from 03:00 on; no label comes twice, and none of 02:00 to 02:59 comes
  pub short_low : (m : ℕ) → m < 120 → shown_on short_day m ≡ m
  pub short_high : (m : ℕ) → 120 ≤ m → shown_on short_day m ≡ m + 60
  pub short_rises : (a b : ℕ) → a < b → shown_on short_day a < shown_on short_day b
  pub short_skips : (m : ℕ) → 120 ≤ shown_on short_day m → 180 ≤ shown_on short_day m
  -- a long day: 00:00 to 02:59, then from 02:00 on; both passes of the double hour show the same, and no other minute comes twice
  pub long_low : (m : ℕ) → m < 180 → shown_on long_day m ≡ m
  pub long_high : (m : ℕ) → 180 ≤ m → shown_on long_day m ≡ m - 60
  pub double_hour : (m : ℕ) → 120 ≤ m → m < 180 → (shown_on long_day m ≡ m) × (shown_on long_day (m + 60) ≡ m)
  pub twice_only : (a b : ℕ) → a < b → shown_on long_day a ≡ shown_on long_day b → (120 ≤ a) × ((a < 180) × (b ≡ a + 60))
  -- what is shown is a minute of 24 hours; a label has its hour and its minute
  pub in-day : (days : List Day) (m : ℕ) → DaysTaken days → label_minute days m < day_minutes
  pub hours : (days : List Day) (cell : ℕ) → DaysTaken days → clock_label days cell / 100 < 24
  pub minutes : (days : List Day) (cell : ℕ) → clock_label days cell % 100 < 60
  -- with nothing listed labels are what they were
  pub plain : (m : ℕ) → label_minute [] m ≡ m % day_minutes
  pub plain_cell : (cell : ℕ) → clock_label [] cell ≡ label_of (cell % 2 ^ 32 % day_minutes)
  -- listed days that start at minute `top` or later move no label below it
  pub late : (top : ℕ) (days more : List Day) (m : ℕ) → DaysTaken (days ++ more) → m < top
      → All (λ (e : Day). top ≤ e.day * short_day) more → label_minute (days ++ more) m ≡ label_minute days m

-- ── hours go by label ──

pub record LawOfListedHours : Type 0 where
  -- minute k of day d is open by the windows of day d, at the label that it shows
  pub by_label : (days : List Day) (c : Calendar) (d k : ℕ) → DaysTaken days → k < length_of days d
      → open_minute days c (start_of days d + k) ≡ covered (shown_on (length_of days d) k) (windows_of c d)
  -- both passes of the double hour follow the same window
  pub double_hour : (days : List Day) (c : Calendar) (d k : ℕ) → DaysTaken days → length_of days d ≡ long_day → 120 ≤ k → k < 180
      → open_minute days c (start_of days d + k) ≡ open_minute days c (start_of days d + (k + 60))
  -- with nothing listed hours are what they were
  pub plain : (c : Calendar) (m : ℕ) → open_minute [] c m ≡ covered (m % day_minutes) (windows_of c (m / day_minutes))

-- ── the calls ──

abbrev pub NotDays : Call → Type 0
NotDays (record_call scratch o) = Unit {0}
NotDays finish_call = Unit {0}
NotDays (calendar_call numbers) = Unit {0}
NotDays (days_call numbers) = ⊥

pub record LawOfInstallingDays : Type 0 where
  -- Tables that are long enough take it, open or closed, exactly when it can be installed.
  pub accepts : (l : Ledger) (numbers : List ℕ) → too_short l.opening.lent ≡ false → DaysTaken (days_of numbers) → days_answer l numbers ≡ accepted done
  pub refuses : (l : Ledger) (numbers : List ℕ) → too_short l.opening.lent ≡ false → (DaysTaken (days_of numbers) → ⊥) → days_answer l numbers ≡ refused 28
  -- What is installed replaces all that was, and no other call changes it.
  pub replaced : (l : Ledger) (numbers : List ℕ) {r : Result} → answer_to l (days_call numbers) ≡ accepted r → (after l (days_call numbers)).days ≡ days_of numbers
  pub kept : (l : Ledger) (k : Call) → NotDays k → (after l k).days ≡ l.days
  pub refused_kept : (l : Ledger) (k : Call) (n : ℕ) → answer_to l k ≡ refused n → (after l k).days ≡ l.days
  -- So it is the list that was accepted last; none after opening and loading.
  pub last : (l : Ledger) (ks : List Call) → (after_all l ks).days ≡ last_days l.days l ks
  pub none-opened : (a : Opening) → (opened a).days ≡ []
  pub none_loaded : (n : Lent) (x : Loaded) → (loaded_ledger n x).days ≡ []

pub record LawOfDays : Type 0 where
  pub places : LawOfPlaces
  pub labels : LawOfLabels
  pub hours : LawOfListedHours
  pub installing : LawOfInstallingDays
