-- The laws of days gathered; hours that go by label; the call that installs a list. Assumes nothing.
use mathlib.Core.Path.{◌≡◌, refl, sym, ap, ◌∙◌}
use mathlib.Core.Bool.{false, not}
use mathlib.Core.List.{List, [], ◌∷◌}
use Prim.Native.Nat.{ℕ, ◌+◌, ◌/◌, ◌%◌, ◌≤◌, ◌<◌}
use native.Mathlib.Omega.{arith}
use Rattle.lists.proofs.Numbers.{decides_not, decided}
use Rattle.history.specs.Lent.{too_short}
use Rattle.history.specs.Days.{Day, day_minutes, long_day, days_of, days_taken, DaysTaken, length_of, start_of, shown_on}
use Rattle.history.specs.Hours.{Calendar, covered, windows_of, open_minute}
use Rattle.history.specs.Ledger.{Opening, Ledger, opened, record_by, finish_by, install_by, install_days_by}
use Rattle.history.specs.Results.{Result, done}
use Rattle.history.specs.Refusals.{Answer, accepted, refused, first_of, days_refusals, days_answer}
use Rattle.history.specs.Calls.{Call, record_call, finish_call, calendar_call, days_call, answer_to, accepted_by, leaves, after, after_all, days_left, last_days}
use Rattle.history.specs.DaysLaw.{LawOfPlaces, LawOfLabels, LawOfListedHours, NotDays, LawOfInstallingDays, LawOfDays}
use Rattle.history.proofs.DaysRising.{days_taken_decides}
use Rattle.history.proofs.DaysSpans.{length-listed, length-unlisted, start_none, start_next}
use Rattle.history.proofs.DaysPlaces.{day_has, minute_below, day_only, day_again, minute_again, day_plain, minute_plain}
use Rattle.history.proofs.DaysLabels.{shown_at, shown-whole, shown_short_low, shown_short_high, short_rises, short_skips, shown_long_low, shown_long_high, double_hour, twice_only, shown_in_day, hours-below, minutes_below, label_plain, clock_plain}
use Rattle.history.proofs.DaysLate.{label_late}

law_of_places : LawOfPlaces
law_of_places = record {
  taken = days_taken_decides;
  listed = length-listed;
  other = length-unlisted;
  first = start_none;
  next = start_next;
  in-day = day_has;
  below = minute_below;
  only = day_only;
  day_again = day_again;
  minute_again = minute_again;
  plain_day = day_plain;
  plain_minute = minute_plain;
}

law_of_labels : LawOfLabels
law_of_labels = record {
  shown = shown_at;
  whole = shown-whole;
  short_low = shown_short_low;
  short_high = shown_short_high;
  short_rises = short_rises;
  short_skips = short_skips;
  long_low = shown_long_low;
  long_high = shown_long_high;
  double_hour = double_hour;
  twice_only = twice_only;
  in-day = shown_in_day;
  hours = hours-below;
  minutes = minutes_below;
  plain = label_plain;
  plain_cell = clock_plain;
  late = label_late;
}

-- ── hours ──

by_label : (days : List Day) (c : Calendar) (d k : ℕ) → DaysTaken days → k < length_of days d
    → open_minute days c (start_of days d + k) ≡ covered (shown_on (length_of days d) k) (windows_of c d)
unfolding open_minute
by_label days c d k t h = rw (shown_at days d k t h, day_again days d k t h)

-- both passes lie in the day, and show the same
passes : (days : List Day) (c : Calendar) (d k : ℕ) → DaysTaken days → length_of days d ≡ long_day → 120 ≤ k → k < 180
    → open_minute days c (start_of days d + k) ≡ open_minute days c (start_of days d + (k + 60))
passes days c d k t long low high =
    let q = double_hour k low high in
    let same : shown_on (length_of days d) k ≡ shown_on (length_of days d) (k + 60) = rw long (q.0 ∙ sym q.1) in
    by_label days c d k t (omega arith) ∙ ap (λ (x : ℕ). covered x (windows_of c d)) same ∙ sym (by_label days c d (k + 60) t (omega arith))

hours_plain : (c : Calendar) (m : ℕ) → open_minute [] c m ≡ covered (m % day_minutes) (windows_of c (m / day_minutes))
unfolding open_minute
hours_plain c m = rw (label_plain m, day_plain m)

law_of_listed-hours : LawOfListedHours
law_of_listed-hours = record { by_label = by_label; double_hour = passes; plain = hours_plain }

-- ── from call to call ──

pub days_accepted : (l : Ledger) (numbers : List ℕ) → too_short l.opening.lent ≡ false → DaysTaken (days_of numbers) → days_answer l numbers ≡ accepted done
unfolding days_refusals first_of
days_accepted l numbers room t = rw (room, decided (days_taken (days_of numbers)) (days_taken_decides (days_of numbers)) t)

pub days_refused : (l : Ledger) (numbers : List ℕ) → too_short l.opening.lent ≡ false → (DaysTaken (days_of numbers) → ⊥) → days_answer l numbers ≡ refused 28
unfolding days_refusals first_of
days_refused l numbers room n =
    rw (room, decided (not (days_taken (days_of numbers))) (decides_not (days_taken (days_of numbers)) (days_taken_decides (days_of numbers))) n)

pub days_replaced : (l : Ledger) (numbers : List ℕ) {r : Result} → answer_to l (days_call numbers) ≡ accepted r → (after l (days_call numbers)).days ≡ days_of numbers
unfolding after leaves accepted_by install_days_by
days_replaced l numbers e = rw e

days_refused_kept : (l : Ledger) (k : Call) (n : ℕ) → answer_to l k ≡ refused n → (after l k).days ≡ l.days
unfolding after leaves
days_refused_kept l k n e = rw e

-- what each call leaves
pub days_after : (l : Ledger) (k : Call) → (after l k).days ≡ days_left l.days k (answer_to l k)
unfolding after leaves accepted_by record_by finish_by install_by install_days_by days_left
days_after l k = go k (answer_to l k)
  where
    go : (k : Call) (x : Answer Result) → (leaves x l (accepted_by l k)).days ≡ days_left l.days k x
    go (record_call scratch o) (accepted a) = refl
    go (record_call scratch o) (refused n) = refl
    go finish_call (accepted a) = refl
    go finish_call (refused n) = refl
    go (calendar_call numbers) (accepted a) = refl
    go (calendar_call numbers) (refused n) = refl
    go (days_call numbers) (accepted a) = refl
    go (days_call numbers) (refused n) = refl

days_kept : (l : Ledger) (k : Call) → NotDays k → (after l k).days ≡ l.days
unfolding days_left
days_kept l (record_call scratch o) n = days_after l (record_call scratch o)
days_kept l finish_call n = days_after l finish_call
days_kept l (calendar_call numbers) n = days_after l (calendar_call numbers)
days_kept l (days_call numbers) n = absurd n

pub days_last : (ks : List Call) (l : Ledger) → (after_all l ks).days ≡ last_days l.days l ks
unfolding after_all last_days
days_last [] l = refl
days_last (k ∷ ks) l = days_last ks (after l k) ∙ ap (λ (days : List Day). last_days days (after l k) ks) (days_after l k)

none-opened : (a : Opening) → (opened a).days ≡ []
unfolding opened
none-opened a = refl

law_of_installing_days : LawOfInstallingDays
law_of_installing_days = record {
  accepts = days_accepted;
  refuses = days_refused;
  replaced = days_replaced;
  kept = days_kept;
  refused_kept = days_refused_kept;
  last = λ l ks. days_last ks l;
  none-opened = none-opened;
  none_loaded = λ n x. refl;
}

pub law_of_days : LawOfDays
law_of_days = record { places = law_of_places; labels = law_of_labels; hours = law_of_listed-hours; installing = law_of_installing_days }
