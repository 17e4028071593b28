-- Calendars that are taken: the hours of a day, days that ascend, and the calendar. Assumes nothing.
use mathlib.Core.Path.{◌≡◌, refl}
use mathlib.Core.Bool.{false, ◌&&◌}
use mathlib.Core.List.{List, map}
use Prim.Native.Nat.{ℕ, zero, suc, ◌-◌, ◌≤◌, ◌<◌, min}
use native.Mathlib.Numerals.{add-one}
use native.Mathlib.Omega.{arith}
use lib.ListN.{get_or}
use lib.Dec.{ltb}
use borrow.Author.Tests.{le-leb, lt-leb}
use Rattle.std.specs.List.{list_all, range_with_len}
use Rattle.std.proofs.Math.Bool.{and-false}
use Rattle.lists.specs.Lists.{count_from}
use Rattle.history.specs.Rules.{every}
use Rattle.history.specs.Hours.{window_at, hours_at, weekday_at, special_at, calendar_of, most_windows, most_special, special_count, window_taken, hours_taken, special_taken, rises, days_ascend, calendar_taken}
use Rattle.hours.specs.Reach.{special_from}
use Rattle.hours.proofs.Rows.{every_rows}

-- ── the hours of a day ──

module _ (numbers : List ℕ) (at : ℕ) where
  pub hours_many : most_windows < get_or numbers at 0 → hours_taken (hours_at numbers at) ≡ false
  unfolding hours_taken hours_at
  hours_many h = rw (lt-leb (get_or numbers at 0) most_windows h)

  -- few enough: the windows decide
  pub hours_few : get_or numbers at 0 ≤ most_windows
      → hours_taken (hours_at numbers at) ≡ list_all (λ j. window_taken (window_at numbers at j)) (range_with_len 0 (get_or numbers at 0))
  unfolding hours_taken hours_at
  hours_few h =
      let m : min (get_or numbers at 0) most_windows ≡ get_or numbers at 0 = omega arith in
      rw (le-leb (get_or numbers at 0) most_windows h, m, every_rows window_taken (window_at numbers at) 0 (get_or numbers at 0))

-- ── days that ascend ──

module _ (numbers : List ℕ) where
  abbrev day_at : (k : ℕ) → ℕ
  day_at k = (special_at numbers k).day

  rises_rows : (k n : ℕ) → rises (day_at k) (map (special_at numbers) (count_from (suc k) n)) ≡ list_all (λ j. ltb (day_at (j - 1)) (day_at j)) (range_with_len (suc k) n)
  unfolding rises count_from
  rises_rows k zero = refl
  rises_rows k (suc n) =
      let before : suc k - 1 ≡ k = omega arith in
      rw (add-one, before, rises_rows (suc k) n)

  ascend_rows : (n : ℕ) → days_ascend (special_from numbers 0 n) ≡ list_all (λ j. ltb (day_at (j - 1)) (day_at j)) (range_with_len 1 (n - 1))
  unfolding days_ascend count_from
  ascend_rows zero = refl
  ascend_rows (suc n) =
      let one : suc n - 1 ≡ n = omega arith in
      rw (one, rises_rows 0 n)

-- ── calendars ──

module _ (numbers : List ℕ) where
  abbrev stated : ℕ
  stated = get_or numbers special_count 0

  pub calendar_many : most_special < stated → calendar_taken (calendar_of numbers) ≡ false
  unfolding calendar_taken calendar_of
  calendar_many h = rw (lt-leb stated most_special h) (and-false (every hours_taken (calendar_of numbers).week))

  -- few enough: the week, the special days, and their order decide
  pub calendar_few : stated ≤ most_special
      → calendar_taken (calendar_of numbers) ≡ (list_all (λ k. hours_taken (weekday_at numbers k)) (range_with_len 0 7)
      && (list_all (λ k. special_taken (special_at numbers k)) (range_with_len 0 stated)
      && list_all (λ k. ltb (day_at numbers (k - 1)) (day_at numbers k)) (range_with_len 1 (stated - 1))))
  unfolding calendar_taken calendar_of
  calendar_few h =
      let m : min stated most_special ≡ stated = omega arith in
      rw (le-leb stated most_special h, m, every_rows hours_taken (weekday_at numbers) 0 7, every_rows special_taken (special_at numbers) 0 stated, ascend_rows numbers stated)
