-- The laws of Hours: days, open cells, what is refused by 26 and 27. Assumes nothing.
use mathlib.Core.Path.{◌≡◌, refl, ap, ◌∙◌}
use mathlib.Core.Logic.{◌⊎◌, inl, inr}
use mathlib.Core.Bool.{true, false, ◌&&◌, ◌||◌, not, true≢false}
use mathlib.Core.Option.{none, some}
use mathlib.Core.List.{List, [], ◌∷◌}
use Prim.Native.Nat.{ℕ, zero, suc, ◌+◌, ◌*◌, ◌%◌, ◌≤◌, ◌<◌, min}
use native.Mathlib.Nat.{zero-add}
use native.Mathlib.Omega.{arith}
use lib.ListN.{get_or, replicate}
use lib.Dec.{leb, ltb, eqb}
use borrow.Author.Tests.{eq-eqb, ne_eqb}
use Rattle.std.proofs.Math.Bool.{and-false}
use Rattle.lists.specs.Lists.{All, all_nil, all_cons, pairs_nil, pairs_cons, Ascending, Mem, here, there, count_from}
use Rattle.lists.specs.Tests.{Decides}
use Rattle.lists.proofs.Numbers.{bool_cases, eq_or_ne, decided, confirm, refute, decides_iff, decides_and, decides_leb, decides_ltb}
use Rattle.lists.proofs.Lists.{all_map, all_mem, all_at, count_from_at, count_from_length}
use Rattle.lists.proofs.Counting.{all_count_from, not_mem_nil}
use Rattle.lists.proofs.Maps.{map_all, get_d_of_map}
use Rattle.history.specs.Days.{Day, DaysTaken, minute_of, unlisted, place_from, day_of, shown_on, label_minute}
use Rattle.history.specs.Hours.{Window, Hours, Special, Calendar, window_at, hours_at, weekday_at, special_at, special_place, special_count, most_windows, most_special, calendar_width, calendar_of, weekday_of, covers, covered, special_of, shut, weekday_windows, windows_of, open_minute, open_cell, refused_on, closed_cell, ClosedAt, SomeClosed, window_taken, hours_taken, special_taken, rises, days_ascend, calendar_taken, WindowTaken, HoursTaken, CalendarTaken}
use Rattle.history.specs.Rules.{every}
use Rattle.history.specs.HoursLaw.{LawOfPlainDays, SomeCovers, whole_day, LawOfOpening, AlwaysOpen, LawOfClosing}
use Rattle.history.proofs.RulesLaws.{every_decides}
use Rattle.history.proofs.DaysLabels.{shown_in_day}

-- ── days ──

pub law_of_plain_days : LawOfPlainDays
unfolding label_minute shown_on place_from unlisted
law_of_plain_days =
    record {
      within = λ minute h. record { day = omega arith; label = omega arith };
      midnight = λ minute h. record { day = omega arith; weekday = omega arith; label = omega arith };
      platform_end = λ platform. record { last_day = omega arith; last_label = omega arith; next_minute = omega arith };
    }

-- ── windows ──

decides_covers : (minute : ℕ) (w : Window) → Decides (covers minute w) ((w.from ≤ minute) × (minute < w.to))
decides_covers minute w = decides_and (leb w.from minute) (ltb minute w.to) (decides_leb w.from minute) (decides_ltb minute w.to)

pub covered_decides : (minute : ℕ) (ws : List Window) → Decides (covered minute ws) (SomeCovers minute ws)
unfolding covered
covered_decides minute [] = refute (λ s. not_mem_nil s.member)
covered_decides minute (w ∷ ws) = step (bool_cases (covers minute w)) (covered_decides minute ws)
  where
    later : SomeCovers minute ws → SomeCovers minute (w ∷ ws)
    later s = record { window = s.window; member = there s.member; from = s.from; below = s.below }

    at_member : covers minute w ≡ false → (v : Window) → Mem v (w ∷ ws) → v.from ≤ minute → minute < v.to → SomeCovers minute ws
    at_member e v (here q) f b = absurd ((decides_covers minute w).not e (rw q at f, rw q at b))
    at_member e v (there m) f b = record { window = v; member = m; from = f; below = b }

    step : (covers minute w ≡ true) ⊎ (covers minute w ≡ false) → Decides (covered minute ws) (SomeCovers minute ws)
        → Decides (covers minute w || covered minute ws) (SomeCovers minute (w ∷ ws))
    step (inl e) d =
        let q = (decides_covers minute w).yes e in
        rw e (confirm (record { window = w; member = here refl; from = q.0; below = q.1 }))
    step (inr e) d = rw e (decides_iff (covered minute ws) later (λ s. at_member e s.window s.member s.from s.below) d)

covered_member : (minute : ℕ) (w : Window) (ws : List Window) → Mem w ws → w.from ≤ minute → minute < w.to → covered minute ws ≡ true
covered_member minute w ws m f b = decided (covered minute ws) (covered_decides minute ws) (record { window = w; member = m; from = f; below = b })

-- ── special days ──

pub special_missed : (day : ℕ) (ss : List Special) → All (λ s. s.day ≡ day → ⊥) ss → special_of day ss ≡ none
unfolding special_of
special_missed day [] a = refl
special_missed day (s ∷ ss) (all_cons n ns) = rw (ne_eqb s.day day n) (special_missed day ss ns)

-- a later day has another number, so that the first one found is the one meant
pub special_found : (s : Special) (ss : List Special) → Ascending (λ s. s.day) ss → Mem s ss → special_of s.day ss ≡ some s.hours.windows
unfolding special_of
special_found s [] p x'' = elim x'' [ ]
special_found s (r ∷ rs) p (here e) = rw (e, eq-eqb r.day r.day refl)
special_found s (r ∷ rs) (pairs_cons a p) (there m) =
    let l : r.day < s.day = all_mem a m in
    rw (ne_eqb r.day s.day (λ e. omega arith)) (special_found s rs p m)

-- ── open cells ──

pub open_special : (days : List Day) (c : Calendar) (cell : ℕ) (ws : List Window) → special_of (day_of days (minute_of cell)) c.special ≡ some ws
    → open_cell days c cell ≡ covered (label_minute days (minute_of cell)) ws
unfolding open_minute windows_of
open_special days c cell ws e = rw e

pub open_other : (days : List Day) (c : Calendar) (cell : ℕ) → special_of (day_of days (minute_of cell)) c.special ≡ none
    → open_cell days c cell ≡ covered (label_minute days (minute_of cell)) (weekday_windows c (day_of days (minute_of cell)))
unfolding open_minute windows_of
open_other days c cell e = rw e

-- the hours of a weekday, by their place
pub weekday_at_lem : (numbers : List ℕ) (day : ℕ) → weekday_windows (calendar_of numbers) day ≡ (weekday_at numbers (weekday_of day)).windows
unfolding calendar_of
weekday_at_lem numbers day =
    let h : day % 7 < 7 = omega arith in
    ap (λ (x : Hours). x.windows)
    (get_d_of_map (weekday_at numbers) (count_from 0 7) (day % 7) 0 shut (rw (count_from_length 0 7) h) ∙ ap (weekday_at numbers) (count_from_at 0 7 (day % 7) h ∙ zero-add (day % 7)))

pub empty_closes : (days : List Day) (cell : ℕ) → open_cell days (calendar_of []) cell ≡ false
unfolding open_minute windows_of hours_at covered special_of count_from calendar_of
empty_closes days cell = rw (weekday_at_lem [] (day_of days (minute_of cell)))

pub always_opens : (days : List Day) (c : Calendar) → DaysTaken days → AlwaysOpen c → (cell : ℕ) → open_cell days c cell ≡ true
unfolding special_of
always_opens days c t a cell =
    let day = day_of days (minute_of cell) in
    let m : Mem whole_day (weekday_windows c day) = all_at shut a.whole (weekday_of day) (omega (arith, a.seven)) in
    open_other days c cell (rw a.no_special)
    ∙ covered_member (label_minute days (minute_of cell)) whole_day (weekday_windows c day) m (omega arith) (shown_in_day days (minute_of cell) t)

-- ── the numbers that a calendar is read from ──

module _ (a b : List ℕ) (same : (i : ℕ) → i < calendar_width → get_or a i 0 ≡ get_or b i 0) where
  hours_alike : (at : ℕ) → at + 17 ≤ calendar_width → hours_at a at ≡ hours_at b at
  unfolding hours_at
  hours_alike at h =
      rw (
        same at (omega arith),
        map_all (window_at a at) (window_at b at) (all_count_from 0 (min (get_or b at 0) most_windows) (λ j l u.
            rw (same (at + 1 + 2 * j) (omega arith), same (at + 2 + 2 * j) (omega arith)))),
      )

  pub calendar_alike : calendar_of a ≡ calendar_of b
  unfolding calendar_of
  calendar_alike =
      rw (
        map_all (weekday_at a) (weekday_at b) (all_count_from 0 7 (λ k l u. hours_alike (17 * k) (omega arith))),
        same special_count (omega arith),
        map_all (special_at a) (special_at b) (all_count_from 0 (min (get_or b special_count 0) most_special) (λ k l u.
            rw (same (special_place k) (omega arith), hours_alike (special_place k + 1) (omega arith)))),
      )

pub law_of_opening : LawOfOpening
law_of_opening =
    record {
      covers = covered_decides;
      special_day = open_special;
      other_day = open_other;
      found = special_found;
      missed = special_missed;
      empty = empty_closes;
      always = always_opens;
      alike = calendar_alike;
    }

-- ── closed cells ──

decides_refused : (days : List Day) (c : Calendar) (cell byte : ℕ) → Decides (refused_on days c cell byte) ((byte ≡ 0 → ⊥) × (open_cell days c cell ≡ false))
decides_refused days c cell byte = step (eq_or_ne byte 0) (bool_cases (open_cell days c cell))
  where
    step : (byte ≡ 0) ⊎ (byte ≡ 0 → ⊥) → (open_cell days c cell ≡ true) ⊎ (open_cell days c cell ≡ false)
        → Decides (refused_on days c cell byte) ((byte ≡ 0 → ⊥) × (open_cell days c cell ≡ false))
    step (inl z) o = rw (eq-eqb byte 0 z) (refute (λ p. p.0 z))
    step (inr n) (inl o) = rw (ne_eqb byte 0 n, o) (refute (λ p. true≢false p.1))
    step (inr n) (inr o) = rw (ne_eqb byte 0 n, o) (confirm (n, refl))

pub closed_decides : (days : List Day) (c : Calendar) (first : ℕ) (bytes : List ℕ) → Decides (closed_cell days c first bytes) (SomeClosed days c first bytes)
unfolding closed_cell
closed_decides days c first [] = refute (λ s. omega (arith, s.there.inside))
closed_decides days c first (b ∷ bs) = step (bool_cases (refused_on days c first b)) (closed_decides days c (suc first) bs)
  where
    later : SomeClosed days c (suc first) bs → SomeClosed days c first (b ∷ bs)
    later s =
        let e : first + suc s.place ≡ suc first + s.place = omega arith in
        record {
          place = suc s.place;
          there = record { inside = omega (arith, s.there.inside); written = s.there.written; closed = rw e s.there.closed };
        }

    sooner : refused_on days c first b ≡ false → (place : ℕ) → ClosedAt days c first (b ∷ bs) place → SomeClosed days c (suc first) bs
    sooner e zero a =
        let z : first + 0 ≡ first = omega arith in
        absurd ((decides_refused days c first b).not e (a.written, rw z at a.closed))
    sooner e (suc place) a =
        let q : first + suc place ≡ suc first + place = omega arith in
        record { place = place; there = record { inside = omega (arith, a.inside); written = a.written; closed = rw q at a.closed } }

    step : (refused_on days c first b ≡ true) ⊎ (refused_on days c first b ≡ false) → Decides (closed_cell days c (suc first) bs) (SomeClosed days c (suc first) bs)
        → Decides (refused_on days c first b || closed_cell days c (suc first) bs) (SomeClosed days c first (b ∷ bs))
    step (inl e) d =
        let q = (decides_refused days c first b).yes e in
        let z : first + 0 ≡ first = omega arith in
        rw e (confirm (record { place = 0; there = record { inside = omega arith; written = q.0; closed = rw z q.1 } }))
    step (inr e) d = rw e (decides_iff (closed_cell days c (suc first) bs) later (λ s. sooner e s.place s.there) d)

pub zeros_pass : (days : List Day) (c : Calendar) (first n : ℕ) → closed_cell days c first (replicate n 0) ≡ false
unfolding closed_cell
zeros_pass days c first zero = refl
zeros_pass days c first (suc n) = zeros_pass days c (suc first) n

-- where every cell is open, no byte is refused
pub always_passes : (days : List Day) (c : Calendar) → DaysTaken days → AlwaysOpen c → (first : ℕ) (bytes : List ℕ) → closed_cell days c first bytes ≡ false
unfolding closed_cell
always_passes days c t a first [] = refl
always_passes days c t a first (b ∷ bs) = rw (always_opens days c t a first, and-false (not (eqb b 0))) (always_passes days c t a (suc first) bs)

-- ── calendars that are taken ──

window_decides : (w : Window) → Decides (window_taken w) (WindowTaken w)
window_decides w =
    decides_iff (window_taken w) (λ p. record { ordered = p.0; in-day = p.1 }) (λ p. (p.ordered, p.in-day))
    (decides_and (ltb w.from w.to) (leb w.to 1440) (decides_ltb w.from w.to) (decides_leb w.to 1440))

hours_decides : (h : Hours) → Decides (hours_taken h) (HoursTaken h)
unfolding hours_taken
hours_decides h =
    decides_iff (leb h.stated most_windows && every window_taken h.windows) (λ p. record { few = p.0; all = p.1 }) (λ p. (p.few, p.all))
    (decides_and (leb h.stated most_windows) (every window_taken h.windows) (decides_leb h.stated most_windows) (every_decides window_taken window_decides h.windows))

rises_decides : (before : ℕ) (ss : List Special) → Decides (rises before ss) (All (λ s. before < s.day) ss × Ascending (λ s. s.day) ss)
unfolding rises
rises_decides before [] = confirm (all_nil, pairs_nil)
rises_decides before (s ∷ ss) =
    decides_iff (ltb before s.day && rises s.day ss) (λ p. (all_cons p.0 (all_map (λ r l. omega (arith, p.0)) p.1.0), pairs_cons p.1.0 p.1.1))
    (λ p. (first p.0, apart p.1)) (decides_and (ltb before s.day) (rises s.day ss) (decides_ltb before s.day) (rises_decides s.day ss))
  where
    first : All (λ s. before < s.day) (s ∷ ss) → before < s.day
    first (all_cons h hs) = h

    apart : Ascending (λ s. s.day) (s ∷ ss) → All (λ r. s.day < r.day) ss × Ascending (λ s. s.day) ss
    apart (pairs_cons a p) = (a, p)

days_ascend_decides : (ss : List Special) → Decides (days_ascend ss) (Ascending (λ s. s.day) ss)
unfolding days_ascend
days_ascend_decides [] = confirm pairs_nil
days_ascend_decides (s ∷ ss) = decides_iff (rises s.day ss) (λ p. pairs_cons p.0 p.1) apart (rises_decides s.day ss)
  where
    apart : Ascending (λ s. s.day) (s ∷ ss) → All (λ r. s.day < r.day) ss × Ascending (λ s. s.day) ss
    apart (pairs_cons a p) = (a, p)

pub taken_decides : (c : Calendar) → Decides (calendar_taken c) (CalendarTaken c)
unfolding calendar_taken
taken_decides c =
    decides_iff (every hours_taken c.week && (leb c.stated most_special && (every special_taken c.special && days_ascend c.special)))
    (λ p. record { weekdays-taken = p.0; few = p.1.0; special-taken = p.1.1.0; ascending = p.1.1.1 })
    (λ t. (t.weekdays-taken, (t.few, (t.special-taken, t.ascending))))
    (decides_and (every hours_taken c.week) (leb c.stated most_special && (every special_taken c.special && days_ascend c.special))
    (every_decides hours_taken hours_decides c.week)
    (decides_and (leb c.stated most_special) (every special_taken c.special && days_ascend c.special) (decides_leb c.stated most_special)
    (decides_and (every special_taken c.special) (days_ascend c.special) (every_decides special_taken (λ s. hours_decides s.hours) c.special) (days_ascend_decides c.special))))

pub law_of_closing : LawOfClosing
law_of_closing = record { closed = closed_decides; zeros = zeros_pass; always = always_passes; taken = taken_decides }
