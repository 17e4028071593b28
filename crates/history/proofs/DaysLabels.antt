-- The laws of labels: on a short, a long and any other day; hours and minutes; with nothing listed. Assumes nothing.
use mathlib.Core.Path.{◌≡◌, refl, ap, ap₂, ◌∙◌}
use mathlib.Core.Logic.{◌⊎◌, inl, inr, ⊎_elim}
use mathlib.Core.List.{List, []}
use Prim.Native.Nat.{ℕ, ◌+◌, ◌-◌, ◌/◌, ◌%◌, ◌^◌, ◌≤◌, ◌<◌}
use native.Mathlib.Omega.{arith}
use borrow.Author.Tests.{lt-ltb, le-ltb}
use Rattle.lists.proofs.Numbers.{lt_or_le, eq_or_ne}
use Rattle.history.specs.Reads.{label_of, clock_label}
use Rattle.history.specs.Days.{Day, day_minutes, short_day, long_day, DaysTaken, length_of, start_of, minute_of, unlisted, place_from, place_of, day_of, minute_in, shown_on, label_minute}
use Rattle.history.proofs.DaysRising.{Listable, Rises, rises_nil, rises_cons, taken-rises}
use Rattle.history.proofs.DaysSpans.{length_here, length_other}
use Rattle.history.proofs.DaysPlaces.{minute_below, place_length, day_again, minute_again}

-- ── the minute that is shown ──

pub shown-whole : (m : ℕ) → shown_on day_minutes m ≡ m
unfolding shown_on
shown-whole m = refl

pub shown_short_low : (m : ℕ) → m < 120 → shown_on short_day m ≡ m
unfolding shown_on
shown_short_low m h = rw (lt-ltb m 120 h)

pub shown_short_high : (m : ℕ) → 120 ≤ m → shown_on short_day m ≡ m + 60
unfolding shown_on
shown_short_high m h = rw (le-ltb m 120 h)

pub shown_long_low : (m : ℕ) → m < 180 → shown_on long_day m ≡ m
unfolding shown_on
shown_long_low m h = rw (lt-ltb m 180 h)

pub shown_long_high : (m : ℕ) → 180 ≤ m → shown_on long_day m ≡ m - 60
unfolding shown_on
shown_long_high m h = rw (le-ltb m 180 h)

-- both cases of a short day, and of a long one
shown_short : (m : ℕ) → ((m < 120) × (shown_on short_day m ≡ m)) ⊎ ((120 ≤ m) × (shown_on short_day m ≡ m + 60))
shown_short m = ⊎_elim (λ h. inl (h, shown_short_low m h)) (λ h. inr (h, shown_short_high m h)) (lt_or_le m 120)

shown_long : (m : ℕ) → ((m < 180) × (shown_on long_day m ≡ m)) ⊎ ((180 ≤ m) × (shown_on long_day m ≡ m - 60))
shown_long m = ⊎_elim (λ h. inl (h, shown_long_low m h)) (λ h. inr (h, shown_long_high m h)) (lt_or_le m 180)

-- on a short day labels rise, so that none comes twice, and those of 02:00 to 02:59 do not come
pub short_rises : (a b : ℕ) → a < b → shown_on short_day a < shown_on short_day b
short_rises a b h =
    ⊎_elim (λ p. ⊎_elim (λ q. omega arith) (λ q. omega arith) (shown_short b)) (λ p. ⊎_elim (λ q. omega arith) (λ q. omega arith) (shown_short b))
    (shown_short a)

pub short_skips : (m : ℕ) → 120 ≤ shown_on short_day m → 180 ≤ shown_on short_day m
short_skips m h = ⊎_elim (λ p. omega arith) (λ p. omega arith) (shown_short m)

-- on a long day both passes of the double hour show the same minute, and no other minute comes twice
pub double_hour : (m : ℕ) → 120 ≤ m → m < 180 → (shown_on long_day m ≡ m) × (shown_on long_day (m + 60) ≡ m)
double_hour m low high = (shown_long_low m high, shown_long_high (m + 60) (omega arith) ∙ omega arith)

pub twice_only : (a b : ℕ) → a < b → shown_on long_day a ≡ shown_on long_day b → (120 ≤ a) × ((a < 180) × (b ≡ a + 60))
twice_only a b h same =
    ⊎_elim (λ p. ⊎_elim (λ q. absurd (omega arith)) (λ q. (omega arith, (omega arith, omega arith))) (shown_long b))
    (λ p. ⊎_elim (λ q. absurd (omega arith)) (λ q. absurd (omega arith)) (shown_long b)) (shown_long a)

-- ── minutes of a day ──

-- how long a day of a taken list is
pub length-one_of : {from : ℕ} {es : List Day} (d : ℕ) → Rises from es → (length_of es d ≡ day_minutes) ⊎ Listable (length_of es d)
unfolding length_of
length-one_of d rises_nil = inl refl
length-one_of d (rises_cons {from} {e} {es} p q r) =
    elim (eq_or_ne e.day d) [
      | inl same ↦ inr (rw (← same) (rw (length_here e es) q))
      | inr other ↦ rw (length_other e es d other) (length-one_of d r)
    ]

shown-below : (n m : ℕ) → (n ≡ day_minutes) ⊎ Listable n → m < n → shown_on n m < day_minutes
shown-below n m (inl whole) h = omega (arith, ap (λ (x : ℕ). shown_on x m) whole, shown-whole m)
shown-below n m (inr (inl short)) h =
    ⊎_elim (λ p. omega (arith, ap (λ (x : ℕ). shown_on x m) short)) (λ p. omega (arith, ap (λ (x : ℕ). shown_on x m) short)) (shown_short m)
shown-below n m (inr (inr long)) h =
    ⊎_elim (λ p. omega (arith, ap (λ (x : ℕ). shown_on x m) long)) (λ p. omega (arith, ap (λ (x : ℕ). shown_on x m) long)) (shown_long m)

-- what is shown is a minute of 24 hours
pub shown_in_day : (es : List Day) (m : ℕ) → DaysTaken es → label_minute es m < day_minutes
unfolding label_minute
shown_in_day es m t =
    let n = place_length es m t in
    shown-below (place_of es m).length (minute_in es m) (rw n (length-one_of (day_of es m) (taken-rises t))) (rw n (minute_below es m t))

-- minute k of day d
pub shown_at : (es : List Day) (d k : ℕ) → DaysTaken es → k < length_of es d → label_minute es (start_of es d + k) ≡ shown_on (length_of es d) k
unfolding label_minute
shown_at es d k t h =
    ap₂ shown_on (place_length es (start_of es d + k) t ∙ ap (length_of es) (day_again es d k t h)) (minute_again es d k t h)

-- ── labels ──

label_hours : (m : ℕ) → label_of m / 100 ≡ m / 60
unfolding label_of
label_hours m = omega arith

label_minutes : (m : ℕ) → label_of m % 100 ≡ m % 60
unfolding label_of
label_minutes m = omega arith

pub hours-below : (es : List Day) (cell : ℕ) → DaysTaken es → clock_label es cell / 100 < 24
unfolding clock_label
hours-below es cell t = omega (arith, label_hours (label_minute es (minute_of cell)), shown_in_day es (minute_of cell) t)

pub minutes_below : (es : List Day) (cell : ℕ) → clock_label es cell % 100 < 60
unfolding clock_label
minutes_below es cell = omega (arith, label_minutes (label_minute es (minute_of cell)))

-- ── nothing listed ──

pub label_plain : (m : ℕ) → label_minute [] m ≡ m % day_minutes
unfolding label_minute shown_on place_from unlisted
label_plain m = refl

pub clock_plain : (cell : ℕ) → clock_label [] cell ≡ label_of (cell % 2 ^ 32 % day_minutes)
unfolding clock_label
clock_plain cell = ap label_of (label_plain (minute_of cell))
