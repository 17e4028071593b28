-- The laws of place_from: the place of a minute is the day whose stretch has it, and no other. Assumes nothing.
use mathlib.Core.Path.{◌≡◌, refl, sym, ap, ◌∙◌}
use mathlib.Core.Logic.{inl, inr, ⊎_elim}
use mathlib.Core.List.{List, [], ◌∷◌}
use Prim.Native.Nat.{ℕ, suc, ◌+◌, ◌-◌, ◌*◌, ◌/◌, ◌%◌, ◌≤◌, ◌<◌}
use native.Mathlib.Nat.{zero-add}
use native.Mathlib.Omega.{arith}
use borrow.Author.Tests.{lt-ltb, le-ltb}
use Rattle.lists.proofs.Numbers.{lt_or_le}
use Rattle.history.specs.Days.{Day, day_minutes, DaysTaken, length_of, span_of, start_of, Place, unlisted, place_from, place_of, day_of, minute_in}
use Rattle.history.proofs.DaysRising.{Listable, Rises, rises_nil, rises_cons, taken-rises}
use Rattle.history.proofs.DaysSpans.{length_here, length_other, length_low, span_first, span_add, span_low, span_after, start_next, start_up}

-- ── the steps ──

-- before the first listed day
pub place_before : (from : ℕ) (e : Day) (es : List Day) (m : ℕ) → m / day_minutes < e.day - from → place_from from (e ∷ es) m ≡ unlisted from m
unfolding place_from
place_before from e es m h = rw (lt-ltb (m / day_minutes) (e.day - from) h)

-- in it
pub place_in : (from : ℕ) (e : Day) (es : List Day) (m : ℕ) → e.day - from ≤ m / day_minutes → m - (e.day - from) * day_minutes < e.minutes
    → place_from from (e ∷ es) m ≡ record { day = e.day; minute = m - (e.day - from) * day_minutes; length = e.minutes }
unfolding place_from
place_in from e es m h k =
    rw (le-ltb (m / day_minutes) (e.day - from) h, lt-ltb (m - (e.day - from) * day_minutes) e.minutes k)

-- after it
pub place_after : (from : ℕ) (e : Day) (es : List Day) (m : ℕ) → e.day - from ≤ m / day_minutes → e.minutes ≤ m - (e.day - from) * day_minutes
    → place_from from (e ∷ es) m ≡ place_from (suc e.day) es (m - (e.day - from) * day_minutes - e.minutes)
unfolding place_from
place_after from e es m h k =
    rw (le-ltb (m / day_minutes) (e.day - from) h, le-ltb (m - (e.day - from) * day_minutes) e.minutes k)

-- ── a minute lies in the day of its place ──

-- p is where minute m lies, counted from the start of day `from`: `past` days lie between
pub record Lies (from : ℕ) (es : List Day) (m : ℕ) (p : Place) : Type 0 where
  pub past : ℕ
  pub reaches : p.day ≡ from + past
  pub sums : m ≡ span_of es from past + p.minute
  pub inside : p.minute < p.length
  pub long : p.length ≡ length_of es p.day

-- no listed day up to there
lies_unlisted : (from top m : ℕ) (es : List Day) → from + m / day_minutes < top → Rises top es → Lies from es m (unlisted from m)
unfolding unlisted
lies_unlisted from top m es h r =
    record {
      past = m / day_minutes;
      reaches = refl;
      sums = omega (arith, span_low from (m / day_minutes) (omega arith) r);
      inside = omega arith;
      long = sym (length_low (from + m / day_minutes) h r);
    }

-- a list from its own first day on
from_first : (e : Day) (es : List Day) → Listable e.minutes → Rises (suc e.day) es → Rises e.day (e ∷ es)
from_first e es q r = rises_cons {from = e.day} {e = e} (omega arith) q r

gap_span : (from : ℕ) (e : Day) (es : List Day) → from ≤ e.day → Listable e.minutes → Rises (suc e.day) es
    → span_of (e ∷ es) from (e.day - from) ≡ (e.day - from) * day_minutes
gap_span from e es p q r = span_low from (e.day - from) (omega arith) (from_first e es q r)

lies_in : (from : ℕ) (e : Day) (es : List Day) (m : ℕ) → from ≤ e.day → Listable e.minutes → Rises (suc e.day) es
    → e.day - from ≤ m / day_minutes → m - (e.day - from) * day_minutes < e.minutes
    → Lies from (e ∷ es) m (record { day = e.day; minute = m - (e.day - from) * day_minutes; length = e.minutes })
lies_in from e es m p q r reach in-it =
    record {
      past = e.day - from;
      reaches = omega arith;
      sums = omega (arith, gap_span from e es p q r);
      inside = in-it;
      long = sym (length_here e es);
    }

lies_after : (from : ℕ) (e : Day) (es : List Day) (m : ℕ) (place : Place) → from ≤ e.day → Listable e.minutes → Rises (suc e.day) es
    → e.day - from ≤ m / day_minutes → e.minutes ≤ m - (e.day - from) * day_minutes
    → Lies (suc e.day) es (m - (e.day - from) * day_minutes - e.minutes) place → Lies from (e ∷ es) m place
lies_after from e es m place p q r reach past_it rest =
    record {
      past = e.day - from + suc rest.past;
      reaches = omega (arith, rest.reaches);
      sums = omega (
        arith,
        span_add (e ∷ es) from (e.day - from) (suc rest.past),
        gap_span from e es p q r,
        ap (λ (x : ℕ). span_of (e ∷ es) x (suc rest.past)) (at_day from e.day p),
        span_first (e ∷ es) e.day rest.past,
        length_here e es,
        span_after e es (suc e.day) rest.past (omega arith),
        rest.sums,
      );
      inside = rest.inside;
      long = rest.long ∙ sym (length_other e es place.day (λ x. omega (arith, rest.reaches)));
    }
  where
    at_day : (a b : ℕ) → a ≤ b → a + (b - a) ≡ b
    at_day a b h = omega arith

pub place_lies : {from : ℕ} {es : List Day} (m : ℕ) → Rises from es → Lies from es m (place_from from es m)
unfolding place_from
place_lies {from} m rises_nil = lies_unlisted from (suc (from + m / day_minutes)) m [] (omega arith) rises_nil
place_lies m (rises_cons {from} {e} {es} p q r) =
    elim (lt_or_le (m / day_minutes) (e.day - from)) [
      | inl before ↦ rw (place_before from e es m before) (lies_unlisted from e.day m (e ∷ es) (omega arith) (from_first e es q r))
      | inr reach ↦ elim (lt_or_le (m - (e.day - from) * day_minutes) e.minutes) [
        | inl in-it ↦ rw (place_in from e es m reach in-it) (lies_in from e es m p q r reach in-it)
        | inr past_it ↦ rw (place_after from e es m reach past_it) (lies_after from e es m _ p q r reach past_it
            (place_lies (m - (e.day - from) * day_minutes - e.minutes) r))
      ]
    ]

-- ── and in no other ──

-- a minute lies in its day
pub day_has : (es : List Day) (m : ℕ) → DaysTaken es → start_of es (day_of es m) + minute_in es m ≡ m
unfolding start_of
day_has es m t =
    let lies = place_lies m (taken-rises t) in
    omega (arith, lies.sums, ap (span_of es 0) (lies.reaches ∙ zero-add lies.past))

pub minute_below : (es : List Day) (m : ℕ) → DaysTaken es → minute_in es m < length_of es (day_of es m)
minute_below es m t =
    let lies = place_lies m (taken-rises t) in
    omega (arith, lies.inside, lies.long)

pub place_length : (es : List Day) (m : ℕ) → DaysTaken es → (place_of es m).length ≡ length_of es (day_of es m)
place_length es m t = (place_lies m (taken-rises t)).long

-- two stretches that share a minute are one
starts_apart : (es : List Day) (a b m : ℕ) → start_of es a ≤ m → m < start_of es (suc a) → start_of es b ≤ m → m < start_of es (suc b) → b ≤ a
starts_apart es a b m al ah bl bh =
    ⊎_elim (λ h. omega (arith, start_up es (suc a) (b - suc a), ap (start_of es) (up a b h))) (λ h. h) (lt_or_le a b)
  where
    up : (x y : ℕ) → x < y → suc x + (y - suc x) ≡ y
    up x y h = omega arith

same_of_le : (a b : ℕ) → a ≤ b → b ≤ a → a ≡ b
same_of_le a b p q = omega arith

-- the day whose stretch has the minute is its day
pub day_only : (es : List Day) (d m : ℕ) → DaysTaken es → start_of es d ≤ m → m < start_of es (suc d) → day_of es m ≡ d
day_only es d m t low high =
    let from : start_of es (day_of es m) ≤ m = omega (arith, day_has es m t) in
    let below : m < start_of es (suc (day_of es m)) = omega (arith, day_has es m t, minute_below es m t, start_next es (day_of es m)) in
    same_of_le (day_of es m) d (starts_apart es d (day_of es m) m low high from below) (starts_apart es (day_of es m) d m from below low high)

-- a minute of a day is named again by its day and its minute in it
pub day_again : (es : List Day) (d k : ℕ) → DaysTaken es → k < length_of es d → day_of es (start_of es d + k) ≡ d
day_again es d k t h = day_only es d (start_of es d + k) t (omega arith) (omega (arith, start_next es d))

pub minute_again : (es : List Day) (d k : ℕ) → DaysTaken es → k < length_of es d → minute_in es (start_of es d + k) ≡ k
minute_again es d k t h = omega (arith, day_has es (start_of es d + k) t, ap (start_of es) (day_again es d k t h))

-- ── nothing listed ──

pub day_plain : (m : ℕ) → day_of [] m ≡ m / day_minutes
unfolding place_from unlisted
day_plain m = omega arith

pub minute_plain : (m : ℕ) → minute_in [] m ≡ m % day_minutes
unfolding place_from unlisted
minute_plain m = refl
