-- Listed days that no minute reaches change nothing. Assumes nothing.
use mathlib.Core.Path.{◌≡◌, refl, sym, ap, ◌∙◌}
use mathlib.Core.Logic.{inl, inr}
use mathlib.Core.List.{List, [], ◌∷◌, ◌++◌}
use Prim.Native.Nat.{ℕ, zero, suc, ◌-◌, ◌*◌, ◌/◌, ◌≤◌, ◌<◌}
use native.Mathlib.Omega.{arith}
use lib.ListN.{length-append}
use Rattle.lists.specs.Lists.{All, all_cons}
use Rattle.lists.proofs.Numbers.{lt_or_le}
use Rattle.lists.proofs.Lists.{all_left, pairs_left, all_map}
use Rattle.history.specs.Days.{Day, day_minutes, short_day, DaysTaken, start_of, Place, unlisted, place_from, day_of, shown_on, label_minute}
use Rattle.history.proofs.DaysRising.{taken-rises}
use Rattle.history.proofs.DaysSpans.{start_next}
use Rattle.history.proofs.DaysPlaces.{place_before, place_in, place_after, day_has}
use Rattle.history.proofs.DaysLabels.{length-one_of}

-- ── by the day of a minute ──

-- days listed after the day of the minute
pub place_late : (from : ℕ) (es fs : List Day) (m : ℕ) → All (λ (f : Day). (place_from from es m).day < f.day) fs
    → place_from from (es ++ fs) m ≡ place_from from es m
unfolding place_from unlisted
place_late from [] [] m h = refl
place_late from [] (f ∷ fs) m (all_cons p ps) = place_before from f fs m (omega arith)
place_late from (e ∷ es) fs m h =
    elim (lt_or_le (m / day_minutes) (e.day - from)) [
      | inl before ↦ place_before from e (es ++ fs) m before ∙ sym (place_before from e es m before)
      | inr reach ↦ elim (lt_or_le (m - (e.day - from) * day_minutes) e.minutes) [
        | inl in-it ↦ place_in from e (es ++ fs) m reach in-it ∙ sym (place_in from e es m reach in-it)
        | inr past_it ↦
            place_after from e (es ++ fs) m reach past_it
            ∙ place_late (suc e.day) es fs (m - (e.day - from) * day_minutes - e.minutes) (rw (place_after from e es m reach past_it) at h)
            ∙ sym (place_after from e es m reach past_it)
      ]
    ]

-- ── by the number of minutes ──

-- no day is shorter than a short one
pub start_least : (es : List Day) (d : ℕ) → DaysTaken es → d * short_day ≤ start_of es d
unfolding start_of
start_least es zero t = omega arith
start_least es (suc d) t =
    elim (length-one_of d (taken-rises t)) [
      | inl whole ↦ omega (arith, start_least es d t, start_next es d)
      | inr (inl short) ↦ omega (arith, start_least es d t, start_next es d)
      | inr (inr long) ↦ omega (arith, start_least es d t, start_next es d)
    ]

taken_left : (es fs : List Day) → DaysTaken (es ++ fs) → DaysTaken es
taken_left es fs t =
    record {
      few = omega (arith, t.few, length-append es fs);
      ascending = pairs_left es fs t.ascending;
      lengths = all_left es fs t.lengths;
    }

-- days that start at minute `top` or later, however the days before them are listed, move no label below it
pub label_late : (top : ℕ) (es fs : List Day) (m : ℕ) → DaysTaken (es ++ fs) → m < top → All (λ (f : Day). top ≤ f.day * short_day) fs
    → label_minute (es ++ fs) m ≡ label_minute es m
unfolding label_minute
label_late top es fs m t below late =
    let small = taken_left es fs t in
    ap (λ (p : Place). shown_on p.length p.minute)
    (place_late 0 es fs m (all_map (λ f h. omega (arith, day_has es m small, start_least es (day_of es m) small)) late))
