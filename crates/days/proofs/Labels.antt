-- What the clock shows at a place, and how far labels go on by one from it, whatever the list. Assumes nothing.
use mathlib.Core.Path.{◌≡◌, sym, ap, ap₂, ◌∙◌}
use mathlib.Core.Bool.{Bool, true, false, cond}
use mathlib.Core.List.{List}
use Prim.Native.Nat.{ℕ, ◌+◌, ◌-◌, ◌^◌, ◌≤◌, ◌<◌}
use native.Mathlib.Omega.{arith}
use lib.Dec.{ltb, eqb}
use Rattle.history.specs.Days.{Day, short_day, long_day, Place, place_of, shown_on, label_minute}
use Rattle.history.specs.Reads.{label_of}
use Rattle.days.specs.Stretches.{Placed, TurnsAt, Stretches}
use Rattle.days.proofs.Places.{Steady, place_steady}

-- ── a minute by its place ──

module _ (days : List Day) (m d i n : ℕ) (p : Placed (place_of days m) d i n) where
  steady : Steady 0 days m (place_of days m)
  steady = place_steady 0 days m

  pub minute_low : i ≤ m
  minute_low = omega (arith, p.at_minute, steady.low)

  pub minute_inside : i < n
  minute_inside = omega (arith, p.at_minute, p.of_length, steady.inside)

  pub placed-shows : (s : ℕ) → s ≡ shown_on n i → s ≡ label_minute days m
  unfolding label_minute
  placed-shows s e = e ∙ ap₂ shown_on p.of_length p.at_minute

  -- the place of a later minute of the day
  ahead : (k : ℕ) → i + k < n → place_of days (m + k) ≡ record { day = d; minute = i + k; length = n }
  ahead k h = steady.on k (omega (arith, p.at_minute, p.of_length)) ∙ rw (p.in-day, p.at_minute, p.of_length)

  pub stretch_done : (s turn : ℕ) → s ≡ shown_on n i → TurnsAt n i turn → Stretches days m d s (turn - i)
  unfolding label_minute
  stretch_done s turn e t =
      record {
        in-day = p.in-day;
        shows = placed-shows s e;
        some = omega (arith, t.after);
        ahead = record {
          in-day = λ k h. ap (λ (x : Place). x.day) (ahead k (omega (arith, t.inside)));
          shows = λ k h.
              ap (λ (x : Place). shown_on x.length x.minute) (ahead k (omega (arith, t.inside))) ∙ t.shows k (omega arith) ∙ ap (λ (x : ℕ). x + k) (sym e);
        };
      }

-- ── labels ──

shown-most : (n m : ℕ) → shown_on n m ≤ m + 60
unfolding shown_on
shown-most n m = go (eqb n short_day) (eqb n long_day) (ltb m 120) (ltb m 180)
  where
    go : (short long early low : Bool) → cond short (cond early m (m + 60)) (cond long (cond low m (m - 60)) m) ≤ m + 60
    go true long true low = omega arith
    go true long false low = omega arith
    go false true early true = omega arith
    go false true early false = omega arith
    go false false early low = omega arith

module _ (days : List Day) (m d i n : ℕ) (p : Placed (place_of days m) d i n) (h : m < 2 ^ 32) where
  pub minute_small : i < 2 ^ 32
  minute_small = omega (arith, minute_low days m d i n p)

  pub shown_small : (s : ℕ) → s ≡ shown_on n i → s < 2 ^ 33
  shown_small s e = omega (arith, minute_low days m d i n p, shown-most n i)

pub label_done : (days : List Day) (m d i n s r : ℕ) → Placed (place_of days m) d i n → s ≡ shown_on n i → r ≡ label_of s → r ≡ label_of (label_minute days m)
label_done days m d i n s r p e f = f ∙ ap label_of (placed-shows days m d i n p s e)

pub ruleset labelling = (minute_small, minute_inside, shown_small, stretch_done, label_done)
