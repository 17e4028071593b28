-- The place of a minute: one step for each return of the walk; a place lies in its day, and goes on with the minutes of that day, whatever the list.
-- Assumes nothing.
use mathlib.Core.Path.{◌≡◌, refl, sym, ap, ◌∙◌}
use mathlib.Core.Logic.{inl, inr}
use mathlib.Core.List.{List, [], ◌∷◌}
use Prim.Native.Nat.{ℕ, suc, ◌+◌, ◌-◌, ◌*◌, ◌/◌, ◌%◌, ◌^◌, ◌≤◌, ◌<◌}
use native.Mathlib.Omega.{arith}
use native.Mathlib.Numerals.{add-one}
use lib.ListN.{length, get_or, drop}
use Rattle.lists.proofs.Numbers.{lt_or_le}
use Rattle.history.specs.Days.{Day, day_minutes, days_of, Place, unlisted, place_from, place_of}
use Rattle.days.specs.Stretches.{Placed}
use Rattle.history.proofs.DaysPlaces.{place_before, place_in, place_after}
use Rattle.days.proofs.Pairs.{pair_at, days_count, days_next, days_end}

-- ── the walk ──

-- the place of minute m is that of `left`, counted from the start of day `from`, with the pairs from k on
pub record Walks (l : List ℕ) (m k from left : ℕ) : Type 0 where
  pub below : k ≤ length (days_of l)
  pub same : place_from from (days_of (drop (2 * k) l)) left ≡ place_of (days_of l) m
  pub fits : from + left ≤ m + k
  pub early : m < 2 ^ 32
  pub short : 2 * length (days_of l) ≤ 2 ^ 64

pub walks_start : (l : List ℕ) (m : ℕ) → m < 2 ^ 32 → length l < 2 ^ 64 → Walks l m 0 0 m
walks_start l m h s = record { below = omega arith; same = refl; fits = omega arith; early = h; short = omega (arith, days_count l) }

-- a place that is the minute's
moved : {p q : Place} {d i n : ℕ} → p ≡ q → Placed p d i n → Placed q d i n
moved e p = record {
  in-day = p.in-day ∙ ap (λ (x : Place). x.day) e;
  at_minute = p.at_minute ∙ ap (λ (x : Place). x.minute) e;
  of_length = p.of_length ∙ ap (λ (x : Place). x.length) e;
}

module _ (l : List ℕ) (m k from left day gap n : ℕ) (walks : Walks l m k from left) (e : n ≡ length (days_of l)) (more : k < n) (d : day ≡ get_or l (2 * k) 0)
    (g : gap ≡ day - from) where
  here : place_from from (pair_at l k ∷ days_of (drop (2 * (k + 1)) l)) left ≡ place_of (days_of l) m
  here = rw (days_next l k (omega arith)) at walks.same

  pub place_earlier : {a b c : ℕ} → left / day_minutes < gap → Placed (unlisted from left) a b c → Placed (place_of (days_of l) m) a b c
  place_earlier h p = moved (sym (place_before from (pair_at l k) (days_of (drop (2 * (k + 1)) l)) left (omega arith)) ∙ here) p

  -- the number of a day that the minute reaches fits
  pub day_fits : gap ≤ left / day_minutes → day + 1 < 2 ^ 64
  day_fits h = omega arith

  module _ (length : ℕ) (s : length ≡ get_or l (2 * k + 1) 0) (reach : gap ≤ left / day_minutes) where
    into : left - gap * day_minutes ≡ left - (get_or l (2 * k) 0 - from) * day_minutes
    into = rw (g, d)

    pub place_here : left - gap * day_minutes < length → Placed (place_of (days_of l) m) day (left - gap * day_minutes) length
    place_here h =
        moved (sym (place_in from (pair_at l k) (days_of (drop (2 * (k + 1)) l)) left (omega arith) (omega (arith, into))) ∙ here)
        (record { in-day = d; at_minute = into; of_length = s })

    pub walks_more : length ≤ left - gap * day_minutes → Walks l m (k + 1) (day + 1) (left - gap * day_minutes - length)
    walks_more h =
        record {
          below = omega arith;
          same =
              rw (add-one day, d, into, s) (sym (place_after from (pair_at l k) (days_of (drop (2 * (k + 1)) l)) left (omega arith) (omega (arith, into))) ∙ here);
          fits = omega arith;
          early = walks.early;
          short = walks.short;
        }

pub place_later : (l : List ℕ) (m k from left n : ℕ) {a b c : ℕ} → Walks l m k from left → n ≡ length (days_of l) → n ≤ k → Placed (unlisted from left) a b c
    → Placed (place_of (days_of l) m) a b c
unfolding place_from
place_later l m k from left n walks e h p = moved (rw (days_end l k (omega arith)) at walks.same) p

pub ruleset walking = (walks_start, place_earlier, day_fits, place_here, walks_more, place_later)

-- ── the place goes on ──

-- the place k minutes later, in the same day
abbrev pub later : Place → (k : ℕ) → Place
later p k = record { day = p.day; minute = p.minute + k; length = p.length }

-- a place lies in its day, and goes on up to its end
pub record Steady (from : ℕ) (days : List Day) (m : ℕ) (p : Place) : Type 0 where
  pub low : p.minute ≤ m
  pub inside : p.minute < p.length
  pub on : (k : ℕ) → p.minute + k < p.length → place_from from days (m + k) ≡ later p k

unlisted-on : (from m k : ℕ) → m % day_minutes + k < day_minutes → unlisted from (m + k) ≡ later (unlisted from m) k
unfolding unlisted
unlisted-on from m k h =
    let day : (m + k) / day_minutes ≡ m / day_minutes = omega arith in
    let minute : (m + k) % day_minutes ≡ m % day_minutes + k = omega arith in
    rw (day, minute)

pub place_steady : (from : ℕ) (days : List Day) (m : ℕ) → Steady from days m (place_from from days m)
unfolding place_from unlisted
place_steady from [] m = record { low = omega arith; inside = omega arith; on = unlisted-on from m }
place_steady from (e ∷ es) m =
    elim (lt_or_le (m / day_minutes) (e.day - from)) [
      | inl before ↦ rw (place_before from e es m before) (record {
        low = omega arith;
        inside = omega arith;
        on = λ k h. place_before from e es (m + k) (omega arith) ∙ unlisted-on from m k h;
      })
      | inr reach ↦ elim (lt_or_le (m - (e.day - from) * day_minutes) e.minutes) [
        | inl in-it ↦ rw (place_in from e es m reach in-it) (record {
          low = omega arith;
          inside = in-it;
          on = λ k h. place_in from e es (m + k) (omega arith) (omega arith) ∙ ap (λ (i : ℕ). record { day = e.day; minute = i; length = e.minutes }) (omega arith);
        })
        | inr past_it ↦
            let rest = place_steady (suc e.day) es (m - (e.day - from) * day_minutes - e.minutes) in
            rw (place_after from e es m reach past_it) (record {
              low = omega (arith, rest.low);
              inside = rest.inside;
              on = λ k h. place_after from e es (m + k) (omega arith) (omega arith) ∙ ap (place_from (suc e.day) es) (omega arith) ∙ rest.on k h;
            })
      ]
    ]
