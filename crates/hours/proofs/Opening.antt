-- Open cells: one step for each return of the reads. Assumes nothing.
use mathlib.Core.Path.{◌≡◌, refl, sym, ap, ◌∙◌}
use mathlib.Core.Logic.{◌⊎◌, inl, inr}
use mathlib.Core.Bool.{true, false, ◌||◌, not}
use mathlib.Core.Option.{none}
use mathlib.Core.List.{List, [], ◌∷◌, map}
use Prim.Native.Nat.{ℕ, zero, suc, ◌+◌, ◌-◌, ◌*◌, ◌%◌, ◌^◌, ◌≤◌, ◌<◌, min}
use native.Mathlib.Omega.{arith}
use lib.ListN.{length, get_or, drop, drop_of_length-le}
use lib.Seq.{drop-cons}
use lib.Dec.{leb, ltb, eqb}
use borrow.Author.Tests.{lt-ltb, le-leb, eq-eqb, ne_eqb, leb-true, ltb-true}
use Rattle.std.proofs.Math.Bool.{and-false}
use Rattle.lists.proofs.Numbers.{bool_cases, and_left, and_right, or_true}
use Rattle.history.specs.Days.{Day, minute_of}
use Rattle.history.specs.Hours.{Window, Calendar, window_at, hours_at, special_at, special_place, calendar_of, most_windows, most_special, special_count, covers, covered, special_of, windows_of, open_minute, open_cell, refused_on, closed_cell}
use Rattle.std.specs.Prelude.{Option, Some, None, MatchOption, IsSomeAnd}
use Rattle.hours.specs.Reach.{the_window, until_of, special_from, StandsAt, SpecialStands, OpenFor, Passes}
use Rattle.history.proofs.HoursLaws.{weekday_at_lem}
use Rattle.days.specs.Stretches.{Stretches}
use Rattle.std.specs.List.{AllWithin, HoldsAt, range_with_len}
use Rattle.lists.specs.Lists.{count_from}
use Rattle.hours.specs.declared.Window as code
use Rattle.hours.proofs.Rows.{rows_more, rows_none, rows_all, rows_range}

-- ── options ──

some_same : {a b : ℕ} → Some a ≡ Some b → a ≡ b
some_same e = cc

-- ── the window that covers a minute ──

-- so many windows of the hours that stand at a place
abbrev pub windows_to : (numbers : List ℕ) (at count : ℕ) → List Window
windows_to numbers at count = map (window_at numbers at) (range_with_len 0 (count - 0))

abbrev pub Spares : (minute : ℕ) → Window → Type 0
Spares minute w = covers minute w ≡ false

until_none : (minute : ℕ) (ws : List Window) → AllWithin (Spares minute) ws 0 (length ws) → None ≡ until_of minute ws
unfolding until_of
until_none minute [] spared = refl
until_none minute (w ∷ ws) spared =
    rw (spared 0 w (omega arith) (omega arith)) (until_none minute ws (λ k d a b. spared (suc k) d (omega arith) (omega arith)))

until_first : (minute : ℕ) (ws : List Window) (i : ℕ) (w : Window) → i < length ws → HoldsAt (λ y. y ≡ w) ws i → covers minute w ≡ true → AllWithin (Spares minute) ws 0 i
    → Some w.to ≡ until_of minute ws
unfolding until_of
until_first minute [] i w l here covered spared = absurd (omega arith)
until_first minute (x ∷ xs) zero w l here covered spared = rw (here w, covered)
until_first minute (x ∷ xs) (suc i) w l here covered spared =
    rw (spared 0 x (omega arith) (omega arith))
    (until_first minute xs i w (omega arith) here covered (λ k d a b. spared (suc k) d (omega arith) (omega arith)))

-- the first that covers the minute was found, and its end told
pub until_told : (numbers : List ℕ) (at minute count : ℕ) → count ≡ min (get_or numbers at 0) most_windows → (found : Option code.Window) (end : Option ℕ) (Gives : code.Window → ℕ → Type 0)
    → MatchOption found (AllWithin (Spares minute) (windows_to numbers at count) 0 (length (windows_to numbers at count)))
    (λ w. (covers minute (the_window w) ≡ true) × (i : ℕ) × (i < length (windows_to numbers at count)) × HoldsAt (λ y. y ≡ the_window w) (windows_to numbers at count) i
    × AllWithin (Spares minute) (windows_to numbers at count) 0 i)
    → MatchOption found (end ≡ None) (λ w. IsSomeAnd end (Gives w)) → ((w : code.Window) (y : ℕ) → Gives w y → y ≡ w.to) → end ≡ until_of minute (hours_at numbers at).windows
unfolding hours_at
until_told numbers at minute count m found end Gives first told gives = rw (← m) (tells found end first told ∙ ap (λ xs. until_of minute (map (window_at numbers at) xs)) (rows_range 0 (count - 0)) ∙ e)
  where
    e : until_of minute (map (window_at numbers at) (count_from 0 (count - 0))) ≡ until_of minute (map (window_at numbers at) (count_from 0 count))
    e = sym (ap (until_of minute) (rows_all (window_at numbers at) count))

    tells : (found : Option code.Window) (end : Option ℕ) → MatchOption found (AllWithin (Spares minute) (windows_to numbers at count) 0 (length (windows_to numbers at count)))
        (λ w. (covers minute (the_window w) ≡ true) × (i : ℕ) × (i < length (windows_to numbers at count)) × HoldsAt (λ y. y ≡ the_window w) (windows_to numbers at count) i
        × AllWithin (Spares minute) (windows_to numbers at count) 0 i)
        → MatchOption found (end ≡ None) (λ w. IsSomeAnd end (Gives w)) → end ≡ until_of minute (windows_to numbers at count)
    tells None end first told = told ∙ until_none minute (windows_to numbers at count) first
    tells (Some w) None first told = absurd told
    tells (Some w) (Some y) first told = ap Some (gives w y told) ∙ until_first minute (windows_to numbers at count) first.1 (the_window w) first.2 first.3 first.0 first.4

-- ── special days ──

pub record SpecialRest (numbers : List ℕ) (day count k : ℕ) : Type 0 where
  pub below : k ≤ count
  pub few : count ≤ most_special
  pub rest : special_of day (calendar_of numbers).special ≡ special_of day (special_from numbers k (count - k))

module _ (numbers : List ℕ) (day count : ℕ) where
  pub special_start : count ≡ min (get_or numbers special_count 0) most_special → SpecialRest numbers day count 0
  unfolding calendar_of
  special_start m = record { below = omega arith; few = omega arith; rest = rw (← m) (ap (special_of day) (rows_all (special_at numbers) count)) }

  module _ (k : ℕ) (s : SpecialRest numbers day count k) where
    pub special_more : k < count → ((special_at numbers k).day ≡ day → ⊥) → SpecialRest numbers day count (k + 1)
    unfolding special_of
    special_more h n =
        record {
          below = omega arith;
          few = s.few;
          rest = s.rest ∙ rw (rows_more (special_at numbers) k count h, ne_eqb (special_at numbers k).day day n);
        }

    pub special_found : (place : ℕ) → k < count → place ≡ special_place k + 1 → (special_at numbers k).day ≡ day → StandsAt numbers day place
    unfolding special_of
    special_found place h p n =
        record {
          low = omega (arith, s.few);
          present = s.rest ∙ rw (rows_more (special_at numbers) k count h, eq-eqb (special_at numbers k).day day n, p);
        }

    pub special_none : count ≤ k → special_of day (calendar_of numbers).special ≡ none
    unfolding special_of
    special_none h = s.rest ∙ rw (rows_none (special_at numbers) k count h)

-- the special days below i are others
special_upto : (numbers : List ℕ) (day count : ℕ) → count ≡ min (get_or numbers special_count 0) most_special → (i : ℕ) → i ≤ count
    → ((k : ℕ) → 0 ≤ k → k < i → (special_at numbers k).day ≡ day → ⊥) → SpecialRest numbers day count i
special_upto numbers day count m zero l other = special_start numbers day count m
special_upto numbers day count m (suc i) l other =
    let e : i + 1 ≡ suc i = omega arith in
    rw e at (special_more numbers day count i (special_upto numbers day count m i (omega arith) (λ k a b. other k a (omega arith))) (omega arith) (other i (omega arith) (omega arith)))

-- the first that is so was found, and its place told
pub special_told : (numbers : List ℕ) (day count : ℕ) → count ≡ min (get_or numbers special_count 0) most_special → (found place : Option ℕ) (Gives : ℕ → ℕ → Type 0)
    → MatchOption found ((k : ℕ) → 0 ≤ k → k < count → (special_at numbers k).day ≡ day → ⊥)
    (λ i. (0 ≤ i) × (i < count) × ((special_at numbers i).day ≡ day) × ((k : ℕ) → 0 ≤ k → k < i → (special_at numbers k).day ≡ day → ⊥))
    → MatchOption found (place ≡ None) (λ k. IsSomeAnd place (Gives k)) → ((k y : ℕ) → Gives k y → y ≡ special_place k + 1) → SpecialStands numbers day place
special_told numbers day count m None place Gives first told gives = rw told (special_none numbers day count count (special_upto numbers day count m count (omega arith) first) (omega arith))
special_told numbers day count m (Some k) None Gives first told gives = absurd told
special_told numbers day count m (Some k) (Some y) Gives first told gives =
    special_found numbers day count k (special_upto numbers day count m k (omega (arith, first.1)) first.3) y first.1 (gives k y told) first.2

-- ── all windows of a day ──

pub until_on_special : (numbers : List ℕ) (day minute place : ℕ) → StandsAt numbers day place
    → until_of minute (hours_at numbers place).windows ≡ until_of minute (windows_of (calendar_of numbers) day)
unfolding windows_of
until_on_special numbers day minute place stands = rw stands.present

pub until_on_weekday : (numbers : List ℕ) (day minute : ℕ) → special_of day (calendar_of numbers).special ≡ none
    → until_of minute (hours_at numbers (17 * (day % 7))).windows ≡ until_of minute (windows_of (calendar_of numbers) day)
unfolding windows_of
until_on_weekday numbers day minute absent = rw (absent, weekday_at_lem numbers day)

-- ── open cells ──

-- a window that covers the minute ends after it, and covers all minutes until its end
pub until_ahead : (minute : ℕ) (ws : List Window) (u : ℕ) → until_of minute ws ≡ Some u → minute < u
unfolding until_of
until_ahead minute [] u e = absurd (cc)
until_ahead minute (w ∷ ws) u e = step (bool_cases (covers minute w)) (until_ahead minute ws u)
  where
    step : (covers minute w ≡ true) ⊎ (covers minute w ≡ false) → (until_of minute ws ≡ Some u → minute < u) → minute < u
    step (inl c) rest =
        let t : w.to ≡ u = some_same (rw c at e) in
        omega (arith, ltb-true minute w.to (and_right (leb w.from minute) (ltb minute w.to) c))
    step (inr c) rest = rest (rw c at e)

pub until_covers : (minute : ℕ) (ws : List Window) (u m : ℕ) → until_of minute ws ≡ Some u → minute ≤ m → m < u → covered m ws ≡ true
unfolding until_of covered
until_covers minute [] u m e h l = absurd (cc)
until_covers minute (w ∷ ws) u m e h l = step (bool_cases (covers minute w)) (λ q. until_covers minute ws u m q h l)
  where
    step : (covers minute w ≡ true) ⊎ (covers minute w ≡ false) → (until_of minute ws ≡ Some u → covered m ws ≡ true) → (covers m w || covered m ws) ≡ true
    step (inl c) rest =
        let t : w.to ≡ u = some_same (rw c at e) in
        let f : w.from ≤ minute = leb-true w.from minute (and_left (leb w.from minute) (ltb minute w.to) c) in
        rw (le-leb w.from m (omega arith), lt-ltb m w.to (omega arith))
    step (inr c) rest = or_true (covers m w) (covered m ws) (rest (rw c at e))

-- none covers it
pub until_closed : (minute : ℕ) (ws : List Window) → until_of minute ws ≡ None → covered minute ws ≡ false
unfolding until_of covered
until_closed minute [] z = refl
until_closed minute (w ∷ ws) z = step (bool_cases (covers minute w)) (until_closed minute ws)
  where
    step : (covers minute w ≡ true) ⊎ (covers minute w ≡ false) → (until_of minute ws ≡ None → covered minute ws ≡ false)
        → (covers minute w || covered minute ws) ≡ false
    step (inl c) rest = absurd (let q : Some w.to ≡ None = rw c at z in cc)
    step (inr c) rest = rw c (rest (rw c at z))

-- ── how far a window reaches ──

module _ (days : List Day) (c : Calendar) (cell m day label n : ℕ) (at : m ≡ minute_of cell) (s : Stretches days m day label n) where
  pub reach_closed : until_of label (windows_of c day) ≡ None → open_cell days c cell ≡ false
  unfolding open_minute
  reach_closed e = rw (← at, ← s.in-day, ← s.shows) (until_closed label (windows_of c day) e)

  module _ (u : ℕ) (e : until_of label (windows_of c day) ≡ Some u) where
    -- the cell k behind is of the same day and its label is k further, as far as the window, the stretch and the platform go
    same_stretch : (k : ℕ) → m + k < 2 ^ 32 → k < n → label + k < u → open_cell days c (cell + k) ≡ true
    unfolding open_minute
    same_stretch k p q h =
        let minute : minute_of (cell + k) ≡ m + k = omega arith in
        rw (minute, s.ahead.in-day k q, s.ahead.shows k q) (until_covers label (windows_of c day) u (label + k) e (omega arith) h)

    pub reach_open : (r : ℕ) → r ≡ min (min (u - label) n) (2 ^ 32 - m) → (0 < r) × OpenFor days c cell r
    reach_open r q =
        let after : label < u = until_ahead label (windows_of c day) u e in
        (omega (arith, s.some), record { each = λ k z. same_stretch k (omega arith) (omega arith) (omega arith) })

-- ── all cells of an operation ──

-- the bytes from the i-th on decide
pub record ClosedRest (days : List Day) (c : Calendar) (first : ℕ) (bytes : List ℕ) (i : ℕ) : Type 0 where
  pub below : i ≤ length bytes
  pub rest : closed_cell days c first bytes ≡ closed_cell days c (first + i) (drop i bytes)

pub closed_start : (days : List Day) (c : Calendar) (first : ℕ) (bytes : List ℕ) → ClosedRest days c first bytes 0
closed_start days c first bytes =
    let z : first + 0 ≡ first = omega arith in
    record { below = omega arith; rest = rw z }

pub closed_none : (days : List Day) (c : Calendar) (first : ℕ) (bytes : List ℕ) (i : ℕ) → ClosedRest days c first bytes i → length bytes ≤ i → false ≡ closed_cell days c first bytes
unfolding closed_cell
closed_none days c first bytes i s h = sym (s.rest ∙ rw (drop_of_length-le bytes h))

-- one more byte is not refused
one_more : (days : List Day) (c : Calendar) (first : ℕ) (bytes : List ℕ) (i : ℕ) → i < length bytes → refused_on days c (first + i) (get_or bytes i 0) ≡ false → ClosedRest days c first bytes i
    → ClosedRest days c first bytes (suc i)
unfolding closed_cell
one_more days c first bytes i h e s =
    let f : first + suc i ≡ suc (first + i) = omega arith in
    record { below = omega arith; rest = s.rest ∙ rw (drop-cons bytes i 0 h, e, f) }

-- a cell is open or closed by its minute alone
by_minute : (days : List Day) (c : Calendar) (first i cell k : ℕ) → cell ≡ first % 2 ^ 32 + i % 2 ^ 32 → open_cell days c (cell + k) ≡ open_cell days c (first + i + k)
by_minute days c first i cell k e = ap (open_minute days c) (omega arith)

-- so are k more, all of them open
more_open : (days : List Day) (c : Calendar) (first : ℕ) (bytes : List ℕ) (i k : ℕ) → i + k ≤ length bytes → OpenFor days c (first + i) k → ClosedRest days c first bytes i → ClosedRest days c first bytes (i + k)
more_open days c first bytes i zero h o s = let z : i + 0 ≡ i = omega arith in rw z s
more_open days c first bytes i (suc k) h o s =
    let e : i + suc k ≡ suc (i + k) = omega arith in
    let at : first + (i + k) ≡ first + i + k = omega arith in
    rw e (one_more days c first bytes (i + k) (omega arith) (rw (at, o.each k (omega arith)) (and-false (not (eqb (get_or bytes (i + k) 0) 0))))
    (more_open days c first bytes i k (omega arith) (record { each = λ j l. o.each j (omega arith) }) s))

module _ (days : List Day) (c : Calendar) (first : ℕ) (bytes : List ℕ) (i cell byte : ℕ) (s : ClosedRest days c first bytes i) (h : i < length bytes)
    (e : cell ≡ first % 2 ^ 32 + i % 2 ^ 32) (b : byte ≡ get_or bytes i 0) where
  this : open_cell days c cell ≡ open_cell days c (first + i)
  this = ap (open_minute days c) (omega arith)

  pub closed_found : Passes days c cell byte None → true ≡ closed_cell days c first bytes
  unfolding closed_cell
  closed_found q = sym (s.rest ∙ rw (drop-cons bytes i 0 h, ← b, ne_eqb byte 0 q.0, ← this, q.1))

  pub closed_more : (r k : ℕ) → Passes days c cell byte (Some r) → k ≡ min r (length bytes - i) → ClosedRest days c first bytes (i + k)
  closed_more r k p m = go p.1
    where
      go : ((byte ≡ 0) × (r ≡ 1)) ⊎ OpenFor days c cell r → ClosedRest days c first bytes (i + k)
      go (inl z) =
          let one : i + k ≡ suc i = omega (arith, z.1) in
          rw one (one_more days c first bytes i h (rw (← b, eq-eqb byte 0 z.0)) s)
      go (inr o) =
          more_open days c first bytes i k (omega arith) (record { each = λ j l. sym (by_minute days c first i cell j e) ∙ o.each j (omega arith) }) s
