-- Lists of days to try, with what must come of them: days, labels, hours, lists that are offered. `requested_boards` makes it part of the build; boards with
-- calls stand in Requested.
use Rattle.std.specs.Prelude.{◌≡◌, Bool, true, false, List, [], ◌∷◌, map, ℕ, zero, suc, ◌+◌, ◌-◌, ◌^◌}
use Rattle.history.specs.Days.{days_of, days_taken, start_of, day_of, minute_in}
use Rattle.history.specs.Hours.{calendar_of, open_cell, closed_cell}
use Rattle.history.specs.Reads.{clock_label}

-- ── what is asked ──

-- what a cell is, by a list
pub record Told : Type 0 where
  pub day : ℕ
  pub minute : ℕ
  pub label : ℕ

unfoldable pub tell : (list : List ℕ) (cell : ℕ) → Told
tell list c =
    let days = days_of list in
    record { day = day_of days c; minute = minute_in days c; label = clock_label days c }

-- day, minute in it, label
infix 70 ◌on◌shows◌
abbrev pub ◌on◌shows◌ : (day minute label : ℕ) → Told
d on k shows n = record { day = d; minute = k; label = n }

-- a list, cells of platform 0, and what each must be
pub record Board : Type 0 where
  pub list : List ℕ
  pub cells : List ℕ
  pub comes : List Told

abbrev pub tells : Board → List Told
tells b = map (tell b.list) b.cells

unfoldable pub boards : List Board
boards =
    -- nothing listed
    record {
      list = [];
      cells = 0 ∷ 59 ∷ 60 ∷ 1439 ∷ 1440 ∷ (2 ^ 32 - 1) ∷ [];
      comes = 0 on 0 shows 0 ∷ 0 on 59 shows 59 ∷ 0 on 60 shows 100 ∷ 0 on 1439 shows 2359 ∷ 1 on 0 shows 0 ∷ 2982616 on 255 shows 415 ∷ [];
    }
    -- day 0 is short; days 1 and 2 follow
    ∷ record {
      list = 0 ∷ 1380 ∷ [];
      cells = 0 ∷ 119 ∷ 120 ∷ 1379 ∷ 1380 ∷ 2819 ∷ 2820 ∷ (2 ^ 32 - 1) ∷ [];
      comes = 0 on 0 shows 0 ∷ 0 on 119 shows 159 ∷ 0 on 120 shows 300 ∷ 0 on 1379 shows 2359 ∷ 1 on 0 shows 0 ∷ 1 on 1439 shows 2359 ∷ 2 on 0 shows 0 ∷ 2982616 on 315 shows 515 ∷ [];
    }
    -- day 0 is long
    ∷ record {
      list = 0 ∷ 1500 ∷ [];
      cells = 119 ∷ 120 ∷ 179 ∷ 180 ∷ 239 ∷ 240 ∷ 1499 ∷ 1500 ∷ 2940 ∷ (2 ^ 32 - 1) ∷ [];
      comes = 0 on 119 shows 159 ∷ 0 on 120 shows 200 ∷ 0 on 179 shows 259 ∷ 0 on 180 shows 200 ∷ 0 on 239 shows 259 ∷ 0 on 240 shows 300 ∷ 0 on 1499 shows 2359
          ∷ 1 on 0 shows 0 ∷ 2 on 0 shows 0 ∷ 2982616 on 195 shows 315 ∷ [];
    }
    -- day 1 is short, day 2 long and day 5 short: each shifts all later ones, and from day 3 to day 5 the first two make up for one another
    ∷ record {
      list = 1 ∷ 1380 ∷ 2 ∷ 1500 ∷ 5 ∷ 1380 ∷ [];
      cells = 1439 ∷ 1440 ∷ 1559 ∷ 1560 ∷ 2819 ∷ 2820 ∷ 3000 ∷ 4319 ∷ 4320 ∷ 7200 ∷ 8579 ∷ 8580 ∷ [];
      comes = 0 on 1439 shows 2359 ∷ 1 on 0 shows 0 ∷ 1 on 119 shows 159 ∷ 1 on 120 shows 300 ∷ 1 on 1379 shows 2359 ∷ 2 on 0 shows 0 ∷ 2 on 180 shows 200
          ∷ 2 on 1499 shows 2359 ∷ 3 on 0 shows 0 ∷ 5 on 0 shows 0 ∷ 5 on 1379 shows 2359 ∷ 6 on 0 shows 0 ∷ [];
    }
    -- days that no minute reaches, and the last day that one reaches
    ∷ record {
      list = 0 ∷ 1380 ∷ 2982617 ∷ 1500 ∷ (2 ^ 63) ∷ 1380 ∷ (2 ^ 64 - 1) ∷ 1500 ∷ [];
      cells = (2 ^ 32 - 1) ∷ [];
      comes = 2982616 on 315 shows 515 ∷ [];
    }
    ∷ record { list = 2982616 ∷ 1380 ∷ []; cells = (2 ^ 32 - 1) ∷ []; comes = 2982616 on 255 shows 515 ∷ [] }
    ∷ record { list = 2982616 ∷ 1500 ∷ []; cells = (2 ^ 32 - 1) ∷ []; comes = 2982616 on 255 shows 315 ∷ [] }
    ∷ []

-- ── hours ──

-- cells of one list and one calendar, and which of them are open
pub record Station : Type 0 where
  pub list : List ℕ
  pub numbers : List ℕ
  pub cells : List ℕ
  pub comes : List Bool

unfoldable pub stations : List Station
stations =
    -- Mondays 120 to 180: no cell of a short day, 120 cells of a long one
    record { list = 0 ∷ 1380 ∷ []; numbers = 1 ∷ 120 ∷ 180 ∷ []; cells = 119 ∷ 120 ∷ 179 ∷ 180 ∷ []; comes = false ∷ false ∷ false ∷ false ∷ [] }
    ∷ record {
      list = 0 ∷ 1500 ∷ [];
      numbers = 1 ∷ 120 ∷ 180 ∷ [];
      cells = 119 ∷ 120 ∷ 179 ∷ 180 ∷ 239 ∷ 240 ∷ [];
      comes = false ∷ true ∷ true ∷ true ∷ true ∷ false ∷ [];
    }
    -- Mondays from 23:00 on: the next Monday starts 60 minutes earlier after a short day, on every platform
    ∷ record {
      list = 0 ∷ 1380 ∷ [];
      numbers = 1 ∷ 1380 ∷ 1440 ∷ [];
      cells = 1319 ∷ 1320 ∷ 1379 ∷ 1380 ∷ 11399 ∷ 11400 ∷ 11459 ∷ 11460 ∷ (2 ^ 32 + 1320) ∷ [];
      comes = false ∷ true ∷ true ∷ false ∷ false ∷ true ∷ true ∷ false ∷ true ∷ [];
    }
    ∷ []

abbrev pub opens : Station → List Bool
opens s = map (open_cell (days_of s.list) (calendar_of s.numbers)) s.cells

-- ── lists that can be installed, and each fault ──

-- `many` short days from day `from` on, as numbers
unfoldable pub short_days : (from many : ℕ) → List ℕ
short_days from zero = []
short_days from (suc many) = from ∷ 1380 ∷ short_days (suc from) many

abbrev pub takes : List ℕ → Bool
takes list = days_taken (days_of list)

-- ── the result ──

-- every board comes out as it must
pub record DaysBoards : Type 0 where
  pub told : map tells boards ≡ map (λ (b : Board). b.comes) boards
  pub starts : map (start_of (days_of (1 ∷ 1380 ∷ 2 ∷ 1500 ∷ 5 ∷ 1380 ∷ []))) (0 ∷ 1 ∷ 2 ∷ 3 ∷ 4 ∷ 5 ∷ 6 ∷ []) ≡ 0 ∷ 1440 ∷ 2820 ∷ 4320 ∷ 5760 ∷ 7200 ∷ 8580 ∷ []
  -- a cell's platform is no part of its minute
  pub platforms : map (clock_label (days_of (0 ∷ 1380 ∷ []))) (120 ∷ (2 ^ 32 + 120) ∷ (2 ^ 64 - 1) ∷ []) ≡ 300 ∷ 300 ∷ 515 ∷ []
  pub cells_open : map opens stations ≡ map (λ (s : Station). s.comes) stations
  -- a booking through the double hour: 120 cells, all in the window; one more is refused
  pub double_hour : map (λ n. closed_cell (days_of (0 ∷ 1500 ∷ [])) (calendar_of (1 ∷ 120 ∷ 180 ∷ [])) 238 n) ((7 ∷ 7 ∷ []) ∷ (7 ∷ 7 ∷ 7 ∷ []) ∷ []) ≡ false ∷ true ∷ []
  -- taken: none, both lengths, any days, the largest one, 64 days
  pub taken : map takes ([] ∷ (0 ∷ 1380 ∷ []) ∷ (6 ∷ 1500 ∷ 7 ∷ 1500 ∷ (2 ^ 64 - 1) ∷ 1380 ∷ []) ∷ short_days 0 64 ∷ []) ≡ true ∷ true ∷ true ∷ true ∷ []
  -- not taken: another length, a day without its minutes, a day twice, days that fall, 65 days
  pub untaken : map takes ((0 ∷ 1440 ∷ []) ∷ (0 ∷ 1379 ∷ []) ∷ (0 ∷ 0 ∷ []) ∷ (7 ∷ []) ∷ (0 ∷ 1500 ∷ 7 ∷ []) ∷ (3 ∷ 1380 ∷ 3 ∷ 1500 ∷ []) ∷ (3 ∷ 1380 ∷ 2 ∷ 1500 ∷ []) ∷ short_days 0 65 ∷ [])
      ≡ false ∷ false ∷ false ∷ false ∷ false ∷ false ∷ false ∷ false ∷ []
