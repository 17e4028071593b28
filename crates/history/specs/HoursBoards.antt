-- Calendars to try, with what must come of them: cells, operations, calendars that are offered. `requested_boards` makes it part of the build; boards with
-- calls stand in Requested.
use Rattle.std.specs.Prelude.{◌≡◌, Bool, true, false, ℕ, zero, suc, ◌+◌, ◌*◌, ◌-◌, ◌^◌, length}
use mathlib.Core.List.{List, [], ◌∷◌, ◌++◌, map, flat_map}
use Rattle.lists.specs.Lists.{count_from}
use Rattle.history.specs.Hours.{Window, calendar_of, open_cell, closed_cell, calendar_taken}

-- ── calendars written as numbers ──

infix 70 ◌to◌
abbrev pub ◌to◌ : ℕ → ℕ → Window
a to b = record { from = a; to = b }

-- n pairs
unfoldable pub pairs : (n : ℕ) → List Window → List ℕ
pairs zero ws = []
pairs (suc n) [] = 0 ∷ 0 ∷ pairs n []
pairs (suc n) (w ∷ ws) = w.from ∷ w.to ∷ pairs n ws

-- the hours of a weekday, and a special day
unfoldable pub hours : List Window → List ℕ
hours ws = length ws ∷ pairs 8 ws

unfoldable pub special : (day : ℕ) → List Window → List ℕ
special day ws = day ∷ hours ws

-- a week and its special days, with their count
unfoldable pub calendar : (week : List (List Window)) (count : ℕ) (days : List (List ℕ)) → List ℕ
calendar week count days = flat_map hours week ++ (count ∷ flat_map (λ d. d) days)

unfoldable pub no_week : List (List Window)
no_week = [] ∷ [] ∷ [] ∷ [] ∷ [] ∷ [] ∷ [] ∷ []

unfoldable pub monday : List Window → List (List Window)
monday ws = ws ∷ [] ∷ [] ∷ [] ∷ [] ∷ [] ∷ [] ∷ []

-- n special days without windows, from day 0 on
unfoldable pub day_by_day : (n : ℕ) → List (List ℕ)
day_by_day n = map (λ d. special d []) (count_from 0 n)

-- the cell of a minute of a day
abbrev pub cell_on : (day minute : ℕ) → ℕ
cell_on day minute = day * 1440 + minute

-- ── the boards ──

-- cells of one calendar, and which of them are open
pub record Board : Type 0 where
  pub numbers : List ℕ
  pub cells : List ℕ
  pub comes : List Bool

unfoldable pub boards : List Board
boards =
    -- Mondays 480 to 1200, on every platform; the slice ends behind Monday's pair. A day by the cell with its platform would be a Tuesday at the last cell.
    record {
      numbers = 1 ∷ 480 ∷ 1200 ∷ [];
      cells = 479 ∷ 480 ∷ 1199 ∷ 1200 ∷ cell_on 1 480 ∷ cell_on 6 480 ∷ cell_on 7 479 ∷ cell_on 7 480 ∷ (3 * 2 ^ 32 + 479) ∷ (3 * 2 ^ 32 + 480) ∷ (2 ^ 32 + 1199) ∷ [];
      comes = false ∷ true ∷ true ∷ false ∷ false ∷ false ∷ false ∷ true ∷ false ∷ true ∷ true ∷ [];
    }
    -- an empty calendar closes all
    ∷ record { numbers = []; cells = 0 ∷ 480 ∷ cell_on 6 1439 ∷ (2 ^ 64 - 1) ∷ []; comes = false ∷ false ∷ false ∷ false ∷ [] }
    -- a pair past the count is not looked at
    ∷ record { numbers = 1 ∷ 0 ∷ 10 ∷ 20 ∷ 30 ∷ []; cells = 9 ∷ 25 ∷ []; comes = true ∷ false ∷ [] }
    -- windows overlap, repeat, stand in any order
    ∷ record {
      numbers = calendar (monday (700 to 800 ∷ 100 to 200 ∷ 150 to 300 ∷ 100 to 200 ∷ [])) 0 [];
      cells = 99 ∷ 100 ∷ 199 ∷ 200 ∷ 299 ∷ 300 ∷ 700 ∷ 799 ∷ 800 ∷ [];
      comes = false ∷ true ∷ true ∷ true ∷ true ∷ false ∷ true ∷ true ∷ false ∷ [];
    }
    -- a special day has its own windows in place of those of its weekday, and no other day has them; without windows it is closed
    ∷ record {
      numbers = calendar (monday (480 to 1200 ∷ [])) 3 (special 0 (60 to 120 ∷ []) ∷ special 1 (0 to 10 ∷ []) ∷ special 7 [] ∷ []);
      cells = 59 ∷ 60 ∷ 480 ∷ cell_on 1 9 ∷ cell_on 1 10 ∷ cell_on 1 480 ∷ cell_on 7 60 ∷ cell_on 7 480 ∷ cell_on 8 9 ∷ cell_on 14 480 ∷ [];
      comes = false ∷ true ∷ false ∷ true ∷ false ∷ false ∷ false ∷ false ∷ false ∷ true ∷ [];
    }
    -- a special day past the count is not looked at
    ∷ record {
      numbers = calendar no_week 1 (special 0 (60 to 120 ∷ []) ∷ special 1 (0 to 10 ∷ []) ∷ []);
      cells = 60 ∷ cell_on 1 9 ∷ [];
      comes = true ∷ false ∷ [];
    }
    -- a platform's last day is a Monday of 256 minutes; minute 0 of the next platform, a Monday too, follows
    ∷ record {
      numbers = calendar (monday (250 to 256 ∷ [])) 1 (special 2982616 (0 to 1 ∷ []) ∷ []);
      cells = (2 ^ 32 - 257) ∷ (2 ^ 32 - 256) ∷ (2 ^ 32 - 255) ∷ (2 ^ 32 - 7) ∷ (2 ^ 32 - 6) ∷ (2 ^ 32 - 1) ∷ (2 ^ 32) ∷ (2 ^ 32 + 250) ∷ (2 ^ 64 - 1) ∷ [];
      comes = false ∷ true ∷ false ∷ false ∷ false ∷ false ∷ false ∷ true ∷ false ∷ [];
    }
    -- the last weekday, and a special day of the largest number
    ∷ record {
      numbers = calendar ([] ∷ [] ∷ [] ∷ [] ∷ [] ∷ [] ∷ (0 to 1440 ∷ []) ∷ []) 1 (special (2 ^ 64 - 1) (0 to 1440 ∷ []) ∷ []);
      cells = cell_on 5 1439 ∷ cell_on 6 0 ∷ cell_on 6 1439 ∷ cell_on 7 0 ∷ cell_on 13 700 ∷ [];
      comes = false ∷ true ∷ true ∷ false ∷ true ∷ [];
    }
    ∷ []

abbrev pub opens : Board → List Bool
opens b = map (open_cell [] (calendar_of b.numbers)) b.cells

-- ── operations ──

pub record Booking : Type 0 where
  pub numbers : List ℕ
  pub first : ℕ
  pub bytes : List ℕ
  pub closed : Bool

-- Mondays to midnight and Tuesdays from it
unfoldable pub night : List ℕ
night = calendar ((1437 to 1440 ∷ []) ∷ (0 to 2 ∷ []) ∷ [] ∷ [] ∷ [] ∷ [] ∷ [] ∷ []) 0 []

unfoldable pub bookings : List Booking
bookings =
    -- through midnight, each cell by its own day
    record { numbers = night; first = 1437; bytes = 7 ∷ 7 ∷ 7 ∷ 7 ∷ 7 ∷ []; closed = false }
    -- one minute early, one minute late
    ∷ record { numbers = night; first = 1436; bytes = 7 ∷ 7 ∷ []; closed = true }
    ∷ record { numbers = night; first = 1438; bytes = 7 ∷ 7 ∷ 7 ∷ 7 ∷ 7 ∷ []; closed = true }
    -- zero bytes pass there
    ∷ record { numbers = night; first = 1435; bytes = 0 ∷ 0 ∷ 7 ∷ 0 ∷ 7 ∷ 7 ∷ 7 ∷ 0 ∷ []; closed = false }
    -- through a platform's end: both sides open, one side closed
    ∷ record { numbers = 2 ∷ 254 ∷ 256 ∷ 0 ∷ 1 ∷ []; first = 2 ^ 32 - 2; bytes = 7 ∷ 7 ∷ 7 ∷ []; closed = false }
    ∷ record { numbers = 1 ∷ 254 ∷ 258 ∷ []; first = 2 ^ 32 - 2; bytes = 7 ∷ 7 ∷ 7 ∷ []; closed = true }
    ∷ record { numbers = 1 ∷ 0 ∷ 1440 ∷ []; first = 2 ^ 33 - 1; bytes = 7 ∷ 7 ∷ []; closed = false }
    -- no hours at all
    ∷ record { numbers = []; first = 600; bytes = 0 ∷ 0 ∷ []; closed = false }
    ∷ record { numbers = []; first = 600; bytes = 0 ∷ 1 ∷ []; closed = true }
    ∷ []

abbrev pub refuses : Booking → Bool
refuses b = closed_cell [] (calendar_of b.numbers) b.first b.bytes

-- ── calendars that can be installed, and each fault ──

pub record Offer : Type 0 where
  pub numbers : List ℕ
  pub taken : Bool

unfoldable pub eight : List Window
eight = 0 to 1 ∷ 2 to 3 ∷ 4 to 5 ∷ 6 to 7 ∷ 8 to 9 ∷ 10 to 11 ∷ 12 to 13 ∷ 1439 to 1440 ∷ []

unfoldable pub offers : List Offer
offers =
    record { numbers = []; taken = true }
    -- windows
    ∷ record { numbers = calendar (monday (0 to 1440 ∷ [])) 0 []; taken = true }
    ∷ record { numbers = calendar (monday (480 to 480 ∷ [])) 0 []; taken = false }
    ∷ record { numbers = calendar (monday (481 to 480 ∷ [])) 0 []; taken = false }
    ∷ record { numbers = calendar (monday (0 to 1441 ∷ [])) 0 []; taken = false }
    ∷ record { numbers = calendar (monday (0 to 10 ∷ 5 to 20 ∷ 0 to 10 ∷ [])) 0 []; taken = true }
    -- a slice that ends within a pair: to is 0
    ∷ record { numbers = 1 ∷ 0 ∷ []; taken = false }
    -- eight windows and nine; a count above eight with right pairs
    ∷ record { numbers = calendar (monday eight) 0 []; taken = true }
    ∷ record { numbers = 9 ∷ pairs 8 eight; taken = false }
    ∷ record { numbers = (2 ^ 64 - 1) ∷ pairs 8 eight; taken = false }
    -- the last weekday is looked at
    ∷ record { numbers = calendar ([] ∷ [] ∷ [] ∷ [] ∷ [] ∷ [] ∷ (5 to 5 ∷ []) ∷ []) 0 []; taken = false }
    -- past the count nothing is
    ∷ record { numbers = 1 ∷ 0 ∷ 10 ∷ 9 ∷ 3 ∷ []; taken = true }
    ∷ record { numbers = calendar no_week 0 (special 3 (9 to 3 ∷ []) ∷ []); taken = true }
    -- special days: their windows, their order
    ∷ record { numbers = calendar no_week 2 (special 3 [] ∷ special 4 (0 to 1440 ∷ []) ∷ []); taken = true }
    ∷ record { numbers = calendar no_week 2 (special 3 [] ∷ special 4 (0 to 1441 ∷ []) ∷ []); taken = false }
    ∷ record { numbers = calendar no_week 2 (special 3 [] ∷ special 3 [] ∷ []); taken = false }
    ∷ record { numbers = calendar no_week 2 (special 4 [] ∷ special 3 [] ∷ []); taken = false }
    ∷ record { numbers = calendar no_week 3 (special 3 [] ∷ special 5 [] ∷ special 4 [] ∷ []); taken = false }
    ∷ record { numbers = calendar no_week 2 (special 0 [] ∷ special (2 ^ 64 - 1) [] ∷ []); taken = true }
    -- two days in a slice that ends behind the count: both are day 0
    ∷ record { numbers = calendar no_week 1 []; taken = true }
    ∷ record { numbers = calendar no_week 2 []; taken = false }
    -- 64 days and 65
    ∷ record { numbers = calendar no_week 64 (day_by_day 64); taken = true }
    ∷ record { numbers = calendar no_week 65 (day_by_day 65); taken = false }
    ∷ record { numbers = calendar no_week (2 ^ 64 - 1) (day_by_day 64); taken = false }
    ∷ []

abbrev pub takes_offer : Offer → Bool
takes_offer o = calendar_taken (calendar_of o.numbers)

-- ── the result ──

-- every board comes out as it must
pub record HoursBoards : Type 0 where
  pub cells_open : map opens boards ≡ map (λ (b : Board). b.comes) boards
  pub bookings_judged : map refuses bookings ≡ map (λ (b : Booking). b.closed) bookings
  pub offers_judged : map takes_offer offers ≡ map (λ (o : Offer). o.taken) offers
