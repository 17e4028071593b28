-- The occupation report: occupied cells over all cells of some windows, as a fraction and in tenths of a percent. Their laws stand in OccupationLaw.
use Rattle.std.specs.Prelude.{Bool, ◌||◌, not, List, [], ◌∷◌, map, ℕ, zero, suc, ◌+◌, ◌-◌, ◌*◌, ◌/◌, ◌%◌, ◌^◌, length, nat_le, nat_lt, ◌==◌, if◌then◌else◌}
use Rattle.std.specs.List.{list_all}
use Rattle.lists.specs.Lists.{sum_of}
use Rattle.history.specs.Ledger.{Ledger}
use Rattle.history.specs.Refusals.{Answer, Refusal, ◌if◌, first_of, tick_refusals}
use Rattle.history.specs.Sums.{sum_over, busy}

-- ── windows ──

-- the cells [start, stop)
pub record Window : Type 0 where
  pub start : ℕ
  pub stop : ℕ

-- The pairs (start, stop) of a list of numbers. A number past its end is 0, so that a last start without its stop is a window that ends before it starts, or has no cell.
unfoldable pub windows_of : (numbers : List ℕ) → List Window
windows_of [] = []
windows_of (start ∷ []) = record { start = start; stop = 0 } ∷ []
windows_of (start ∷ stop ∷ rest) = record { start = start; stop = stop } ∷ windows_of rest

abbrev pub most_windows : ℕ
most_windows = 256

abbrev pub most_cells : ℕ
most_cells = 2 ^ 32

-- how many cells it has
abbrev pub extent : Window → ℕ
extent w = w.stop - w.start

-- the cells of all windows, repeats counted
unfoldable pub given_by : List Window → ℕ
given_by ws = sum_of (map extent ws)

-- ── occupied cells ──

-- of a window: held, with a non-zero byte
abbrev pub occupied_in : Ledger → (kind t : ℕ) → Window → ℕ
occupied_in l kind t w = sum_over (λ c. if busy l kind t c then 1 else 0) w.start w.stop

-- of all windows, repeats counted
unfoldable pub occupied_by : Ledger → (kind t : ℕ) → List Window → ℕ
occupied_by l kind t ws = sum_of (map (occupied_in l kind t) ws)

-- ── a fraction reduced fully ──

-- Euclid's divisor, in so many steps at most
unfoldable pub divisor_in : (steps a b : ℕ) → ℕ
divisor_in zero a b = a
divisor_in (suc n) a b =
    let rest = divisor_in n b (a % b) in
    if b == 0 then a else rest

-- the greatest common divisor: the second number falls at each step
unfoldable pub divisor : (a b : ℕ) → ℕ
divisor a b = divisor_in b a b

pub record Fraction : Type 0 where
  pub part : ℕ
  pub whole : ℕ

unfoldable pub reduced : (part whole : ℕ) → Fraction
reduced p w =
    let d = divisor p w in
    record { part = p / d; whole = w / d }

-- ── tenths of a percent ──

-- of `rest` parts of a whole and so many tenths before them the nearest tenth, of two the even one
abbrev pub rounded : (tenths rest whole : ℕ) → ℕ
rounded q r w = if nat_lt (2 * r) w then q else (if nat_lt w (2 * r) then q + 1 else q + q % 2)

-- the nearest to 1,000 times the part over the whole; of the counts, not of the fraction's rounded value
unfoldable pub tenths_of : (part whole : ℕ) → ℕ
tenths_of p w = rounded (1000 * p / w) (1000 * p % w) w

-- ── the report ──

pub record Report : Type 0 where
  pub fraction : Fraction
  pub tenths : ℕ

abbrev pub report_of : (occupied given : ℕ) → Report
report_of o g = record { fraction = reduced o g; tenths = tenths_of o g }

unfoldable pub occupation_by : Ledger → (kind t : ℕ) → List Window → Report
occupation_by l kind t ws = report_of (occupied_by l kind t ws) (given_by ws)

-- what cannot be reported on: no cell in any window, more than 256 windows, or more than 2^32 cells in all
unfoldable pub unreported : List Window → Bool
unreported ws = given_by ws == 0 || (nat_lt most_windows (length ws) || nat_lt most_cells (given_by ws))

-- it does not end before it starts
abbrev pub forward : Window → Bool
forward w = nat_le w.start w.stop

unfoldable pub occupation_refusals : Ledger → (kind t : ℕ) → List Window → List Refusal
occupation_refusals l kind t ws =
    tick_refusals l kind t
    -- start > end, of any window: also of those that are too many
    (15 if not (list_all forward ws)
    ∷ 37 if unreported ws
    ∷ [])

abbrev pub occupation_answer : Ledger → (kind t : ℕ) (numbers : List ℕ) → Answer Report
occupation_answer l kind t numbers = first_of (occupation_refusals l kind t (windows_of numbers)) (occupation_by l kind t (windows_of numbers))
