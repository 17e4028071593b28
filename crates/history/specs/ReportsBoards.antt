-- The boards to try of charges and the occupation report. `report_boards` makes it part of the build that every one comes out as it must.
use Rattle.std.specs.Prelude.{◌≡◌, true, false, List, [], ◌∷◌, ◌++◌, map, ℕ, ◌+◌, ◌-◌, ◌^◌, replicate}
use mathlib.Core.List.{flatten}
use Rattle.history.specs.Ledger.{Ledger, opened}
use Rattle.history.specs.Refusals.{Answer, accepted, refused}
use Rattle.history.specs.Calls.{Call, finish_call, days_call, after_all}
use Rattle.history.specs.Boards.{ample, on, op}
use Rattle.history.specs.Occupation.{Fraction, Report, windows_of, reduced, tenths_of, unreported, occupation_answer}
use Rattle.history.specs.Charges.{Charge, crosses, charge_answer}

-- what a closed index of kind 1 with E = 8 is after these calls
abbrev pub closed_by : List Call → Ledger
closed_by ks = after_all (opened (on 8 ample)) (ks ++ finish_call ∷ [])

-- ── the occupation report ──

abbrev pub of_parts : (part whole : ℕ) → Fraction
of_parts p w = record { part = p; whole = w }

abbrev pub says : (part whole tenths : ℕ) → Answer Report
says p w n = accepted (record { fraction = of_parts p w; tenths = n })

-- three of the cells 100 to 103 at tick 5, the held 0 not among them
abbrev pub three_of_four : Ledger
three_of_four = closed_by (op 0 100 (7 ∷ 7 ∷ 0 ∷ 7 ∷ []) ∷ [])

abbrev pub occupied : List ℕ → Answer Report
occupied ns = occupation_answer three_of_four 1 5 ns

-- so many windows of one cell each, as numbers
abbrev pub one_cell_windows : (many : ℕ) → List ℕ
one_cell_windows many = flatten (replicate many (100 ∷ 101 ∷ []))

-- ── charges ──

-- a price for hours 0 to 4, and a million for hour 23
abbrev pub some_prices : List ℕ
some_prices = (49 ∷ 50 ∷ 100 ∷ 7 ∷ 3 ∷ []) ++ (replicate 18 0 ++ 1000000 ∷ [])

abbrev pub too_high : List ℕ
too_high = replicate 23 0 ++ 1000001 ∷ []

abbrev pub costs : (exact cents : ℕ) → Answer Charge
costs e c = accepted (record { exact = e; cents = c })

-- bytes at 00:59 and 01:00, a held 0 at 01:01, and bytes around minute 180
abbrev pub booked : List Call
booked = op 0 59 (1 ∷ 1 ∷ 0 ∷ []) ∷ op 0 179 (2 ∷ 2 ∷ []) ∷ op 0 (2 ^ 32 - 1) (3 ∷ []) ∷ []

abbrev pub charged : (start stop : ℕ) → Answer Charge
charged s n = charge_answer (closed_by booked) 1 5 s n some_prices

abbrev pub charged_by_list : (list : List ℕ) (start stop : ℕ) → Answer Charge
charged_by_list list s n = charge_answer (closed_by (days_call list ∷ booked)) 1 5 s n some_prices

-- ── the result ──

-- every board comes out as it must
pub record ReportsBoards : Type 0 where
  -- 3/4, 2/3, ties to the even tenth, none, all
  pub fractions : map (λ n. reduced n 8) (6 ∷ 0 ∷ 8 ∷ []) ≡ of_parts 3 4 ∷ of_parts 0 1 ∷ of_parts 1 1 ∷ []
  pub tenths : map (tenths_of 2) (3 ∷ []) ++ (map (tenths_of 1) (16 ∷ 2000 ∷ 3 ∷ 1 ∷ []) ++ map (tenths_of 3) (16 ∷ 2000 ∷ []))
      ≡ 667 ∷ 62 ∷ 0 ∷ 333 ∷ 1000 ∷ 188 ∷ 2 ∷ []
  -- a held 0 is not occupied; repeats count; empty windows beside others; windows may overlap and cross platforms
  pub reports : map occupied ((100 ∷ 104 ∷ []) ∷ (100 ∷ 104 ∷ 103 ∷ 104 ∷ []) ∷ (50 ∷ 50 ∷ 100 ∷ 104 ∷ []) ∷ (102 ∷ 103 ∷ []) ∷ (0 ∷ 0 ∷ (2 ^ 32 - 1) ∷ (2 ^ 32 + 1) ∷ []) ∷ [])
      ≡ says 3 4 750 ∷ says 4 5 800 ∷ says 3 4 750 ∷ says 0 1 0 ∷ says 0 1 0 ∷ []
  -- 37: no window, no cell; 15 before it, of a start without its stop and of the 257th window too
  pub none_reported : map occupied ([] ∷ (0 ∷ []) ∷ (5 ∷ 5 ∷ []) ∷ (5 ∷ []) ∷ (5 ∷ 4 ∷ []) ∷ (one_cell_windows 257) ∷ (one_cell_windows 256 ++ 4 ∷ 3 ∷ []) ∷ [])
      ≡ refused 37 ∷ refused 37 ∷ refused 37 ∷ refused 15 ∷ refused 15 ∷ refused 37 ∷ refused 15 ∷ []
  pub most_windows : occupied (one_cell_windows 256) ≡ says 1 1 1000
  -- 2^32 cells, and one more
  pub most_cells : map (λ ns. unreported (windows_of ns)) ((5 ∷ (2 ^ 32 + 5) ∷ []) ∷ (5 ∷ (2 ^ 32 + 5) ∷ 0 ∷ 1 ∷ []) ∷ (0 ∷ (2 ^ 64 - 1) ∷ 0 ∷ (2 ^ 64 - 1) ∷ []) ∷ []) ≡ false ∷ true ∷ true ∷ []
  -- 14 and 25 before all these
  pub before_those : map (λ k. occupation_answer three_of_four k 8 []) (1 ∷ 0 ∷ []) ≡ refused 14 ∷ refused 25 ∷ []
  -- sums of 49, 50, 99, and both windows together; a held 0 costs nothing
  pub charges : charged 59 60 ∷ charged 60 62 ∷ charged 59 62 ∷ charged 61 62 ∷ [] ≡ costs 49 0 ∷ costs 50 1 ∷ costs 99 1 ∷ costs 0 0 ∷ []
  -- hours 2 and 3; the double hour is hour 2 twice; after a short change hours 3 and 4
  pub hours : charged 179 181 ∷ charged_by_list (0 ∷ 1500 ∷ []) 179 181 ∷ charged_by_list (0 ∷ 1380 ∷ []) 179 181 ∷ [] ≡ costs 107 1 ∷ costs 200 2 ∷ costs 10 0 ∷ []
  -- a window may end where the next platform starts; an empty one there belongs to that platform
  pub platforms : charged (2 ^ 32 - 1) (2 ^ 32) ∷ charged (2 ^ 32) (2 ^ 32) ∷ charged 0 0 ∷ charged (2 ^ 32 - 1) (2 ^ 32 + 1) ∷ [] ≡ costs 3 0 ∷ costs 0 0 ∷ costs 0 0 ∷ refused 36 ∷ []
  pub whole_platform : crosses 0 (2 ^ 32) ∷ crosses 1 (2 ^ 32 + 1) ∷ [] ≡ false ∷ true ∷ []
  -- a price too high, of an hour that is not used, before 36; 15 before it
  pub prices : map (λ n. charge_answer (closed_by booked) 1 5 59 n too_high) (60 ∷ 59 ∷ (2 ^ 32 + 1) ∷ 58 ∷ []) ≡ refused 35 ∷ refused 35 ∷ refused 35 ∷ refused 15 ∷ []
