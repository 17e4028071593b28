-- Which list of days stands in the front of the block table's head: how many days, and the pairs behind. Definitions alone: their laws stand in
-- proofs/DayLists.antt.
use Rattle.std.specs.Prelude.{◌≡◌, true, List, ◌∷◌, map, ℕ, ◌+◌, ◌*◌, ◌≤◌, min, length, get_or, take, drop}
use Rattle.std.proofs.lemmas.List.Edits.{sets}
use Rattle.lists.specs.Lists.{count_from}
use Rattle.history.specs.Days.{Day, most_days, days_of, days_taken}
use Rattle.tables.specs.Columns.{front_days}

-- ── what stands there ──

-- how many days there are said to be
abbrev pub count_in : (blocks : List ℕ) → ℕ
count_in blocks = get_or blocks front_days 0

-- the numbers of those that have a place, 64 at most
abbrev pub list_in : (blocks : List ℕ) → List ℕ
list_in blocks = take (2 * min (count_in blocks) most_days) (drop (front_days + 1) blocks)

-- the block table holds this list
pub record DaysIn (blocks : List ℕ) (days : List Day) : Type 0 where
  pub few : count_in blocks ≤ most_days
  pub is : days_of (list_in blocks) ≡ days

-- ── what the functions ensure ──

-- `formed`: a list that install takes
pub record DaysFormed (blocks : List ℕ) : Type 0 where
  pub few : count_in blocks ≤ most_days
  pub taken : days_taken (days_of (list_in blocks)) ≡ true

-- `width` numbers of a list, zeros where there are fewer
abbrev pub padded : (numbers : List ℕ) (width : ℕ) → List ℕ
padded numbers width = map (λ i. get_or numbers i 0) (count_from 0 width)

-- `install`: the count and the numbers of 64 pairs; all else as it was
abbrev pub day_numbers : (numbers : List ℕ) → List ℕ
day_numbers numbers = padded numbers (2 * most_days)

abbrev pub days_installed_in : (blocks numbers : List ℕ) → List ℕ
days_installed_in blocks numbers = sets blocks front_days (length (days_of numbers) ∷ day_numbers numbers)
