-- One list of days for each table; it stays where its numbers do; what install leaves; and the returns of the reads. Assumes nothing.
use mathlib.Core.Path.{◌≡◌, refl, sym, ap, ◌∙◌}
use mathlib.Core.Logic.{◌⊎◌, inl, inr, ⊎_elim}
use mathlib.Core.Bool.{Bool, true, false, false≢true}
use mathlib.Core.List.{List, [], ◌∷◌}
use Prim.Native.Nat.{ℕ, suc, ◌+◌, ◌*◌, ◌≤◌, ◌<◌, min}
use native.Mathlib.Omega.{arith}
use native.Mathlib.Nat.{zero-add}
use lib.ListN.{length, get_or, take, drop, length-drop, drop_of_length-le}
use lib.Seq.{length-take-le, length-sets, get_or-take, get_or-drop, take_all, take-nil}
use Rattle.std.specs.List.{slice_range}
use Rattle.std.proofs.lemmas.Slice.{between_to_end}
use Rattle.lists.specs.Lists.{count_from}
use Rattle.lists.specs.Tests.{Decides}
use Rattle.lists.proofs.Numbers.{refute, le_or_lt}
use Rattle.lists.proofs.Lists.{count_from_at, count_from_length}
use Rattle.lists.proofs.Maps.{get_d_of_map, length_of_map}
use Rattle.lists.proofs.Stores.{get_d_sets_in, get_d_sets_out}
use Rattle.history.specs.Days.{Day, most_days, days_of, days_taken}
use Rattle.tables.specs.Columns.{front_days, front_mark_count}
use Rattle.days.proofs.Pairs.{days_count, days_alike}
use Rattle.day_table.specs.DayLists.{count_in, list_in, DaysIn, DaysFormed, padded, day_numbers, days_installed_in}

-- ── one list ──

pub days_one : (blocks : List ℕ) (x y : List Day) → DaysIn blocks x → DaysIn blocks y → x ≡ y
days_one blocks x y h k = sym h.is ∙ k.is

pub days_none : (blocks : List ℕ) → count_in blocks ≡ 0 → DaysIn blocks []
unfolding days_of
days_none blocks e = record { few = omega arith; is = rw e }

-- ── its numbers ──

-- in a table that holds the place of each
module _ (blocks : List ℕ) (room : front_mark_count ≤ length blocks) (n : ℕ) (e : count_in blocks ≡ n) (few : n ≤ most_days) where
  -- as many as the count says
  list_numbers : list_in blocks ≡ take (2 * n) (drop (front_days + 1) blocks)
  list_numbers =
      let m : min n most_days ≡ n = omega arith in
      rw (e, m)

  list_days : length (days_of (list_in blocks)) ≡ n
  list_days =
      rw list_numbers (omega (
        arith,
        days_count (take (2 * n) (drop (front_days + 1) blocks)),
        length-take-le (2 * n) (drop (front_days + 1) blocks) (omega (arith, length-drop (front_days + 1) blocks)),
      ))

  list_at : (i : ℕ) → i < 2 * n → get_or (list_in blocks) i 0 ≡ get_or blocks (front_days + 1 + i) 0
  list_at i h = rw list_numbers (get_or-take (2 * n) (drop (front_days + 1) blocks) i 0 h ∙ get_or-drop (front_days + 1) blocks i 0)

-- ── what stays ──

-- the places of the list are as they were
abbrev pub DaysKept : (blocks blocks' : List ℕ) → Type 0
DaysKept blocks blocks' = (i : ℕ) → front_days ≤ i → i < front_mark_count → get_or blocks' i 0 ≡ get_or blocks i 0

pub days_kept : (blocks blocks' : List ℕ) (days : List Day) → front_mark_count ≤ length blocks → front_mark_count ≤ length blocks' → DaysKept blocks blocks'
    → DaysIn blocks days → DaysIn blocks' days
days_kept blocks blocks' days room room' same h =
    let n = count_in blocks in
    let count : count_in blocks' ≡ n = same front_days (omega arith) (omega arith) in
    record {
      few = omega (arith, h.few);
      is =
          days_alike n (list_in blocks') (list_in blocks) (list_days blocks' room' n count h.few) (list_days blocks room n refl h.few)
          (λ i l.
          list_at blocks' room' n count h.few i l ∙ same (front_days + 1 + i) (omega arith) (omega (arith, h.few))
          ∙ sym (list_at blocks room n refl h.few i l))
          ∙ h.is;
    }

-- ── tables that pass the test ──

-- what they hold
abbrev pub days_held : (blocks : List ℕ) → List Day
days_held blocks = days_of (list_in blocks)

pub formed_days : (blocks : List ℕ) → DaysFormed blocks → DaysIn blocks (days_held blocks)
formed_days blocks f = record { few = f.few; is = refl }

-- and a list that install takes passes it
pub days_formed : (blocks : List ℕ) (days : List Day) → DaysIn blocks days → days_taken days ≡ true → DaysFormed blocks
days_formed blocks days h t = record { few = h.few; taken = ap days_taken h.is ∙ t }

-- ── what install leaves ──

-- a number as it is written, and how many are
pub padded_at : (numbers : List ℕ) (width i : ℕ) → i < width → get_or (padded numbers width) i 0 ≡ get_or numbers i 0
padded_at numbers width i h =
    get_d_of_map (λ j. get_or numbers j 0) (count_from 0 width) i 0 0 (rw (count_from_length 0 width) h)
    ∙ ap (λ j. get_or numbers j 0) (count_from_at 0 width i h ∙ zero-add i)

pub padded_length : (numbers : List ℕ) (width : ℕ) → length (padded numbers width) ≡ width
padded_length numbers width = length_of_map (λ j. get_or numbers j 0) (count_from 0 width) ∙ count_from_length 0 width

pub days_installed_length : (blocks numbers : List ℕ) → length (days_installed_in blocks numbers) ≡ length blocks
days_installed_length blocks numbers = length-sets blocks front_days (length (days_of numbers) ∷ day_numbers numbers)

pub days_installed_in_lem : (blocks numbers : List ℕ) → front_mark_count ≤ length blocks → length (days_of numbers) ≤ most_days
    → DaysIn (days_installed_in blocks numbers) (days_of numbers)
days_installed_in_lem blocks numbers room few =
    let room' : front_mark_count ≤ length after = omega (arith, days_installed_length blocks numbers) in
    let count : count_in after ≡ n = written 0 (omega arith) in
    record {
      few = omega arith;
      is =
          days_alike n (list_in after) numbers (list_days after room' n count few) refl
          (λ i h. list_at after room' n count few i h ∙ at i ∙ written (suc i) (omega arith) ∙ padded_at numbers (2 * most_days) i (omega arith));
    }
  where
    n : ℕ
    n = length (days_of numbers)

    after : List ℕ
    after = days_installed_in blocks numbers

    written : (j : ℕ) → j < suc (2 * most_days) → get_or after (front_days + j) 0 ≡ get_or (n ∷ day_numbers numbers) j 0
    written j h =
        get_d_sets_in (n ∷ day_numbers numbers) blocks front_days j (omega (arith, padded_length numbers (2 * most_days))) (omega (arith, padded_length numbers (2 * most_days)))

    at : (i : ℕ) → get_or after (front_days + 1 + i) 0 ≡ get_or after (front_days + suc i) 0
    at i = ap (λ (j : ℕ). get_or after j 0) (omega arith)

-- what stands in front of the list and behind it is as it was
pub days_installed_other : (blocks numbers : List ℕ) (i : ℕ) → (i < front_days) ⊎ (front_mark_count ≤ i) → get_or (days_installed_in blocks numbers) i 0 ≡ get_or blocks i 0
days_installed_other blocks numbers i (inl h) = get_d_sets_out (length (days_of numbers) ∷ day_numbers numbers) blocks front_days i (inl h)
days_installed_other blocks numbers i (inr h) =
    get_d_sets_out (length (days_of numbers) ∷ day_numbers numbers) blocks front_days i (inr (omega (arith, padded_length numbers (2 * most_days))))

-- ── the returns of the reads ──

module _ (blocks : List ℕ) where
  pub list_none : length blocks ≤ front_days → [] ≡ list_in blocks
  list_none h =
      let gone : drop (front_days + 1) blocks ≡ [] = drop_of_length-le blocks {i = front_days + 1} (omega arith) in
      sym (ap (take (2 * min (count_in blocks) most_days)) gone ∙ take-nil (2 * min (count_in blocks) most_days))

  pub list_some : (rest : List ℕ) (many : ℕ) → rest ≡ slice_range blocks (front_days + 1) (length blocks)
      → many ≡ min (2 * min (count_in blocks) most_days) (length rest) → take many rest ≡ list_in blocks
  list_some rest many s g =
      let e : rest ≡ drop (front_days + 1) blocks = s ∙ between_to_end blocks (front_days + 1) (length blocks) (omega arith) in
      ⊎_elim
      (λ h.
      let whole : many ≡ 2 * min (count_in blocks) most_days = omega arith in
      rw (whole, e))
      (λ h. take_all many rest (omega arith) ∙ sym (rw (← e) (take_all (2 * min (count_in blocks) most_days) rest (omega arith))))
      (le_or_lt (2 * min (count_in blocks) most_days) (length rest))

  pub formed_many : most_days < count_in blocks → Decides false (DaysFormed blocks)
  formed_many h = refute (λ s. omega (arith, s.few))

  pub formed_rest : (r : Bool) → count_in blocks ≤ most_days → r ≡ days_taken (days_of (list_in blocks)) → Decides r (DaysFormed blocks)
  formed_rest r few is = record { yes = λ t. record { few = few; taken = sym is ∙ t }; not = λ t s. false≢true (sym t ∙ is ∙ s.taken) }
