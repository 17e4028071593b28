-- One calendar for each table; it stays where its numbers do; what install leaves; and the returns of the reads. Assumes nothing.
use mathlib.Core.Path.{◌≡◌, refl, sym, ap, ap₂, ◌∙◌}
use mathlib.Core.Logic.{◌⊎◌, inl, inr}
use mathlib.Core.Bool.{Bool, true, false, false≢true}
use mathlib.Core.Option.{Option, none, some}
use mathlib.Core.List.{List, [], ◌∷◌}
use Prim.Native.Nat.{ℕ, zero, suc, ◌+◌, ◌*◌, ◌≤◌, ◌<◌}
use native.Mathlib.Omega.{arith}
use lib.ListN.{length, get_or, set, drop_of_length-le}
use lib.Seq.{sets, length-sets, get_or-drop}
use Rattle.std.specs.List.{slice_range}
use Rattle.std.proofs.lemmas.Slice.{between_to_end}
use Rattle.lists.specs.Tests.{Decides}
use Rattle.lists.proofs.Numbers.{confirm, refute}
use Rattle.lists.proofs.Stores.{get_d_sets_in, get_d_sets_out}
use Rattle.history.specs.Lent.{row_width}
use Rattle.history.specs.Days.{Day, days_of}
use Rattle.history.specs.Hours.{Calendar, calendar_width, calendar_of, closed_cell, closed_by, calendar_taken, NoneOrInstallable}
use Rattle.history.proofs.HoursLaws.{calendar_alike}
use Rattle.tables.specs.Columns.{front_calendar, front_days}
use Rattle.day_table.specs.DayLists.{list_in, DaysIn}
use Rattle.day_table.proofs.DayLists.{padded_at, padded_length}
use Rattle.calendar_table.specs.Calendars.{flag_of, flag_in, numbers_in, CalendarIn, ClosedTold, CalendarFormed, calendar_numbers, installed_in}

-- ── one calendar ──

some_same : {c d : Calendar} → some c ≡ some d → c ≡ d
some_same {c} e = ap given e
  where
    given : Option Calendar → Calendar
    given none = c
    given (some x) = x

pub calendar-one : (blocks : List ℕ) (x y : Option Calendar) → CalendarIn blocks x → CalendarIn blocks y → x ≡ y
calendar-one blocks none none h k = refl
calendar-one blocks none (some c) h k = absurd (omega (arith, h.flag, k.flag))
calendar-one blocks (some c) none h k = absurd (omega (arith, h.flag, k.flag))
calendar-one blocks (some c) (some d) h k = ap some (sym (h.numbers c refl) ∙ k.numbers d refl)

pub calendar-none : (blocks : List ℕ) → flag_in blocks ≡ 0 → CalendarIn blocks none
calendar-none blocks e = record { flag = e; numbers = λ c z. absurd (no_some z) }
  where
    no_some : {c : Calendar} → none ≡ some c → ⊥
    no_some z = omega (arith, ap flag_of z)

-- ── what stays ──

-- the places of the calendar are as they were
abbrev pub Kept : (blocks blocks' : List ℕ) → Type 0
Kept blocks blocks' = (i : ℕ) → front_calendar ≤ i → i < front_days → get_or blocks' i 0 ≡ get_or blocks i 0

pub calendar_kept : (blocks blocks' : List ℕ) (x : Option Calendar) → Kept blocks blocks' → CalendarIn blocks x → CalendarIn blocks' x
calendar_kept blocks blocks' x same h = record {
  flag = same front_calendar (omega arith) (omega arith) ∙ h.flag;
  numbers = λ c e.
      calendar_alike (numbers_in blocks') (numbers_in blocks)
      (λ i l. get_or-drop (front_calendar + 1) blocks' i 0 ∙ same (front_calendar + 1 + i) (omega arith) (omega arith) ∙ sym (get_or-drop (front_calendar + 1) blocks i 0))
      ∙ h.numbers c e;
}

-- ── tables that pass the test ──

-- what they hold: nothing without the flag, and else the calendar of the numbers behind it
abbrev pub held_by : (flag : ℕ) (numbers : List ℕ) → Option Calendar
held_by zero numbers = none
held_by (suc n) numbers = some (calendar_of numbers)

unfoldable pub calendar_held : (blocks : List ℕ) → Option Calendar
calendar_held blocks = held_by (flag_in blocks) (numbers_in blocks)

module _ (blocks : List ℕ) where
  pub formed_held : CalendarFormed blocks → CalendarIn blocks (calendar_held blocks)
  unfolding calendar_held
  formed_held f = go (flag_in blocks) refl f.flag
    where
      go : (n : ℕ) → flag_in blocks ≡ n → n ≤ 1 → CalendarIn blocks (held_by n (numbers_in blocks))
      go zero e h = calendar-none blocks e
      go (suc n) e h = record { flag = omega arith; numbers = λ c z. some_same z }

  pub formed_installable : CalendarFormed blocks → NoneOrInstallable (calendar_held blocks)
  unfolding calendar_held
  formed_installable f = go (flag_in blocks) refl f.flag
    where
      go : (n : ℕ) → flag_in blocks ≡ n → n ≤ 1 → NoneOrInstallable (held_by n (numbers_in blocks))
      go zero e h = tt
      go (suc n) e h = record { numbers = numbers_in blocks; is = refl; taken = f.taken (omega arith) }

  -- and a calendar that install takes passes it
  pub held_formed : (x : Option Calendar) → CalendarIn blocks x → NoneOrInstallable x → CalendarFormed blocks
  held_formed none h t = record { flag = omega (arith, h.flag); taken = λ e. absurd (omega (arith, h.flag)) }
  held_formed (some c) h t = record { flag = omega (arith, h.flag); taken = λ e. ap calendar_taken (h.numbers c refl) ∙ t.taken }

-- ── what install leaves ──

pub written-length : (numbers : List ℕ) → length (1 ∷ calendar_numbers numbers) ≡ suc calendar_width
written-length numbers = ap suc (padded_length numbers calendar_width)

pub installed_in_lem : (blocks numbers : List ℕ) → front_days ≤ length blocks → CalendarIn (installed_in blocks numbers) (some (calendar_of numbers))
installed_in_lem blocks numbers room = record {
  flag = written 0 (omega arith);
  numbers = λ c e.
      calendar_alike (numbers_in (installed_in blocks numbers)) numbers
      (λ i h. get_or-drop (front_calendar + 1) (installed_in blocks numbers) i 0 ∙ at i ∙ written (suc i) (omega arith) ∙ padded_at numbers calendar_width i h)
      ∙ some_same e;
}
  where
    written : (j : ℕ) → j < suc calendar_width → get_or (installed_in blocks numbers) (front_calendar + j) 0 ≡ get_or (1 ∷ calendar_numbers numbers) j 0
    written j h =
        get_d_sets_in (1 ∷ calendar_numbers numbers) blocks front_calendar j (omega (arith, padded_length numbers calendar_width)) (omega (arith, padded_length numbers calendar_width))

    at : (i : ℕ) → get_or (installed_in blocks numbers) (front_calendar + 1 + i) 0 ≡ get_or (installed_in blocks numbers) (front_calendar + suc i) 0
    at i = ap (λ (j : ℕ). get_or (installed_in blocks numbers) j 0) (omega arith)

-- the head's row of link 0, and all rows, are as they were
pub installed_other : (blocks numbers : List ℕ) (i : ℕ) → (i < front_calendar) ⊎ (front_days ≤ i) → get_or (installed_in blocks numbers) i 0 ≡ get_or blocks i 0
installed_other blocks numbers i (inl h) = get_d_sets_out (1 ∷ calendar_numbers numbers) blocks front_calendar i (inl h)
installed_other blocks numbers i (inr h) = get_d_sets_out (1 ∷ calendar_numbers numbers) blocks front_calendar i (inr (omega (arith, padded_length numbers calendar_width)))

pub installed_length : (blocks numbers : List ℕ) → length (installed_in blocks numbers) ≡ length blocks
installed_length blocks numbers = length-sets blocks front_calendar (1 ∷ calendar_numbers numbers)

-- ── the returns of the reads ──

module _ (blocks : List ℕ) where
  pub numbers_none : length blocks ≤ front_calendar → [] ≡ numbers_in blocks
  numbers_none h = sym (drop_of_length-le blocks {i = front_calendar + 1} (omega arith))

  pub numbers_some : (rest : List ℕ) → rest ≡ slice_range blocks (front_calendar + 1) (length blocks) → rest ≡ numbers_in blocks
  numbers_some rest s = s ∙ between_to_end blocks (front_calendar + 1) (length blocks) (omega arith)

  module _ (first : ℕ) (bytes : List ℕ) where
    pub closed_none : flag_in blocks ≡ 0 → ClosedTold blocks first bytes false
    closed_none z = record { says = go }
      where
        go : (days : List Day) (x : Option Calendar) → DaysIn blocks days → CalendarIn blocks x → false ≡ closed_by days x first bytes
        go days none d h = refl
        go days (some c) d h = absurd (omega (arith, h.flag))

    pub closed_some : (r : Bool) → (flag_in blocks ≡ 0 → ⊥) → r ≡ closed_cell (days_of (list_in blocks)) (calendar_of (numbers_in blocks)) first bytes
        → ClosedTold blocks first bytes r
    closed_some r z is = record { says = go }
      where
        go : (days : List Day) (x : Option Calendar) → DaysIn blocks days → CalendarIn blocks x → r ≡ closed_by days x first bytes
        go days none d h = absurd (omega (arith, h.flag))
        go days (some c) d h = is ∙ ap₂ (λ (ds : List Day) (k : Calendar). closed_cell ds k first bytes) d.is (h.numbers c refl)

  pub formed_none : flag_in blocks ≡ 0 → Decides true (CalendarFormed blocks)
  formed_none z = confirm (record { flag = omega arith; taken = λ e. absurd (omega arith) })

  pub formed_no_flag : (flag_in blocks ≡ 0 → ⊥) → (flag_in blocks ≡ 1 → ⊥) → Decides false (CalendarFormed blocks)
  formed_no_flag z o = refute (λ s. omega (arith, s.flag))

  pub formed_taken : (r : Bool) → flag_in blocks ≡ 1 → r ≡ calendar_taken (calendar_of (numbers_in blocks)) → Decides r (CalendarFormed blocks)
  formed_taken r o is =
      record { yes = λ t. record { flag = omega arith; taken = λ _. sym is ∙ t }; not = λ t s. false≢true (sym t ∙ is ∙ s.taken o) }

-- ── `install` ──

pub install_done : (before flagged next numbers : List ℕ) → flagged ≡ set before (row_width * 0 + front_calendar) 1
    → next ≡ sets flagged (front_calendar + 1) (calendar_numbers numbers) → next ≡ installed_in before numbers
install_done before flagged next numbers e f =
    let at : row_width * 0 + front_calendar ≡ front_calendar = omega arith in
    let behind : suc front_calendar ≡ front_calendar + 1 = omega arith in
    f ∙ rw (e, at, behind)
