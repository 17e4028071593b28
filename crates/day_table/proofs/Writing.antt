-- Numbers written one after the other: what is left to write, at each turn. Assumes nothing.
use mathlib.Core.Path.{◌≡◌, refl, sym, ap, ◌∙◌}
use mathlib.Core.List.{List, map}
use Prim.Native.Nat.{ℕ, suc, ◌+◌, ◌-◌, ◌*◌, ◌≤◌, ◌<◌}
use native.Mathlib.Omega.{arith}
use lib.ListN.{length, get_or, set, length-set}
use lib.Seq.{sets}
use Rattle.lists.specs.Lists.{count_from}
use Rattle.history.specs.Lent.{row_width}
use Rattle.history.specs.Days.{days_of}
use Rattle.tables.specs.Columns.{front_days}
use Rattle.hours.proofs.Rows.{rows_more, rows_none, rows_all}
use Rattle.day_table.specs.DayLists.{padded, day_numbers, days_installed_in}

-- ── `write` ──

-- with the numbers from the i-th on written too, the table is as it is left
pub record WriteRest (before numbers now : List ℕ) (at width i : ℕ) : Type 0 where
  pub below : i ≤ width
  pub long : length now ≡ length before
  pub rest : sets before at (padded numbers width) ≡ sets now (at + i) (map (λ j. get_or numbers j 0) (count_from i (width - i)))

module _ (before numbers : List ℕ) (at width : ℕ) where
  pub write_start : WriteRest before numbers before at width 0
  write_start =
      let here : at + 0 ≡ at = omega arith in
      record { below = omega arith; long = refl; rest = rw here (ap (sets before at) (rows_all (λ j. get_or numbers j 0) width)) }

  pub write_more : (now next : List ℕ) (i x : ℕ) → WriteRest before numbers now at width i → i < width → x ≡ get_or numbers i 0
      → next ≡ set now (row_width * 0 + (at + i)) x → WriteRest before numbers next at width (i + 1)
  write_more now next i x w h e f =
      let here : row_width * 0 + (at + i) ≡ at + i = omega arith in
      let further : at + (i + 1) ≡ suc (at + i) = omega arith in
      record {
        below = omega arith;
        long = rw f (length-set now (row_width * 0 + (at + i)) x) ∙ w.long;
        rest = w.rest ∙ rw (rows_more (λ j. get_or numbers j 0) i width h, f, here, e, further);
      }

  pub write_done : (now : List ℕ) (i : ℕ) → WriteRest before numbers now at width i → width ≤ i → now ≡ sets before at (padded numbers width)
  write_done now i w h = sym (w.rest ∙ rw (rows_none (λ j. get_or numbers j 0) i width h))

pub ruleset writing = (write_start, write_more, write_done)

-- ── `install` ──

pub install_done : (before counted next numbers : List ℕ) (n : ℕ) → n ≡ length (days_of numbers) → counted ≡ set before (row_width * 0 + front_days) n
    → next ≡ sets counted (front_days + 1) (day_numbers numbers) → next ≡ days_installed_in before numbers
install_done before counted next numbers n c e f =
    let at : row_width * 0 + front_days ≡ front_days = omega arith in
    let behind : suc front_days ≡ front_days + 1 = omega arith in
    f ∙ rw (e, at, c, behind)
