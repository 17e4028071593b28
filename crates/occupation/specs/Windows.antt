-- A window of a slice, and what the functions of this crate ensure beside the definitions of `Occupation` (crate history).
use Rattle.std.specs.Prelude.{List, ℕ, ◌+◌, ◌*◌, slice_index}
use Rattle.history.specs.Occupation as history
use Rattle.occupation.specs.declared.Fraction.{Fraction}
use Rattle.occupation.specs.declared.Report.{Report}

-- pair k of a slice; past the end it is 0 and 0
abbrev pub window_at : (numbers : List ℕ) (k : ℕ) → history.Window
window_at ns k = record { start = slice_index ns (2 * k); stop = slice_index ns (2 * k + 1) }

-- a fraction and a report in the words of history
abbrev pub fraction_given : Fraction → history.Fraction
fraction_given f = record { part = f.part; whole = f.whole }

abbrev pub report_given : Report → history.Report
report_given r = record { fraction = fraction_given r.fraction; tenths = r.tenths }
