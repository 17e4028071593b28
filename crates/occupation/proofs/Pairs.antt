-- The pairs of a slice: how many, and the next one.
use mathlib.Core.Path.{◌≡◌, refl, ◌∙◌}
use mathlib.Core.List.{List, [], ◌∷◌}
use Prim.Native.Nat.{ℕ, ◌+◌, ◌*◌, ◌/◌, ◌%◌, ◌≤◌, ◌<◌}
use native.Mathlib.Omega.{arith}
use lib.ListN.{length, get_or, drop, length-drop, drop_of_length-le}
use lib.Seq.{get_or-drop, drop-drop}
use Rattle.history.specs.Occupation.{windows_of}
use Rattle.occupation.specs.Windows.{window_at}

pub windows_count : (l : List ℕ) → length l / 2 + length l % 2 ≡ length (windows_of l)
unfolding windows_of
windows_count [] = refl
windows_count (start ∷ []) = refl
windows_count (start ∷ stop ∷ rest) = omega (arith, windows_count rest)

first_window : (l : List ℕ) → 0 < length l → windows_of l ≡ record { start = get_or l 0 0; stop = get_or l 1 0 } ∷ windows_of (drop 2 l)
unfolding windows_of
first_window [] h = absurd (omega arith)
first_window (start ∷ []) h = refl
first_window (start ∷ stop ∷ rest) h = refl

pub windows_next : (l : List ℕ) (k : ℕ) → k < length (windows_of l) → windows_of (drop (2 * k) l) ≡ window_at l k ∷ windows_of (drop (2 * (k + 1)) l)
windows_next l k h =
    let here : 2 * k + 0 ≡ 2 * k = omega arith in
    let next : 2 * k + 2 ≡ 2 * (k + 1) = omega arith in
    first_window (drop (2 * k) l) (omega (arith, windows_count l, length-drop (2 * k) l))
    ∙ rw (get_or-drop (2 * k) l 0 0, get_or-drop (2 * k) l 1 0, drop-drop 2 (2 * k) l, here, next)

pub windows_end : (l : List ℕ) (k : ℕ) → length (windows_of l) ≤ k → windows_of (drop (2 * k) l) ≡ []
unfolding windows_of
windows_end l k h = rw (drop_of_length-le l {i = 2 * k} (omega (arith, windows_count l)))
