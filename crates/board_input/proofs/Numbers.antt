-- Numbers read from bytes, the last byte first. Assumes nothing.
use mathlib.Core.Path.{◌≡◌, refl, sym, ◌∙◌}
use mathlib.Core.List.{List, [], ◌∷◌}
use Prim.Native.Nat.{ℕ, zero, suc, ◌+◌, ◌*◌, ◌-◌, ◌^◌, ◌≤◌, ◌<◌}
use native.Mathlib.Nat.{pow-succ', pow-le-pow_right}
use native.Mathlib.Omega.{arith}
use lib.ListN.{get_or, take, drop, drop_of_length-le, length-take}
use lib.Seq.{get_or-take, get_or-drop, drop-nil}
use Rattle.history.specs.File.{number_of}
use Rattle.board_input.specs.Input.{NumberAt}

-- ── numbers ──

-- one byte more in front
number-drop : (l : List ℕ) (i : ℕ) → number_of (drop i l) ≡ get_or l i 0 + 256 * number_of (drop (suc i) l)
unfolding number_of
number-drop [] i = rw (drop-nil {A = ℕ} i) refl
number-drop (b ∷ bs) zero = refl
number-drop (b ∷ bs) (suc i) = number-drop bs i

-- ── the loop of `number_at` ──

-- the bytes from `i` on are read
pub record Reached (input : List ℕ) (at width value i : ℕ) : Type 0 where
  pub says : value ≡ number_of (drop i (take width (drop at input)))
  pub below : value < 256 ^ (width - i)

-- none is read
pub reached_none : (input : List ℕ) (at width : ℕ) → Reached input at width 0 width
unfolding number_of
reached_none input at w =
    let none : drop w (take w (drop at input)) ≡ [] = drop_of_length-le (take w (drop at input)) {i = w} (rw (length-take w (drop at input)) (omega arith)) in
    let all : w - w ≡ 0 = omega arith in
    record { says = rw none refl; below = rw all (omega arith) }

-- the byte in front of them is read too
pub reached_one : {input : List ℕ} {at width value i byte : ℕ} → Reached input at width value i → 0 < i → i ≤ width
    → byte ≡ get_or input (at + (i - 1)) 0 → byte < 256 → Reached input at width (value * 256 + byte) (i - 1)
reached_one {input} {at} {width = w} {value = v} {i} {byte = b} h more inside is small =
    let here : i ≡ suc (i - 1) = omega arith in
    let wider : w - (i - 1) ≡ suc (w - i) = omega arith in
    let one : get_or (take w (drop at input)) (i - 1) 0 ≡ b =
    get_or-take w (drop at input) (i - 1) 0 (omega arith) ∙ get_or-drop at input (i - 1) 0 ∙ sym is in
    let said : v ≡ number_of (drop (suc (i - 1)) (take w (drop at input))) = rw here at h.says in
    record {
      says = sym (number-drop (take w (drop at input)) (i - 1) ∙ rw (one, ← said) (omega arith));
      below = rw (wider, pow-succ' 256 (w - i)) (omega (arith, h.below));
    }

-- one more byte fits a number of 64 bits
pub reached_room : {input : List ℕ} {at width value i : ℕ} → Reached input at width value i → 0 < i → i ≤ width → width ≤ 8 → value < 256 ^ 7
reached_room {width} {i} h more inside few =
    let most : 256 ^ (width - i) ≤ 256 ^ 7 = pow-le-pow_right {n = 256} (omega arith) {i = width - i} {j = 7} (omega arith) in
    omega (arith, h.below)

-- all are read
pub reached_all : {input : List ℕ} {at width value : ℕ} → Reached input at width value 0 → NumberAt input at width value
reached_all {width} h =
    let all : width - 0 ≡ width = omega arith in
    record { says = h.says; small = rw all at h.below }

pub ruleset reading = (reached_none, reached_room, reached_all)
