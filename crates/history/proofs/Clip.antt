-- The one lemma on `clip`: for each cell, the part in [from, to) has what the stretch has, and nothing outside [from, to). Assumes nothing.
use mathlib.Core.Path.{◌≡◌, refl, sym, ◌∙◌, ap}
use mathlib.Core.Logic.{◌⊎◌, inl, inr}
use mathlib.Core.Bool.{Bool, cond, true, false}
use mathlib.Core.Option.{Option, none, some, bind}
use Prim.Native.Nat.{ℕ, ◌-◌, ◌≤◌, ◌<◌, min, max}
use native.Mathlib.Omega.{arith}
use lib.Dec.{ltb}
use lib.ListN.{length, get_or, take, drop, length-take, length-drop}
use lib.Seq.{get_or-take, get_or-drop}
use borrow.Author.Tests.{lt-ltb, ltb-true}
use Rattle.history.specs.Words.{within, Stretch, ends, byte_at, clip}
use Rattle.lists.proofs.Numbers.{lt_or_le}
use Rattle.history.proofs.Within.{within_in, within_low, within_high}

pub byte_at_in : (c : ℕ) (s : Stretch) → s.first ≤ c → c < ends s → byte_at c s ≡ some (get_or s.bytes (c - s.first) 0)
unfolding byte_at
byte_at_in c s p q = rw (within_in s.first (ends s) c p q)

pub byte_at_low : (c : ℕ) (s : Stretch) → c < s.first → byte_at c s ≡ none
unfolding byte_at
byte_at_low c s p = rw (within_low s.first (ends s) c p)

pub byte_at_high : (c : ℕ) (s : Stretch) → ends s ≤ c → byte_at c s ≡ none
unfolding byte_at
byte_at_high c s p = rw (within_high s.first (ends s) c p)

module _ (from to : ℕ) (s : Stretch) where
  unfoldable pub part : Stretch
  part =
      let a = max from s.first in
      let b = min to (ends s) in
      record { first = a; bytes = take (b - a) (drop (a - s.first) s.bytes) }

  part-size : length part.bytes ≡ min (min to (ends s) - max from s.first) (length s.bytes - (max from s.first - s.first))
  unfolding part
  part-size = simp (length-take, length-drop)

  -- where the part is not empty it ends at the smaller end
  pub part-ends : max from s.first < min to (ends s) → ends part ≡ min to (ends s)
  unfolding part
  part-ends h = omega (arith, part-size)

  -- it has the bytes that the stretch has from its first cell on
  pub part_bytes : max from s.first < min to (ends s) → part.bytes ≡ take (length part.bytes) (drop (part.first - s.first) s.bytes)
  unfolding part
  part_bytes h =
      let e : length part.bytes ≡ min to (ends s) - max from s.first = omega (arith, part-size) in
      ap (λ (n : ℕ). take n (drop (max from s.first - s.first) s.bytes)) (sym e)

  -- below its first cell and from its end on, the part has nothing
  clip_low : (c : ℕ) → c < max from s.first → bind (clip from to s) (byte_at c) ≡ none
  unfolding part clip bind
  clip_low c p = go (ltb (max from s.first) (min to (ends s)))
    where
      go : (t : Bool) → bind (cond t (some part) none) (byte_at c) ≡ none
      go true = byte_at_low c part p
      go false = refl

  clip_high : (c : ℕ) → min to (ends s) ≤ c → bind (clip from to s) (byte_at c) ≡ none
  unfolding part clip bind
  clip_high c p = go (ltb (max from s.first) (min to (ends s))) refl
    where
      go : (t : Bool) → ltb (max from s.first) (min to (ends s)) ≡ t → bind (cond t (some part) none) (byte_at c) ≡ none
      go true e = byte_at_high c part (omega (arith, part-ends (ltb-true _ _ e)))
      go false e = refl

  -- between, it has what the stretch has
  clip-between : (c : ℕ) → max from s.first ≤ c → c < min to (ends s) → bind (clip from to s) (byte_at c) ≡ byte_at c s
  unfolding part clip bind
  clip-between c p q =
      rw (lt-ltb (max from s.first) (min to (ends s)) (omega arith))
      (byte_at_in c part p (omega (arith, part-ends (omega arith)))
      ∙ ap {B = Option ℕ} some same
      ∙ sym (byte_at_in c s (omega arith) (omega arith)))
    where
      same : get_or part.bytes (c - part.first) 0 ≡ get_or s.bytes (c - s.first) 0
      same =
          get_or-take (min to (ends s) - max from s.first) (drop (max from s.first - s.first) s.bytes) (c - max from s.first) 0 (omega arith)
          ∙ get_or-drop (max from s.first - s.first) s.bytes (c - max from s.first) 0
          ∙ ap (λ (i : ℕ). get_or s.bytes i 0) (omega arith)

  pub clip_byte : (c : ℕ) → bind (clip from to s) (byte_at c) ≡ (cond (within from to c) (byte_at c s) none)
  clip_byte c = go (lt_or_le c from) (lt_or_le c to) (lt_or_le c s.first) (lt_or_le c (ends s))
    where
      Goal : Type 0
      Goal = bind (clip from to s) (byte_at c) ≡ (cond (within from to c) (byte_at c s) none)

      go : (c < from) ⊎ (from ≤ c) → (c < to) ⊎ (to ≤ c) → (c < s.first) ⊎ (s.first ≤ c) → (c < ends s) ⊎ (ends s ≤ c) → Goal
      go (inl a) x y z = rw (within_low from to c a) (clip_low c (omega arith))
      go (inr a) (inr b) y z = rw (within_high from to c b) (clip_high c (omega arith))
      go (inr a) (inl b) (inl d) z = rw (within_in from to c a b, byte_at_low c s d) (clip_low c (omega arith))
      go (inr a) (inl b) (inr d) (inr e) = rw (within_in from to c a b, byte_at_high c s e) (clip_high c (omega arith))
      go (inr a) (inl b) (inr d) (inl e) = rw (within_in from to c a b) (clip-between c (omega arith) (omega arith))
