-- The mask of a set of kinds: its bits, its kinds, and one mask for each set. Assumes nothing.
use mathlib.Core.Path.{◌≡◌, refl, sym, ap, ◌∙◌}
use mathlib.Core.Bool.{Bool, true, false, cond}
use mathlib.Core.List.{List, [], ◌∷◌}
use Prim.Native.Nat.{ℕ, zero, suc, ◌+◌, ◌*◌, ◌/◌, ◌%◌, ◌^◌, ◌≤◌, ◌<◌}
use native.Mathlib.Omega.{arith}
use lib.Dec.{eqb}
use lib.ListN.{length}
use borrow.Author.Tests.{lt-ltb, eqb-true, eqb-false}
use Rattle.lists.specs.Lists.{All, all_nil, all_cons, has, count_from}
use Rattle.lists.proofs.Lists.{all_map}
use Rattle.lists.proofs.Counting.{all_count_from, count_from_below}
use Rattle.history.specs.Words.{set_of, those_with}
use Rattle.history.specs.Sound.{SoundKinds}
use Rattle.history.proofs.ByKind.{set_sound}
use Rattle.tables.specs.Masks.{opens, those_of, kinds_in}
use Rattle.tables.proofs.Masks.{kinds_has}
use Rattle.kind_mask.specs.Masks.{mask_from, mask_of}

-- ── the bits ──

-- 1 for a kind that is named
abbrev bit : Bool → ℕ
bit u = cond u 1 0

bit-most : (u : Bool) → bit u ≤ 1
bit-most true = omega arith
bit-most false = omega arith

bit_is : (u : Bool) → eqb (bit u) 1 ≡ u
bit_is true = refl
bit_is false = refl

-- the mask of a list as its bits
bits : (given : List ℕ)
    → mask_of given ≡ bit (has 0 given) + (2 * bit (has 1 given) + (4 * bit (has 2 given) + (8 * bit (has 3 given) + 16 * bit (has 4 given))))
unfolding mask_from count_from
bits given = omega (arith, one (has 0 given) 1, one (has 1 given) 2, one (has 2 given) 4, one (has 3 given) 8, one (has 4 given) 16)
  where
    one : (u : Bool) (n : ℕ) → cond u n 0 ≡ n * bit u
    one true n = omega arith
    one false n = omega arith

pub mask_below : (given : List ℕ) → mask_of given < 2 ^ 5
mask_below given =
    omega (arith, bits given, bit-most (has 0 given), bit-most (has 1 given), bit-most (has 2 given), bit-most (has 3 given), bit-most (has 4 given))

-- the mask has a kind if the list names it
pub mask_opens : (given : List ℕ) (k : ℕ) → k ≤ 4 → opens (mask_of given) k ≡ has k given
mask_opens given k low = rw (lt-ltb k 5 (omega arith)) (ap (λ (n : ℕ). eqb n 1) (digit k low) ∙ bit_is (has k given))
  where
    digits : (m a b c d e : ℕ) → m ≡ a + (2 * b + (4 * c + (8 * d + 16 * e))) → a ≤ 1 → b ≤ 1 → c ≤ 1 → d ≤ 1 → e ≤ 1
        → (m / 2 ^ 0 % 2 ≡ a) × (m / 2 ^ 1 % 2 ≡ b) × (m / 2 ^ 2 % 2 ≡ c) × (m / 2 ^ 3 % 2 ≡ d) × (m / 2 ^ 4 % 2 ≡ e)
    digits m a b c d e is p q r s t = (omega arith, omega arith, omega arith, omega arith, omega arith)

    all : (mask_of given / 2 ^ 0 % 2 ≡ bit (has 0 given)) × (mask_of given / 2 ^ 1 % 2 ≡ bit (has 1 given)) × (mask_of given / 2 ^ 2 % 2 ≡ bit (has 2 given))
        × (mask_of given / 2 ^ 3 % 2 ≡ bit (has 3 given)) × (mask_of given / 2 ^ 4 % 2 ≡ bit (has 4 given))
    all =
        digits (mask_of given) (bit (has 0 given)) (bit (has 1 given)) (bit (has 2 given)) (bit (has 3 given)) (bit (has 4 given)) (bits given)
        (bit-most (has 0 given)) (bit-most (has 1 given)) (bit-most (has 2 given)) (bit-most (has 3 given)) (bit-most (has 4 given))

    digit : (k : ℕ) → k ≤ 4 → mask_of given / 2 ^ k % 2 ≡ bit (has k given)
    digit zero h = all.0
    digit (suc zero) h = all.1
    digit (suc (suc zero)) h = all.2
    digit (suc (suc (suc zero))) h = all.3
    digit (suc (suc (suc (suc zero)))) h = all.4
    digit (suc (suc (suc (suc (suc k))))) h = absurd (omega arith)

-- ── one mask for each set ──

-- a number of five bits by its bits
whole : (m : ℕ) → m < 2 ^ 5 → m ≡ m / 2 ^ 0 % 2 + (2 * (m / 2 ^ 1 % 2) + (4 * (m / 2 ^ 2 % 2) + (8 * (m / 2 ^ 3 % 2) + 16 * (m / 2 ^ 4 % 2))))
whole m h =
    sums m (m / 2 ^ 1) (m / 2 ^ 2) (m / 2 ^ 3) (m / 2 ^ 4) (m / 2 ^ 0 % 2) (m / 2 ^ 1 % 2) (m / 2 ^ 2 % 2) (m / 2 ^ 3 % 2) (m / 2 ^ 4 % 2) (omega arith) (omega arith) (omega arith)
    (omega arith) (omega arith)
  where
    sums : (m a b c d r s t u v : ℕ) → m ≡ r + 2 * a → a ≡ s + 2 * b → b ≡ t + 2 * c → c ≡ u + 2 * d → d ≡ v → m ≡ r + (2 * s + (4 * t + (8 * u + 16 * v)))
    sums m a b c d r s t u v e f g i j = omega arith

-- a mask of five bits with the same kinds is the mask of the list
pub mask_one : (m : ℕ) (given : List ℕ) → m < 2 ^ 5 → ((k : ℕ) → k ≤ 4 → opens m k ≡ has k given) → m ≡ mask_of given
mask_one m given low same =
    by_digits m (mask_of given) low (mask_below given) (digit 0 (omega arith)) (digit 1 (omega arith)) (digit 2 (omega arith)) (digit 3 (omega arith)) (digit 4 (omega arith))
  where
    same_digit : (x y : ℕ) → x < 2 → y < 2 → eqb x 1 ≡ eqb y 1 → x ≡ y
    same_digit x y p q e = go (eqb y 1) refl
      where
        go : (u : Bool) → eqb y 1 ≡ u → x ≡ y
        go true f = omega (arith, eqb-true x 1 (e ∙ f), eqb-true y 1 f)
        go false f = omega (arith, eqb-false x 1 (e ∙ f), eqb-false y 1 f)

    digit : (k : ℕ) → k ≤ 4 → m / 2 ^ k % 2 ≡ mask_of given / 2 ^ k % 2
    digit k h =
        same_digit (m / 2 ^ k % 2) (mask_of given / 2 ^ k % 2) (omega arith) (omega arith)
        (rw (lt-ltb k 5 (omega arith)) at (same k h ∙ sym (mask_opens given k h)))

    by_digits : (m n : ℕ) → m < 2 ^ 5 → n < 2 ^ 5 → m / 2 ^ 0 % 2 ≡ n / 2 ^ 0 % 2 → m / 2 ^ 1 % 2 ≡ n / 2 ^ 1 % 2 → m / 2 ^ 2 % 2 ≡ n / 2 ^ 2 % 2
        → m / 2 ^ 3 % 2 ≡ n / 2 ^ 3 % 2 → m / 2 ^ 4 % 2 ≡ n / 2 ^ 4 % 2 → m ≡ n
    by_digits m n p q a b c d e =
        whole m p ∙ rw (a, b, c, d, e) (sym (whole n q))

-- the kinds of a list's mask are the set of the list
pub mask_kinds : (given : List ℕ) → kinds_in (mask_of given) ≡ set_of given
unfolding those_of those_with
mask_kinds given = go (all_count_from 0 5 (λ k h l. mask_opens given k (omega arith)))
  where
    go : {ks : List ℕ} → All (λ k. opens (mask_of given) k ≡ has k given) ks → those_of (mask_of given) ks ≡ those_with given ks
    go all_nil = refl
    go (all_cons e es) = rw (e, go es)

-- ── the kinds of a mask ──

-- a mask has its kinds, ..
pub mask_own : (m : ℕ) → m < 2 ^ 5 → m ≡ mask_of (kinds_in m)
mask_own m low = mask_one m (kinds_in m) low (λ k h. sym (kinds_has m k))

-- .. 0 has none, ..
pub none-none : (m : ℕ) → 0 < length (kinds_in m) → 0 < m
unfolding those_of count_from
none-none zero some = absurd (omega arith)
none-none (suc m) some = omega arith

pub mask_none : mask_of [] ≡ 0
unfolding mask_from count_from has
mask_none = refl

-- .. and any other is a set of kinds
pub mask_sound : (m : ℕ) → 0 < m → m < 2 ^ 5 → SoundKinds (kinds_in m)
unfolding those_of
mask_sound m some low =
    let own : set_of (kinds_in m) ≡ kinds_in m = sym (mask_kinds (kinds_in m)) ∙ ap kinds_in (sym (mask_own m low)) in
    rw own at (set_sound (kinds_in m) (any (kinds_in m) refl) (known (all_map (λ k h. omega arith) (count_from_below 0 5))))
  where
    any : (ks : List ℕ) → kinds_in m ≡ ks → 0 < length ks
    any [] e = let zero-mask : m ≡ 0 = mask_own m low ∙ ap mask_of e ∙ mask_none in absurd (omega arith)
    any (k ∷ ks) e = omega arith

    known : {ks : List ℕ} → All (λ k. k ≤ 4) ks → All (λ k. k ≤ 4) (those_of m ks)
    known all_nil = all_nil
    known (all_cons {x = k} p ps) = go (opens m k) (known ps)
      where
        go : {rest : List ℕ} (u : Bool) → All (λ k. k ≤ 4) rest → All (λ k. k ≤ 4) (cond u (k ∷ rest) rest)
        go true a = all_cons p a
        go false a = a
