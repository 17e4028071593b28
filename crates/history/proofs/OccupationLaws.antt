-- The laws of the occupation report: counts, the fraction, the nearest tenth.
use mathlib.Core.Path.{◌≡◌, refl, sym, ap, ◌∙◌, subst}
use mathlib.Core.Logic.{◌⊎◌, inl, inr}
use mathlib.Core.Bool.{Bool, true, false, cond, ◌||◌}
use mathlib.Core.List.{List, [], ◌∷◌, ◌++◌, map, map-append}
use Prim.Native.Nat.{ℕ, zero, suc, ◌+◌, ◌-◌, ◌*◌, ◌/◌, ◌%◌, ◌^◌, ◌≤◌, ◌<◌, ◌∣◌, max, min}
use native.Mathlib.Nat.{mul-le-mul_right, mul_comm, mul_assoc, mul-add, div-mul_cancel, mul-dvd-mul_right, pos_of_dvd_of_pos, le_of_dvd, mod-lt, div-add-mod', div-le_of_le-mul}
use native.Mathlib.Omega.{arith}
use lib.ListN.{length}
use lib.Dec.{ltb, eqb}
use borrow.Author.Tests.{lt-ltb, le-ltb, ltb-false, eq-eqb, ne_eqb, eqb-false}
use Rattle.std.specs.Int.{IsGcd}
use Rattle.std.proofs.lemmas.Nat.Gcd.{IsGcd-from_zero, IsGcd-from_mod, same_from_IsGcd}
use Rattle.lists.specs.Lists.{All, all_nil, all_cons, sum_of}
use Rattle.lists.proofs.Lists.{sum-append}
use Rattle.lists.proofs.Numbers.{lt_or_le, eq_or_ne, counts_one, or_left, or_right, or_true}
use Rattle.history.specs.Words.{Operation}
use Rattle.history.specs.Ledger.{Ledger, finished}
use Rattle.history.specs.Law.{LedgerLaw}
use Rattle.history.specs.Sums.{sum_over, busy, busy_by}
use Rattle.history.specs.Occupation.{Window, extent, given_by, occupied_in, occupied_by, divisor_in, divisor, reduced, rounded, tenths_of, unreported}
use Rattle.history.specs.OccupationLaw.{occupied_of, IsReduced, distance, IsNearest, LawOfCounts, LawOfOccupation}
use Rattle.history.proofs.Sums.{sum_over-most, sum_over-same, byte-value, busy-value}

-- ── the counts ──

pub occupied_most : (l : Ledger) (kind t : ℕ) (w : Window) → occupied_in l kind t w ≤ extent w
occupied_most l kind t w =
    omega (arith, sum_over-most (λ c. cond (busy l kind t c) 1 0) 1 w.start w.stop (λ k. counts_one (busy l kind t k)))

pub occupied-given : (l : Ledger) (kind t : ℕ) (ws : List Window) → occupied_by l kind t ws ≤ given_by ws
unfolding occupied_by given_by sum_of
occupied-given l kind t [] = omega arith
occupied-given l kind t (w ∷ ws) = omega (arith, occupied_most l kind t w, occupied-given l kind t ws)

occupied-append : (l : Ledger) (kind t : ℕ) (ws vs : List Window) → occupied_by l kind t (ws ++ vs) ≡ occupied_by l kind t ws + occupied_by l kind t vs
unfolding occupied_by
occupied-append l kind t ws vs = rw (map-append (occupied_in l kind t) ws vs) (sum-append (map (occupied_in l kind t) ws) (map (occupied_in l kind t) vs))

given-append : (ws vs : List Window) → given_by (ws ++ vs) ≡ given_by ws + given_by vs
unfolding given_by
given-append ws vs = rw (map-append extent ws vs) (sum-append (map extent ws) (map extent vs))

-- what the windows have together goes by their cells
pub windows_same : (f g : ℕ → ℕ) → ((c : ℕ) → c < 2 ^ 64 → f c ≡ g c) → {ws : List Window} → All (λ (w : Window). w.stop ≤ 2 ^ 64) ws
    → sum_of (map (λ (w : Window). sum_over f w.start w.stop) ws) ≡ sum_of (map (λ (w : Window). sum_over g w.start w.stop) ws)
unfolding sum_of
windows_same f g same all_nil = refl
windows_same f g same (all_cons {x = w} low rest) =
    omega (arith, sum_over-same f g w.start w.stop (λ c from below. same c (omega arith)), windows_same f g same rest)

pub occupied-value : (l : Ledger) (h : List Operation) → LedgerLaw l h → finished l ≡ true → (kind t : ℕ) → t < l.opening.end
    → (ws : List Window) → All (λ (w : Window). w.stop ≤ 2 ^ 64) ws → occupied_by l kind t ws ≡ occupied_of h kind t ws
unfolding occupied_by occupied_of
occupied-value l h law done kind t p ws low =
    windows_same (λ c. cond (busy l kind t c) 1 0) (λ c. cond (busy_by h kind t c) 1 0)
    (λ c q. ap (λ (b : Bool). cond b 1 0) (busy-value l h law done kind t c p q)) low

law_of_counts : LawOfCounts
law_of_counts = record { value = byte-value; by_history = occupied-value; at_most = occupied-given; occupied_added = occupied-append; given_added = given-append }

-- ── the greatest common divisor ──

divisor_met : (n a b : ℕ) → b ≤ n → IsGcd a b (divisor_in n a b)
unfolding divisor_in
divisor_met zero a b h = IsGcd-from_zero a b (omega arith)
divisor_met (suc n) a b h =
    elim (eq_or_ne b 0) [
      | inl e ↦ rw (eq-eqb b 0 e) (IsGcd-from_zero a b e)
      | inr e ↦ rw (ne_eqb b 0 e) (IsGcd-from_mod a b (divisor_in n b (a % b)) (divisor_met n b (a % b) (omega arith)))
    ]

pub divisor_is : (a b : ℕ) → IsGcd a b (divisor a b)
unfolding divisor
divisor_is a b = divisor_met b a b (omega arith)

-- any other is the same
pub divisor_only : (a b g : ℕ) → IsGcd a b g → g ≡ divisor a b
divisor_only a b g h = same_from_IsGcd a b g (divisor a b) h (divisor_is a b)

pub divisor_some : (a b : ℕ) → 0 < b → 0 < divisor a b
divisor_some a b h = pos_of_dvd_of_pos ((divisor_is a b).1) h

-- ── the fraction ──

module _ (p w : ℕ) (some : 0 < w) where
  abbrev d : ℕ
  d = divisor p w

  part : p / d * d ≡ p
  part = div-mul_cancel d ((divisor_is p w).0)

  whole : w / d * d ≡ w
  whole = div-mul_cancel d ((divisor_is p w).1)

  reduced-same : p / d * w ≡ p * (w / d)
  reduced-same =
      ap (λ (x : ℕ). p / d * x) (sym whole) ∙ ap (λ (x : ℕ). p / d * x) (mul_comm (w / d) d) ∙ sym (mul_assoc (p / d) d (w / d)) ∙ ap (λ (x : ℕ). x * (w / d)) part

  reduced-some : 0 < w / d
  reduced-some = elim (eq_or_ne (w / d) 0) [
    | inl e ↦ absurd (omega (arith, some, sym whole, ap (λ (x : ℕ). x * d) e))
    | inr e ↦ omega arith
  ]

  -- a common divisor of both, times that one, is one of the first two
  reduced_lowest : (c : ℕ) → 1 < c → c ∣ p / d → c ∣ w / d → ⊥
  reduced_lowest c h a b =
      let times = (divisor_is p w).2 (c * d) (subst (λ (x : ℕ). c * d ∣ x) part (mul-dvd-mul_right c a d)) (subst (λ (x : ℕ). c * d ∣ x) whole (mul-dvd-mul_right c b d)) in
      let most : c * d ≤ d = le_of_dvd (divisor_some p w some) times in
      let more : 2 * d ≤ c * d = mul-le-mul_right {m = 2} {n = c} d (omega arith) in
      omega (arith, divisor_some p w some)

  pub reduced_met : IsReduced p w (reduced p w).part (reduced p w).whole
  unfolding reduced
  reduced_met = record { same = reduced-same; some_whole = reduced-some; lowest = reduced_lowest }

-- ── tenths ──

-- where n times w lies beside q times w
data Multiples (n q w : ℕ) : Type 0 where
  before : n < q → n * w + w ≤ q * w → Multiples n q w
  there : n ≡ q → n * w ≡ q * w → Multiples n q w
  next : n ≡ q + 1 → n * w ≡ q * w + w → Multiples n q w
  past : q + 1 < n → q * w + (w + w) ≤ n * w → Multiples n q w

one_more : (a w : ℕ) → (a + 1) * w ≡ a * w + w
one_more a w = mul_comm (a + 1) w ∙ mul-add w a 1 ∙ omega (arith, mul_comm w a)

multiples : (n q w : ℕ) → Multiples n q w
multiples n q w =
    elim (lt_or_le n q) [
      | inl h ↦ before h (omega (arith, one_more n w, mul-le-mul_right {m = n + 1} {n = q} w (omega arith)))
      | inr h ↦ elim (eq_or_ne n q) [
        | inl e ↦ there e (ap (λ (x : ℕ). x * w) e)
        | inr e ↦ elim (eq_or_ne n (q + 1)) [
          | inl f ↦ next f (ap (λ (x : ℕ). x * w) f ∙ one_more q w)
          | inr f ↦ past (omega arith) (omega (arith, one_more q w, one_more (q + 1) w, mul-le-mul_right {m = q + 1 + 1} {n = n} w (omega arith)))
        ]
      ]
    ]

module _ (a q r w t : ℕ) (is : a ≡ q * w + r) (small : r < w) where
  low : t ≡ q → 2 * r < w → (n : ℕ) → Multiples n q w → ((max a (t * w) - min a (t * w)) ≤ (max a (n * w) - min a (n * w))) × ((n ≡ t → ⊥) → (max a (n * w) - min a (n * w)) ≡ (max a (t * w) - min a (t * w)) → t % 2 ≡ 0)
  low e h n m = let f : t * w ≡ q * w = ap (λ (x : ℕ). x * w) e in go m f
    where
      go : Multiples n q w → t * w ≡ q * w → ((max a (t * w) - min a (t * w)) ≤ (max a (n * w) - min a (n * w))) × ((n ≡ t → ⊥) → (max a (n * w) - min a (n * w)) ≡ (max a (t * w) - min a (t * w)) → t % 2 ≡ 0)
      go (before b c) f = (omega arith, λ k l. absurd (omega arith))
      go (there b c) f = (omega arith, λ k l. absurd (k (omega arith)))
      go (next b c) f = (omega arith, λ k l. absurd (omega arith))
      go (past b c) f = (omega arith, λ k l. absurd (omega arith))

  high : t ≡ q + 1 → w < 2 * r → (n : ℕ) → Multiples n q w → ((max a (t * w) - min a (t * w)) ≤ (max a (n * w) - min a (n * w))) × ((n ≡ t → ⊥) → (max a (n * w) - min a (n * w)) ≡ (max a (t * w) - min a (t * w)) → t % 2 ≡ 0)
  high e h n m = let f : t * w ≡ q * w + w = ap (λ (x : ℕ). x * w) e ∙ one_more q w in go m f
    where
      go : Multiples n q w → t * w ≡ q * w + w → ((max a (t * w) - min a (t * w)) ≤ (max a (n * w) - min a (n * w))) × ((n ≡ t → ⊥) → (max a (n * w) - min a (n * w)) ≡ (max a (t * w) - min a (t * w)) → t % 2 ≡ 0)
      go (before b c) f = (omega arith, λ k l. absurd (omega arith))
      go (there b c) f = (omega arith, λ k l. absurd (omega arith))
      go (next b c) f = (omega arith, λ k l. absurd (k (omega arith)))
      go (past b c) f = (omega arith, λ k l. absurd (omega arith))

  tie : (t * w ≡ q * w) ⊎ (t * w ≡ q * w + w) → t % 2 ≡ 0 → 2 * r ≡ w → (n : ℕ) → Multiples n q w → ((max a (t * w) - min a (t * w)) ≤ (max a (n * w) - min a (n * w))) × ((n ≡ t → ⊥) → (max a (n * w) - min a (n * w)) ≡ (max a (t * w) - min a (t * w)) → t % 2 ≡ 0)
  tie (inl f) e h n (before b c) = (omega arith, λ k l. e)
  tie (inl f) e h n (there b c) = (omega arith, λ k l. e)
  tie (inl f) e h n (next b c) = (omega arith, λ k l. e)
  tie (inl f) e h n (past b c) = (omega arith, λ k l. e)
  tie (inr f) e h n (before b c) = (omega arith, λ k l. e)
  tie (inr f) e h n (there b c) = (omega arith, λ k l. e)
  tie (inr f) e h n (next b c) = (omega arith, λ k l. e)
  tie (inr f) e h n (past b c) = (omega arith, λ k l. e)

-- ── quotient and rest ──

division : (a w : ℕ) → 0 < w → a ≡ a / w * w + a % w
division a w h = sym (div-add-mod' a w)

rest_small : (a w : ℕ) → 0 < w → a % w < w
rest_small a w h = mod-lt a h

pub quotient-most : (a w m : ℕ) → 0 < w → a ≤ m * w → a / w ≤ m
quotient-most a w m h k = div-le_of_le-mul w (omega (arith, mul_comm m w))

full : (a w : ℕ) → 0 < w → w ≤ 2 * (a % w) → {t : ℕ} → t ≡ a / w + 1 → a ≤ 1000 * w → t ≤ 1000
full a w some half e most =
    elim (lt_or_le (a / w) 1000) [
      | inl h ↦ omega arith
      | inr h ↦ absurd (omega (arith, division a w some, mul-le-mul_right {m = 1000} {n = a / w} w h))
    ]

-- what rounding comes to
data Rounds (q r w t : ℕ) : Type 0 where
  down : t ≡ q → 2 * r < w → Rounds q r w t
  up : t ≡ q + 1 → w < 2 * r → Rounds q r w t
  even_low : t ≡ q → t % 2 ≡ 0 → 2 * r ≡ w → Rounds q r w t
  even_high : t ≡ q + 1 → t % 2 ≡ 0 → 2 * r ≡ w → Rounds q r w t

even_or_odd : (q : ℕ) → (q % 2 ≡ 0) ⊎ (q % 2 ≡ 1)
even_or_odd q = elim (eq_or_ne (q % 2) 0) [ inl e ↦ inl e | inr e ↦ inr (omega arith) ]

rounds : (q r w : ℕ) → Rounds q r w (rounded q r w)
rounds q r w =
    elim (lt_or_le (2 * r) w) [
      | inl h ↦ rw (lt-ltb (2 * r) w h) (down refl h)
      | inr h ↦ elim (lt_or_le w (2 * r)) [
        | inl k ↦ rw (le-ltb (2 * r) w h, lt-ltb w (2 * r) k) (up refl k)
        | inr k ↦ rw (le-ltb (2 * r) w h, le-ltb w (2 * r) k) (elim (even_or_odd q) [
          | inl e ↦ even_low (omega arith) (omega arith) (omega arith)
          | inr e ↦ even_high (omega arith) (omega arith) (omega arith)
        ])
      ]
    ]

module _ (p w : ℕ) (some : 0 < w) where
  near : (n : ℕ) → Rounds (1000 * p / w) (1000 * p % w) w (tenths_of p w)
      → (distance p w (tenths_of p w) ≤ distance p w n) × ((n ≡ tenths_of p w → ⊥) → distance p w n ≡ distance p w (tenths_of p w) → tenths_of p w % 2 ≡ 0)
  near n (down e h) = low (1000 * p) (1000 * p / w) (1000 * p % w) w (tenths_of p w) (division (1000 * p) w some) (rest_small (1000 * p) w some) e h n (multiples n (1000 * p / w) w)
  near n (up e h) = high (1000 * p) (1000 * p / w) (1000 * p % w) w (tenths_of p w) (division (1000 * p) w some) (rest_small (1000 * p) w some) e h n (multiples n (1000 * p / w) w)
  near n (even_low e z h) = tie (1000 * p) (1000 * p / w) (1000 * p % w) w (tenths_of p w) (division (1000 * p) w some) (rest_small (1000 * p) w some) (inl (ap (λ (x : ℕ). x * w) e)) z h n (multiples n (1000 * p / w) w)
  near n (even_high e z h) = tie (1000 * p) (1000 * p / w) (1000 * p % w) w (tenths_of p w) (division (1000 * p) w some) (rest_small (1000 * p) w some) (inr (ap (λ (x : ℕ). x * w) e ∙ one_more (1000 * p / w) w)) z h n (multiples n (1000 * p / w) w)

  rounds_here : Rounds (1000 * p / w) (1000 * p % w) w (tenths_of p w)
  unfolding tenths_of
  rounds_here = rounds (1000 * p / w) (1000 * p % w) w

  pub tenths-nearest : IsNearest p w (tenths_of p w)
  tenths-nearest = record { nearest = λ n. (near n rounds_here).0; even = λ n. (near n rounds_here).1 }

  pub tenths-most : p ≤ w → tenths_of p w ≤ 1000
  tenths-most h = go rounds_here
    where
      go : Rounds (1000 * p / w) (1000 * p % w) w (tenths_of p w) → tenths_of p w ≤ 1000
      go (down e z) = omega (arith, quotient-most (1000 * p) w 1000 some (omega arith))
      go (up e z) = full (1000 * p) w some (omega arith) e (omega arith)
      go (even_low e y z) = omega (arith, quotient-most (1000 * p) w 1000 some (omega arith))
      go (even_high e y z) = full (1000 * p) w some (omega arith) e (omega arith)

-- ── 37 ──

pub reported : (ws : List Window) → unreported ws ≡ false → (0 < given_by ws) × (given_by ws ≤ 2 ^ 32) × (length ws ≤ 256)
unfolding unreported
reported ws e =
    let none = eqb-false (given_by ws) 0 (or_left (eqb (given_by ws) 0) (ltb 256 (length ws) || ltb (2 ^ 32) (given_by ws)) e) in
    let rest = or_right (eqb (given_by ws) 0) (ltb 256 (length ws) || ltb (2 ^ 32) (given_by ws)) e in
    (omega arith, ltb-false (2 ^ 32) (given_by ws) (or_right (ltb 256 (length ws)) (ltb (2 ^ 32) (given_by ws)) rest), ltb-false 256 (length ws) (or_left (ltb 256 (length ws)) (ltb (2 ^ 32) (given_by ws)) rest))

pub nothing : (ws : List Window) → given_by ws ≡ 0 → unreported ws ≡ true
unfolding unreported
nothing ws e = rw (eq-eqb (given_by ws) 0 e)

pub too_many : (ws : List Window) → 256 < length ws → unreported ws ≡ true
unfolding unreported
too_many ws h = rw (lt-ltb 256 (length ws) h) (or_true (eqb (given_by ws) 0) true refl)

pub too_long : (ws : List Window) → 2 ^ 32 < given_by ws → unreported ws ≡ true
unfolding unreported
too_long ws h = rw (lt-ltb (2 ^ 32) (given_by ws) h) (or_true (eqb (given_by ws) 0) (ltb 256 (length ws) || true) (or_true (ltb 256 (length ws)) true refl))

pub law_of_occupation : LawOfOccupation
law_of_occupation = record {
  counts = law_of_counts;
  fraction = reduced_met;
  tenths = tenths-nearest;
  at_most = tenths-most;
  reported = reported;
  nothing = nothing;
  windows = too_many;
  cells = too_long;
}
