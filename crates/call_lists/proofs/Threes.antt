-- Answers in a row: how many numbers, and one answer more. Assumes nothing.
use mathlib.Core.Path.{◌≡◌, refl, sym, ◌∙◌, ap}
use mathlib.Core.List.{List, [], ◌∷◌, ◌++◌, map}
use Prim.Native.Nat.{ℕ, suc, ◌+◌, ◌*◌}
use native.Mathlib.Omega.{arith}
use native.Mathlib.Numerals.{add-one}
use lib.ListN.{length, set, length-append}
use lib.Seq.{sets, length-sets}
use Rattle.lists.proofs.Maps.{map-append, length_of_map}
use Rattle.lists.proofs.Stores.{sets-append}
use Rattle.call_lists.specs.Threes.{Three, threes}

threes-length : (xs : List Three) → length (threes xs) ≡ 3 * length xs
unfolding threes
threes-length [] = omega arith
threes-length (x ∷ xs) = omega (arith, threes-length xs)

threes-on : (xs : List Three) (x : Three) → threes (xs ++ x ∷ []) ≡ threes xs ++ (x.refusal ∷ x.one ∷ x.other ∷ [])
unfolding threes
threes-on [] x = refl
threes-on (y ∷ xs) x = ap (λ (l : List ℕ). y.refusal ∷ y.one ∷ y.other ∷ l) (threes-on xs x)

-- behind n answers one more
threes_more : (answers : List ℕ) (xs : List Three) (x : Three) (n : ℕ) → n ≡ length xs
    → sets (sets answers 0 (threes xs)) (3 * n) (x.refusal ∷ x.one ∷ x.other ∷ []) ≡ sets answers 0 (threes (xs ++ x ∷ []))
threes_more answers xs x n e =
    let place : 0 + length (threes xs) ≡ 3 * n = omega (arith, threes-length xs, e) in
    rw (threes-on xs x, sets-append answers 0 (threes xs) (x.refusal ∷ x.one ∷ x.other ∷ []), place) refl

-- ── the answers of a loop ──

-- n answers have been given, and stand in a row in front of what was there
pub record Shown {A : Type 0} (show : A → Three) (given : List A) (answers₀ answers : List ℕ) (n : ℕ) : Type 0 where
  pub counted : n ≡ length given
  pub put : answers ≡ sets answers₀ 0 (threes (map show given))

module _ {A : Type 0} {show : A → Three} where
  pub shown-none : {answers : List ℕ} → Shown show [] answers answers 0
  unfolding threes
  shown-none = record { counted = refl; put = refl }

  module _ {given : List A} {answers₀ answers : List ℕ} {n : ℕ} (s : Shown show given answers₀ answers n) where
    pub shown-length : length answers ≡ length answers₀
    shown-length = ap length s.put ∙ length-sets answers₀ 0 (threes (map show given))

    pub shown_more : (a : A) {answers' : List ℕ} → answers' ≡ sets answers (3 * n) ((show a).refusal ∷ (show a).one ∷ (show a).other ∷ [])
        → Shown show (given ++ a ∷ []) answers₀ answers' (n + 1)
    shown_more a e = record {
      counted = omega (arith, s.counted, length-append given (a ∷ []));
      put =
          e
          ∙ ap (λ (l : List ℕ). sets l (3 * n) ((show a).refusal ∷ (show a).one ∷ (show a).other ∷ [])) s.put
          ∙ threes_more answers₀ (map show given) (show a) n (s.counted ∙ sym (length_of_map show given))
          ∙ ap (λ (l : List Three). sets answers₀ 0 (threes l)) (sym (map-append show given (a ∷ [])));
    }

-- ── `put_three` ──

pub three_put : (answers : List ℕ) (at a b c : ℕ) → set (set (set answers at a) (at + 1) b) (at + 2) c ≡ sets answers at (a ∷ b ∷ c ∷ [])
three_put answers at a b c =
    let two : at + 2 ≡ suc (suc at) = omega arith in
    rw (add-one, two) refl
