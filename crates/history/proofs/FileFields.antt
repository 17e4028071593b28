-- Fields at a position: one number, so many, and the four that stand in a node and in a block, read or cut. Assumes nothing.
use mathlib.Core.Path.{◌≡◌, refl, ◌∙◌, ap}
use mathlib.Core.Logic.{inl, inr}
use mathlib.Core.List.{List, [], ◌∷◌}
use Prim.Native.Nat.{ℕ, ◌<◌, ◌≤◌, ◌+◌, zero, suc, ◌*◌}
use native.Mathlib.Omega.{arith}
use native.Mathlib.Nat.{mul-suc, mul-zero}
use lib.ListN.{length, take, drop}
use Rattle.lists.proofs.Numbers.{le_or_lt}
use Rattle.history.specs.File.{number_of, got, ◌>>=◌, onward, give, number, many, fault, Reader}
use Rattle.history.proofs.FileReads.{number_read, number_cut}

-- ── one number ──

-- the number at a position
abbrev pub number_at : (file : List ℕ) (at : ℕ) → ℕ
number_at file at = number_of (take 8 (drop at file))

-- with the next position given
pub number_to : (file : List ℕ) (at m : ℕ) → at + 8 ≡ m → m ≤ length file → number 8 file at ≡ got (number_at file at) m
number_to file at m e h = number_read 8 file at (omega arith) ∙ ap (got (number_at file at)) e

-- ── so many numbers ──

-- the numbers that stand at a position, of a fixed width
unfoldable pub numbers_at : (width : ℕ) (file : List ℕ) (at count : ℕ) → List ℕ
numbers_at width file at zero = []
numbers_at width file at (suc n) = number_of (take width (drop at file)) ∷ numbers_at width file (at + width) n

module _ (width : ℕ) (file : List ℕ) where
  -- all of them
  pub numbers_read : (n at : ℕ) → at + width * n ≤ length file → many (number width) n file at ≡ got (numbers_at width file at n) (at + width * n)
  unfolding many ◌>>=◌ onward give numbers_at
  numbers_read zero at h = ap (got []) (simp mul-zero (omega arith))
  numbers_read (suc n) at h =
      let more : width * suc n ≡ width * n + width = mul-suc width n in
      rw (number_read width file at (omega arith), numbers_read n (at + width) (omega arith)) (ap (got (numbers_at width file at (suc n))) (omega arith))

-- ── four numbers ──

-- four numbers and what follows them, with the positions that lie between
module _ {A : Type 0} (k : (a b c d : ℕ) → Reader A) (file : List ℕ) (m₀ m₁ m₂ m₃ m₄ : ℕ) (e₁ : m₀ + 8 ≡ m₁) (e₂ : m₁ + 8 ≡ m₂) (e₃ : m₂ + 8 ≡ m₃) (e₄ : m₃ + 8 ≡ m₄) where
  abbrev four : Reader A
  four = number 8 >>= (λ a. number 8 >>= (λ b. number 8 >>= (λ c. number 8 >>= (λ d. k a b c d))))

  -- all four
  pub four_read : m₄ ≤ length file → four file m₀ ≡ k (number_at file m₀) (number_at file m₁) (number_at file m₂) (number_at file m₃) file m₄
  unfolding ◌>>=◌ onward
  four_read h =
      rw (number_to file m₀ m₁ e₁ (omega arith), number_to file m₁ m₂ e₂ (omega arith), number_to file m₂ m₃ e₃ (omega arith), number_to file m₃ m₄ e₄ h) refl

  -- or the bytes end inside one of them
  pub four_cut : length file < m₄ → four file m₀ ≡ fault 17
  unfolding ◌>>=◌ onward
  four_cut h =
      elim (le_or_lt m₁ (length file)) [
        | inr cut ↦ rw (number_cut 8 file m₀ (omega arith)) refl
        | inl a ↦
            rw (number_to file m₀ m₁ e₁ a)
            (elim (le_or_lt m₂ (length file)) [
              | inr cut ↦ rw (number_cut 8 file m₁ (omega arith)) refl
              | inl b ↦
                  rw (number_to file m₁ m₂ e₂ b)
                  (elim (le_or_lt m₃ (length file)) [
                    | inr cut ↦ rw (number_cut 8 file m₂ (omega arith)) refl
                    | inl c ↦ rw (number_to file m₂ m₃ e₃ c, number_cut 8 file m₃ (omega arith)) refl
                  ])
            ])
      ]
