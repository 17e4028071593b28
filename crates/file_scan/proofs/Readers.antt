-- Readers one after the other: where a reader that has succeeded goes on, and how a reader is cut in two. Assumes nothing.
use mathlib.Core.Path.{◌≡◌, refl, sym, ◌∙◌, ap}
use mathlib.Core.Logic.{⊎_elim}
use mathlib.Core.Bool.{Bool, true, false}
use mathlib.Core.List.{List, [], ◌∷◌}
use Prim.Native.Nat.{ℕ, zero, suc, ◌+◌, ◌*◌, ◌≤◌, ◌<◌}
use native.Mathlib.Omega.{arith}
use lib.ListN.{length, take, drop}
use Rattle.lists.proofs.Numbers.{le_or_lt}
use Rattle.history.specs.File.{number_of, Read, got, fault, onward, ◌>>=◌, give, refuse◌unless◌, number, many}
use Rattle.history.proofs.FileYields.{got_value, got_next, fault_got}
use Rattle.fields.proofs.Reading.{number_got, number_end, Passes, number_passes}
use Rattle.file_scan.specs.Rows.{Numbers, read_four}

-- ── one after the other ──

module _ {A B C : Type 0} where
  -- a reading whose rest is itself one reading after another is the first part, and then the second
  pub onward_through : (o : Read A) (f : A → ℕ → Read B) (k : B → ℕ → Read C) {g : A → ℕ → Read C} → ((x : A) (n : ℕ) → g x n ≡ onward (f x n) k)
      → onward o g ≡ onward (onward o f) k
  unfolding onward
  onward_through (got x n) f k h = h x n
  onward_through (fault i) f k h = refl

module _ {A B : Type 0} where
  -- rests that are the same wherever the first part leads
  pub onward_same : (o : Read A) {f g : A → ℕ → Read B} → ((x : A) (n : ℕ) → o ≡ got x n → f x n ≡ g x n) → onward o f ≡ onward o g
  unfolding onward
  onward_same (got x n) h = h x n refl
  onward_same (fault i) h = refl

  -- a reading that has given x goes on with it
  pub onward_gives : (x : A) (n : ℕ) (k : A → ℕ → Read B) → k x n ≡ onward (got x n) k
  unfolding onward
  onward_gives x n k = refl

  -- a reading that succeeds has succeeded in its first part
  pub onward_got : (o : Read A) (k : A → ℕ → Read B) {y : B} {n : ℕ} {G : Type 0} → onward o k ≡ got y n
      → ((x : A) (m : ℕ) → o ≡ got x m → k x m ≡ got y n → G) → G
  unfolding onward
  onward_got (got x m) k e f = f x m refl e
  onward_got (fault i) k e f = absurd (fault_got e)

-- a test that is passed
pub refuse_got : {A : Type 0} (i : ℕ) (t : Bool) (file : List ℕ) (at : ℕ) (k : Unit {0} → ℕ → Read A) {y : A} {n : ℕ} {G : Type 0}
    → onward ((refuse i unless t) file at) k ≡ got y n → (t ≡ true → k tt at ≡ got y n → G) → G
unfolding refuse◌unless◌ onward
refuse_got i true file at k e f = f refl e
refuse_got i false file at k e f = absurd (fault_got e)

-- ── four numbers ──

pub four_passes : (file : List ℕ) (at : ℕ) {q : Numbers} {n : ℕ} → read_four file at ≡ got q n → Passes file at 32 n
unfolding read_four ◌>>=◌ give
four_passes file at {q} {n} e =
    onward_got _ _ e λ a p₁ e₁ r₁.
    onward_got _ _ r₁ λ b p₂ e₂ r₂.
    onward_got _ _ r₂ λ c p₃ e₃ r₃.
    onward_got _ _ r₃ λ d p₄ e₄ r₄.
    let s₁ = number_passes file at 8 e₁ in
    let s₂ = number_passes file p₁ 8 e₂ in
    let s₃ = number_passes file p₂ 8 e₃ in
    let s₄ = number_passes file p₃ 8 e₄ in
    let s : p₄ ≡ n = got_next r₄ in
    record { place = omega arith; inside = omega arith }

-- ── numbers one after the other ──

-- the numbers that stand from a position on
unfoldable pub numbers_at : (file : List ℕ) (at count : ℕ) → List ℕ
numbers_at file at zero = []
numbers_at file at (suc count) = number_of (take 8 (drop at file)) ∷ numbers_at file (at + 8) count

pub numbers_at-length : (file : List ℕ) (at count : ℕ) → length (numbers_at file at count) ≡ count
unfolding numbers_at
numbers_at-length file at zero = refl
numbers_at-length file at (suc count) = ap suc (numbers_at-length file (at + 8) count)

-- they are read where all of them are inside the file ..
pub many_got : (file : List ℕ) (at count : ℕ) → at + 8 * count ≤ length file → many (number 8) count file at ≡ got (numbers_at file at count) (at + 8 * count)
unfolding many numbers_at ◌>>=◌ onward give
many_got file at zero h = ap (got []) (omega arith)
many_got file at (suc count) h =
    let e : at + 8 + 8 * count ≡ at + 8 * suc count = omega arith in
    rw (number_got file at 8 (omega arith), many_got file (at + 8) count (omega arith), e) refl

-- .. and nowhere else
pub many_end : (file : List ℕ) (at count : ℕ) → at ≤ length file → length file < at + 8 * count → many (number 8) count file at ≡ fault 17
unfolding many ◌>>=◌ onward give
many_end file at zero i h = absurd (omega arith)
many_end file at (suc count) i h =
    ⊎_elim
    (λ k. rw (number_got file at 8 k, many_end file (at + 8) count k (omega arith)) refl)
    (λ k. rw (number_end file at 8 k) refl)
    (le_or_lt (at + 8) (length file))

pub many_passes : (file : List ℕ) (at count : ℕ) {ns : List ℕ} {n : ℕ} → at ≤ length file → many (number 8) count file at ≡ got ns n
    → Passes file at (8 * length ns) n × (length ns ≡ count)
many_passes file at count {ns} {n} i e =
    ⊎_elim
    (λ h.
    let p : n ≡ at + 8 * count = got_next (sym e ∙ many_got file at count h) in
    let l : length ns ≡ count = ap length (got_value (sym e ∙ many_got file at count h)) ∙ numbers_at-length file at count in
    (record { place = rw l p; inside = omega arith }, l))
    (λ h. absurd (fault_got (sym (many_end file at count i h) ∙ e)))
    (le_or_lt (at + 8 * count) (length file))
