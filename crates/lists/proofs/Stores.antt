-- Laws of sets, the write of a list at a place: what it changes and what it leaves. Assumes nothing.
use mathlib.Core.Path.{◌≡◌, refl, sym, ◌∙◌, ap}
use mathlib.Core.Logic.{◌⊎◌, inl, inr}
use mathlib.Core.List.{List, [], ◌∷◌, ◌++◌}
use Prim.Native.Nat.{ℕ, zero, suc, ◌+◌, ◌≤◌, ◌<◌}
use native.Mathlib.Omega.{arith}
use lib.ListN.{length, get_or, set, length-set}
use lib.Seq.{sets, set_out, set_comm, set-set, get_or-set_same, get_or-set_other}

-- ── what is read of them ──

-- what stands outside is as it was
pub get_d_sets_out : (vs l : List ℕ) (at i : ℕ) → (i < at) ⊎ (at + length vs ≤ i) → get_or (sets l at vs) i 0 ≡ get_or l i 0
get_d_sets_out [] l at i h = refl
get_d_sets_out (v ∷ vs) l at i (inl h) = get_d_sets_out vs (set l at v) (suc at) i (inl (omega arith)) ∙ get_or-set_other l at i v 0 (omega arith)
get_d_sets_out (v ∷ vs) l at i (inr h) = get_d_sets_out vs (set l at v) (suc at) i (inr (omega arith)) ∙ get_or-set_other l at i v 0 (omega arith)

-- what stands inside is what was written
pub get_d_sets_in : (vs l : List ℕ) (at j : ℕ) → at + length vs ≤ length l → j < length vs → get_or (sets l at vs) (at + j) 0 ≡ get_or vs j 0
get_d_sets_in [] l at j h z = absurd (omega arith)
get_d_sets_in (v ∷ vs) l at zero h z =
    let e : at + 0 ≡ at = omega arith in
    rw e (get_d_sets_out vs (set l at v) (suc at) at (inl (omega arith)) ∙ get_or-set_same l at v 0 (omega arith))
get_d_sets_in (v ∷ vs) l at (suc j) h z =
    let e : at + suc j ≡ suc at + j = omega arith in
    rw e (get_d_sets_in vs (set l at v) (suc at) j (rw (length-set l at v) (omega arith)) (omega arith))

-- ── lists written one after the other ──

-- a list written past the end changes nothing
pub sets-past : (vs l : List ℕ) (at : ℕ) → length l ≤ at → sets l at vs ≡ l
sets-past [] l at h = refl
sets-past (v ∷ vs) l at h = rw (set_out l at v h) (sets-past vs l (suc at) (omega arith))

-- two lists written one after the other are one
pub sets-append : (l : List ℕ) (i : ℕ) (xs ys : List ℕ) → sets l i (xs ++ ys) ≡ sets (sets l i xs) (i + length xs) ys
sets-append l i [] ys = let z : i + 0 ≡ i = omega arith in rw z
sets-append l i (x ∷ xs) ys =
    let z : i + suc (length xs) ≡ suc i + length xs = omega arith in
    rw z (sets-append (set l i x) (suc i) xs ys)

-- ── in another order ──

-- a number written in front of a list is written before it or after it
pub set-sets : (l : List ℕ) (i x j : ℕ) (ys : List ℕ) → i < j → sets (set l i x) j ys ≡ set (sets l j ys) i x
set-sets l i x j [] h = refl
set-sets l i x j (y ∷ ys) h = rw (set_comm l i j x y (λ e. omega arith)) (set-sets (set l j y) i x (suc j) ys (omega arith))

-- lists written to places apart
pub sets_comm : (l : List ℕ) (i : ℕ) (xs : List ℕ) (j : ℕ) (ys : List ℕ) → i + length xs ≤ j → sets (sets l i xs) j ys ≡ sets (sets l j ys) i xs
sets_comm l i [] j ys h = refl
sets_comm l i (x ∷ xs) j ys h =
    sets_comm (set l i x) (suc i) xs j ys (omega arith) ∙ ap (λ (m : List ℕ). sets m (suc i) xs) (set-sets l i x j ys (omega arith))

-- a list written in front of one that is there already
pub sets_before : (l : List ℕ) (i : ℕ) (xs ys : List ℕ) → sets (sets l (i + length xs) ys) i xs ≡ sets l i (xs ++ ys)
sets_before l i xs ys = sym (sets_comm l i xs (i + length xs) ys (omega arith)) ∙ sym (sets-append l i xs ys)

-- lists written to the same places: the later one stays
pub sets_over : (l : List ℕ) (i : ℕ) (xs ys : List ℕ) → length xs ≤ length ys → sets (sets l i xs) i ys ≡ sets l i ys
sets_over l i [] ys h = refl
sets_over l i (x ∷ xs) [] h = absurd (omega arith)
sets_over l i (x ∷ xs) (y ∷ ys) h =
    ap (λ (m : List ℕ). sets m (suc i) ys) (sym (set-sets (set l i x) i y (suc i) xs (omega arith)) ∙ ap (λ (m : List ℕ). sets m (suc i) xs) (set-set l i x y))
    ∙ sets_over (set l i y) (suc i) xs ys (omega arith)
