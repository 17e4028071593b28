-- Rows written: one step for each return of the functions that write a row, and numbers written in front of others; zeros from the start on. Assumes nothing.
use mathlib.Core.Path.{◌≡◌, refl, sym, ◌∙◌}
use mathlib.Core.List.{List, [], ◌∷◌, ◌++◌}
use Prim.Native.Nat.{ℕ, min, ◌+◌, ◌-◌, ◌≤◌, ◌<◌}
use native.Mathlib.Omega.{arith}
use lib.ListN.{length, set, get_or, take, drop, length-take, replicate, length-replicate, replicate-append-replicate}
use lib.Seq.{sets}
use mathlib.Core.Logic.{inl, inr}
use Rattle.std.proofs.lemmas.Bool.{cases_lt}
use Rattle.std.proofs.lemmas.List.{take_more}
use Rattle.std.proofs.lemmas.List.Edits.{sets-eq}
use Rattle.lists.proofs.Stores.{sets-append}
use Rattle.tables.proofs.Past.{sets_front}

-- ── a row ──

-- one number more
pub row_more : (t : List ℕ) (p q i : ℕ) (row : List ℕ) {u v : List ℕ} → u ≡ sets t p (take i row) → v ≡ set u q (get_or row i 0) → q ≡ p + i
    → i < length row → v ≡ sets t p (take (i + 1) row)
row_more t p q i row a b e h =
    let long : length (take i row) ≡ i = simp length-take (omega arith) in
    b ∙ rw (a, e, take_more row i 0 h, sets-append t p (take i row) (get_or row i 0 ∷ []), long) refl

-- ── zeros ──

-- zeros up to the end of the table are all that are written
pub zeros-cut : (l : List ℕ) (n i : ℕ) → i ≤ n → length l ≤ i → sets l 0 (replicate i 0) ≡ sets l 0 (replicate n 0)
zeros-cut l n i h k =
    let e : i + (n - i) ≡ n = omega arith in
    sym (sets_front l (replicate i 0) (replicate (n - i) 0) 0 (omega (arith, length-replicate {A = ℕ} i 0))) ∙ rw (replicate-append-replicate {A = ℕ} i (n - i) 0, e)

-- n of them are all
pub zeros_upto : (l : List ℕ) (n i : ℕ) → i ≤ n → n ≤ i → sets l 0 (replicate i 0) ≡ sets l 0 (replicate n 0)
zeros_upto l n i h k = let e : i ≡ n = omega arith in rw e

-- as many zeros as the table holds are all that are written
zeros_held : (t : List ℕ) (n m : ℕ) → m ≡ min n (length t) → sets t 0 (replicate m 0) ≡ sets t 0 (replicate n 0)
zeros_held t n m e = elim (cases_lt m n) [
  | inl h ↦ zeros-cut t n m (omega arith) (omega arith)
  | inr h ↦ zeros_upto t n m (omega arith) h
]

pub zeros_put : (t zeros : List ℕ) (n m : ℕ) → m ≡ min n (length t) → zeros ≡ replicate m 0 → zeros ++ drop m t ≡ sets t 0 (replicate n 0)
zeros_put t zeros n m e z =
    let long : length (replicate {A = ℕ} m 0) ≡ m = length-replicate {A = ℕ} m 0 in
    let room : 0 + length (replicate {A = ℕ} m 0) ≤ length t = omega arith in
    let none : 0 + m ≡ m = omega arith in
    let all = rw (long, none) at (sets-eq (replicate {A = ℕ} m 0) t 0 room) in
    rw z (sym all ∙ zeros_held t n m e)
