-- A part whose numbers have no bit has zeros alone, and so has a table of such parts: one step for each turn and each return of `part_zero` and `all_zero`.
-- Assumes nothing.
use mathlib.Core.Path.{◌≡◌, refl, sym, ap, ◌∙◌}
use mathlib.Core.Logic.{inl, inr}
use mathlib.Core.List.{List}
use Prim.Native.Nat.{ℕ, ◌+◌, ◌-◌, ◌≤◌, ◌<◌}
use native.Mathlib.Omega.{arith}
use lib.Dec.{eqb}
use borrow.Author.Tests.{eqb-true, eqb-false}
use lib.ListN.{length, get_or, take, drop, replicate, length-replicate, length-take, length-drop}
use lib.Seq.{get_or-take, get_or-drop}
use Rattle.std.specs.Int.Bits.{bit_or}
use Rattle.std.proofs.lemmas.Nat.{le_or_l, le_or_r}
use Rattle.std.proofs.lemmas.List.{get_or-replicate}
use Rattle.std.proofs.lemmas.Grind.{same_number_lists}
use Rattle.lists.specs.Tests.{Decides}
use Rattle.lists.proofs.Numbers.{eq_or_ne, lt_or_le}

-- `bits` has the bits of the first i numbers, and none where all are zeros
pub record BitsTo (table : List ℕ) (bits i : ℕ) : Type 0 where
  pub each : (j : ℕ) → j < i → get_or table j 0 ≤ bits
  pub none : table ≡ replicate (length table) 0 → bits ≡ 0

pub bits_start : {table : List ℕ} → BitsTo table 0 0
bits_start = record { each = λ j h. absurd (omega arith); none = λ e. refl }

pub bits_more : {table : List ℕ} {bits i n all : ℕ} → BitsTo table bits i → i < length table → n ≡ get_or table i 0 → all ≡ bit_or bits n → BitsTo table all (i + 1)
bits_more {table} {bits} {i} {n} {all} b h e o = record {
  each = λ j g. elim (eq_or_ne j i) [
    | inl q ↦ rw (q, ← e, o) (le_or_r bits n)
    | inr q ↦ (let z = b.each j (omega arith) in omega (arith, o, le_or_l bits n))
  ];
  none = λ q.
      let zero : n ≡ 0 = e ∙ ap (λ (t : List ℕ). get_or t i 0) q ∙ get_or-replicate (length table) i 0 0 h in
      o ∙ rw (b.none q, zero) refl;
}

module _ {table : List ℕ} {bits i : ℕ} (b : BitsTo table bits i) (past : length table ≤ i) where
  all_zeros : bits ≡ 0 → table ≡ replicate (length table) 0
  all_zeros z =
      same_number_lists table (replicate (length table) 0) (sym (length-replicate (length table) 0))
      (λ k h. let e = get_or-replicate {A = ℕ} (length table) k 0 0 h in omega (arith, b.each k (omega arith), e))

  pub zeros_told : Decides (eqb bits 0) (table ≡ replicate (length table) 0)
  zeros_told = record { yes = λ e. all_zeros (eqb-true bits 0 e); not = λ e q. eqb-false bits 0 e (b.none q) }

-- ── a table by parts ──

-- the numbers before a place are zeros
pub record ZerosTo (table : List ℕ) (from : ℕ) : Type 0 where
  pub each : (j : ℕ) → j < from → get_or table j 0 ≡ 0

zero_at : {l : List ℕ} → l ≡ replicate (length l) 0 → (j : ℕ) → j < length l → get_or l j 0 ≡ 0
zero_at {l} e j h = ap (λ (t : List ℕ). get_or t j 0) e ∙ get_or-replicate (length l) j 0 0 h

zeros_whole : {l : List ℕ} → ((j : ℕ) → j < length l → get_or l j 0 ≡ 0) → l ≡ replicate (length l) 0
zeros_whole {l} f =
    same_number_lists l (replicate (length l) 0) (sym (length-replicate (length l) 0))
    (λ k h. f k (omega arith) ∙ sym (get_or-replicate {A = ℕ} (length l) k 0 0 (omega arith)))

module _ (table : List ℕ) (from many : ℕ) where
  part_at : (j : ℕ) → j < many → get_or (take many (drop from table)) j 0 ≡ get_or table (from + j) 0
  part_at j h = get_or-take many (drop from table) j 0 h ∙ get_or-drop from table j 0

  pub zeros_more : {to : ℕ} → ZerosTo table from → take many (drop from table) ≡ replicate (length (take many (drop from table))) 0 → from + many ≡ to
      → to ≤ length table → ZerosTo table to
  zeros_more {to} z e m room = record {
    each = λ j h. elim (lt_or_le j from) [
      | inl a ↦ z.each j a
      | inr a ↦
          (let place : from + (j - from) ≡ j = omega arith in
          let long : length (take many (drop from table)) ≡ many = length-take many (drop from table) ∙ omega (arith, length-drop from table) in
          rw place at (sym (part_at (j - from) (omega arith)) ∙ zero_at e (j - from) (omega (arith, long))))
    ];
  }

pub zeros_all : {table : List ℕ} {from : ℕ} → ZerosTo table from → length table ≤ from → table ≡ replicate (length table) 0
zeros_all z h = zeros_whole (λ j a. z.each j (omega arith))
