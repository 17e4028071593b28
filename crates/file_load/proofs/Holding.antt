-- Numbers that stand in a table from a place on: parts of them, and what a write leaves. Assumes nothing.
use mathlib.Core.Path.{◌≡◌, ◌∙◌}
use mathlib.Core.List.{List, ◌++◌}
use Prim.Native.Nat.{ℕ, ◌+◌, ◌≤◌, ◌<◌}
use native.Mathlib.Omega.{arith}
use lib.ListN.{length, get_or, take, drop, length-append, length-drop, get_or-append}
use lib.Seq.{sets, get_or-append-add, get_or-take, get_or-drop, length-take-le, ext_get_or}
use Rattle.lists.proofs.Stores.{get_d_sets_in}

-- from the place on the numbers stand in the table
pub record HoldsAt (table : List ℕ) (place : ℕ) (numbers : List ℕ) : Type 0 where
  pub says : (j : ℕ) → j < length numbers → get_or table (place + j) 0 ≡ get_or numbers j 0

-- what was written stands there
pub written_holds : (table : List ℕ) (place : ℕ) (numbers : List ℕ) → place + length numbers ≤ length table → HoldsAt (sets table place numbers) place numbers
written_holds table place numbers room = record { says = λ j h. get_d_sets_in numbers table place j room h }

module _ {table : List ℕ} {place : ℕ} (xs ys : List ℕ) (h : HoldsAt table place (xs ++ ys)) where
  pub holds_left : HoldsAt table place xs
  holds_left = record { says = λ j p. h.says j (omega (arith, length-append xs ys)) ∙ get_or-append xs ys 0 j p }

  pub holds_right : HoldsAt table (place + length xs) ys
  holds_right = record {
    says = λ j p.
        let z : place + length xs + j ≡ place + (length xs + j) = omega arith in
        rw z (h.says (length xs + j) (omega (arith, length-append xs ys)) ∙ get_or-append-add xs ys j 0);
  }

-- at another place that is the same
pub holds_moved : {table : List ℕ} {p q : ℕ} {xs : List ℕ} → p ≡ q → HoldsAt table p xs → HoldsAt table q xs
holds_moved e h = rw e at h

-- the part of the table is the numbers
pub holds_part : (table : List ℕ) (place : ℕ) (xs : List ℕ) → place + length xs ≤ length table → HoldsAt table place xs → take (length xs) (drop place table) ≡ xs
holds_part table place xs room h =
    let long : length (take (length xs) (drop place table)) ≡ length xs = length-take-le (length xs) (drop place table) (omega (arith, length-drop place table)) in
    ext_get_or 0 (take (length xs) (drop place table)) xs long
    (λ j p. let q : j < length xs = omega arith in get_or-take (length xs) (drop place table) j 0 q ∙ get_or-drop place table j 0 ∙ h.says j q)
