-- Bytes put one part after the other: the laws of `Put`. Assumes nothing.
use mathlib.Core.Path.{◌≡◌, refl, sym, ◌∙◌, ap}
use mathlib.Core.Logic.{⊎_elim}
use mathlib.Core.List.{List, [], ◌∷◌, ◌++◌}
use Prim.Native.Nat.{ℕ, ◌+◌, ◌≤◌, ◌<◌}
use native.Mathlib.Numerals.{add-one}
use native.Mathlib.Omega.{arith}
use lib.ListN.{length, get_or, take, drop, length-append}
use lib.Seq.{sets, length-sets, set_out, sets-eq, take-suc, take_at, length-take-le}
use Rattle.lists.specs.Puts.{behind, Put}
use Rattle.lists.proofs.Numbers.{le_or_lt}
use Rattle.lists.proofs.Stores.{sets-append, sets-past}

-- ── parts ──

-- the place behind m bytes and then n
behind_more : (room at m n p : ℕ) → p ≡ behind room at m → behind room p n ≡ behind room at (m + n)
behind_more room at m n p e = ⊎_elim fits (λ (h : room < at + m). ⊎_elim (cut h) past (le_or_lt at room)) (le_or_lt (at + m) room)
  where
    fits : at + m ≤ room → behind room p n ≡ behind room at (m + n)
    fits h = let f : p ≡ at + m = omega arith in rw f (omega arith)

    cut : room < at + m → at ≤ room → behind room p n ≡ behind room at (m + n)
    cut k h = let f : p ≡ room = omega arith in rw f (omega arith)

    past : room < at → behind room p n ≡ behind room at (m + n)
    past h = let f : p ≡ at = omega arith in rw f (omega arith)

pub put_none : (out : List ℕ) (at : ℕ) → Put out at [] out at
put_none out at = record { stands = refl; ends = omega arith }

module _ {out out' : List ℕ} {at next : ℕ} {xs : List ℕ} (a : Put out at xs out' next) where
  pub put_length : length out' ≡ length out
  put_length = ap length a.stands ∙ length-sets out at xs

  pub put_onward : at ≤ next
  put_onward = omega (arith, a.ends)

  -- one part behind another
  pub put_append : {out'' : List ℕ} {next' : ℕ} {ys : List ℕ} → Put out' next ys out'' next' → Put out at (xs ++ ys) out'' next'
  put_append {out''} {next'} {ys} b =
      let second : sets out' next ys ≡ sets out' (at + length xs) ys =
      ⊎_elim (λ h. ap (λ (n : ℕ). sets out' n ys) (omega (arith, a.ends)))
      (λ h. sets-past ys out' next (omega (arith, a.ends, put_length)) ∙ sym (sets-past ys out' (at + length xs) (omega (arith, put_length))))
      (le_or_lt (at + length xs) (length out)) in
      record {
        stands = b.stands ∙ second ∙ ap (λ (l : List ℕ). sets l (at + length xs) ys) a.stands ∙ sym (sets-append out at xs ys);
        ends = rw (length-append xs ys) (rw put_length at b.ends ∙ behind_more (length out) at (length xs) (length ys) next a.ends);
      }

  -- what is put where there is room stands there, up to the next place
  pub put_shown : at + length xs ≤ length out → take next out' ≡ take at out ++ xs
  put_shown h =
      let e : next ≡ at + length xs = omega (arith, a.ends) in
      let n : length (take at out ++ xs) ≡ at + length xs = length-append (take at out) xs ∙ ap (λ (k : ℕ). k + length xs) (length-take-le at out (omega arith)) in
      let all : out' ≡ (take at out ++ xs) ++ drop (at + length xs) out = a.stands ∙ sets-eq xs out at h in
      rw (e, all) (take_at (take at out ++ xs) (drop (at + length xs) out) (at + length xs) n)

-- the same bytes, said otherwise
pub put_same : {out out' : List ℕ} {at next : ℕ} {xs ys : List ℕ} → xs ≡ ys → Put out at xs out' next → Put out at ys out' next
put_same e a = rw e at a

-- ── one byte ──

pub put_past : (out : List ℕ) (at byte : ℕ) → length out ≤ at → Put out at (byte ∷ []) out at
put_past out at x h = record { stands = sym (set_out out at x h); ends = omega arith }

-- ── one byte after the other ──

pub put_one : {out mid out' : List ℕ} {at p q : ℕ} (xs : List ℕ) (i : ℕ) → i < length xs → Put out at (take i xs) mid p
    → Put mid p (get_or xs i 0 ∷ []) out' q → Put out at (take (i + 1) xs) out' q
put_one xs i h a b = rw (add-one i, take-suc xs i 0 h) (put_append a b)
