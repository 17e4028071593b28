-- Digits: decimal ones spelled from the last to the first, and hexadecimal ones. Assumes nothing.
use mathlib.Core.Path.{◌≡◌, refl, sym, ◌∙◌, ap}
use mathlib.Core.Logic.{⊎_elim}
use mathlib.Core.List.{List, [], ◌∷◌, ◌++◌}
use Prim.Native.Nat.{ℕ, zero, suc, ◌+◌, ◌-◌, ◌/◌, ◌%◌, ◌^◌, ◌≤◌, ◌<◌}
use native.Mathlib.Nat.{pow-suc}
use native.Mathlib.Omega.{arith}
use lib.ListN.{length, set, take, drop, length-set, length-drop, drop_of_length-le}
use lib.Seq.{take_all, drop-cons, lt-length-set, get_or-set_same, drop-set-lt}
use borrow.Author.Tests.{lt-ltb, le-ltb}
use Rattle.lists.proofs.Numbers.{le_or_lt, suc_of}
use Rattle.history.specs.Printed.{digit, digits, decimal, hex_digit}

-- ── the returns of `hex_digit` ──

pub hex_low : (d : ℕ) → d < 10 → 48 + d ≡ hex_digit d
unfolding hex_digit
hex_low d h = rw (lt-ltb d 10 h) refl

pub hex_high : (d : ℕ) → 10 ≤ d → 87 + d ≡ hex_digit d
unfolding hex_digit
hex_high d h = rw (le-ltb d 10 h) refl

-- ── decimal digits ──

digits-none : (n : ℕ) (text : List ℕ) → digits zero n text ≡ text
unfolding digits
digits-none n text = refl

digits_more : (most n : ℕ) (text : List ℕ) → 10 ≤ n → digits (suc most) n text ≡ digits most (n / 10) (digit (n % 10) ∷ text)
unfolding digits
digits_more most n text h = rw (le-ltb n 10 h) refl

digits_last : (most n : ℕ) (text : List ℕ) → n < 10 → digits (suc most) n text ≡ digit n ∷ text
unfolding digits
digits_last most n text h = rw (lt-ltb n 10 h) refl

-- a text behind the digits
pub digits_front : (most n : ℕ) (xs ys : List ℕ) → digits most n (xs ++ ys) ≡ digits most n xs ++ ys
digits_front zero n xs ys = digits-none n (xs ++ ys) ∙ ap (λ (t : List ℕ). t ++ ys) (sym (digits-none n xs))
digits_front (suc most) n xs ys =
    ⊎_elim
    (λ (h : 10 ≤ n).
    digits_more most n (xs ++ ys) h
    ∙ digits_front most (n / 10) (digit (n % 10) ∷ xs) ys
    ∙ ap (λ (t : List ℕ). t ++ ys) (sym (digits_more most n xs h)))
    (λ (h : n < 10). digits_last most n (xs ++ ys) h ∙ ap (λ (t : List ℕ). t ++ ys) (sym (digits_last most n xs h)))
    (le_or_lt 10 n)

-- how long the digits are at most
pub digits-length : (most n : ℕ) (text : List ℕ) → length (digits most n text) ≤ most + length text
digits-length zero n text = rw (digits-none n text) (omega arith)
digits-length (suc most) n text =
    ⊎_elim
    (λ (h : 10 ≤ n). rw (digits_more most n text h) (longer most (digits-length most (n / 10) (digit (n % 10) ∷ text))))
    (λ (h : n < 10). rw (digits_last most n text h) (omega arith))
    (le_or_lt 10 n)
  where
    longer : {m : ℕ} (k : ℕ) → m ≤ k + suc (length text) → m ≤ suc k + length text
    longer k h = omega arith

-- ── the loop of `decimal` ──

-- the digits behind `start` are spelled, and `rest` is what stands in front of them
pub record Spelling (n : ℕ) (buffer : List ℕ) (start rest : ℕ) : Type 0 where
  pub says : digits (suc start) rest (drop (suc start) buffer) ≡ decimal n []
  pub below : rest < 10 ^ suc start

drop-set : (l : List ℕ) (i v : ℕ) → i < length l → drop i (set l i v) ≡ v ∷ drop (suc i) l
drop-set l i v h =
    drop-cons (set l i v) i 0 (lt-length-set l i v h) ∙ rw (get_or-set_same l i v 0 h, drop-set-lt (suc i) l i v (omega arith)) refl

pub spelling_none : (n : ℕ) (buffer : List ℕ) → length buffer ≡ 20 → n < 2 ^ 64 → Spelling n buffer 19 n
spelling_none n buffer e h =
    record { says = rw (drop_of_length-le buffer {i = 20} (omega arith)) refl; below = omega arith }

module _ {n : ℕ} {buffer : List ℕ} {start rest : ℕ} (d : ℕ) (s : Spelling n buffer start rest) (inside : start < length buffer) where
  -- there is room for the digits that are left
  pub spelling_room : 10 ≤ rest → 0 < start
  spelling_room h = ⊎_elim (λ (k : 1 ≤ start). omega arith) (λ (k : start < 1). first k) (le_or_lt 1 start)
    where
      first : start < 1 → 0 < start
      first k =
          let z : start ≡ 0 = omega arith in
          let b : rest < 10 ^ 1 = rw z at s.below in
          omega arith

  pub spelling_one : 10 ≤ rest → d ≡ digit (rest % 10) → Spelling n (set buffer start d) (start - 1) (rest / 10)
  spelling_one h e =
      let p : suc (start - 1) ≡ start = sym (suc_of start (omega (arith, spelling_room h))) in
      record {
        says = rw (p, drop-set buffer start d inside, e) (sym (digits_more start rest (drop (suc start) buffer) h) ∙ s.says);
        below = rw p (omega (arith, s.below, pow-suc 10 start));
      }

  -- all digits are spelled
  pub spelled : rest < 10 → d ≡ digit rest → length buffer ≡ 20 → take (20 - start) (drop start (set buffer start d)) ≡ decimal n []
  spelled h e l =
      let sized : length (drop start (set buffer start d)) ≤ 20 - start = simp (length-drop, length-set) (omega arith) in
      take_all (20 - start) (drop start (set buffer start d)) sized
      ∙ rw (drop-set buffer start d inside, e) (sym (digits_last start rest (drop (suc start) buffer) h) ∙ s.says)
