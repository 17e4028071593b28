-- The comparison of bytes with one stretch: what its first difference says, and what makes a cell the first difference. Assumes nothing.
use mathlib.Core.Path.{◌≡◌, refl, sym, ap, ◌∙◌}
use mathlib.Core.Logic.{◌⊎◌, inl, inr}
use mathlib.Core.Option.{Option, none, some}
use mathlib.Core.List.{List, [], ◌∷◌}
use Prim.Native.Nat.{ℕ, zero, suc, ◌+◌, ◌<◌}
use native.Mathlib.Omega.{arith}
use lib.ListN.{length, get_or}
use borrow.Author.Tests.{eq-eqb, ne_eqb}
use Rattle.lists.proofs.Numbers.{eq_or_ne, lt_or_le}
use Rattle.history.specs.Words.{Stretch, byte_at, differs_from}

-- ── one cell ──

-- the stretch does not have the cell, or has it with the byte
abbrev pub Agrees : Stretch → (cell byte : ℕ) → Type 0
Agrees s c b = (byte_at c s ≡ none) ⊎ (byte_at c s ≡ some b)

-- it has the cell with another byte
pub record Other (s : Stretch) (cell byte : ℕ) : Type 0 where
  pub x : ℕ
  pub has : byte_at cell s ≡ some x
  pub other : byte ≡ x → ⊥

pub agrees_byte : (s : Stretch) (c : ℕ) {b x : ℕ} → Agrees s c b → byte_at c s ≡ some x → b ≡ x
agrees_byte s c (inl e) h = absurd (nothing (sym e ∙ h))
  where
    nothing : {x : ℕ} → none ≡ some x → ⊥
    nothing e = let z : ◌≡◌ {A = ℕ} 0 1 = cc in omega arith
agrees_byte s c (inr e) h = let z = sym e ∙ h in cc

agrees_or_other : (s : Stretch) (c b : ℕ) → Agrees s c b ⊎ Other s c b
agrees_or_other s c b = go (byte_at c s) refl
  where
    go : (o : Option ℕ) → byte_at c s ≡ o → Agrees s c b ⊎ Other s c b
    go none e = inl (inl e)
    go (some x) e = elim (eq_or_ne b x) [
      | inl same ↦ inl (inr (e ∙ ap {B = Option ℕ} some (sym same)))
      | inr n ↦ inr (record { x = x; has = e; other = n })
    ]

pub differs_here : (s : Stretch) (c b x : ℕ) (bs : List ℕ) → byte_at c s ≡ some x → (b ≡ x → ⊥) → differs_from s c (b ∷ bs) ≡ some c
unfolding differs_from
differs_here s c b x bs e n = rw (e, ne_eqb b x n)

pub differs_later : (s : Stretch) (c b : ℕ) (bs : List ℕ) → Agrees s c b → differs_from s c (b ∷ bs) ≡ differs_from s (suc c) bs
unfolding differs_from
differs_later s c b bs (inl e) = rw e
differs_later s c b bs (inr e) = rw (e, eq-eqb b b refl)

-- ── all cells ──

-- The stretch agrees with all bytes from c on; or with so many of them, and has the next cell with another byte.
pub data Comparison (s : Stretch) (c : ℕ) (bs : List ℕ) : Type 0 where
  alike : differs_from s c bs ≡ none → ((k : ℕ) → k < length bs → Agrees s (c + k) (get_or bs k 0)) → Comparison s c bs
  apart : (n : ℕ) → differs_from s c bs ≡ some (c + n) → n < length bs → ((k : ℕ) → k < n → Agrees s (c + k) (get_or bs k 0)) → Other s (c + n) (get_or bs n 0) → Comparison s c bs

pub compared : (s : Stretch) (c : ℕ) (bs : List ℕ) → Comparison s c bs
unfolding differs_from
compared s c [] = alike refl (λ k h. absurd (omega arith))
compared s c (b ∷ bs) = go (agrees_or_other s c b) (compared s (suc c) bs)
  where
    earlier : Agrees s c b → {n : ℕ} → ((k : ℕ) → k < n → Agrees s (suc c + k) (get_or bs k 0)) → (k : ℕ) → k < suc n → Agrees s (c + k) (get_or (b ∷ bs) k 0)
    earlier a f zero h = let z : c + 0 ≡ c = omega arith in rw z a
    earlier a f (suc k) h = let z : c + suc k ≡ suc c + k = omega arith in rw z (f k (omega arith))

    go : Agrees s c b ⊎ Other s c b → Comparison s (suc c) bs → Comparison s c (b ∷ bs)
    go (inr o) later =
        let z : c + 0 ≡ c = omega arith in
        apart 0 (differs_here s c b o.x bs o.has o.other ∙ ap {B = Option ℕ} some (sym z)) (omega arith) (λ k h. absurd (omega arith)) (rw z o)
    go (inl a) (alike e f) = alike (differs_later s c b bs a ∙ e) (earlier a f)
    go (inl a) (apart n e h f o) =
        let z : c + suc n ≡ suc c + n = omega arith in
        apart (suc n) (differs_later s c b bs a ∙ e ∙ ap {B = Option ℕ} some (sym z)) (omega arith) (earlier a f) (rw z o)

-- what makes it the first difference
module _ (s : Stretch) (c : ℕ) (bs : List ℕ) where
  pub differs_nowhere : ((k : ℕ) → k < length bs → Agrees s (c + k) (get_or bs k 0)) → differs_from s c bs ≡ none
  differs_nowhere f = go (compared s c bs)
    where
      go : Comparison s c bs → differs_from s c bs ≡ none
      go (alike e g) = e
      go (apart n e h g o) = absurd (o.other (agrees_byte s (c + n) (f n h) o.has))

  pub differs_at : (n : ℕ) → n < length bs → ((k : ℕ) → k < n → Agrees s (c + k) (get_or bs k 0)) → Other s (c + n) (get_or bs n 0) → differs_from s c bs ≡ some (c + n)
  differs_at n h f o = go (compared s c bs)
    where
      go : Comparison s c bs → differs_from s c bs ≡ some (c + n)
      go (alike e g) = absurd (o.other (agrees_byte s (c + n) (g n h) o.has))
      go (apart m e l g p) = elim (lt_or_le m n) [
        | inl below ↦ absurd (p.other (agrees_byte s (c + m) (f m below) p.has))
        | inr from ↦ elim (lt_or_le n m) [
          | inl above ↦ absurd (o.other (agrees_byte s (c + n) (g n above) o.has))
          | inr same ↦ let z : m ≡ n = omega arith in e ∙ rw z
        ]
      ]
