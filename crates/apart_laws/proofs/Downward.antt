-- Theorem H: rule 24 by downward induction on the tick. Assumes nothing.
--
-- At the end tick nothing is live. What is live at t is destroyed at t + 1 or live at t + 1. Two that are destroyed at t + 1 share nothing by H1, two
-- that are live then by induction. If one that is destroyed at t + 1 shares a cell with one that lives on, then by H2 a third one is created at t + 1 and
-- has the cell: it shares it, at t + 1, with the one that lives on, which was created before.
use mathlib.Core.Path.{◌≡◌, refl, sym, ap, ◌∙◌}
use mathlib.Core.Logic.{◌⊎◌, inl, inr}
use mathlib.Core.List.{List, [], ◌∷◌}
use Prim.Native.Nat.{ℕ, zero, suc, ◌+◌, ◌≤◌, ◌<◌}
use native.Mathlib.Omega.{arith}
use Rattle.lists.specs.Lists.{All, Pairs, pairs_nil, pairs_cons, Mem, here, there}
use Rattle.lists.proofs.Numbers.{le_or_lt}
use Rattle.lists.proofs.Lists.{all_mem, all_of_mem, pairs-map}
use Rattle.history.specs.Words.{Block, Holds}
use Rattle.history.specs.Rules.{Apart}
use Rattle.apart_laws.specs.Ticks.{Lives, DestroyedBy, Disjoint, ApartAt, EndsApart, EndsApartAt, TakenOver, HandedOn, ClearOf, ClearAt, Settled}
use Rattle.apart_laws.specs.Law.{TheoremH}

-- ── pairs of members ──

module _ {A : Type 0} where
  -- what holds of every two members holds of all pairs
  pub pairs_any : {R : A → A → Type 0} (xs : List A) → ((x y : A) → Mem x xs → Mem y xs → R x y) → Pairs R xs
  pairs_any [] f = pairs_nil
  pairs_any (x ∷ xs) f = pairs_cons (all_of_mem xs (λ y m. f x y (here refl) (there m))) (pairs_any xs (λ y z m n. f y z (there m) (there n)))

  -- a relation that goes both ways holds of two members that differ
  pub pairs_mem : {R : A → A → Type 0} {x y : A} {xs : List A} → ((a b : A) → R a b → R b a) → Pairs R xs → Mem x xs → Mem y xs → (x ≡ y → ⊥) → R x y
  pairs_mem {R = R} {x = x} {y = y} turn pairs_nil x10 _ ne = elim x10 [ ]
  pairs_mem turn (pairs_cons a r) (here e) (here d) ne = absurd (ne (e ∙ sym d))
  pairs_mem turn (pairs_cons a r) (here e) (there n) ne = rw e (all_mem a n)
  pairs_mem {x} turn (pairs_cons a r) (there m) (here d) ne = rw d (turn _ x (all_mem a m))
  pairs_mem turn (pairs_cons a r) (there m) (there n) ne = pairs_mem turn r m n ne

  -- two relations of the pairs make a third, of members
  pub pairs_both : {R S : A → A → Type 0} {T : A → A → Type 0} {xs : List A} → ((x y : A) → Mem x xs → Mem y xs → R x y → S x y → T x y) → Pairs R xs → Pairs S xs → Pairs T xs
  pairs_both f pairs_nil pairs_nil = pairs_nil
  pairs_both f (pairs_cons {x} {xs} a r) (pairs_cons b s) =
      pairs_cons (all_of_mem xs (λ y m. f x y (here refl) (there m) (all_mem a m) (all_mem b m))) (pairs_both (λ y z m n. f y z (there m) (there n)) r s)

-- ── what lives on ──

-- where rule 24 holds at a tick, what is handed on then is clear of what lives on: who took the cell over would share it
pub handed_clear : (t : ℕ) (bs : List Block) (a : Block) → ApartAt t bs → HandedOn t a bs → ClearOf t a bs
handed_clear t bs a apart handed b n born stays cell p q =
    let c : TakenOver t cell bs = handed cell p in
    let differ : c.by ≡ b → ⊥ = λ e. omega (arith, ap (λ (x : Block). x.created) e, c.created) in
    pairs_mem (λ x y f k g h. f k h g) apart c.listed n differ cell
    (record { born = omega (arith, c.created); alive = c.alive; has = c.has })
    (record { born = omega arith; alive = stays; has = q })

pub either_clear : (t : ℕ) (bs : List Block) (a : Block) → ApartAt t bs → HandedOn t a bs ⊎ ClearOf t a bs → ClearOf t a bs
either_clear t bs a apart (inl handed) = handed_clear t bs a apart handed
either_clear t bs a apart (inr clear) = clear

-- ── one tick down ──

module _ (end : ℕ) (bs : List Block) (by_end : DestroyedBy end bs) where
  -- nothing is live at the end tick or after it
  end_apart : (t : ℕ) → end ≤ t → ApartAt t bs
  end_apart t h = pairs_any bs (λ a b m n cell p q. omega (arith, p.alive, all_mem by_end m))

  one_down : (t : ℕ) → ApartAt (suc t) bs → Settled end (suc t) bs → ApartAt t bs
  one_down t later settled = pairs_both parted settled.ends later
    where
      -- one is destroyed at t + 1, the other lives on
      lives-on : (a b : Block) → Mem a bs → Mem b bs → a.destroyed ≤ suc t → suc t < b.destroyed → (cell : ℕ) → Holds t cell a → Holds t cell b → ⊥
      lives-on a b m n dies stays cell p q =
          settled.clear (omega (arith, all_mem by_end n)) a m (omega (arith, p.born, p.alive)) (omega (arith, p.alive)) b n (omega (arith, q.born)) stays cell p.has q.has

      parted : (a b : Block) → Mem a bs → Mem b bs → (Lives a → Lives b → a.destroyed ≡ suc t → b.destroyed ≡ suc t → Disjoint a.stretch b.stretch)
          → ((cell : ℕ) → Holds (suc t) cell a → Holds (suc t) cell b → ⊥) → (cell : ℕ) → Holds t cell a → Holds t cell b → ⊥
      parted a b m n h1 ih cell p q =
          elim (le_or_lt a.destroyed (suc t)) [
            | inl dies ↦ elim (le_or_lt b.destroyed (suc t)) [
              | inl dies-too ↦ h1 (omega (arith, p.born, p.alive)) (omega (arith, q.born, q.alive)) (omega (arith, p.alive)) (omega (arith, q.alive)) cell p.has q.has
              | inr stays ↦ lives-on a b m n dies stays cell p q
            ]
            | inr stays ↦ elim (le_or_lt b.destroyed (suc t)) [
              | inl dies ↦ lives-on b a n m dies stays cell q p
              | inr stays-too ↦
                  ih cell (record { born = omega (arith, p.born); alive = stays; has = p.has }) (record { born = omega (arith, q.born); alive = stays-too; has = q.has })
            ]
          ]

  -- ── down to every tick ──

  module _ (settle : (t : ℕ) → 0 < t → t ≤ end → ApartAt t bs → Settled end t bs) where
    apart_at : (left t : ℕ) → end ≤ t + left → ApartAt t bs
    apart_at zero t h = end_apart t (omega arith)
    apart_at (suc left) t h =
        let later : ApartAt (suc t) bs = apart_at left (suc t) (omega arith) in
        elim (le_or_lt end t) [ inl past ↦ end_apart t past | inr g ↦ one_down t later (settle (suc t) (omega arith) (omega arith) later) ]

-- rule 24 is rule 24 at every tick
pub apart_of_ticks : (bs : List Block) → ((t : ℕ) → ApartAt t bs) → Apart bs
apart_of_ticks [] f = pairs_nil
apart_of_ticks (b ∷ bs) f = pairs_cons (all_of_mem bs (λ c m t. all_mem (first_of (f t)) m)) (apart_of_ticks bs (λ t. rest_of (f t)))
  where
    first_of : {R : Block → Block → Type 0} → Pairs R (b ∷ bs) → All (R b) bs
    first_of (pairs_cons a r) = a

    rest_of : {R : Block → Block → Type 0} → Pairs R (b ∷ bs) → Pairs R bs
    rest_of (pairs_cons a r) = r

pub apart_stepwise : (end : ℕ) (bs : List Block) → DestroyedBy end bs → ((t : ℕ) → 0 < t → t ≤ end → ApartAt t bs → Settled end t bs) → Apart bs
apart_stepwise end bs by settle = apart_of_ticks bs (λ t. apart_at end bs by settle end t (omega arith))

-- H1 is H1 at every tick
ends_at : (t : ℕ) (bs : List Block) → EndsApart bs → EndsApartAt t bs
ends_at t bs own = pairs-map (λ a b f l m p q. f l m (p ∙ sym q)) own

pub apart_downward : (end : ℕ) (bs : List Block) → DestroyedBy end bs → EndsApart bs → ((t : ℕ) → t < end → ApartAt t bs → ClearAt t bs) → Apart bs
apart_downward end bs by own clear = apart_stepwise end bs by (λ t p q apart. record { ends = ends_at t bs own; clear = λ h. clear t h apart })

pub theorem_h : TheoremH
theorem_h = record {
  plain = λ end bs by own handed. apart_downward end bs by own (λ t h apart a m l d. handed_clear t bs a apart (handed t h a m l d));
  leaning = λ end bs by own handed. apart_downward end bs by own (λ t h apart a m l d. handed_clear t bs a apart (handed t h apart a m l d));
  each = λ end bs by own cases. apart_downward end bs by own (λ t h apart a m l d. either_clear t bs a apart (cases t h apart a m l d));
  stepwise = apart_stepwise;
}
