-- Kinds put into a mask: one step for each turn and each return. Assumes nothing.
use mathlib.Core.Path.{◌≡◌, refl, sym, ap, ◌∙◌}
use mathlib.Core.Logic.{◌⊎◌, inl, inr}
use mathlib.Core.Bool.{Bool, true, false, cond, ◌||◌}
use mathlib.Core.List.{List, [], ◌∷◌}
use Prim.Native.Nat.{ℕ, zero, suc, ◌+◌, ◌-◌, ◌*◌, ◌%◌, ◌^◌, ◌≤◌, ◌<◌}
use native.Mathlib.Omega.{arith}
use lib.Dec.{eqb}
use lib.ListN.{length, get_or, drop}
use lib.Seq.{drop-cons}
use borrow.Author.Tests.{eq-eqb, ne_eqb}
use Rattle.lists.specs.Lists.{All, all_nil, all_cons, has, count_from}
use Rattle.lists.proofs.Numbers.{eq_or_ne}
use Rattle.lists.proofs.Lists.{all_at}
use Rattle.history.specs.Words.{all_kinds}
use Rattle.history.proofs.ByKind.{set_sound}
use Rattle.tables.specs.Masks.{opens, Opens}
use Rattle.kind_mask.specs.Masks.{mask_from, mask_of, WithKind, MaskGiven}
use Rattle.kind_mask.proofs.Masks.{mask_below, mask_opens, mask_none, mask_kinds, none-none}

-- ── one kind more ──

-- a kind that is named already changes nothing
mask_again : (kind : ℕ) (given ks : List ℕ) → has kind given ≡ true → mask_from (kind ∷ given) ks ≡ mask_from given ks
unfolding mask_from has
mask_again kind given [] h = refl
mask_again kind given (k ∷ ks) h = go (eq_or_ne k kind) (mask_again kind given ks h)
  where
    go : (k ≡ kind) ⊎ (k ≡ kind → ⊥) → mask_from (kind ∷ given) ks ≡ mask_from given ks
        → cond (eqb k kind || has k given) (2 ^ k) 0 + mask_from (kind ∷ given) ks ≡ cond (has k given) (2 ^ k) 0 + mask_from given ks
    go (inl e) later = rw (eq-eqb k kind e, ap (λ (j : ℕ). has j given) e ∙ h, later)
    go (inr n) later = rw (ne_eqb k kind n, later)

-- nor does one below all that are asked
mask_low : (kind : ℕ) (given : List ℕ) (n many : ℕ) → kind < n → mask_from (kind ∷ given) (count_from n many) ≡ mask_from given (count_from n many)
unfolding mask_from has count_from
mask_low kind given n zero h = refl
mask_low kind given n (suc many) h = rw (ne_eqb n kind (λ e. omega arith), mask_low kind given (suc n) many (omega arith))

-- a new one adds its bit
mask_new : (kind : ℕ) (given : List ℕ) (n many : ℕ) → has kind given ≡ false → n ≤ kind → kind < n + many
    → mask_from (kind ∷ given) (count_from n many) ≡ mask_from given (count_from n many) + 2 ^ kind
unfolding mask_from has count_from
mask_new kind given n zero h a b = absurd (omega arith)
mask_new kind given n (suc many) h a b = go (eq_or_ne n kind) (mask_new kind given (suc n) many h)
  where
    here : (m p : ℕ) → p + m ≡ 0 + m + p
    here m p = omega arith

    on : (u m p : ℕ) → u + (m + p) ≡ u + m + p
    on u m p = omega arith

    go : (n ≡ kind) ⊎ (n ≡ kind → ⊥)
        → (suc n ≤ kind → kind < suc n + many → mask_from (kind ∷ given) (count_from (suc n) many) ≡ mask_from given (count_from (suc n) many) + 2 ^ kind)
        → cond (eqb n kind || has n given) (2 ^ n) 0 + mask_from (kind ∷ given) (count_from (suc n) many) ≡ cond (has n given) (2 ^ n) 0 + mask_from given (count_from (suc n) many) + 2 ^ kind
    go (inl e) later = rw (eq-eqb n kind e, ap (λ (j : ℕ). has j given) e ∙ h, mask_low kind given (suc n) many (omega arith), e) (here _ _)
    go (inr d) later = rw (ne_eqb n kind d, later (omega arith) (omega arith)) (on _ _ _)

-- which is 16 at most
pub bit_low : (kind : ℕ) → kind < 5 → 2 ^ kind ≤ 16
bit_low zero h = omega arith
bit_low (suc zero) h = omega arith
bit_low (suc (suc zero)) h = omega arith
bit_low (suc (suc (suc zero))) h = omega arith
bit_low (suc (suc (suc (suc zero)))) h = omega arith
bit_low (suc (suc (suc (suc (suc k))))) h = absurd (omega arith)

-- and is what a shift gives
pub shifted : (kind : ℕ) → kind < 5 → 1 * 2 ^ kind % 18446744073709551616 ≡ 2 ^ kind
shifted kind h = omega (arith, bit_low kind h)

-- ── the returns of `with_kind` ──

module _ {mask kind : ℕ} {q : Bool} (low : kind < 5) (o : Opens mask kind q) where
  named : (given : List ℕ) → mask ≡ mask_of given → has kind given ≡ q
  named given e = sym (mask_opens given kind (omega arith)) ∙ ap (λ (m : ℕ). opens m kind) (sym e) ∙ sym o.is

  pub with_same : q ≡ true → WithKind mask kind mask
  with_same t = record { is = λ given e. e ∙ sym (mask_again kind given all_kinds (named given e ∙ t)) }

  pub with_new : q ≡ false → WithKind mask kind (mask + 1 * 2 ^ kind % 18446744073709551616)
  with_new f = rw (shifted kind low) (record { is = λ given e. rw e (sym (mask_new kind given 0 5 (named given e ∙ f) (omega arith) (omega arith))) })

pub ruleset adding = (with_same, with_new)

-- ── the loop of `mask_of` ──

-- from place i on all kinds are known, and the mask is theirs
pub record From (given : List ℕ) (mask i : ℕ) : Type 0 where
  pub within : i ≤ length given
  pub known : All (λ kind. kind ≤ 4) (drop i given)
  pub is : mask ≡ mask_of (drop i given)

drop_all : (l : List ℕ) → drop (length l) l ≡ []
drop_all [] = refl
drop_all (x ∷ l) = drop_all l

pub from_start : {given : List ℕ} → From given 0 (length given)
from_start {given} = record { within = omega arith; known = rw (drop_all given) all_nil; is = rw (drop_all given) (sym mask_none) }

pub from_below : {given : List ℕ} {mask i : ℕ} → From given mask i → mask < 2 ^ 5
from_below {given} {mask} {i} f = rw f.is (mask_below (drop i given))

module _ {given : List ℕ} {mask i kind : ℕ} (f : From given mask i) (some : 0 < i) (own : kind ≡ get_or given (i - 1) 0) where
  pub from_turn : {out : ℕ} → kind < 5 → WithKind mask kind out → From given out (i - 1)
  from_turn low w =
      let next : suc (i - 1) ≡ i = omega arith in
      let all : drop (i - 1) given ≡ kind ∷ drop i given = drop-cons given (i - 1) 0 (omega (arith, f.within)) ∙ rw (own, next) in
      record { within = omega (arith, f.within); known = rw all (all_cons {x = kind} (omega arith) f.known); is = rw all (w.is (drop i given) f.is) }

  pub from_high : 5 ≤ kind → MaskGiven given 0
  from_high high = record {
    some = λ n. absurd (n refl);
    none = λ _ t. let low = all_at 0 t.known (i - 1) (omega (arith, f.within)) in omega arith;
  }

pub from_end : {given : List ℕ} {mask i : ℕ} → From given mask i → i ≤ 0 → MaskGiven given mask
from_end {given} {mask} {i} f h =
    let z : i ≡ 0 = omega arith in
    let known : All (λ kind. kind ≤ 4) given = rw z at f.known in
    let is : mask ≡ mask_of given = rw z at f.is in
    record {
      some = λ n. (record { some_kind = any given is n; known = known }, is);
      none = λ e t. let more = none-none mask (rw (is, mask_kinds given) (set_sound given t.some_kind t.known).some_kind) in omega arith;
    }
  where
    any : (l : List ℕ) → mask ≡ mask_of l → (mask ≡ 0 → ⊥) → 0 < length l
    any [] e n = absurd (n (e ∙ mask_none))
    any (x ∷ l) e n = omega arith

pub ruleset masking = (from_start, from_turn)
