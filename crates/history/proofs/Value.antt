-- The two laws of `value_at` in the mission's words: none exactly when no call up to the tick covers the cell; a byte exactly when the last such call
-- has it. Assumes nothing.
use mathlib.Core.Path.{◌≡◌, refl, sym, ◌∙◌, ap, subst}
use mathlib.Core.Logic.{◌⊎◌, inl, inr}
use mathlib.Core.Bool.{Bool, true, false, cond, ◌&&◌}
use mathlib.Core.Option.{Option, none, some, or_else, none-ne-some, some-injective}
use mathlib.Core.List.{List, [], ◌∷◌, ◌++◌}
use Prim.Native.Nat.{ℕ, ◌≤◌, ◌<◌}
use native.Mathlib.Omega.{arith}
use Rattle.lists.specs.Lists.{All, all_nil, all_cons}
use lib.Dec.{eqb}
use borrow.Author.Tests.{le-leb, lt-leb, eq-eqb, ne_eqb}
use Rattle.lists.proofs.Numbers.{lt_or_le, eq_or_ne, cond_same}
use Rattle.history.specs.Words.{Operation, Stretch, HasCell, ends, cells_of, byte_at}
use Rattle.history.specs.Calls.{value_at}
use Rattle.history.specs.Law.{CoversBy, LastCall, ValueAt}
use Rattle.history.proofs.Clip.{byte_at_in, byte_at_low, byte_at_high}

-- a stretch has a cell, or it has no byte for it
pub has_cell : (c : ℕ) (s : Stretch) → HasCell s c ⊎ (byte_at c s ≡ none)
has_cell c s = go (lt_or_le c s.first) (lt_or_le c (ends s))
  where
    go : (c < s.first) ⊎ (s.first ≤ c) → (c < ends s) ⊎ (ends s ≤ c) → HasCell s c ⊎ (byte_at c s ≡ none)
    go (inl x) y = inr (byte_at_low c s x)
    go (inr x) (inl y) = inl (record { from = x; below = y })
    go (inr x) (inr y) = inr (byte_at_high c s y)

-- where it has a byte it has the cell
pub byte_cell : (c : ℕ) (s : Stretch) (b : ℕ) → byte_at c s ≡ some b → HasCell s c
byte_cell c s b e = go (has_cell c s)
  where
    go : HasCell s c ⊎ (byte_at c s ≡ none) → HasCell s c
    go (inl h) = h
    go (inr n) = absurd (none-ne-some b (sym n ∙ e))

-- ── one call ──

-- a call of another kind, or that does not cover the cell, or comes after the tick, tells nothing of it
value_other : (o : Operation) (h : List Operation) (kind t c : ℕ) → (o.kind ≡ kind → ⊥) → value_at (o ∷ h) kind t c ≡ value_at h kind t c
unfolding value_at or_else
value_other o h kind t c n = rw (ne_eqb o.kind kind n)

value_uncovered : (o : Operation) (h : List Operation) (kind t c : ℕ) → byte_at c (cells_of o) ≡ none → value_at (o ∷ h) kind t c ≡ value_at h kind t c
unfolding value_at or_else
value_uncovered o h kind t c e = rw (e, cond_same)

value_later : (o : Operation) (h : List Operation) (kind t c : ℕ) → t < o.tick → value_at (o ∷ h) kind t c ≡ value_at h kind t c
unfolding value_at or_else
value_later o h kind t c p = rw (lt-leb o.tick t p) (go (eqb o.kind kind))
  where
    go : (u : Bool) → or_else (cond (u && false) (byte_at c (cells_of o)) none) (value_at h kind t c) ≡ value_at h kind t c
    go true = refl
    go false = refl

value_covered : (o : Operation) (h : List Operation) (kind t c b : ℕ) → o.kind ≡ kind → o.tick ≤ t → byte_at c (cells_of o) ≡ some b → value_at (o ∷ h) kind t c ≡ some b
unfolding value_at or_else
value_covered o h kind t c b q p e = rw (eq-eqb o.kind kind q, le-leb o.tick t p, e)

-- a call speaks of a cell at a tick, or the value is that of the older calls
speaks : (o : Operation) (h : List Operation) (kind t c : ℕ) → CoversBy kind t c o ⊎ ((CoversBy kind t c o → ⊥) × (value_at (o ∷ h) kind t c ≡ value_at h kind t c))
speaks o h kind t c = go (eq_or_ne o.kind kind) (lt_or_le t o.tick) (has_cell c (cells_of o))
  where
    go : (o.kind ≡ kind) ⊎ (o.kind ≡ kind → ⊥) → (t < o.tick) ⊎ (o.tick ≤ t) → HasCell (cells_of o) c ⊎ (byte_at c (cells_of o) ≡ none)
        → CoversBy kind t c o ⊎ ((CoversBy kind t c o → ⊥) × (value_at (o ∷ h) kind t c ≡ value_at h kind t c))
    go (inr n) x y = inr ((λ k. n k.covers.same_kind), value_other o h kind t c n)
    go (inl e) (inl x) y = inr ((λ k. omega (arith, k.by)), value_later o h kind t c x)
    go (inl e) (inr x) (inl y) = inl (record { by = x; covers = record { same_kind = e; has = y } })
    go (inl e) (inr x) (inr y) =
        inr ((λ k. none-ne-some _ (sym y ∙ byte_at_in c (cells_of o) k.covers.has.from k.covers.has.below)), value_uncovered o h kind t c y)

-- the byte of a call that covers the cell
covers_byte : (kind t c : ℕ) (o : Operation) → CoversBy kind t c o → (b : ℕ) × (byte_at c (cells_of o) ≡ some b)
covers_byte kind t c o k = (_, byte_at_in c (cells_of o) k.covers.has.from k.covers.has.below)

-- ── none ──

none_if : (h : List Operation) (kind t c : ℕ) → All (λ (o : Operation). CoversBy kind t c o → ⊥) h → value_at h kind t c ≡ none
unfolding value_at
none_if [] kind t c all_nil = refl
none_if (o ∷ h) kind t c (all_cons n ns) = go (speaks o h kind t c) (none_if h kind t c ns)
  where
    go : CoversBy kind t c o ⊎ ((CoversBy kind t c o → ⊥) × (value_at (o ∷ h) kind t c ≡ value_at h kind t c)) → value_at h kind t c ≡ none → value_at (o ∷ h) kind t c ≡ none
    go (inl k) e = absurd (n k)
    go (inr k) e = k.1 ∙ e

none_then : (h : List Operation) (kind t c : ℕ) → value_at h kind t c ≡ none → All (λ (o : Operation). CoversBy kind t c o → ⊥) h
none_then [] kind t c e = all_nil
none_then (o ∷ h) kind t c e = go (speaks o h kind t c) (none_then h kind t c)
  where
    go : CoversBy kind t c o ⊎ ((CoversBy kind t c o → ⊥) × (value_at (o ∷ h) kind t c ≡ value_at h kind t c))
        → (value_at h kind t c ≡ none → All (λ (o : Operation). CoversBy kind t c o → ⊥) h) → All (λ (o : Operation). CoversBy kind t c o → ⊥) (o ∷ h)
    go (inl k) ih = let b = covers_byte kind t c o k in absurd (none-ne-some b.0 (sym e ∙ value_covered o h kind t c b.0 k.covers.same_kind k.by b.1))
    go (inr k) ih = all_cons k.0 (ih (sym k.1 ∙ e))

-- ── a byte ──

some_if : (h : List Operation) (kind t c b : ℕ) → LastCall h kind t c b → value_at h kind t c ≡ some b
some_if h kind t c b k = subst (λ (x : List Operation). value_at x kind t c ≡ some b) (sym k.is) (go k.newer k.last)
  where
    go : (newer : List Operation) → All (λ (o : Operation). CoversBy kind t c o → ⊥) newer → value_at (newer ++ k.call ∷ k.older) kind t c ≡ some b
    go [] all_nil = value_covered k.call k.older kind t c b k.covered.covers.same_kind k.covered.by k.has
    go (o ∷ newer) (all_cons n ns) = pass (speaks o (newer ++ k.call ∷ k.older) kind t c) (go newer ns)
      where
        pass : CoversBy kind t c o ⊎ ((CoversBy kind t c o → ⊥) × (value_at (o ∷ (newer ++ k.call ∷ k.older)) kind t c ≡ value_at (newer ++ k.call ∷ k.older) kind t c))
            → value_at (newer ++ k.call ∷ k.older) kind t c ≡ some b → value_at (o ∷ (newer ++ k.call ∷ k.older)) kind t c ≡ some b
        pass (inl x) e = absurd (n x)
        pass (inr x) e = x.1 ∙ e

some_then : (h : List Operation) (kind t c b : ℕ) → value_at h kind t c ≡ some b → LastCall h kind t c b
unfolding value_at
some_then [] kind t c b e = absurd (none-ne-some b e)
some_then (o ∷ h) kind t c b e = go (speaks o h kind t c) (some_then h kind t c b)
  where
    go : CoversBy kind t c o ⊎ ((CoversBy kind t c o → ⊥) × (value_at (o ∷ h) kind t c ≡ value_at h kind t c)) → (value_at h kind t c ≡ some b → LastCall h kind t c b) → LastCall (o ∷ h) kind t c b
    go (inl k) ih =
        let x = covers_byte kind t c o k in
        let same : x.0 ≡ b = some-injective x.0 b (sym (value_covered o h kind t c x.0 k.covers.same_kind k.by x.1) ∙ e) in
        record { newer = []; call = o; older = h; is = refl; covered = k; has = x.1 ∙ ap {B = Option ℕ} some same; last = all_nil }
    go (inr k) ih =
        let r = ih (sym k.1 ∙ e) in
        record {
          newer = o ∷ r.newer;
          call = r.call;
          older = r.older;
          is = ap (λ (x : List Operation). o ∷ x) r.is;
          covered = r.covered;
          has = r.has;
          last = all_cons k.0 r.last;
        }

pub value_law : ValueAt
value_law = record { none_if = none_if; none_then = none_then; some_if = some_if; some_then = some_then }
