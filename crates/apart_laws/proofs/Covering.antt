-- The covering lemma. Disjoint stretches have in a range at most as many cells as the range: cell by cell, since each is in one of them at most. If they
-- have no fewer and one cell is in none, the ranges below and above it would have to hold more than they can. Assumes nothing.
use mathlib.Core.Path.{◌≡◌, refl}
use mathlib.Core.Logic.{◌⊎◌, inl, inr}
use mathlib.Core.List.{List, [], ◌∷◌}
use Prim.Native.Nat.{ℕ, zero, suc, ◌+◌, ◌-◌, ◌≤◌, ◌<◌, min, max}
use native.Mathlib.Omega.{arith}
use Rattle.lists.specs.Lists.{All, all_nil, all_cons, Pairs, pairs_nil, pairs_cons, here, there, sum_of}
use Rattle.lists.proofs.Numbers.{le_or_lt, lt_or_le}
use Rattle.lists.proofs.Lists.{all_map}
use Rattle.history.specs.Words.{Stretch, ends, HasCell}
use Rattle.apart_laws.specs.Cover.{cut, cut_sum, Covered}
use Rattle.apart_laws.specs.Ticks.{Disjoint}
use Rattle.apart_laws.specs.Law.{CoveringLemma}

-- ── one stretch ──

-- a range in two
range_split : (lo mid hi : ℕ) → hi - lo ≡ (min mid hi - lo) + (hi - max mid lo)
range_split lo mid hi = omega arith

cut_split : (lo mid hi : ℕ) (s : Stretch) → lo ≤ mid → mid ≤ hi → cut lo hi s ≡ cut lo mid s + cut mid hi s
unfolding cut
cut_split lo mid hi s p q =
    let low : min mid (ends s) ≡ min mid (min hi (ends s)) = omega arith in
    let high : max mid s.first ≡ max mid (max lo s.first) = omega arith in
    rw (low, high) (range_split (max lo s.first) mid (min hi (ends s)))

-- of one cell a stretch has one or none
cut_cell : (cell : ℕ) (s : Stretch) → cut cell (suc cell) s ≤ 1
unfolding cut
cut_cell cell s = omega arith

cut_out : (cell : ℕ) (s : Stretch) → (HasCell s cell → ⊥) → cut cell (suc cell) s ≡ 0
unfolding cut
cut_out cell s out =
    elim (le_or_lt s.first cell) [
      | inr h ↦ omega arith
      | inl h ↦ elim (lt_or_le cell (ends s)) [
        | inl g ↦ absurd (out (record { from = h; below = g }))
        | inr g ↦ omega arith
      ]
    ]

-- it has a cell or not
has_or_not : (s : Stretch) (cell : ℕ) → HasCell s cell ⊎ (HasCell s cell → ⊥)
has_or_not s cell =
    elim (le_or_lt s.first cell) [
      | inr h ↦ inr (λ x. omega (arith, x.from))
      | inl h ↦ elim (lt_or_le cell (ends s)) [
        | inl g ↦ inl (record { from = h; below = g })
        | inr g ↦ inr (λ x. omega (arith, x.below))
      ]
    ]

-- ── several ──

cut-sum_split : (lo mid hi : ℕ) (ss : List Stretch) → lo ≤ mid → mid ≤ hi → cut_sum lo hi ss ≡ cut_sum lo mid ss + cut_sum mid hi ss
unfolding cut_sum sum_of
cut-sum_split lo mid hi [] p q = refl
cut-sum_split lo mid hi (s ∷ ss) p q = omega (arith, cut_split lo mid hi s p q, cut-sum_split lo mid hi ss p q)

-- a range without cells
cut-sum-none : (lo hi : ℕ) (ss : List Stretch) → hi ≤ lo → cut_sum lo hi ss ≡ 0
unfolding cut_sum sum_of cut
cut-sum-none lo hi [] h = refl
cut-sum-none lo hi (s ∷ ss) h = omega (arith, cut-sum-none lo hi ss h)

-- a cell that is in none of them
cut-sum_out : (cell : ℕ) {ss : List Stretch} → All (λ (s : Stretch). HasCell s cell → ⊥) ss → cut_sum cell (suc cell) ss ≡ 0
unfolding cut_sum sum_of
cut-sum_out cell all_nil = refl
cut-sum_out cell (all_cons {x = s} out rest) = omega (arith, cut_out cell s out, cut-sum_out cell rest)

-- a cell is in one of them at most
cut-sum_cell : (cell : ℕ) {ss : List Stretch} → Pairs Disjoint ss → cut_sum cell (suc cell) ss ≤ 1
unfolding cut_sum sum_of
cut-sum_cell cell pairs_nil = omega arith
cut-sum_cell cell (pairs_cons {x = s} {xs = ss} a r) =
    elim (has_or_not s cell) [
      | inl h ↦ omega (arith, cut_cell cell s, cut-sum_out cell (all_map (λ q (d : Disjoint s q). d cell h) a))
      | inr h ↦ omega (arith, cut_out cell s h, cut-sum_cell cell r)
    ]

-- they have at most as many cells in a range as the range
cut-sum-most : (lo width : ℕ) {ss : List Stretch} → Pairs Disjoint ss → cut_sum lo (lo + width) ss ≤ width
cut-sum-most lo zero {ss} d = omega (arith, cut-sum-none lo (lo + 0) ss (omega arith))
cut-sum-most lo (suc width) {ss} d =
    let e : lo + suc width ≡ suc (lo + width) = omega arith in
    rw e (omega (arith, cut-sum_split lo (lo + width) (suc (lo + width)) ss (omega arith) (omega arith), cut-sum-most lo width d, cut-sum_cell (lo + width) d))

cut-sum-fits : (lo hi : ℕ) {ss : List Stretch} → Pairs Disjoint ss → cut_sum lo hi ss ≤ hi - lo
cut-sum-fits lo hi {ss} d =
    elim (le_or_lt lo hi) [
      | inl h ↦ let e : lo + (hi - lo) ≡ hi = omega arith in rw e at (cut-sum-most lo (hi - lo) d)
      | inr h ↦ omega (arith, cut-sum-none lo hi ss (omega arith))
    ]

-- ── cover ──

-- one of them has the cell, or none has it
covered_or_out : (cell : ℕ) (ss : List Stretch) → Covered cell ss ⊎ All (λ (s : Stretch). HasCell s cell → ⊥) ss
covered_or_out cell [] = inr all_nil
covered_or_out cell (s ∷ ss) =
    elim (has_or_not s cell) [
      | inl h ↦ inl (record { by = s; listed = here refl; has = h })
      | inr h ↦ elim (covered_or_out cell ss) [
        | inl c ↦ inl (record { by = c.by; listed = there c.listed; has = c.has })
        | inr out ↦ inr (all_cons h out)
      ]
    ]

covers : (lo hi : ℕ) (ss : List Stretch) → Pairs Disjoint ss → hi - lo ≤ cut_sum lo hi ss → (cell : ℕ) → lo ≤ cell → cell < hi → Covered cell ss
covers lo hi ss d full cell p q =
    elim (covered_or_out cell ss) [
      | inl c ↦ c
      | inr out ↦
          let low : cut_sum lo hi ss ≡ cut_sum lo cell ss + cut_sum cell hi ss = cut-sum_split lo cell hi ss p (omega arith) in
          let high : cut_sum cell hi ss ≡ cut_sum cell (suc cell) ss + cut_sum (suc cell) hi ss = cut-sum_split cell (suc cell) hi ss (omega arith) (omega arith) in
          absurd (omega (arith, cut-sum-fits lo cell d, cut-sum_out cell out, cut-sum-fits (suc cell) hi d))
    ]

pub covering_lemma : CoveringLemma
covering_lemma = record { covers = covers; fits = λ lo hi ss d. cut-sum-fits lo hi d }
