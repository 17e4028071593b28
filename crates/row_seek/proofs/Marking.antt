-- One step for each turn of the loops that make a guide. Assumes nothing.
use mathlib.Core.Path.{◌≡◌, refl, sym, ◌∙◌}
use mathlib.Core.Logic.{◌⊎◌, inl, inr}
use mathlib.Core.List.{List, ◌++◌}
use Prim.Native.Nat.{ℕ, ◌+◌, ◌%◌, ◌≤◌, ◌<◌, min}
use native.Mathlib.Omega.{arith}
use lib.ListN.{length, get_or, set, take, drop, length-set, length-drop, get_or-append}
use Rattle.std.proofs.lemmas.List.{length-take-le, length-append, get_or-take}
use Rattle.std.proofs.Math.Pow.{shr_mono}
use lib.Seq.{get_or-set_same, get_or-set_other}
use Rattle.lists.proofs.Numbers.{eq_or_ne}
use Rattle.block_table.specs.Blocks.{destroyed_at}
use Rattle.row_seek.specs.Slots.{slot_at, Marked, Filled, Guides}

-- the slots while rows are marked: as many, and those of the rows behind k are marked
pub record MarkedTo (slots₀ slots blocks : List ℕ) (shift k n : ℕ) : Type 0 where
  pub long : length slots ≡ length slots₀
  pub marked : Marked slots blocks shift k n

pub marked_start : {slots blocks : List ℕ} {shift n : ℕ} → MarkedTo slots slots blocks shift n n
marked_start = record { long = refl; marked = record { each = λ i a h l. absurd (omega arith) } }

module _ {slots₀ slots blocks : List ℕ} {shift k n slot : ℕ} (m : MarkedTo slots₀ slots blocks shift (k + 1) n) (is : slot ≡ slot_at (destroyed_at blocks (k + 1)) shift) where
  pub marked_past : length slots ≤ slot → MarkedTo slots₀ slots blocks shift k n
  marked_past h = record {
    long = m.long;
    marked = record {
      each = λ i a b l. elim (eq_or_ne i k) [
        | inl q ↦ absurd (omega (arith, rw (q, ← is) at l))
        | inr q ↦ m.marked.each i (omega arith) b l
      ];
    };
  }

  pub marked_more : {slots' : List ℕ} {v : ℕ} → slot < length slots → v ≤ k → slots' ≡ set slots slot v → MarkedTo slots₀ slots' blocks shift k n
  marked_more {slots'} {v} h small e = record {
    long = same ∙ m.long;
    marked = record { each = λ i a b l. go i a b (omega (arith, l, same)) (eq_or_ne (slot_at (destroyed_at blocks (i + 1)) shift) slot) };
  }
    where
      same : length slots' ≡ length slots
      same = rw e (length-set slots slot v)

      go : (i : ℕ) → k ≤ i → i < n → slot_at (destroyed_at blocks (i + 1)) shift < length slots
          → (slot_at (destroyed_at blocks (i + 1)) shift ≡ slot) ⊎ (slot_at (destroyed_at blocks (i + 1)) shift ≡ slot → ⊥)
          → get_or slots' (slot_at (destroyed_at blocks (i + 1)) shift) 0 ≤ i
      go i a b l (inl q) = rw (q, e) (omega (arith, get_or-set_same slots slot v 0 h))
      go i a b l (inr q) =
          rw (e, get_or-set_other slots slot (slot_at (destroyed_at blocks (i + 1)) shift) v 0 q)
          (elim (eq_or_ne i k) [ inl r ↦ absurd (q (rw r (sym is))) | inr r ↦ m.marked.each i (omega arith) b l ])

pub ruleset marking = (marked_start, marked_past, marked_more)

-- the slots while they are filled, from the last one on: `next` is what stands in the one filled last
pub record FilledTo (slots₀ slots : List ℕ) (next from : ℕ) : Type 0 where
  pub filled : Filled slots₀ slots from
  pub next_least : (j : ℕ) → from ≤ j → j < length slots₀ → next ≤ get_or slots₀ j 0
  pub rest : (i : ℕ) → i < from → get_or slots i 0 ≡ get_or slots₀ i 0

pub filled_start : {slots : List ℕ} {next from : ℕ} → length slots ≤ from → FilledTo slots slots next from
filled_start h = record {
  filled = record { long = refl; least = λ i j a b l. absurd (omega arith) };
  next_least = λ j a l. absurd (omega arith);
  rest = λ i l. refl;
}

pub filled_more : {slots₀ slots slots' : List ℕ} {next i v : ℕ} → FilledTo slots₀ slots next (i + 1) → i < length slots → v ≡ min next (get_or slots i 0) → slots' ≡ set slots i v
    → FilledTo slots₀ slots' v i
filled_more {slots₀} {slots} {slots'} {next} {i} {v} f h least e = record {
  filled = record { long = (rw e (length-set slots i v)) ∙ f.filled.long; least = λ k j a b l. go k j a b l (eq_or_ne k i) };
  next_least = low;
  rest = λ k l. rw (e, get_or-set_other slots i k v 0 (λ q. omega arith)) (f.rest k (omega arith));
}
  where
    low : (j : ℕ) → i ≤ j → j < length slots₀ → v ≤ get_or slots₀ j 0
    low j a l = elim (eq_or_ne j i) [
      | inl q ↦ rw q (omega (arith, f.rest i (omega arith)))
      | inr q ↦ (let z = f.next_least j (omega arith) l in omega arith)
    ]

    go : (k j : ℕ) → i ≤ k → k ≤ j → j < length slots₀ → (k ≡ i) ⊎ (k ≡ i → ⊥) → get_or slots' k 0 ≤ get_or slots₀ j 0
    go k j a b l (inl q) = rw (q, e) (omega (arith, get_or-set_same slots i v 0 h, low j (omega arith) l))
    go k j a b l (inr q) = rw (e, get_or-set_other slots i k v 0 q) (f.filled.least k j (omega arith) b l)

pub ruleset filling = (filled_start, filled_more)

-- ── the guide ──

-- marked slots of which those up to that of the last tick are filled
pub guided : {slots filled blocks : List ℕ} {shift n last slot over used : ℕ} → Marked slots blocks shift 0 n → Filled (take used slots) filled 0 → last ≡ destroyed_at blocks n
    → slot ≡ slot_at last shift → over ≡ min (slot + 1) 0xffff_ffff_ffff_ffff → used ≡ min over 4096 → length slots ≡ 4096 → Guides (filled ++ drop used slots) blocks shift n
guided {slots} {filled} {blocks} {shift} {n} {last} {slot} {over} {used} m f el es eo eu long = record {
  before = λ i at h d l o.
      let s : ℕ = slot_at (destroyed_at blocks (i + 1)) shift in
      let many : length (take used slots) ≡ used = length-take-le used slots (omega arith) in
      let all : length (filled ++ drop used slots) ≡ length slots = length-append filled (drop used slots) ∙ omega (arith, f.long, many, length-drop used slots) in
      let below : s ≤ slot_at last shift = shr_mono (shift % 64) (rw el d) in
      let inside : s < used = omega (arith, l, all) in
      let least : get_or filled at 0 ≤ get_or (take used slots) s 0 = f.least at s (omega arith) o (omega arith) in
      let same : get_or (take used slots) s 0 ≡ get_or slots s 0 = get_or-take used slots s 0 inside in
      let first : get_or (filled ++ drop used slots) at 0 ≡ get_or filled at 0 = get_or-append filled (drop used slots) 0 at (omega (arith, f.long, many)) in
      omega (arith, m.each i (omega arith) h (omega (arith, l, all)));
}
