-- One step for each function. Assumes nothing.
use mathlib.Core.Path.{◌≡◌}
use mathlib.Core.Logic.{inl, inr}
use mathlib.Core.Bool.{Bool, true}
use mathlib.Core.List.{List}
use Prim.Native.Nat.{ℕ, ◌<◌}
use native.Mathlib.Omega.{arith}
use lib.ListN.{length, get_or, set}
use Rattle.std.proofs.lemmas.List.{get_or-set_same, get_or-set_other}
use Rattle.std.proofs.Math.ListN.{length-set}
use Rattle.std.specs.List.{Any}
use Rattle.lists.specs.Lists.{Mem}
use Rattle.lists.proofs.Numbers.{eq_or_ne}
use Rattle.lists.proofs.Lists.{all_of_mem, all_of_at, all_of_map, mem_at, mem_map}
use Rattle.history.specs.Words.{Stretch, Block}
use Rattle.apart_laws.specs.Slots.{stretch_at, Born, TakesIn, ComesFrom, listed, kept, taken}
use Rattle.apart_laws.proofs.Slots.{cut-whole}
use Rattle.slots.specs.declared.Slot.{Slot}
use Rattle.slots.specs.declared.Slots.{Slots}
use Rattle.slots.specs.Steps.{slot_of, slots_of, Spans, TookIn, Takes, Restores, Holds, Counts}

-- ── take ──

took_takes : {s s' : Slot} {first end : ℕ} {r : Stretch} → Spans r first end → TookIn s first end s' → TakesIn r (slot_of s) (slot_of s')
took_takes {s} {s'} {first} {end} {r} span took = record {
  lower = took.lower;
  upper = took.upper;
  adds = rw (cut-whole s'.lo s'.hi r (omega (arith, span.from, took.from)) (omega (arith, span.to, took.to)))
      (omega (arith, took.adds, span.from, span.to));
}

-- one of the slots took the block in, the others are as they were
pub take_at : {ss : Slots} {first end i : ℕ} {s' : Slot} (d : Slot) → TookIn (get_or ss.each i d) first end s' → i < length ss.each
    → Takes ss first end (record { each = set ss.each i s' })
take_at {ss} {first} {end} {i} {s'} d took low = record {
  slots = λ bs t k span born. all_of_map slot_of (all_of_at d (set ss.each i s') (λ j h. one bs t k span born j (omega (arith, length-set ss.each i s'))));
}
  where
    among : (j : ℕ) → j < length ss.each → Mem (slot_of (get_or ss.each j d)) (slots_of ss)
    among j h = mem_map slot_of (mem_at d ss.each j h)

    one : (bs : List Block) (t k : ℕ) → Spans (stretch_at bs k) first end → Born bs t k → (j : ℕ) → j < length ss.each
        → ComesFrom bs t k (slots_of ss) (slot_of (get_or (set ss.each i s') j d))
    one bs t k span born j h =
        elim (eq_or_ne j i) [
          | inl same ↦ rw (same, get_or-set_same ss.each i s' d low) (taken (listed (among i low)) born (took_takes span took))
          | inr other ↦ rw (get_or-set_other ss.each i j s' d other) (kept (listed (among j h)))
        ]

-- ── hold ──

pub held : {ss : Slots} {first end : ℕ} {q : Bool} → (q ≡ true → Any (λ s. Restores s first end) ss.each) → Holds ss first end q
held {ss} shows = record {
  refilled = λ e r span.
      let z = shows e in
      let s : Slot = z.1 in
      let shown = z.4 in
      record {
        slot = slot_of s;
        among = rw z.3 at (mem_map slot_of (mem_at s ss.each z.0 z.2));
        full = record { is = shown.full };
        from = omega (arith, shown.from, span.from);
        to = omega (arith, shown.to, span.to);
      };
}

-- ── count ──

pub count_other : {ss : Slots} {min created first end : ℕ} → (created ≡ min → ⊥) → Counts ss min created first end ss
count_other {ss} ne = record { slots = λ bs k d reads alive. all_of_mem (slots_of ss) (λ s m. kept (listed m)) }
