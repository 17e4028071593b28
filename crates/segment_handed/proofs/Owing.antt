-- One block: a step for each return of `is_paid`. Assumes nothing.
use mathlib.Core.Path.{◌≡◌, refl, subst}
use mathlib.Core.Logic.{inl, inr}
use mathlib.Core.Bool.{Bool, true, false, not}
use mathlib.Core.List.{List}
use Prim.Native.Nat.{ℕ, ◌-◌, ◌≤◌, ◌<◌}
use native.Mathlib.Omega.{arith}
use borrow.Author.Tests.{not-false}
use Rattle.lists.specs.Lists.{All, Mem}
use Rattle.lists.proofs.Lists.{all_mem, all_of_mem}
use Rattle.history.specs.Tree.{Tree}
use Rattle.history.specs.Find.{path}
use Rattle.apart_laws.specs.Ticks.{Disjoint}
use Rattle.apart_laws.specs.Slots.{stretch_at}
use Rattle.apart_laws.specs.Parted.{PartedIn}
use Rattle.slots.specs.declared.Slots.{Slots}
use Rattle.slots.specs.Steps.{Holds}
use Rattle.segment_walk.specs.declared.walk.Node.{Node}
use Rattle.segment_clear.specs.declared.Own.{Own}
use Rattle.segment_clear.specs.Clear.{Owns, Clears, WayClear}
use Rattle.segment_clear.specs.Above.{Aside, before, behind, Above, AboveClear}
use Rattle.segment_handed.specs.Rows.{row_blocks, Known}
use Rattle.segment_handed.specs.Tree.{Standing, Place, Owed}
use Rattle.segment_handed.proofs.Rows.{row_reads, own_reads}

-- what is clear of a list of known blocks in the tables is parted from it in the laws
pub clears_parted : (blocks : List ℕ) (n kind k : ℕ) (list : List ℕ) → Known blocks n kind k → ((j : ℕ) → Mem j list → Known blocks n kind j) → Clears blocks list k true
    → PartedIn (row_blocks blocks n kind) list k
clears_parted blocks n kind k list low known c =
    all_of_mem list
    (λ j m other starts.
    let own = row_reads blocks n kind k low in
    let one = row_reads blocks n kind j (known j m) in
    let p = all_mem (c.clear refl) m other (omega (arith, own.spans.to, one.spans.from)) in
    let by = row_reads blocks n kind p.by (known p.by p.listed) in
    record {
      by = p.by;
      listed = p.listed;
      from = omega (arith, p.from, one.spans.from, by.spans.from);
      to = omega (arith, p.ends, own.spans.from, by.spans.to);
    })

-- what is clear of the way to a tick of a tree is parted from it
way_parted : {blocks nodes entries : List ℕ} {n kind k tick : ℕ} {at : Node} {tree : Tree} {own : Own} → Standing blocks nodes entries n kind at tree → at.min ≤ tick
    → tick < at.max → Known blocks n kind k → Owns blocks k own → WayClear blocks nodes entries at tick own true → PartedIn (row_blocks blocks n kind) (path tick at.min at.max tree) k
way_parted {blocks} {n = n} {kind} {k} {tick} {at} {tree} s from below low is way =
    clears_parted blocks n kind k (path tick at.min at.max tree) low (λ j m. s.known tick j from below m) (way.of_way k kind tree is (s.fits.each k low.low) s.stands)

-- blocks that stand aside of one another share no cell
pub aside_disjoint : (blocks : List ℕ) (n kind k j : ℕ) → Known blocks n kind k → Known blocks n kind j → Aside blocks k j → Disjoint (stretch_at (row_blocks blocks n kind) k) (stretch_at (row_blocks blocks n kind) j)
aside_disjoint blocks n kind k j low known (before h) cell p q =
    let own = row_reads blocks n kind k low in
    let one = row_reads blocks n kind j known in
    omega (arith, p.from, q.below, own.spans.from, one.spans.to)
aside_disjoint blocks n kind k j low known (behind h) cell p q =
    let own = row_reads blocks n kind k low in
    let one = row_reads blocks n kind j known in
    omega (arith, q.from, p.below, own.spans.to, one.spans.from)

-- what is clear of the nodes above
above_disjoint : {blocks nodes entries : List ℕ} {n kind k : ℕ} {root top at : Node} {whole : Tree} {above : List ℕ} {own : Own} {min max : ℕ} {q : Bool}
    → AboveClear blocks nodes entries top min (max - 1) own q → not q ≡ false → at.min ≡ min → at.max ≡ max → Place blocks nodes entries n kind root top at whole above
    → Known blocks n kind k → Owns blocks k own → All (λ j. (j ≡ k → ⊥) → Disjoint (stretch_at (row_blocks blocks n kind) k) (stretch_at (row_blocks blocks n kind) j)) above
above_disjoint {blocks} {nodes} {entries} {n = n} {kind = kind} {k = k} {top = top} {at = at} {above = above} {max = max} {q = q} clear y el eh w low is =
    let here : Above blocks nodes entries (max - 1) at top above = subst (λ (t : ℕ). Above blocks nodes entries (t - 1) at top above) eh w.nodes_above in
    let aside = clear.of_above (not-false q y) k at above is (w.all.fits.each k low.low) el here in
    all_of_mem above (λ j m ne. aside_disjoint blocks n kind k j low (w.known j m) (all_mem aside m ne))

module _ {blocks nodes entries : List ℕ} {root top : Node} {min max : ℕ} {own : Own} {after : Slots} where
  -- clear of the nodes above
  module _ {q : Bool} (clear : AboveClear blocks nodes entries top min (max - 1) own q) (y : not q ≡ false) where
    pub owed_end : root.max ≤ max → Owed blocks nodes entries root top min max own after true
    owed_end h = record {
      shown = λ e n kind k at whole above el eh w wide low is dies. record { clear = above_disjoint clear y el eh w low is; owes = λ below. absurd (omega arith) };
    }

    pub owed_slots : {r : Bool} → Holds after own.first own.end r → r ≡ true → Owed blocks nodes entries root top min max own after true
    owed_slots holds z = record {
      shown = λ e n kind k at whole above el eh w wide low is dies. record {
        clear = above_disjoint clear y el eh w low is;
        owes = λ below. inl (holds.refilled z (stretch_at (row_blocks blocks n kind) k) (own_reads blocks n kind k low w.all.fits refl refl is).spans);
      };
    }

    pub owed_way : {r : Bool} → max < root.max → WayClear blocks nodes entries root (max - 1) own r → Owed blocks nodes entries root top min max own after r
    owed_way {r} under way = record {
      shown = λ e n kind k at whole above el eh w wide low is dies. record {
        clear = above_disjoint clear y el eh w low is;
        owes = λ below. inr (way_parted w.all (omega (arith, w.inside)) (omega arith) low is (rw e at way));
      };
    }

pub ruleset owing = (owed_end, owed_slots, owed_way)
