-- The way down by halves: what a half is to its node and to the tree of its node. Assumes nothing.
use mathlib.Core.Path.{◌≡◌, refl}
use mathlib.Core.Logic.{⊎_elim}
use mathlib.Core.Bool.{Bool, false}
use mathlib.Core.List.{List, ◌++◌}
use Prim.Native.Nat.{ℕ, suc, ◌+◌, ◌-◌, ◌*◌, ◌≤◌, ◌<◌}
use native.Mathlib.Omega.{arith}
use borrow.Author.Tests.{lt-ltb, le-ltb}
use Rattle.lists.specs.Tests.{Decides}
use Rattle.lists.proofs.Numbers.{le_or_lt, lt_or_le}
use Rattle.history.specs.Tree.{Tree, hole, node, mid}
use Rattle.history.specs.Find.{path, visited}
use Rattle.history.specs.Rules.{sorted}
use Rattle.history.proofs.RulesLaws.{sorted_left, sorted_right}
use Rattle.segment_table.specs.Closed.{TreeAt, first_cell_in}
use Rattle.segment_walk.specs.declared.walk.Node.{Node}
use Rattle.segment_walk.specs.Walking.{Stands, Absent, no_row_lem, no_tick, no_node, left_half, right_half, half_at}

-- ── a node ──

-- a node that is there
pub record Present (n : Node) : Type 0 where
  pub row : n.link ≡ 0 → ⊥
  pub wide : n.min < n.max

pub present : {n : Node} {q : Bool} → Decides q (Absent n) → q ≡ false → Present n
present {n} {q} d e =
    record {
      row = λ z. d.not e (no_row_lem z);
      wide = ⊎_elim (λ (h : n.max ≤ n.min). absurd (d.not e (no_tick h))) (λ (h : n.min < n.max). h) (le_or_lt n.max n.min);
    }

-- no tree but a hole stands where there is no node
pub absent_hole : {blocks nodes entries : List ℕ} {kind : ℕ} {n : Node} {tree : Tree} → Absent n → Stands blocks nodes entries kind n tree → tree ≡ hole
unfolding TreeAt
absent_hole {tree = hole} a s = refl
absent_hole {tree = node xs l r} (no_row_lem z) s = absurd (omega (arith, s.stood.0.some))
absent_hole {tree = node xs l r} (no_tick h) s = absurd (omega (arith, s.wide s.stood.0.some))

-- ── the half by width and tick ──

module _ (nodes : List ℕ) (t : ℕ) (n : Node) where
  narrow : n.max ≤ n.min + 1 → half_at nodes t n ≡ no_node
  unfolding half_at
  narrow w = rw (le-ltb (n.min + 1) n.max w)

  goes_left : n.min + 1 < n.max → t < mid n.min n.max → half_at nodes t n ≡ left_half nodes n
  unfolding half_at
  goes_left w h = rw (lt-ltb (n.min + 1) n.max w, lt-ltb t (mid n.min n.max) h)

  goes_right : n.min + 1 < n.max → mid n.min n.max ≤ t → half_at nodes t n ≡ right_half nodes n
  unfolding half_at
  goes_right w h = rw (lt-ltb (n.min + 1) n.max w, le-ltb t (mid n.min n.max) h)

  -- ── the width falls ──

  pub half_falls : (h : Node) → Present n → h ≡ half_at nodes t n → h.max - h.min < n.max - n.min
  half_falls h there e =
      let w : n.min < n.max = there.wide in
      ⊎_elim (λ (s : n.max ≤ n.min + 1). rw (e, narrow s) (omega arith))
      (λ (s : n.min + 1 < n.max).
      ⊎_elim (λ (l : t < mid n.min n.max). rw (e, goes_left s l) (omega arith))
      (λ (r : mid n.min n.max ≤ t). rw (e, goes_right s r) (omega arith))
      (lt_or_le t (mid n.min n.max)))
      (le_or_lt n.max (n.min + 1))

  -- and is halved, rounded up
  pub half_halves : (h : Node) → h ≡ half_at nodes t n → 2 * (h.max - h.min) ≤ n.max - n.min + 1
  half_halves h e =
      ⊎_elim (λ (s : n.max ≤ n.min + 1). rw (e, narrow s) (omega arith))
      (λ (s : n.min + 1 < n.max).
      ⊎_elim (λ (l : t < mid n.min n.max). rw (e, goes_left s l) (omega arith))
      (λ (r : mid n.min n.max ≤ t). rw (e, goes_right s r) (omega arith))
      (lt_or_le t (mid n.min n.max)))
      (le_or_lt n.max (n.min + 1))

-- ── the half's tree ──

-- the tree that stands at the half h, and what the way down from the node n meets there
pub record Down (blocks nodes entries : List ℕ) (kind t : ℕ) (n h : Node) (xs : List ℕ) (tree : Tree) : Type 0 where
  pub below : Tree
  pub stands : Stands blocks nodes entries kind h below
  pub way : path t n.min n.max tree ≡ xs ++ path t h.min h.max below
  pub steps : visited t n.min n.max tree ≡ suc (visited t h.min h.max below)

module _ (blocks nodes entries : List ℕ) (kind t : ℕ) (n : Node) (xs : List ℕ) (l r : Tree) (s : Stands blocks nodes entries kind n (node xs l r)) where
  down_narrow : n.max ≤ n.min + 1 → Down blocks nodes entries kind t n no_node xs (node xs l r)
  unfolding path visited TreeAt sorted
  down_narrow w =
      record {
        below = hole;
        stands = record { stood = refl; ascend = refl; wide = λ h. absurd (omega arith) };
        way = rw (le-ltb (n.min + 1) n.max w);
        steps = rw (le-ltb (n.min + 1) n.max w);
      }

  down_left : n.min + 1 < n.max → t < mid n.min n.max → Down blocks nodes entries kind t n (left_half nodes n) xs (node xs l r)
  unfolding path visited TreeAt
  down_left w h =
      record {
        below = l;
        stands = record { stood = s.stood.1; ascend = sorted_left (first_cell_in blocks) xs l r s.ascend; wide = λ _. omega arith };
        way = rw (lt-ltb (n.min + 1) n.max w, lt-ltb t (mid n.min n.max) h);
        steps = rw (lt-ltb (n.min + 1) n.max w, lt-ltb t (mid n.min n.max) h);
      }

  down_right : n.min + 1 < n.max → mid n.min n.max ≤ t → Down blocks nodes entries kind t n (right_half nodes n) xs (node xs l r)
  unfolding path visited TreeAt
  down_right w h =
      record {
        below = r;
        stands = record { stood = s.stood.2; ascend = sorted_right (first_cell_in blocks) xs l r s.ascend; wide = λ _. omega arith };
        way = rw (lt-ltb (n.min + 1) n.max w, le-ltb t (mid n.min n.max) h);
        steps = rw (lt-ltb (n.min + 1) n.max w, le-ltb t (mid n.min n.max) h);
      }

  pub down : (h : Node) → h ≡ half_at nodes t n → Down blocks nodes entries kind t n h xs (node xs l r)
  down h e =
      ⊎_elim (λ (w : n.max ≤ n.min + 1). rw (e, narrow nodes t n w) (down_narrow w))
      (λ (w : n.min + 1 < n.max).
      ⊎_elim (λ (k : t < mid n.min n.max). rw (e, goes_left nodes t n w k) (down_left w k))
      (λ (k : mid n.min n.max ≤ t). rw (e, goes_right nodes t n w k) (down_right w k))
      (lt_or_le t (mid n.min n.max)))
      (le_or_lt n.max (n.min + 1))
