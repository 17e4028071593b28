-- The widths of a block's nodes: in the tree of a kind they add up to its life. Assumes nothing.
use mathlib.Core.Path.{◌≡◌, refl, sym, ◌∙◌, ap}
use mathlib.Core.Logic.{◌⊎◌, inl, inr}
use mathlib.Core.Bool.{Bool, true, false, cond}
use mathlib.Core.List.{List}
use Prim.Native.Nat.{ℕ, ◌+◌, ◌-◌, ◌*◌, ◌^◌, ◌≤◌, ◌<◌, min, max}
use native.Mathlib.Nat.{add-mul}
use native.Mathlib.Omega.{arith}
use lib.ListN.{length}
use lib.Dec.{eqb}
use borrow.Author.Tests.{lt-ltb, le-ltb}
use Rattle.lists.specs.Lists.{count}
use Rattle.lists.proofs.Numbers.{le_or_lt, lt_or_le, cond_same}
use Rattle.history.specs.Words.{Block, life, only_kind}
use Rattle.history.specs.Tree.{Tree, hole, node, mid, covers, entries_of, left_of, right_of, add_location, no_block, block_at, key_in, tree_of, widths}
use Rattle.history.proofs.TreePath.{block_none}
use Rattle.history.proofs.TreeAdding.{Half, went, kept, made, listed, add_by, add_block, tree_sum}
use Rattle.history.proofs.ByKind.{only_at, only_length, own_same, own-lives}
use Rattle.history.proofs.TreeInserting.{count-insert}

-- ── the part of a life in an interval ──

-- how many ticks of [c, d) are in [lo, hi)
abbrev pub overlap : (c d lo hi : ℕ) → ℕ
overlap c d lo hi = min d hi - max c lo

-- an interval's part is that of its halves
pub overlap_split : (c d lo m hi : ℕ) → lo ≤ m → m ≤ hi → overlap c d lo hi ≡ overlap c d lo m + overlap c d m hi
overlap_split c d lo m hi a b =
    elim (le_or_lt d m) [
      | inl x ↦
          let p : min d hi ≡ d = omega arith in
          let q : min d m ≡ d = omega arith in
          rw (p, q) (omega arith)
      | inr x ↦
          let p : min d m ≡ m = omega arith in
          rw p
          (elim (le_or_lt c m) [
            | inl y ↦ (let q : max c m ≡ m = omega arith in rw q (between (max c lo) (min d hi) m (omega arith) (omega arith)))
            | inr y ↦ (let q : max c m ≡ c = omega arith in let r : max c lo ≡ c = omega arith in rw (q, r) (omega arith))
          ])
    ]
  where
    between : (x y z : ℕ) → x ≤ z → z ≤ y → y - x ≡ (z - x) + (y - z)
    between x y z h g = omega arith

-- ── one node ──

pub widths_node : (k lo hi : ℕ) (es : List ℕ) (l r : Tree) → widths k lo hi (node es l r) ≡ count k es * (hi - lo) + (widths k lo (mid lo hi) l + widths k (mid lo hi) hi r)
unfolding widths
widths_node k lo hi es l r = refl

-- of a hole too
pub widths_any : (k lo hi : ℕ) (T : Tree) → widths k lo hi T ≡ count k (entries_of T) * (hi - lo) + (widths k lo (mid lo hi) (left_of T) + widths k (mid lo hi) hi (right_of T))
unfolding widths count
widths_any k lo hi hole = omega arith
widths_any k lo hi (node es l r) = refl

-- ── adding a block ──

module _ (key : ℕ → ℕ) (k b c d : ℕ) where
  -- block b adds the part of its life
  Widens : (lo hi : ℕ) (before after : Tree) → Type 0
  Widens lo hi T U = widths k lo hi U ≡ widths k lo hi T + cond (eqb k b) (overlap c d lo hi) 0

  widens_here : (lo hi : ℕ) (T : Tree) → lo ≤ hi → c ≤ lo → hi ≤ d → covers c d lo hi ≡ true → Widens lo hi T (listed key b T)
  unfolding Widens
  widens_here lo hi T w p q e =
      let whole : overlap c d lo hi ≡ hi - lo = omega arith in
      rw (widths_node, widths_any k lo hi T, count-insert, whole, grow (eqb k b)) (omega arith)
    where
      grow : (u : Bool) (n w : ℕ) → (cond u 1 0 + n) * w ≡ cond u w 0 + n * w
      grow true n w = omega (arith, add-mul 1 n w)
      grow false n w = omega (arith, add-mul 0 n w)

  widens_stop : (lo hi : ℕ) (T : Tree) → lo ≤ hi → hi ≤ lo + 1 → (lo < c) ⊎ (d < hi) → Widens lo hi T (made T)
  unfolding Widens
  widens_stop lo hi T w n o = rw (widths_node, widths_any k lo hi T, none o, cond_same) (omega arith)
    where
      none : (lo < c) ⊎ (d < hi) → overlap c d lo hi ≡ 0
      none (inl p) = omega arith
      none (inr p) = omega arith

  widens_down : (lo hi : ℕ) (T L R : Tree) → lo + 1 < hi → covers c d lo hi ≡ false → Half (c < mid lo hi) (mid lo hi ≤ c) (Widens lo (mid lo hi)) (left_of T) L
      → Half (mid lo hi < d) (d ≤ mid lo hi) (Widens (mid lo hi) hi) (right_of T) R → Widens lo hi T (node (entries_of T) L R)
  unfolding Widens
  widens_down lo hi T L R w e left right =
      rw (
        widths_node,
        widths_any k lo hi T,
        in_left left,
        in_right right,
        joint (eqb k b) (overlap c d lo hi) (overlap c d lo (mid lo hi)) (overlap c d (mid lo hi) hi) (overlap_split c d lo (mid lo hi) hi (omega arith) (omega arith)),
      )
      (omega arith)
    where
      in_left : {L : Tree} → Half (c < mid lo hi) (mid lo hi ≤ c) (Widens lo (mid lo hi)) (left_of T) L
          → widths k lo (mid lo hi) L ≡ widths k lo (mid lo hi) (left_of T) + cond (eqb k b) (overlap c d lo (mid lo hi)) 0
      in_left (went g p) = p
      in_left (kept g) = (let none : overlap c d lo (mid lo hi) ≡ 0 = omega arith in rw (none, cond_same) (omega arith))

      in_right : {R : Tree} → Half (mid lo hi < d) (d ≤ mid lo hi) (Widens (mid lo hi) hi) (right_of T) R
          → widths k (mid lo hi) hi R ≡ widths k (mid lo hi) hi (right_of T) + cond (eqb k b) (overlap c d (mid lo hi) hi) 0
      in_right (went g p) = p
      in_right (kept g) = (let none : overlap c d (mid lo hi) hi ≡ 0 = omega arith in rw (none, cond_same) (omega arith))

      joint : (u : Bool) (x y z : ℕ) → x ≡ y + z → cond u x 0 ≡ cond u y 0 + cond u z 0
      joint true x y z h = h
      joint false x y z h = refl

  pub widths_add : (n lo hi : ℕ) (T : Tree) → lo ≤ hi → hi - lo ≤ 2 ^ n
      → widths k lo hi (add_location key n b c d lo hi T) ≡ widths k lo hi T + cond (eqb k b) (overlap c d lo hi) 0
  unfolding Widens
  widths_add = add_by key b c d Widens widens_here widens_stop widens_down

-- ── the tree of a kind ──

-- The widths of a block's nodes add up to its life in the tree's kind.
pub widths-life : (kind e k : ℕ) (bs : List Block) → e ≤ 2 ^ 63 → (block_at (only_kind kind bs) k).destroyed ≤ e
    → widths k 0 e (tree_of kind e bs) ≡ life (block_at (only_kind kind bs) k)
unfolding widths
widths-life kind e k bs z h =
    tree_sum kind e bs (widths k 0 e) part k grows idle
    ∙ (elim (lt_or_le k (length bs)) [
      | inl l ↦ rw (lt-ltb k (length bs) l) (omega arith)
      | inr l ↦ rw (le-ltb k (length bs) l) (let none : block_at (only_kind kind bs) k ≡ no_block = block_none k (only_kind kind bs) (rw (only_length kind bs) l) in rw none)
    ])
  where
    part : ℕ → ℕ
    part j = overlap (block_at (only_kind kind bs) j).created (block_at (only_kind kind bs) j).destroyed 0 e

    grows : (n : ℕ) (T : Tree) → (block_at bs n).kind ≡ kind → widths k 0 e (add_block (block_at bs) (key_in bs) e n T) ≡ widths k 0 e T + cond (eqb k n) (part n) 0
    grows n T own =
        widths_add (key_in bs) k n (block_at bs n).created (block_at bs n).destroyed 63 0 e T (omega arith) (omega arith)
        ∙ ap (λ (b : Block). widths k 0 e T + cond (eqb k n) (overlap b.created b.destroyed 0 e) 0) (sym (only_at kind bs n ∙ own_same kind (block_at bs n) own))

    idle : (n : ℕ) → ((block_at bs n).kind ≡ kind → ⊥) → part n ≡ 0
    idle n other =
        elim (le_or_lt (block_at (only_kind kind bs) n).destroyed 0) [
          | inl none ↦ omega arith
          | inr some ↦ absurd (other (own-lives kind (block_at bs n) 0 (rw (only_at kind bs n) at some)))
        ]
