-- Steps of `build::add_blocks` and `build::add_pieces`: what the rest of the rows gives from here on, all give from the start. Assumes nothing.
use mathlib.Core.Path.{◌≡◌, refl, sym, ◌∙◌}
use mathlib.Core.Logic.{◌⊎◌, inl, inr}
use mathlib.Core.Bool.{Bool, true, false, true≢false, false≢true}
use mathlib.Core.List.{List, [], ◌∷◌, map}
use Prim.Native.Nat.{ℕ, suc, ◌+◌, ◌-◌, ◌^◌, ◌≤◌, ◌<◌}
use native.Mathlib.Omega.{arith}
use lib.ListN.{length, set, length-set}
use Rattle.lists.specs.Lists.{All, all_nil, all_cons, count_from}
use Rattle.lists.proofs.Numbers.{eq_or_ne}
use Rattle.history.specs.Tree.{Tree, tree_at, node_count, entry_count, nodes_in}
use Rattle.history.proofs.TreeCounts.{node_count_add}
use Rattle.tables.specs.Columns.{column, nodes_count}
use Rattle.tables.specs.Sums.{most}
use Rattle.segment_table.specs.Closed.{nodes_used}
use Rattle.segment_tree.specs.Count.{rows_in, fullest, kind_at, other_kind, Standing, Grown, Added}
use Rattle.segment_tree.specs.Lives.{Owned, add_life, add_own, add_lives, root_spot, Known, AllStanding, AllGrown, AllOutcome, AddedRows}
use Rattle.segment_tree.proofs.NodeRows.{tree_stays}
use Rattle.segment_tree.proofs.Growing.{standing_grown}
use Rattle.segment_tree.proofs.Adding.{fullest_grows}
use Rattle.segment_tree.proofs.ByKind.{tree_same, tree_other, sum-set}

-- ── one tree grows ──

module _ (t t₁ : List ℕ) (e kind : ℕ) (trees : List Tree) (T : Tree) (s : AllStanding t e trees) (low : kind < nodes_count)
    (g : Grown t t₁ (root_spot kind e) (tree_at trees kind) T) where
  -- the tree of another kind stands still: its rows are of that kind
  other_stands : (k : ℕ) → k < nodes_count → (k ≡ kind → ⊥) → Standing t₁ (root_spot k e) (tree_at trees k)
  other_stands k h n =
      let root : column t₁ 0 k ≡ column t 0 k = g.kept.head k (omega arith) (omega arith) (λ _ q. n q) in
      record {
        here = rw root
            (tree_stays t t₁ k g.more (λ i. kind_at t i ≡ k) (λ i j a b c own. g.kept.rows i j a b c (other_kind (λ q. n (sym own ∙ q))) (λ q _. omega arith))
            (column t 0 k) 0 e (tree_at trees k) (λ i own a b c. own) (s.each k h).here);
        wide = (s.each k h).wide;
        parent_used = omega arith;
        at_root = λ _. h;
        at_half = λ q. absurd (omega arith);
        outer = λ q. absurd (omega arith);
        clean = g.clean;
        inside = g.inside;
      }

  all_grown : AllGrown t t₁ e trees (set trees kind T)
  all_grown = record {
    long = g.long;
    here = record { five = length-set trees kind T ∙ s.five; each = λ k h. stands k h (eq_or_ne k kind) };
    rows = omega (arith, g.rows, sum-set node_count trees kind T (omega (arith, s.five)));
    entries = omega (arith, g.entries, sum-set entry_count trees kind T (omega (arith, s.five)));
    free = g.free;
    head_free = λ j a h. g.kept.head j h (omega arith) (λ _ q. omega arith);
  }
    where
      stands : (k : ℕ) → k < nodes_count → (k ≡ kind) ⊎ (k ≡ kind → ⊥) → Standing t₁ (root_spot k e) (tree_at (set trees kind T) k)
      stands k h (inl q) =
          rw (tree_same trees kind k T (sym q) (omega (arith, s.five)), q) (standing_grown t (root_spot kind e) (tree_at trees kind) (s.each kind low) t₁ T g)
      stands k h (inr n) = rw (tree_other trees kind k T n) (other_stands k h n)

-- ── one after another ──

grown-after : (t t₁ t₂ : List ℕ) (e : ℕ) (xs ys zs : List Tree) → AllGrown t t₁ e xs ys → AllGrown t₁ t₂ e ys zs → AllGrown t t₂ e xs zs
grown-after t t₁ t₂ e xs ys zs g h = record {
  long = h.long ∙ g.long;
  here = h.here;
  rows = omega (arith, g.rows, h.rows);
  entries = omega (arith, g.entries, h.entries);
  free = λ k j a b. h.free k j a b ∙ g.free k j a b;
  head_free = λ j a b. h.head_free j a b ∙ g.head_free j a b;
}

pub outcome_onward : (t t₁ t₂ : List ℕ) (e : ℕ) (xs ys zs : List Tree) (r : Bool) → AllGrown t t₁ e xs ys → AllOutcome t₁ t₂ e r ys zs → AllOutcome t t₂ e r xs zs
outcome_onward t t₁ t₂ e xs ys zs r g o = record {
  added = λ y. grown-after t t₁ t₂ e xs ys zs g (o.added y);
  spent = λ n. omega (arith, o.spent n, g.rows, g.long);
}

-- adding takes no node away
own_nodes : (e : ℕ) (o : Owned) (trees : List Tree) → o.kind < length trees → nodes_in trees ≤ nodes_in (add_own e o trees)
own_nodes e o trees h =
    let T : Tree = tree_at trees o.kind in
    omega (arith, sum-set node_count trees o.kind (add_life e o.life T) h, node_count_add (λ _. 0) 63 0 o.life.created o.life.destroyed 0 e T)

pub nodes_lives : (e : ℕ) {os : List Owned} (trees : List Tree) → All Known os → length trees ≡ nodes_count → nodes_in trees ≤ nodes_in (add_lives e os trees)
unfolding add_lives
nodes_lives e trees all_nil five = omega arith
nodes_lives e trees (all_cons {x = o} k ks) five =
    omega (arith, own_nodes e o trees (omega (arith, k)), nodes_lives e (add_own e o trees) ks (length-set trees o.kind (add_life e o.life (tree_at trees o.kind)) ∙ five))

-- ── one row ──

-- no node of the trees gets more than one entry more
full_own : (e : ℕ) (o : Owned) (trees : List Tree) (n : ℕ) → e ≤ 2 ^ 63 → o.kind < length trees → ((kind : ℕ) → fullest (tree_at trees kind) + suc n < most)
    → (kind : ℕ) → fullest (tree_at (add_own e o trees) kind) + n < most
full_own e o trees n w low few kind = go (eq_or_ne kind o.kind)
  where
    X : Tree
    X = add_life e o.life (tree_at trees o.kind)

    go : (kind ≡ o.kind) ⊎ (kind ≡ o.kind → ⊥) → fullest (tree_at (add_own e o trees) kind) + n < most
    go (inl q) =
        rw (tree_same trees o.kind kind X (sym q) (omega arith))
        (omega (arith, few o.kind, fullest_grows (λ _. 0) 0 o.life.created o.life.destroyed 63 0 e (tree_at trees o.kind) (omega arith) (omega arith)))
    go (inr m) = rw (tree_other trees o.kind kind X m) (omega (arith, few kind))

module _ {t : List ℕ} {e : ℕ} where
  pub rows_none : AddedRows t t e [] true
  unfolding add_lives
  rows_none = record {
    done = λ trees w known few stands. record {
      added = λ _. record { long = refl; here = stands; rows = refl; entries = refl; free = λ k j a h. refl; head_free = λ j a h. refl };
      spent = λ q. absurd (true≢false q);
    };
  }

  module _ {t₁ : List ℕ} {o : Owned} {os : List Owned} {q : Bool} (a : Added t t₁ (root_spot o.kind e) o.life q) where
    pub rows_more : {t₂ : List ℕ} {r : Bool} → q ≡ true → AddedRows t₁ t₂ e os r → AddedRows t t₂ e (o ∷ os) r
    unfolding add_lives
    rows_more {t₂} {r} y b = record { done = λ trees w known few stands. go trees w known few stands }
      where
        go : (trees : List Tree) → e ≤ 2 ^ 63 → All Known (o ∷ os) → ((kind : ℕ) → fullest (tree_at trees kind) + length (o ∷ os) < most) → AllStanding t e trees
            → AllOutcome t t₂ e r trees (add_lives e os (add_own e o trees))
        go trees w (all_cons k ks) few stands =
            let s : Standing t (root_spot o.kind e) (tree_at trees o.kind) = stands.each o.kind k in
            let g : AllGrown t t₁ e trees (add_own e o trees) =
            all_grown t t₁ e o.kind trees (add_life e o.life (tree_at trees o.kind)) stands k
            ((a.done (λ _. 0) 63 0 (tree_at trees o.kind) (omega arith) (omega (arith, few o.kind)) s).added y) in
            outcome_onward t t₁ t₂ e trees (add_own e o trees) (add_lives e os (add_own e o trees)) r g
            (b.done (add_own e o trees) w ks (full_own e o trees (length os) w (omega (arith, k, stands.five)) few) g.here)

    pub rows_spent : q ≡ false → AddedRows t t₁ e (o ∷ os) false
    unfolding add_lives
    rows_spent n = record { done = λ trees w known few stands. record { added = λ y. absurd (false≢true y); spent = λ _. go trees w known few stands } }
      where
        go : (trees : List Tree) → e ≤ 2 ^ 63 → All Known (o ∷ os) → ((kind : ℕ) → fullest (tree_at trees kind) + length (o ∷ os) < most) → AllStanding t e trees
            → rows_in t + nodes_in trees < nodes_used t + nodes_in (add_lives e os (add_own e o trees))
        go trees w (all_cons k ks) few stands =
            let T : Tree = tree_at trees o.kind in
            omega (
              arith,
              (a.done (λ _. 0) 63 0 T (omega arith) (omega (arith, few o.kind)) (stands.each o.kind k)).spent n,
              sum-set node_count trees o.kind (add_life e o.life T) (omega (arith, k, stands.five)),
              nodes_lives e (add_own e o trees) ks (length-set trees o.kind (add_life e o.life T) ∙ stands.five),
            )

-- ── the loop ──

-- j of n rows are done: what the rest gives from here, all give from the start
pub record Onward (start t : List ℕ) (e : ℕ) (life : ℕ → Owned) (n j : ℕ) : Type 0 where
  pub rest : (t' : List ℕ) (room : Bool) → AddedRows t t' e (map life (count_from (j + 1) (n - j))) room → AddedRows start t' e (map life (count_from 1 n)) room

module _ {start : List ℕ} {e : ℕ} {life : ℕ → Owned} {n : ℕ} where
  module _ {t : List ℕ} {j : ℕ} (o : Onward start t e life n j) where
    -- the row that is next
    next_row : j < n → count_from (j + 1) (n - j) ≡ (j + 1) ∷ count_from (j + 1 + 1) (n - (j + 1))
    unfolding count_from
    next_row h =
        let p : n - j ≡ suc (n - (j + 1)) = omega arith in
        let q : j + 1 + 1 ≡ suc (j + 1) = omega arith in
        rw (p, q)

    module _ {t₁ : List ℕ} {q : Bool} {l : Owned} (h : j < n) (is : l ≡ life (j + 1)) (a : Added t t₁ (root_spot l.kind e) l.life q) where
      this : Added t t₁ (root_spot (life (j + 1)).kind e) (life (j + 1)).life q
      this = rw is at a

      pub onward_more : q ≡ true → Onward start t₁ e life n (j + 1)
      onward_more y = record { rest = λ t' room b. o.rest t' room (rw (next_row h) (rows_more this y b)) }

      pub onward_spent : q ≡ false → AddedRows start t₁ e (map life (count_from 1 n)) false
      onward_spent y = o.rest t₁ false (rw (next_row h) (rows_spent this y))

    pub onward_end : n ≤ j → AddedRows start t e (map life (count_from 1 n)) true
    unfolding count_from
    onward_end h = let z : n - j ≡ 0 = omega arith in o.rest t true (rw z rows_none)

pub ruleset onward = (onward_more, onward_spent, onward_end)
