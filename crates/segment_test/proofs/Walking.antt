-- The walk over all nodes: one tree at most stands at a link; a step for each return of `walk`. Assumes nothing.
use mathlib.Core.Path.{◌≡◌, refl, sym, ap}
use mathlib.Core.Bool.{Bool, true, false}
use mathlib.Core.List.{List, [], ◌∷◌, ◌++◌}
use Prim.Native.Nat.{ℕ, ◌+◌, ◌-◌, ◌/◌, ◌≤◌, ◌<◌}
use native.Mathlib.Omega.{arith}
use lib.ListN.{length, length-append, get_or-append}
use lib.Seq.{get_or_at}
use lib.Dec.{eqb}
use borrow.Author.Tests.{eqb-true, eqb-false}
use borrow.Author.Count.{below_more}
use Rattle.std.specs.Prelude.{Option, Some, None}
use Rattle.std.proofs.lemmas.Option.{none-some, same_Some}
use Rattle.lists.specs.Tests.{Decides}
use Rattle.lists.proofs.Numbers.{refute}
use Rattle.history.specs.Tree.{Tree, hole, node, mid, tree_at, node_count, nodes_in}
use Rattle.tables.specs.Columns.{column, nodes_count}
use Rattle.segment_table.specs.Closed.{Tables, left_at, right_at, TreeAt}
use Rattle.segment_table.proofs.Closed.{tree_one}
use Rattle.segment_test.specs.Test.{lent}
use Rattle.segment_test.specs.Total.{sum_to}
use Rattle.segment_test.specs.Parts.{NodeStands, TreeStands, Stood, Walked, AllRows}
use Rattle.segment_test.proofs.Sums.{sum_more, sum_same, sum_front, sum_trees}

-- ── walk ──

-- what stands is the layout's tree
pub stands_at : (t : Tables) (n kind link lo hi from to : ℕ) (T : Tree) → TreeStands t n kind link lo hi from to T → TreeAt t kind link lo hi T
unfolding TreeStands TreeAt
stands_at t n kind link lo hi from to hole s = s
stands_at t n kind link lo hi from to (node xs l r) s = (
  rw s.0 at s.1.row,
  stands_at t n kind (left_at t.nodes link) lo (mid lo hi) lo hi l s.2,
  stands_at t n kind (right_at t.nodes link) (mid lo hi) hi lo hi r s.3,
)

-- so one tree at most stands at a link
pub stands_one : (t : Tables) (n kind link lo hi from to : ℕ) (T U : Tree) → TreeStands t n kind link lo hi from to T → TreeStands t n kind link lo hi from to U → T ≡ U
stands_one t n kind link lo hi from to T U s u =
    tree_one t kind link lo hi T U (stands_at t n kind link lo hi from to T s) (stands_at t n kind link lo hi from to U u)

module _ {t : Tables} {n kind link lo hi from to budget : ℕ} where
  pub walk_hole : link ≡ 0 → Walked t n kind link lo hi from to budget (Some budget)
  unfolding TreeStands node_count
  walk_hole z = record {
    stood = λ rest e. (hole, z, omega (arith, same_Some budget rest e));
    wrong = λ e. absurd (none-some budget (sym e));
  }

  module _ (some : link ≡ 0 → ⊥) where
    pub walk_spent : budget ≡ 0 → Walked t n kind link lo hi from to budget None
    unfolding TreeStands node_count
    walk_spent h = record { stood = λ rest e. absurd (none-some rest e); wrong = λ e. go }
      where
        go : (T : Tree) → TreeStands t n kind link lo hi from to T → node_count T ≤ budget → ⊥
        go hole s z = some s
        go (node xs l r) s z = omega arith

    pub walk_wrong : {r : Bool} → Decides r (NodeStands t n kind link lo hi from to) → r ≡ false → Walked t n kind link lo hi from to budget None
    unfolding TreeStands
    walk_wrong d f = record { stood = λ rest e. absurd (none-some rest e); wrong = λ e. go }
      where
        go : (T : Tree) → TreeStands t n kind link lo hi from to T → node_count T ≤ budget → ⊥
        go hole s z = some s
        go (node xs l r) s z = d.not f s.1

    module _ {r : Bool} (enough : budget ≡ 0 → ⊥) (d : Decides r (NodeStands t n kind link lo hi from to)) (true-row : r ≡ true) where
      pub walk_narrow : hi - lo ≤ 1 → Walked t n kind link lo hi from to budget (Some (budget - 1))
      unfolding TreeStands node_count
      walk_narrow w =
          let here = d.yes true-row in
          let none = here.row.narrow (omega arith) in
          record {
            stood = λ rest e. (node _ hole hole, (refl, here, none.0, none.1), omega (arith, same_Some (budget - 1) rest e));
            wrong = λ e. absurd (none-some (budget - 1) (sym e));
          }

      -- a half that is wrong or takes more
      walk_left : {out : Option ℕ} → Walked t n kind (left_at t.nodes link) lo (mid lo hi) lo hi (budget - 1) out → out ≡ None → Walked t n kind link lo hi from to budget None
      unfolding TreeStands node_count
      walk_left left e = record { stood = λ rest z. absurd (none-some rest z); wrong = λ z. go }
        where
          go : (T : Tree) → TreeStands t n kind link lo hi from to T → node_count T ≤ budget → ⊥
          go hole s h = some s
          go (node xs a b) s h = left.wrong e a s.2 (omega arith)

      -- the node, and what its halves took
      walk_both : {rest : ℕ} {mids out : Option ℕ} → NodeStands t n kind link lo hi from to → Walked t n kind (left_at t.nodes link) lo (mid lo hi) lo hi (budget - 1) mids
          → mids ≡ Some rest → Walked t n kind (right_at t.nodes link) (mid lo hi) hi lo hi rest out → Walked t n kind link lo hi from to budget out
      unfolding TreeStands node_count
      walk_both {rest} {mids} {out} here left e right = record { stood = both; wrong = neither }
        where
          both : (k : ℕ) → out ≡ Some k → (T : Tree) × TreeStands t n kind link lo hi from to T × (budget ≡ k + node_count T)
          both k z =
              let r = right.stood k z in
              let l = left.stood rest e in
              (node _ l.0 r.0, (refl, here, l.1, r.1), omega (arith, l.2, r.2))

          neither : out ≡ None → (T : Tree) → TreeStands t n kind link lo hi from to T → node_count T ≤ budget → ⊥
          neither z hole s h = some s
          neither z (node xs a b) s h =
              let l = left.stood rest e in
              let same : l.0 ≡ a = stands_one t n kind (left_at t.nodes link) lo (mid lo hi) lo hi l.0 a l.1 s.2 in
              let taken : budget - 1 ≡ rest + node_count a = rw same at l.2 in
              right.wrong z b s.3 (omega (arith, taken))

      module _ {a m : ℕ} (w : 1 < hi - lo) (half : m ≡ lo + (hi - lo) / 2) (p : a ≡ left_at t.nodes link) where
        middle : m ≡ mid lo hi
        middle = omega arith

        pub walk_stops : {out : Option ℕ} → Walked t n kind a lo m lo hi (budget - 1) out → out ≡ None → Walked t n kind link lo hi from to budget None
        walk_stops left e = walk_left (rw (p, middle) at left) e

        pub walk_wide : {b rest : ℕ} {mids out : Option ℕ} → b ≡ right_at t.nodes link → Walked t n kind a lo m lo hi (budget - 1) mids → mids ≡ Some rest
            → Walked t n kind b m hi lo hi rest out → Walked t n kind link lo hi from to budget out
        walk_wide q left e right = walk_both (d.yes true-row) (rw (p, middle) at left) e (rw (q, middle) at right)

-- the steps of `walk`
pub ruleset walking = (walk_hole, walk_spent, walk_wrong, walk_narrow, walk_stops, walk_wide)

-- ── test_nodes ──

-- how many nodes the trees of the first k kinds have
abbrev nodes_to : List Tree → (k : ℕ) → ℕ
nodes_to trees k = sum_to (λ kind. node_count (tree_at trees kind)) k

-- What is left of a budget of node rows after the walks from the roots of the first k kinds.
pub record WalkedTo (t : Tables) (n e budget k rest : ℕ) : Type 0 where
  pub trees : List Tree
  pub many : length trees ≡ k
  pub stood : (kind : ℕ) → kind < k → TreeStands t n kind (column t.nodes 0 kind) 0 e 0 0 (tree_at trees kind)
  pub taken : budget ≡ rest + nodes_to trees k

module _ {t : Tables} {n e budget : ℕ} where
  pub walks_none : WalkedTo t n e budget 0 budget
  unfolding sum_to
  walks_none = record { trees = []; many = refl; stood = λ kind l. absurd (omega arith); taken = omega arith }

  -- what was taken is what any trees at those roots have
  taken_by : {k rest : ℕ} → WalkedTo t n e budget k rest → (trees : List Tree) → ((kind : ℕ) → kind < k → TreeStands t n kind (column t.nodes 0 kind) 0 e 0 0 (tree_at trees kind))
      → budget ≡ rest + nodes_to trees k
  taken_by {k} {rest} w trees s =
      let same : (kind : ℕ) → kind < k → tree_at w.trees kind ≡ tree_at trees kind =
      λ kind l. stands_one t n kind (column t.nodes 0 kind) 0 e 0 0 (tree_at w.trees kind) (tree_at trees kind) (w.stood kind l) (s kind l) in
      omega (
        arith,
        w.taken,
        sum_same (λ kind. node_count (tree_at w.trees kind)) (λ kind. node_count (tree_at trees kind)) k (λ kind l. ap node_count (same kind l)),
      )

  module _ {k rest root left : ℕ} (w : WalkedTo t n e budget k rest) (top : root ≡ column t.nodes 0 k) (stood : Stood t n k root 0 e 0 0 rest left) where
    pub walks_more : WalkedTo t n e budget (k + 1) left
    walks_more =
        let own : Stood t n k (column t.nodes 0 k) 0 e 0 0 rest left = rw top at stood in
        let before : (kind : ℕ) → kind < k → tree_at (w.trees ++ own.0 ∷ []) kind ≡ tree_at w.trees kind = λ kind l. get_or-append w.trees (own.0 ∷ []) hole kind (rw w.many l) in
        let last : tree_at (w.trees ++ own.0 ∷ []) k ≡ own.0 = get_or_at w.trees own.0 [] hole k w.many in
        record {
          trees = w.trees ++ own.0 ∷ [];
          many = omega (arith, length-append w.trees (own.0 ∷ []), w.many);
          stood =
              below_more (λ (kind : ℕ). TreeStands t n kind (column t.nodes 0 kind) 0 e 0 0 (tree_at (w.trees ++ own.0 ∷ []) kind)) k
              (λ kind l. rw (before kind l) (w.stood kind l)) (rw last own.1);
          taken =
              omega (
                arith,
                own.2,
                w.taken,
                sum_more (λ kind. node_count (tree_at (w.trees ++ own.0 ∷ []) kind)) k,
                ap node_count last,
                sum_same (λ kind. node_count (tree_at (w.trees ++ own.0 ∷ []) kind)) (λ kind. node_count (tree_at w.trees kind)) k (λ kind l. ap node_count (before kind l)),
              );
        }

-- the nodes of all trees are those of the first k and of one more, at least
nodes_front : (trees : List Tree) (k : ℕ) → length trees ≡ nodes_count → k < nodes_count → nodes_to trees k + node_count (tree_at trees k) ≤ nodes_in trees
nodes_front trees k five low =
    omega (
      arith,
      (rw five at (sum_trees node_count trees)),
      sum_more (λ kind. node_count (tree_at trees kind)) k,
      sum_front (λ kind. node_count (tree_at trees kind)) (k + 1) nodes_count (omega arith),
    )

-- what is known of all kinds
module _ {blocks nodes entries : List ℕ} {n e : ℕ} where
  -- a walk that comes to no end
  pub nodes_wrong : {used k rest root : ℕ} {out : Option ℕ} → used ≡ column nodes 0 nodes_count → WalkedTo (lent blocks nodes entries) n e used k rest → k < nodes_count
      → root ≡ column nodes 0 k → Walked (lent blocks nodes entries) n k root 0 e 0 0 rest out → out ≡ None → Decides false (AllRows (lent blocks nodes entries) n e)
  nodes_wrong {used} {k} {rest} {root} {out} count w low top walk none =
      refute
      (λ s.
      let own = rw top at walk in
      own.wrong none (tree_at s.trees k) (s.stands k low)
      (omega (arith, s.all_rows_lem, nodes_front s.trees k s.five low, taken_by w s.trees (λ kind l. s.stands kind (omega arith)))))

  -- those from all roots take every row
  pub nodes_rest : {used k rest : ℕ} → used ≡ column nodes 0 nodes_count → k ≤ nodes_count → (k < nodes_count → ⊥) → WalkedTo (lent blocks nodes entries) n e used k rest
      → Decides (eqb rest 0) (AllRows (lent blocks nodes entries) n e)
  nodes_rest {used} {k} {rest} count most over walk = record { yes = all; not = some }
    where
      w : WalkedTo (lent blocks nodes entries) n e used nodes_count rest
      w = let last : k ≡ nodes_count = omega arith in rw last at walk

      all : eqb rest 0 ≡ true → AllRows (lent blocks nodes entries) n e
      all t =
          let sum : nodes_to w.trees nodes_count ≡ nodes_in w.trees = rw w.many at (sum_trees node_count w.trees) in
          record { trees = w.trees; five = w.many; stands = w.stood; all_rows_lem = omega (arith, w.taken, eqb-true rest 0 t, sum) }

      some : eqb rest 0 ≡ false → AllRows (lent blocks nodes entries) n e → ⊥
      some t s =
          let sum : nodes_to s.trees nodes_count ≡ nodes_in s.trees = rw s.five at (sum_trees node_count s.trees) in
          eqb-false rest 0 t (omega (arith, s.all_rows_lem, sum, taken_by w s.trees s.stands))
