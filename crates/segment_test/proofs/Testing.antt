-- What the tests of the tables say together is that they hold the trees of a closed index, both ways; a step for each return of `test_trees`. Assumes nothing.
use mathlib.Core.Path.{◌≡◌, refl, sym, ◌∙◌, ap}
use mathlib.Core.Bool.{Bool, true, false, true≢false}
use mathlib.Core.List.{List}
use Prim.Native.Nat.{ℕ, zero, suc, ◌+◌, ◌<◌}
use native.Mathlib.Omega.{arith}
use lib.ListN.{length}
use Rattle.lists.specs.Tests.{Decides}
use Rattle.lists.proofs.Numbers.{refute, decides_iff, decided}
use Rattle.history.specs.Words.{Block, life, only_kind}
use Rattle.history.specs.Tree.{Tree, hole, node, mid, tree_at, block_at, widths}
use Rattle.history.specs.Rules.{is_hole, halved, rule23}
use Rattle.history.specs.Sound.{none_of, SoundTree}
use Rattle.history.proofs.RulesLaws.{halved_node, Rule23, rule23_decides}
use Rattle.history.proofs.ByKind.{only_length, none_owned, one-owned, some-owned}
use Rattle.tables.specs.Columns.{column, nodes_count}
use Rattle.segment_table.specs.Closed.{Tables, nodes_used, left_at, right_at, first_at, count_at, TreeAt, Consecutive}
use Rattle.segment_test.specs.Total.{sum_to, entries_of_row, widths_of_row, life_in, all_widths}
use Rattle.segment_test.specs.Test.{lent, owner_in, BlockRows, ClosedTrees}
use Rattle.segment_test.specs.Parts.{RootsOwned, Heads, OwnRows, TreeStands, AllRows, Tiled, LivesAre, TreeTables, Frame}
use Rattle.segment_test.proofs.Sums.{sum_same, sum_tight, sum_trees}
use Rattle.segment_test.proofs.Owning.{own-rows, all_lives}
use Rattle.segment_test.proofs.Ruling.{at_hole, RuledAt, stands_ruled, ruled_stands}
use Rattle.segment_test.proofs.Links.{rows_entries, rows-widths}
use Rattle.segment_test.proofs.Widths.{total_most, total_each, each_total}

-- ── runs ──

-- each run begins at the sum of those before exactly when each begins where the one before ends
pub consecutive_begins : (nodes : List ℕ) → Consecutive nodes → (k : ℕ) → k < nodes_used nodes → first_at nodes (suc k) ≡ sum_to (entries_of_row nodes) k
unfolding sum_to
consecutive_begins nodes c zero h = c.begins (omega arith)
consecutive_begins nodes c (suc k) h = c.follows (suc k) (omega arith) h ∙ omega (arith, consecutive_begins nodes c k (omega arith))

pub begins_consecutive : (nodes : List ℕ) → ((k : ℕ) → k < nodes_used nodes → first_at nodes (suc k) ≡ sum_to (entries_of_row nodes) k) → Consecutive nodes
unfolding sum_to
begins_consecutive nodes f = record { begins = λ h. f 0 h; follows = follows }
  where
    follows : (link : ℕ) → 0 < link → link < nodes_used nodes → first_at nodes (suc link) ≡ first_at nodes link + count_at nodes link
    follows zero h z = absurd (omega arith)
    follows (suc k) h z = f (suc k) z ∙ omega (arith, f k (omega arith))

-- ── roots ──

-- a kind has a root exactly if it has blocks
root_hole : (t : Tables) (kind root e : ℕ) (bs : List Block) (T : Tree) → ((root ≡ 0 → ⊥) → (k : ℕ) × (k < length bs) × ((block_at bs k).kind ≡ kind))
    → ((k : ℕ) → k < length bs → (block_at bs k).kind ≡ kind → root ≡ 0 → ⊥) → TreeAt t kind root 0 e T → is_hole T ≡ none_of kind bs
unfolding TreeAt
root_hole t kind root e bs hole owned rooted s = sym (none_owned kind bs (λ k h q. rooted k h q s))
root_hole t kind root e bs (node xs l u) owned rooted s =
    let b = owned (λ z. omega (arith, s.0.some)) in
    sym (one-owned kind bs b.0 b.1 b.2)

hole_owned : (t : Tables) (kind root e : ℕ) (bs : List Block) (T : Tree) → is_hole T ≡ none_of kind bs → TreeAt t kind root 0 e T → (root ≡ 0 → ⊥)
    → (k : ℕ) × (k < length bs) × ((block_at bs k).kind ≡ kind)
unfolding TreeAt
hole_owned t kind root e bs hole h s some = absurd (some s)
hole_owned t kind root e bs (node xs l u) h s some = some-owned kind bs (sym h)

hole_rooted : (t : Tables) (kind root e : ℕ) (bs : List Block) (T : Tree) → is_hole T ≡ none_of kind bs → TreeAt t kind root 0 e T
    → (k : ℕ) → k < length bs → (block_at bs k).kind ≡ kind → root ≡ 0 → ⊥
unfolding TreeAt
hole_rooted t kind root e bs hole h s k low is z = true≢false (h ∙ one-owned kind bs k low is)
hole_rooted t kind root e bs (node xs l u) h s k low is z = omega (arith, s.0.some)

-- ── 21 ──

-- the layout has no child of a node of width 1
pub at_halved : (t : Tables) (kind link lo hi : ℕ) (T : Tree) → TreeAt t kind link lo hi T → halved lo hi T ≡ true
unfolding TreeAt halved
at_halved t kind link lo hi hole s = refl
at_halved t kind link lo hi (node xs l r) s =
    halved_node lo hi xs l r
    (λ w. (none (left_at t.nodes link) lo (mid lo hi) l (s.0.narrow w).0 s.1, none (right_at t.nodes link) (mid lo hi) hi r (s.0.narrow w).1 s.2))
    (at_halved t kind (left_at t.nodes link) lo (mid lo hi) l s.1) (at_halved t kind (right_at t.nodes link) (mid lo hi) hi r s.2)
  where
    none : (k a b : ℕ) (U : Tree) → k ≡ 0 → TreeAt t kind k a b U → U ≡ hole
    none k a b U z u = at_hole t kind a b U (rw z at u)

-- ── the tables and the index ──

module _ (t : Tables) (e : ℕ) (bs : List Block) (known : BlockRows t.blocks (length bs) bs) where
  -- the lives of the table are those of the blocks
  lives_same : sum_to (life_in t.blocks) (length bs) ≡ sum_to (λ k. life (block_at bs k)) (length bs)
  lives_same =
      sum_same (life_in t.blocks) (λ k. life (block_at bs k)) (length bs) (λ k h. rw (known.created k h, known.destroyed k h) refl)

  -- those of one kind
  lives : (kind : ℕ) → ℕ
  lives kind = sum_to (λ k. life (block_at (only_kind kind bs) k)) (length bs)

  lives_all : sum_to lives nodes_count ≡ sum_to (life_in t.blocks) (length bs)
  unfolding lives
  lives_all = all_lives bs (λ k h. omega (arith, known.kinds k h, known.known k h)) ∙ sym lives_same

  -- the rows as a kind sees them
  own : (kind : ℕ) → OwnRows t.blocks kind (length (only_kind kind bs)) (only_kind kind bs)
  own kind = rw (only_length kind bs) (own-rows t.blocks kind (length bs) bs known)

  -- ── from the tables ──

  module _ (s : TreeTables t (length bs) e) where
    abbrev trees : List Tree
    trees = s.rows.trees

    module _ (kind : ℕ) (low : kind < nodes_count) where
      ruled : RuledAt t (only_kind kind bs) kind (column t.nodes 0 kind) 0 e (λ k. false) (tree_at trees kind)
      ruled =
          stands_ruled t (only_kind kind bs) kind (own kind) (column t.nodes 0 kind) 0 e 0 0 (λ k. false) (λ k h. refl) (tree_at trees kind)
          (rw (only_length kind bs) (s.rows.stands kind low))

    stood : (kind : ℕ) → kind < nodes_count → TreeAt t kind (column t.nodes 0 kind) 0 e (tree_at trees kind)
    stood kind low = (ruled kind low).stands

    -- the widths of one kind are at most its lives, so that equal sums over all kinds are equal for each
    widths-lives : (kind : ℕ) → kind < nodes_count → all_widths 0 e (tree_at trees kind) ≡ lives kind
    unfolding lives
    widths-lives =
        sum_tight (λ kind. all_widths 0 e (tree_at trees kind)) lives nodes_count
        (λ kind low. let r = ruled kind low in rw (only_length kind bs) at (total_most (only_kind kind bs) e (tree_at trees kind) r.numbers r.places r.order))
        ((rw s.rows.five at (sum_trees (all_widths 0 e) trees)) ∙ sym (rows-widths t e trees s.rows.five stood s.rows.all_rows_lem) ∙ s.lives.sum ∙ sym lives_all)

    one_sound : (kind : ℕ) → kind < nodes_count → SoundTree e bs kind (tree_at trees kind)
    unfolding lives
    one_sound kind low =
        let r = ruled kind low in
        let sums : (k : ℕ) → k < length (only_kind kind bs) → widths k 0 e (tree_at trees kind) ≡ life (block_at (only_kind kind bs) k) =
        total_each (only_kind kind bs) e (tree_at trees kind) r.numbers r.places r.order (rw (only_length kind bs) (widths-lives kind low)) in
        record {
          rooted =
              root_hole t kind (column t.nodes 0 kind) e bs (tree_at trees kind)
              (λ some. let b = (s.roots.each kind low).owned some in (b.number, b.low, known.kinds b.number b.low ∙ b.is))
              (λ k h q z. s.lives.rooted k h (ap (λ (j : ℕ). column t.nodes 0 j) (sym (known.kinds k h) ∙ q) ∙ z)) r.stands;
          rule_21 = at_halved t kind (column t.nodes 0 kind) 0 e (tree_at trees kind) r.stands;
          rule_23 =
              decided (rule23 e (only_kind kind bs) (tree_at trees kind)) (rule23_decides e (only_kind kind bs) (tree_at trees kind))
              (record { numbers = r.numbers; places = r.places; order = r.order; sums = sums });
        }

    pub tables_closed : ClosedTrees t e bs
    tables_closed = record {
      trees = trees;
      block_room = s.heads.block_room.fits;
      entry_room = omega (arith, s.heads.entry_room.fits);
      closed = record {
        five = s.rows.five;
        stands = stood;
        all_rows_lem = s.rows.all_rows_lem;
        room = omega (arith, s.heads.node_room.fits);
        all_entries_lem = sym s.tiled.total ∙ rows_entries t e trees s.rows.five stood s.rows.all_rows_lem;
        consecutive = begins_consecutive t.nodes s.tiled.begins;
      };
      each = one_sound;
    }

  -- ── back ──

  module _ (s : ClosedTrees t e bs) where
    rules : (kind : ℕ) → kind < nodes_count → Rule23 e (only_kind kind bs) (tree_at s.trees kind)
    rules kind low = (rule23_decides e (only_kind kind bs) (tree_at s.trees kind)).yes (s.each kind low).rule_23

    -- what stands at the root of a kind
    pub closed_stands : (kind : ℕ) → kind < nodes_count → TreeStands t (length bs) kind (column t.nodes 0 kind) 0 e 0 0 (tree_at s.trees kind)
    closed_stands kind low =
        let r = rules kind low in
        rw (only_length kind bs) at
        (ruled_stands t (only_kind kind bs) kind (own kind) (column t.nodes 0 kind) 0 e 0 0 (λ k. false) (λ k h. refl) (tree_at s.trees kind)
        (record { stands = s.closed.stands kind low; numbers = r.numbers; places = r.places; order = r.order }))

    lives-widths : (kind : ℕ) → kind < nodes_count → all_widths 0 e (tree_at s.trees kind) ≡ lives kind
    unfolding lives
    lives-widths kind low =
        let r = rules kind low in
        rw (only_length kind bs) at (each_total (only_kind kind bs) e (tree_at s.trees kind) r.numbers r.places r.order r.sums)

    pub closed_tables : TreeTables t (length bs) e
    closed_tables = record {
      heads = record {
        block_room = record { fits = s.block_room };
        node_room = record { fits = omega (arith, s.closed.room) };
        entry_room = record { fits = omega (arith, s.entry_room) };
      };
      roots = record {
        each = λ kind low. record {
          owned = λ some.
              let b = hole_owned t kind (column t.nodes 0 kind) e bs (tree_at s.trees kind) (s.each kind low).rooted (s.closed.stands kind low) some in
              record { number = b.0; low = b.1; is = sym (known.kinds b.0 b.1) ∙ b.2 };
        };
      };
      tiled = record {
        begins = consecutive_begins t.nodes s.closed.consecutive;
        total = rows_entries t e s.trees s.closed.five s.closed.stands s.closed.all_rows_lem ∙ sym s.closed.all_entries_lem;
      };
      rows = record { trees = s.trees; five = s.closed.five; stands = closed_stands; all_rows_lem = s.closed.all_rows_lem };
      lives = record {
        rooted = λ k h z.
            let kind : ℕ = owner_in t.blocks k in
            let low : kind < nodes_count = known.known k h in
            hole_rooted t kind (column t.nodes 0 kind) e bs (tree_at s.trees kind) (s.each kind low).rooted (s.closed.stands kind low) k h (known.kinds k h) z;
        sum =
            rows-widths t e s.trees s.closed.five s.closed.stands s.closed.all_rows_lem
            ∙ sym (rw s.closed.five at (sum_trees (all_widths 0 e) s.trees))
            ∙ sum_same (λ kind. all_widths 0 e (tree_at s.trees kind)) lives nodes_count lives-widths
            ∙ lives_all;
      };
    }

-- a test of the tables is a test of the index
pub tested : {t : Tables} {n e : ℕ} {r : Bool} → Decides r (TreeTables t n e) → (bs : List Block) → BlockRows t.blocks n bs → Decides r (ClosedTrees t e bs)
tested {t} {n} {e} {r} d bs known =
    let many : n ≡ length bs = sym known.many in
    let rows : BlockRows t.blocks (length bs) bs = rw many at known in
    decides_iff r (tables_closed t e bs rows) (closed_tables t e bs rows) (rw many at d)

-- ── test_trees ──

module _ {blocks nodes entries : List ℕ} {n e : ℕ} where
  pub tree_heads : {r : Bool} → Decides r (Heads (lent blocks nodes entries) n) → r ≡ false → Decides false (TreeTables (lent blocks nodes entries) n e)
  tree_heads d f = refute (λ s. d.not f s.heads)

  pub tree_frame : {r : Bool} → Decides r (Frame (lent blocks nodes entries) n) → r ≡ false → Decides r (TreeTables (lent blocks nodes entries) n e)
  tree_frame d f = rw f (refute (λ s. d.not f (record { roots = s.roots; tiled = s.tiled; lives = s.lives })))

  pub tree_rest : {a b r : Bool} → Decides a (Heads (lent blocks nodes entries) n) → a ≡ true → Decides b (Frame (lent blocks nodes entries) n) → b ≡ true
      → Decides r (AllRows (lent blocks nodes entries) n e) → Decides r (TreeTables (lent blocks nodes entries) n e)
  tree_rest da ea db eb rows = record {
    yes = λ t. record { heads = da.yes ea; roots = (db.yes eb).roots; tiled = (db.yes eb).tiled; rows = rows.yes t; lives = (db.yes eb).lives };
    not = λ t s. rows.not t s.rows;
  }

-- ── test_frame ──

module _ {blocks nodes entries : List ℕ} {n : ℕ} where
  pub frame_unowned : {r : Bool} → Decides r (RootsOwned blocks nodes n nodes_count) → r ≡ false → Decides false (Frame (lent blocks nodes entries) n)
  frame_unowned d f = refute (λ s. d.not f s.roots)

  pub frame_untiled : {r : Bool} → Decides r (Tiled nodes entries) → r ≡ false → Decides false (Frame (lent blocks nodes entries) n)
  frame_untiled d f = refute (λ s. d.not f s.tiled)

  pub frame_rest : {o b r : Bool} {x : ℕ} → Decides o (RootsOwned blocks nodes n nodes_count) → o ≡ true → Decides b (Tiled nodes entries) → b ≡ true
      → x ≡ sum_to (widths_of_row nodes) (nodes_used nodes) → Decides r (LivesAre blocks nodes n x) → Decides r (Frame (lent blocks nodes entries) n)
  frame_rest dk eo db eb wide same = record {
    yes = λ t. record { roots = dk.yes eo; tiled = db.yes eb; lives = rw wide at (same.yes t) };
    not = λ t s. same.not t (rw wide s.lives);
  }
