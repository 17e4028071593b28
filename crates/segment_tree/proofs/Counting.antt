-- Steps of `build::count_trees`: from a table of zeros the rows' lives make the counts of the trees of all blocks. Assumes nothing.
use mathlib.Core.Path.{◌≡◌, refl, ap, sym, ◌∙◌}
use mathlib.Core.Logic.{inl, inr}
use mathlib.Core.Bool.{Bool, true, false, cond}
use mathlib.Core.List.{List, [], ◌∷◌, ◌++◌, map}
use Prim.Native.Nat.{ℕ, suc, ◌+◌, ◌*◌, ◌^◌, ◌≤◌, ◌<◌}
use native.Mathlib.Omega.{arith}
use lib.ListN.{length, get_or, replicate, get_or-replicate, length-replicate, get_or-eq_default, get_or-map}
use lib.Seq.{ext_get_or}
use lib.Dec.{eqb}
use borrow.Author.Tests.{lt-ltb, le-ltb}
use Rattle.lists.specs.Lists.{All, count_from, sum_of}
use Rattle.lists.proofs.Numbers.{lt_or_le}
use Rattle.lists.proofs.Lists.{all_left, all_right, all_any, all_mem, all_of_mem, all_of_map, all_un_map, count_from_length}
use Rattle.lists.proofs.Counting.{mem_count, count_mem}
use Rattle.lists.proofs.Maps.{map-append, map-map, map_all, length_of_map}
use Rattle.history.specs.Lent.{row_width}
use Rattle.history.specs.Words.{Block}
use Rattle.history.specs.Tree.{Tree, hole, trees_of, tree_at, node_count, entry_count, nodes_in, entries_all}
use Rattle.history.proofs.EveryList.{trees_at}
use Rattle.tables.specs.Columns.{column, nodes_count}
use Rattle.tables.specs.Sums.{most}
use Rattle.segment_table.specs.Closed.{nodes_used, first_at}
use Rattle.std.specs.Prelude.{Ok, Err}
use Rattle.refusals.specs.declared.Refusal.TheVariants.{NodesFull, EntriesFull}
use Rattle.segment_tree.specs.Count.{rows_in, fullest, entries_to, all_entries, CountAt, Life, Standing}
use Rattle.segment_tree.specs.Runs.{up_to, with_runs, AssignedRuns}
use Rattle.segment_tree.specs.Lives.{Owned, owned_of, block_life, piece_life, shape, add_life, add_lives, root_spot, Known, AllStanding, AllGrown, AllOutcome, AddedRows, entry_rows_in, room_for, rows_to_count, Countable, CountedAs, CountedTrees}
use Rattle.segment_tree.proofs.NodeRows.{count_like, entries_most}
use Rattle.segment_tree.proofs.Adding.{fullest_grows}
use Rattle.segment_tree.proofs.ByKind.{trees_five, add_to, lives_of, lives_of_append, lives_five, lives_at}
use Rattle.segment_tree.proofs.AddingRows.{outcome_onward, nodes_lives}
use Rattle.segment_tree.proofs.Running.{runs_length, runs_other, runs_outside, runs_first, runs_like, runs_entries}
use Rattle.segment_tree.proofs.Shapes.{shape_tree, lives-append, shape-lives, lives_order, shape_nodes, shape_entry_count, shape_stands}

-- ── zeros ──

pub zeros_read : (n i : ℕ) → get_or {A = ℕ} (replicate n 0) i 0 ≡ 0
zeros_read n i =
    elim (lt_or_le i n) [
      | inl h ↦ get_or-replicate n i 0 0 h
      | inr h ↦ get_or-eq_default (replicate n 0) 0 {n = i} (rw (length-replicate {A = ℕ} n 0) h)
    ]

fullest-lives : (e : ℕ) (lives : List Life) (T : Tree) → e ≤ 2 ^ 63 → fullest (add_to e lives T) ≤ fullest T + length lives
unfolding add_to
fullest-lives e [] T w = omega arith
fullest-lives e (life ∷ lives) T w =
    omega (arith, fullest-lives e lives (add_life e life T) w, fullest_grows (λ _. 0) 0 life.created life.destroyed 63 0 e T (omega arith) (omega arith))

lives_fewer : (kind : ℕ) (os : List Owned) → length (lives_of kind os) ≤ length os
unfolding lives_of
lives_fewer kind [] = omega arith
lives_fewer kind (o ∷ os) = go (eqb o.kind kind) (lives_fewer kind os)
  where
    go : (u : Bool) → length (lives_of kind os) ≤ length os → length (cond u (o.life ∷ lives_of kind os) (lives_of kind os)) ≤ suc (length os)
    go true h = omega arith
    go false h = omega arith

module _ (t blocks pieces : List ℕ) (n m e : ℕ) (bs ps : List Block) (links : List ℕ) (g : Countable (rows_to_count blocks n pieces m e) t bs ps links) where
  zero_at : (i : ℕ) → get_or t i 0 ≡ 0
  zero_at i = ap (λ (l : List ℕ). get_or l i 0) g.zeros ∙ zeros_read (length t) i

  -- no kind has a tree yet
  holes : List Tree
  holes = replicate nodes_count hole

  hole_at : (kind : ℕ) → tree_at holes kind ≡ hole
  unfolding holes
  hole_at kind =
      elim (lt_or_le kind nodes_count) [
        | inl h ↦ get_or-replicate nodes_count kind hole hole h
        | inr h ↦ get_or-eq_default (replicate nodes_count hole) hole {n = kind} (rw (length-replicate {A = Tree} nodes_count hole) h)
      ]

  holes_five : length holes ≡ nodes_count
  unfolding holes
  holes_five = length-replicate {A = Tree} nodes_count hole

  zero_stands : AllStanding t e holes
  unfolding CountAt
  zero_stands = record {
    five = holes_five;
    each = λ kind low. rw (hole_at kind) (record {
      here = zero_at (row_width * 0 + kind);
      wide = g.some;
      parent_used = omega arith;
      at_root = λ _. low;
      at_half = λ h. absurd (omega arith);
      outer = λ h. absurd (omega arith);
      clean = record { zeros = λ k j a h. zero_at (row_width * k + j) };
      inside = omega (arith, zero_at nodes_count);
    });
  }

  -- a table of zeros after zeroing is as it was
  zeroed : (t₁ t₂ : List ℕ) → length t₁ ≡ length t → t₂ ≡ replicate (length t₁) 0 → t₂ ≡ t
  zeroed t₁ t₂ same wrote = wrote ∙ ap (λ (k : ℕ). replicate k 0) same ∙ sym g.zeros

  -- ── the trees ──

  block_lives : List Owned
  block_lives = map (block_life blocks) (count_from 1 n)

  piece_lives : List Owned
  piece_lives = map (piece_life pieces e) (count_from 1 m)

  recorded : List Tree
  recorded = add_lives e block_lives holes

  counts : List Tree
  counts = add_lives e piece_lives recorded

  whole : List Tree
  whole = trees_of e (bs ++ ps)

  few_blocks : length block_lives ≡ n
  unfolding block_lives
  few_blocks = length_of_map (block_life blocks) (count_from 1 n) ∙ count_from_length 1 n

  few_pieces : length piece_lives ≡ m
  unfolding piece_lives
  few_pieces = length_of_map (piece_life pieces e) (count_from 1 m) ∙ count_from_length 1 m

  recorded_five : length recorded ≡ nodes_count
  unfolding recorded
  recorded_five = lives_five e block_lives holes ∙ holes_five

  recorded_at : (kind : ℕ) → kind < nodes_count → tree_at recorded kind ≡ add_to e (lives_of kind block_lives) hole
  unfolding recorded
  recorded_at kind low = lives_at e kind block_lives holes (rw holes_five low) ∙ ap (add_to e (lives_of kind block_lives)) (hole_at kind)

  fullest_holes : (kind : ℕ) → fullest (tree_at holes kind) + length block_lives < most
  unfolding fullest
  fullest_holes kind = rw (hole_at kind) (omega (arith, few_blocks, g.few))

  fullest-recorded : (kind : ℕ) → fullest (tree_at recorded kind) + length piece_lives < most
  unfolding fullest
  fullest-recorded kind =
      elim (lt_or_le kind nodes_count) [
        | inl low ↦ rw (recorded_at kind low) (omega (arith, few_blocks, few_pieces, fullest-lives e (lives_of kind block_lives) hole g.small, lives_fewer kind block_lives, g.few))
        | inr past ↦ rw (get_or-eq_default recorded hole {n = kind} (rw recorded_five past)) (omega (arith, few_pieces, g.few))
      ]

  known_blocks : All Known block_lives
  unfolding block_lives
  known_blocks = rw g.blocks_are (all_of_map owned_of (all_left bs ps g.known))

  -- the pieces' rows are those of the links, in another order
  known_pieces : All Known piece_lives
  unfolding piece_lives
  known_pieces =
      let there : All Known (map (piece_life pieces e) links) = rw g.pieces_are (all_of_map owned_of (all_right bs ps g.known)) in
      let each : All (λ k. Known (piece_life pieces e k)) links = all_un_map (piece_life pieces e) links there in
      all_of_map (piece_life pieces e)
      (all_of_mem (count_from 1 m) (λ k mem. all_mem each (count_mem k links (omega (arith, g.all_pieces k, mem_count mem)))))

  -- what is counted is the shape of the tree of each kind
  counts_at : (kind : ℕ) → kind < nodes_count → tree_at counts kind ≡ shape (tree_at whole kind)
  unfolding counts whole block_lives piece_lives shape
  counts_at kind low =
      let same : shape (add_to e (lives_of kind block_lives) hole) ≡ add_to e (lives_of kind block_lives) hole = shape-lives e (lives_of kind block_lives) hole in
      let own : lives_of kind (map owned_of (bs ++ ps)) ≡ lives_of kind block_lives ++ lives_of kind (map (piece_life pieces e) links) =
      rw (map-append owned_of bs ps, ← g.blocks_are, ← g.pieces_are) (lives_of_append kind _ _) in
      lives_at e kind piece_lives recorded (rw recorded_five low)
      ∙ ap (add_to e (lives_of kind piece_lives)) (recorded_at kind low)
      ∙ lives_order (piece_life pieces e) kind e (count_from 1 m) links _ g.some same (λ k. sym (g.all_pieces k))
      ∙ sym (ap shape (trees_at e (bs ++ ps) kind (omega arith)) ∙ shape_tree kind e (bs ++ ps) ∙ rw own (lives-append e _ _ hole))

  counts_whole : counts ≡ map shape whole
  unfolding counts whole shape
  counts_whole =
      ext_get_or hole counts (map shape whole) (counts_five ∙ sym (length_of_map shape whole ∙ whole_five))
      (λ kind low. counts_at kind (rw counts_five at low) ∙ sym (shape_at kind))
    where
      counts_five : length counts ≡ nodes_count
      counts_five = lives_five e piece_lives recorded ∙ recorded_five

      whole_five : length whole ≡ nodes_count
      whole_five = trees_five e (bs ++ ps)

      shape_at : (kind : ℕ) → tree_at (map shape whole) kind ≡ shape (tree_at whole kind)
      shape_at kind = get_or-map shape whole kind hole

  whole_nodes : nodes_in counts ≡ nodes_in whole
  whole_nodes = ap nodes_in counts_whole ∙ ap sum_of (map-map node_count shape whole ∙ map_all (λ T. node_count (shape T)) node_count (all_any whole shape_nodes))

  whole_entries : entries_all counts ≡ entries_all whole
  whole_entries = ap entries_all counts_whole ∙ ap sum_of (map-map entry_count shape whole ∙ map_all (λ T. entry_count (shape T)) entry_count (all_any whole shape_entry_count))

  no_nodes : nodes_in holes ≡ 0
  unfolding holes sum_of node_count
  no_nodes = refl

  no_entries : entries_all holes ≡ 0
  unfolding holes sum_of entry_count
  no_entries = refl

  answer_nodes : (entries : List ℕ) → rows_in t < nodes_in whole → Err NodesFull ≡ room_for (rows_in t) (entry_rows_in entries) whole
  answer_nodes entries h = rw (lt-ltb (rows_in t) (nodes_in whole) h)

  -- ── the blocks ──

  module _ (t₁ : List ℕ) (q : Bool) (a : AddedRows t t₁ e (map (block_life blocks) (count_from 1 n)) q) (long : length t₁ ≡ length t) where
    blocks_done : AllOutcome t t₁ e q holes recorded
    unfolding recorded block_lives
    blocks_done = a.done holes g.small known_blocks fullest_holes zero_stands

    spent_blocks : (t₂ entries : List ℕ) → q ≡ false → t₂ ≡ replicate (length t₁) 0 → CountedAs t entries t₂ e (trees_of e (bs ++ ps)) (Err NodesFull)
    unfolding whole counts
    spent_blocks t₂ entries z wrote = record {
      answer = answer_nodes entries
          (omega (arith, blocks_done.spent z, no_nodes, zero_at nodes_count, nodes_lives e recorded known_pieces recorded_five, whole_nodes));
      counted = λ e. absurd (cc);
      refused = λ _. zeroed t₁ t₂ long wrote;
    }

    module _ (y : q ≡ true) where
      grown_blocks : AllGrown t t₁ e holes recorded
      grown_blocks = blocks_done.added y

      -- ── the pieces ──

      module _ (t₂ : List ℕ) (p : Bool) (b : AddedRows t₁ t₂ e (map (piece_life pieces e) (count_from 1 m)) p) (long₂ : length t₂ ≡ length t₁) where
        all_done : AllOutcome t t₂ e p holes counts
        unfolding counts piece_lives
        all_done =
            outcome_onward t t₁ t₂ e holes recorded counts p grown_blocks (b.done recorded g.small known_pieces fullest-recorded grown_blocks.here)

        spent_pieces : (t₃ entries : List ℕ) → p ≡ false → t₃ ≡ replicate (length t₂) 0 → CountedAs t entries t₃ e (trees_of e (bs ++ ps)) (Err NodesFull)
        unfolding whole
        spent_pieces t₃ entries z wrote = record {
          answer = answer_nodes entries (omega (arith, all_done.spent z, no_nodes, zero_at nodes_count, whole_nodes));
          counted = λ e. absurd (cc);
          refused = λ _. zeroed t₂ t₃ (long₂ ∙ long) wrote;
        }

        module _ (z : p ≡ true) where
          grown_all : AllGrown t t₂ e holes counts
          grown_all = all_done.added z

          used_all : nodes_used t₂ ≡ nodes_in whole
          used_all = omega (arith, grown_all.rows, no_nodes, zero_at nodes_count, whole_nodes)

          entries_all_lem : all_entries t₂ ≡ entries_all whole
          unfolding entries_to
          entries_all_lem =
              let none : all_entries t ≡ 0 = ap (entries_to t) (zero_at nodes_count) in
              omega (arith, grown_all.entries, no_entries, whole_entries)

          -- the table's room and its clean rest, as each kind's tree says them
          inside_all : nodes_used t₂ ≤ rows_in t₂
          inside_all = (grown_all.here.each 0 (omega arith)).inside

          room_all : nodes_in whole ≤ rows_in t
          room_all = omega (arith, inside_all, used_all, long, long₂)

          -- ── the runs ──

          module _ (used total : ℕ) (t₃ entries : List ℕ) (read : used ≡ nodes_used t₂) (runs : AssignedRuns t₂ t₃ used total) (lent : entry_rows_in entries < most) where
            total_is : total ≡ up_to (entries_all whole)
            total_is = runs.sum ∙ ap up_to (ap (entries_to t₂) read ∙ entries_all_lem)

            spent_entries : (t₄ : List ℕ) (rows : ℕ) → rows ≡ entry_rows_in entries → rows < total → t₄ ≡ replicate (length t₃) 0 → CountedAs t entries t₄ e (trees_of e (bs ++ ps)) (Err EntriesFull)
            unfolding whole
            spent_entries t₄ rows have short wrote = record {
              answer = rw (le-ltb (rows_in t) (nodes_in whole) room_all, lt-ltb (entry_rows_in entries) (entries_all whole) (omega (arith, total_is)));
              counted = λ e. absurd (cc);
              refused = λ _. zeroed t₃ t₄ (ap length runs.runs ∙ runs_length t₂ used ∙ long₂ ∙ long) wrote;
            }

            module _ (rows : ℕ) (have : rows ≡ entry_rows_in entries) (fits : total ≤ rows) where
              few_entries : entries_all whole < most
              few_entries = omega (arith, total_is)

              same_used : nodes_used t₃ ≡ nodes_used t₂
              same_used = rw runs.runs (runs_outside t₂ used 0 nodes_count (omega arith) (inl refl))

              same_length : length t₃ ≡ length t₂
              same_length = ap length runs.runs ∙ runs_length t₂ used

              same_entries : (k : ℕ) → entries_to t₃ k ≡ entries_to t₂ k
              same_entries k = rw runs.runs (runs_entries t₂ used k)

              same_root : (kind : ℕ) → kind < nodes_count → column t₃ 0 kind ≡ column t₂ 0 kind
              same_root kind low = rw runs.runs (runs_outside t₂ used 0 kind (omega arith) (inl refl))

              one_stands : (kind : ℕ) → kind < nodes_count → Standing t₃ (root_spot kind e) (tree_at whole kind)
              one_stands kind low =
                  let s : Standing t₂ (root_spot kind e) (tree_at counts kind) = grown_all.here.each kind low in
                  record {
                    here = rw (same_root kind low)
                        (shape_stands t₃ kind (column t₂ 0 kind) 0 e (tree_at whole kind)
                        (rw (← counts_at kind low) (rw runs.runs (count_like t₂ (with_runs t₂ used) (runs_like t₂ used) kind (column t₂ 0 kind) 0 e (tree_at counts kind) s.here))));
                    wide = g.some;
                    parent_used = omega arith;
                    at_root = λ _. low;
                    at_half = λ h. absurd (omega arith);
                    outer = λ h. absurd (omega arith);
                    clean = record {
                      zeros = λ k j a h. rw runs.runs (runs_outside t₂ used k j h (inr (omega (arith, same_used, read)))) ∙ s.clean.zeros k j (omega (arith, same_used)) h;
                    };
                    inside = omega (arith, s.inside, same_used, same_length);
                  }

              runs_all : (k : ℕ) → k < nodes_used t₃ → first_at t₃ (suc k) ≡ entries_to t₃ k
              runs_all k h =
                  let first : first_at t₃ (suc k) ≡ up_to (entries_to t₂ k) =
                  rw runs.runs (runs_first t₂ used k (omega (arith, same_used, read)) (omega (arith, same_used, inside_all))) in
                  first ∙ omega (arith, same_entries k, entries_most t₂ k (nodes_used t₂) (omega (arith, same_used)), entries_all_lem, few_entries)

              all_counted : CountedAs t entries t₃ e (trees_of e (bs ++ ps)) (Ok tt)
              unfolding whole
              all_counted = record {
                answer = rw (le-ltb (rows_in t) (nodes_in whole) room_all, le-ltb (entry_rows_in entries) (entries_all whole) (omega (arith, total_is)));
                counted = λ _. record {
                  stands = record { five = trees_five e (bs ++ ps); each = one_stands };
                  rows = same_used ∙ used_all;
                  entries = same_entries (nodes_used t₃) ∙ ap (entries_to t₂) same_used ∙ entries_all_lem;
                  runs = runs_all;
                  free = λ k j a h. rw runs.runs (runs_other t₂ used k j h (omega arith)) ∙ grown_all.free k j a h ∙ zero_at (row_width * k + j);
                  head_free = λ j a h.
                      rw runs.runs (runs_outside t₂ used 0 j h (inl refl)) ∙ grown_all.head_free j a h ∙ zero_at (row_width * 0 + j);
                };
                refused = λ n. absurd (n refl);
              }

-- ── the returns ──

module _ {t t₁ entries blocks pieces : List ℕ} {n m e : ℕ} {q : Bool} (a : AddedRows t t₁ e (map (block_life blocks) (count_from 1 n)) q) (long : length t₁ ≡ length t) where
  pub count_spent_blocks : {t₂ : List ℕ} → q ≡ false → t₂ ≡ replicate (length t₁) 0 → CountedTrees (rows_to_count blocks n pieces m e) t entries t₂ (Err NodesFull)
  count_spent_blocks {t₂} z wrote = record { done = λ bs ps links g. spent_blocks t blocks pieces n m e bs ps links g t₁ q a long t₂ entries z wrote }

  module _ (y : q ≡ true) {t₂ : List ℕ} {p : Bool} (b : AddedRows t₁ t₂ e (map (piece_life pieces e) (count_from 1 m)) p) (long₂ : length t₂ ≡ length t₁) where
    pub count_spent_pieces : {t₃ : List ℕ} → p ≡ false → t₃ ≡ replicate (length t₂) 0 → CountedTrees (rows_to_count blocks n pieces m e) t entries t₃ (Err NodesFull)
    count_spent_pieces {t₃} z wrote = record { done = λ bs ps links g. spent_pieces t blocks pieces n m e bs ps links g t₁ q a long y t₂ p b long₂ t₃ entries z wrote }

    module _ (z : p ≡ true) {used total rows : ℕ} {t₃ : List ℕ} (read : used ≡ nodes_used t₂) (runs : AssignedRuns t₂ t₃ used total) (lent : entry_rows_in entries < most)
        (have : rows ≡ entry_rows_in entries) where
      pub count_spent_entries : {t₄ : List ℕ} → rows < total → t₄ ≡ replicate (length t₃) 0 → CountedTrees (rows_to_count blocks n pieces m e) t entries t₄ (Err EntriesFull)
      count_spent_entries {t₄} short wrote = record {
        done = λ bs ps links g. spent_entries t blocks pieces n m e bs ps links g t₁ q a long y t₂ p b long₂ z used total t₃ entries read runs lent t₄ rows have short wrote;
      }

      pub count_all : total ≤ rows → CountedTrees (rows_to_count blocks n pieces m e) t entries t₃ (Ok tt)
      count_all fits = record {
        done = λ bs ps links g. all_counted t blocks pieces n m e bs ps links g t₁ q a long y t₂ p b long₂ z used total t₃ entries read runs lent rows have fits;
      }

pub ruleset counting = (count_spent_blocks, count_spent_pieces, count_spent_entries, count_all)
