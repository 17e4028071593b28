-- Steps of `close::close_trees`: the blocks fill the bare nodes, the sorted runs are those of the trees of all blocks, and with the runs given out again
-- the tables are those of a closed index. Assumes nothing.
use mathlib.Core.Path.{◌≡◌, refl, ap, sym, ◌∙◌, subst}
use mathlib.Core.Logic.{◌⊎◌, inl, inr}
use mathlib.Core.Bool.{Bool, true, false, cond}
use mathlib.Core.List.{List, [], ◌∷◌, map}
use Prim.Native.Nat.{ℕ, suc, ◌+◌, ◌-◌, ◌*◌, ◌/◌, ◌%◌, ◌^◌, ◌≤◌, ◌<◌}
use native.Mathlib.Omega.{arith}
use lib.ListN.{length, get_or, set, replicate, length-set, get_or-map}
use lib.Seq.{get_or-set_same, get_or-set_other}
use lib.Dec.{eqb}
use borrow.Author.Tests.{eq-eqb, ne_eqb}
use Rattle.lists.specs.Lists.{All, all_nil, all_cons, Pairs, Mem, count_from}
use Rattle.lists.proofs.Numbers.{eq_or_ne}
use Rattle.lists.proofs.Lists.{all_map, all_any, all_at, all_mem, all_of_mem, count_from_length, count_from_at}
use Rattle.lists.proofs.Counting.{count_from_below, count_from_pairs}
use Rattle.lists.proofs.Maps.{get_d_of_map, length_of_map}
use Rattle.history.specs.Lent.{row_width, entry_width, entry_head}
use Rattle.history.specs.Words.{Block, of_kind}
use Rattle.history.specs.Tree.{Tree, hole, node, mid, add_location, add_all, no_block, block_at, key_in, tree_of, trees_of, tree_at, entries_all}
use Rattle.history.proofs.TreeAdding.{add_block}
use Rattle.history.proofs.EveryList.{trees_at}
use Rattle.history.proofs.TreeOrder.{add_each}
use Rattle.tables.specs.Columns.{column, entry_column, node_min, node_max, node_left, node_right, node_first, node_entries, node_kind, nodes_count, entry_block, entry_key, entries_count}
use Rattle.segment_table.specs.Closed.{nodes_used, left_at, right_at, first_at, count_at, first_cell_in, run, Keyed, TreeAt, Closed}
use Rattle.segment_table.specs.Alone.{TreeAlone}
use Rattle.segment_tree.specs.Count.{rows_in, entries_to, all_entries, CountRow, CountAt}
use Rattle.segment_tree.specs.Runs.{up_to, LikeButRuns, AssignedRuns}
use Rattle.segment_tree.specs.Lives.{Owned, owned, owned_of, block_life}
use Rattle.segment_tree.specs.Fill.{start_at, Fillable, FillAt, Roomy, row_life, append_block, append_each, FindsNodes, Placeable, AllFilled, WrittenAll, RunsSorted, ClosedRuns, lent_tables, Closable, ClosedTrees}
use Rattle.segment_tree.proofs.NodeRows.{entries_same, entries_most}
use Rattle.segment_tree.proofs.Running.{runs_length, runs_outside, runs_like, runs_first}
use Rattle.segment_tree.proofs.Counting.{zeros_read}
use Rattle.segment_tree.proofs.ByKind.{tree_same, tree_other, trees_five, own, own_all, own-pairs, own_mem}
use Rattle.segment_tree.proofs.Presence.{new_none-count, each_present, bare, new_bare, each_bare}
use Rattle.segment_tree.proofs.Sorted.{sort_tree, sorted-length, bare_sort, sort_each, Rising, no_node, rising_each}
use Rattle.segment_tree.proofs.Writing.{run_ends, run_fits, run_same, like_self, like_trans}
use Rattle.segment_tree.proofs.SortingRuns.{runs_like_sorted, fill_sorted}

-- ── the model ──

no_life : Owned
no_life = owned 0 0 0

-- the rows of members have the kinds and the lives of the blocks of the list
lives_are_at : (blocks : List ℕ) (bs : List Block) → map (block_life blocks) (count_from 1 (length bs)) ≡ map owned_of bs → (k : ℕ) → k < length bs
    → row_life blocks k ≡ owned_of (block_at bs k)
lives_are_at blocks bs same k h =
    let read : get_or (map (block_life blocks) (count_from 1 (length bs))) k no_life ≡ block_life blocks (get_or (count_from 1 (length bs)) k 0) =
    get_d_of_map (block_life blocks) (count_from 1 (length bs)) k 0 no_life (rw (count_from_length 1 (length bs)) h) in
    let link : get_or (count_from 1 (length bs)) k 0 ≡ suc k = count_from_at 1 (length bs) k h ∙ omega arith in
    sym (ap (block_life blocks) link)
    ∙ sym read
    ∙ ap (λ (l : List Owned). get_or l k no_life) same
    ∙ get_d_of_map owned_of bs k no_block no_life h

-- the numbers of a kind's blocks
abbrev own_of : (bs : List Block) (kind : ℕ) → List ℕ → List ℕ
own_of bs kind ks = own (λ k. (block_at bs k).kind) kind ks

-- finish adds the kind's blocks in recorded order
tree_each : (kind e : ℕ) (bs : List Block) → tree_of kind e bs ≡ add_each (block_at bs) (key_in bs) e (own_of bs kind (count_from 0 (length bs))) hole
unfolding tree_of add_all add_each own count_from
tree_each kind e bs = go 0 bs hole (λ j l. let z : 0 + j ≡ j = omega arith in rw z)
  where
    go : (n : ℕ) (cs : List Block) (T : Tree) → ((j : ℕ) → j < length cs → block_at bs (n + j) ≡ get_or cs j no_block)
        → add_all (key_in bs) kind e n cs T ≡ add_each (block_at bs) (key_in bs) e (own_of bs kind (count_from n (length cs))) T
    go n [] T same = refl
    go n (c ∷ cs) T same =
        rw (← this)
        (choose (of_kind kind (block_at bs n)) (λ X. go (suc n) cs X (λ j l. let q : suc n + j ≡ n + suc j = omega arith in rw q (same (suc j) (omega arith)))))
      where
        this : block_at bs n ≡ c
        this = let z : n + 0 ≡ n = omega arith in rw z at (same 0 (omega arith))

        choose : (u : Bool) → ((X : Tree) → add_all (key_in bs) kind e (suc n) cs X ≡ add_each (block_at bs) (key_in bs) e (own_of bs kind (count_from (suc n) (length cs))) X)
            → add_all (key_in bs) kind e (suc n) cs (cond u (add_block (block_at bs) (key_in bs) e n T) T)
            ≡ add_each (block_at bs) (key_in bs) e (cond u (n ∷ own_of bs kind (count_from (suc n) (length cs))) (own_of bs kind (count_from (suc n) (length cs)))) T
        choose true rest = rest (add_block (block_at bs) (key_in bs) e n T)
        choose false rest = rest T

module _ (blocks : List ℕ) (bs : List Block) (e kind : ℕ) (same : (k : ℕ) → k < length bs → row_life blocks k ≡ owned_of (block_at bs k)) where
  -- among the blocks that go to all trees the tree of the kind takes its own
  append_at : {ks : List ℕ} (trees : List Tree) → All (λ k. k < length bs) ks → kind < length trees
      → tree_at (append_each blocks e ks trees) kind ≡ add_each (block_at bs) (λ _. 0) e (own_of bs kind ks) (tree_at trees kind)
  unfolding append_each add_each own
  append_at trees all_nil low = refl
  append_at {ks = k ∷ ks} trees (all_cons h hs) low =
      append_at (append_block blocks e k trees) hs (rw (length-set trees (row_life blocks k).kind _) low)
      ∙ ap (λ (o : Owned). add_each (block_at bs) (λ _. 0) e (own_of bs kind ks) (tree_at (taken o) kind)) (same k h)
      ∙ turn (eq_or_ne kind (block_at bs k).kind)
    where
      -- the trees, with this block in that of an owner
      taken : Owned → List Tree
      taken o = set trees o.kind (add_location (λ _. 0) 63 k o.life.created o.life.destroyed 0 e (tree_at trees o.kind))

      X : Tree
      X = add_block (block_at bs) (λ _. 0) e k (tree_at trees (block_at bs k).kind)

      turn : (kind ≡ (block_at bs k).kind) ⊎ (kind ≡ (block_at bs k).kind → ⊥)
          → add_each (block_at bs) (λ _. 0) e (own_of bs kind ks) (tree_at (set trees (block_at bs k).kind X) kind)
          ≡ add_each (block_at bs) (λ _. 0) e (cond (eqb (block_at bs k).kind kind) (k ∷ own_of bs kind ks) (own_of bs kind ks)) (tree_at trees kind)
      turn (inl q) =
          rw (eq-eqb (block_at bs k).kind kind (sym q))
          (ap (add_each (block_at bs) (λ _. 0) e (own_of bs kind ks))
          (tree_same trees (block_at bs k).kind kind X (sym q) low ∙ ap (λ (j : ℕ). add_block (block_at bs) (λ _. 0) e k (tree_at trees j)) (sym q)))
      turn (inr n) =
          rw (ne_eqb (block_at bs k).kind kind (λ q. n (sym q))) (ap (add_each (block_at bs) (λ _. 0) e (own_of bs kind ks)) (tree_other trees (block_at bs k).kind kind X n))

-- ── the tables before and after ──

-- a counted tree, with its runs, is one whose bare nodes are filled with nothing
fill_start : (blocks s es : List ℕ) (kind link lo hi : ℕ) (T : Tree) → ((k : ℕ) → k < nodes_used s → first_at s (suc k) ≡ entries_to s k) → CountAt s kind link lo hi T
    → FillAt blocks s s es kind link lo hi (bare T)
unfolding CountAt FillAt bare run
fill_start blocks s es kind link lo hi hole begins g = g
fill_start blocks s es kind link lo hi (node xs l r) begins g =
    let row : CountRow s kind link lo hi (length xs) = g.0 in
    let e : suc (link - 1) ≡ link = omega (arith, row.some) in
    let first : first_at s link ≡ start_at s link = rw e at (begins (link - 1) (omega (arith, row.some, row.used))) in (
      record {
        row = record {
          some = row.some;
          used = row.used;
          low = row.low;
          high = row.high;
          own_kind = row.own_kind;
          wide = row.wide;
          narrow = row.narrow;
          counted = refl;
        };
        fits = omega arith;
        next = omega (arith, first);
        listed = refl;
        keyed = record { key = λ j h. absurd (omega arith) };
      },
      fill_start blocks s es kind (left_at s link) lo (mid lo hi) l begins g.1,
      fill_start blocks s es kind (right_at s link) (mid lo hi) hi r begins g.2,
    )

roomy_counted : (key : ℕ → ℕ) (s : List ℕ) (kind link lo hi : ℕ) (T : Tree) → CountAt s kind link lo hi (sort_tree key T) → Roomy s link T
unfolding CountAt Roomy sort_tree
roomy_counted key s kind link lo hi hole g = tt
roomy_counted key s kind link lo hi (node xs l r) g =
    (omega (arith, g.0.counted, sorted-length key xs), roomy_counted key s kind (left_at s link) lo (mid lo hi) l g.1, roomy_counted key s kind (right_at s link) (mid lo hi) hi r g.2)

module _ (blocks s t es t' es' : List ℕ) (kind : ℕ) (like : LikeButRuns s t') (long : length es' ≡ length es) (rows : (i : ℕ) → entry_head ≤ i → get_or es' i 0 ≡ get_or es i 0)
    (starts : (k : ℕ) → k < nodes_used s → first_at t' (suc k) ≡ entries_to s k) (space : entry_head + entry_width * all_entries s ≤ length es) where
  same_used : nodes_used t' ≡ nodes_used s
  same_used = like.same 0 nodes_count (omega arith) (inl refl)

  -- a filled tree in which all is as it was counted stands in the closed tables
  tree_closed : (link lo hi : ℕ) (T : Tree) → CountAt s kind link lo hi T → FillAt blocks s t es kind link lo hi T → TreeAt (lent_tables blocks t' es') kind link lo hi T
  unfolding CountAt FillAt TreeAt
  tree_closed link lo hi hole g f = g
  tree_closed link lo hi (node xs l r) g f =
      let row : CountRow s kind link lo hi (length xs) = g.0 in
      let at : (j : ℕ) → j < row_width → (j ≡ node_first → ⊥) → column t' link j ≡ column s link j = λ j h e. like.same link j h (inr e) in
      let lefts : left_at t' link ≡ left_at s link = at node_left (omega arith) (omega arith) in
      let rights : right_at t' link ≡ right_at s link = at node_right (omega arith) (omega arith) in
      let e : suc (link - 1) ≡ link = omega (arith, row.some) in
      let first : first_at t' link ≡ start_at s link = rw e at (starts (link - 1) (omega (arith, row.some, row.used))) in
      let number : count_at t' link ≡ length xs = at node_entries (omega arith) (omega arith) ∙ row.counted in
      let cell : (i c : ℕ) → c < entry_width → entry_column es' i c ≡ entry_column es i c = λ i c h. rows (entry_head + (entry_width * i + c)) (omega arith) in
      let keyed : Keyed blocks es' (start_at s link) (length xs) = record {
        key = λ j h.
            cell (start_at s link + j) entry_key (omega arith)
            ∙ f.0.keyed.key j h
            ∙ ap (first_cell_in blocks) (sym (cell (start_at s link + j) entry_block (omega arith)));
      } in (
        record {
          some = row.some;
          used = omega (arith, row.used, same_used);
          low = at node_min (omega arith) (omega arith) ∙ row.low;
          high = at node_max (omega arith) (omega arith) ∙ row.high;
          own_kind = at node_kind (omega arith) (omega arith) ∙ row.own_kind;
          narrow = λ w. (lefts ∙ (row.narrow w).0, rights ∙ (row.narrow w).1);
          inside = rw (first, number, long) (omega (arith, row.counted, run_fits s link row.some row.used, space));
          listed = rw (first, number) (run_same es es' (start_at s link) (length xs) (λ i a z. cell i entry_block (omega arith)) ∙ f.0.listed);
          keyed = rw (first, number) keyed;
        },
        rw lefts (tree_closed (left_at s link) lo (mid lo hi) l g.1 f.1),
        rw rights (tree_closed (right_at s link) (mid lo hi) hi r g.2 f.2),
      )

-- ── the whole step ──

module _ (blocks s es : List ℕ) (n e : ℕ) (bs : List Block) (c : Closable (lent_tables blocks s es) n e bs) (lent : length es < 2 ^ 64) where
  abbrev whole : List Tree
  whole = trees_of e bs

  -- the blocks, in recorded order
  abbrev numbers : List ℕ
  numbers = count_from 0 (length bs)

  total_is : all_entries s ≡ entries_all whole
  total_is = c.counted.entries

  space : entry_head + entry_width * all_entries s ≤ length es
  space = omega (arith, total_is, c.space, c.entries_headed)

  all_below : All (λ k. k < length bs) numbers
  all_below = all_map (λ k h. omega (arith, h.1)) (count_from_below 0 (length bs))

  same_lives : (k : ℕ) → k < length bs → row_life blocks k ≡ owned_of (block_at bs k)
  same_lives = lives_are_at blocks bs c.lives_are

  -- ── a kind ──

  module _ (kind : ℕ) (low : kind < nodes_count) where
    abbrev root : ℕ
    root = column s 0 kind

    counted_here : CountAt s kind root 0 e (tree_at whole kind)
    counted_here = (c.counted.stands.each kind low).here

    -- the tree with each of its blocks at the end of its runs
    abbrev recorded : Tree
    recorded = add_each (block_at bs) (λ _. 0) e (own_of bs kind numbers) hole

    -- the tree of finish has the same nodes, and every run sorted
    whole_is : tree_at whole kind ≡ sort_tree (key_in bs) recorded
    unfolding sort_tree
    whole_is = trees_at e bs kind (omega arith) ∙ tree_each kind e bs ∙ sym (sort_each (key_in bs) (block_at bs) e (own_of bs kind numbers) hole)

    bare_at : tree_at (map bare whole) kind ≡ bare recorded
    unfolding bare
    bare_at = get_or-map bare whole kind hole ∙ ap bare whole_is ∙ bare_sort (key_in bs) recorded

    rises : Rising (length bs) recorded
    rises =
        let from : All (λ k. 0 ≤ k) numbers = all_any numbers (λ k. omega arith) in
        let ordered : Pairs (λ x y. x < y) numbers = count_from_pairs 0 (length bs) (λ i j a b c. b) in
        rising_each (block_at bs) e (length bs) 0 hole (omega arith) (own_all (λ k. (block_at bs k).kind) kind from) (own_all (λ k. (block_at bs k).kind) kind all_below)
        (own-pairs (λ k. (block_at bs k).kind) kind ordered) no_node

    fills : tree_at (append_each blocks e numbers (map bare whole)) kind ≡ recorded
    fills =
        append_at blocks bs e kind same_lives (map bare whole) all_below (rw (length_of_map bare whole, trees_five e bs) low)
        ∙ ap (add_each (block_at bs) (λ _. 0) e (own_of bs kind numbers)) bare_at
        ∙ each_bare (block_at bs) (λ _. 0) e (own_of bs kind numbers) recorded refl

    filling_here : FillAt blocks s s es kind root 0 e (tree_at (map bare whole) kind)
    filling_here =
        let is : tree_at (map bare whole) kind ≡ bare (tree_at whole kind) = bare_at ∙ sym (ap bare whole_is ∙ bare_sort (key_in bs) recorded) in
        rw is (fill_start blocks s es kind root 0 e (tree_at whole kind) c.counted.runs counted_here)

    roomy_here : Roomy s root (tree_at (append_each blocks e numbers (map bare whole)) kind)
    roomy_here = rw fills (roomy_counted (key_in bs) s kind root 0 e recorded (rw whole_is at counted_here))

  -- ── the blocks ──

  kind_low : (k : ℕ) → k < length bs → (block_at bs k).kind < nodes_count
  kind_low k h = all_at no_block c.known k h

  there_are : All (Placeable blocks e (map bare whole)) numbers
  there_are = all_of_mem numbers (λ k mem. let h : k < length bs = all_mem all_below mem in record {
    known = omega (arith, ap (λ (o : Owned). o.kind) (same_lives k h), kind_low k h);
    finds = subst (λ (o : Owned). FindsNodes 63 k o.life 0 e (tree_at (map bare whole) o.kind)) (sym (same_lives k h))
        (rw (bare_at (block_at bs k).kind (kind_low k h)) (found k h mem));
  })
    where
      found : (k : ℕ) → (h : k < length bs) → Mem k numbers → FindsNodes 63 k (owned_of (block_at bs k)).life 0 e (bare (recorded (block_at bs k).kind (kind_low k h)))
      found k h mem =
          let kind : ℕ = (block_at bs k).kind in
          let own : Tree = recorded kind (kind_low k h) in
          new_none-count k 63 (block_at bs k).created (block_at bs k).destroyed 0 e (bare own)
          (new_bare 63 (block_at bs k).created (block_at bs k).destroyed 0 e own
          ∙ all_mem (each_present (block_at bs) (λ _. 0) e (own_of bs kind numbers) hole) (own_mem (λ j. (block_at bs j).kind) mem))

  module _ (t₁ es₁ : List ℕ) (w : WrittenAll blocks s es t₁ es₁ e 0 n) where
    fillable : Fillable s s es
    fillable = record { like = like_self s; long = refl; inside = (c.counted.stands.each 0 (omega arith)).inside; space = space; few = omega (arith, space) }

    filled_all : AllFilled blocks s s es t₁ es₁ e (append_each blocks e numbers (map bare whole))
    filled_all =
        (rw c.many at w).done s (map bare whole) c.small fillable
        (record { five = length_of_map bare whole ∙ trees_five e bs; each = filling_here }) there_are (record { each = roomy_here })

    filled_kind : (kind : ℕ) (low : kind < nodes_count) → FillAt blocks s t₁ es₁ kind (column s 0 kind) 0 e (recorded kind low)
    filled_kind kind low = rw (fills kind low) at (filled_all.here.each kind low)

    module _ (used total : ℕ) (t₂ es₂ es₃ : List ℕ) (read : used ≡ nodes_used t₁) (closes : ClosedRuns t₁ es₁ t₂ es₂ used total) (head : es₃ ≡ set es₂ (row_width * 0 + entries_count) total) where
      inside_all : nodes_used s ≤ rows_in s
      inside_all = (c.counted.stands.each 0 (omega arith)).inside

      runs : AssignedRuns t₁ t₂ used total
      runs = closes.assigned

      used_same : nodes_used t₁ ≡ nodes_used s
      used_same = w.like.same 0 nodes_count (omega arith) (inl refl)

      sums_same : (k : ℕ) → entries_to t₁ k ≡ entries_to s k
      sums_same k = entries_same s t₁ k (λ i a b. w.like.same i node_entries (omega arith) (inr (omega arith)))

      like_all : LikeButRuns s t₂
      like_all = like_trans s t₁ t₂ w.like (rw runs.runs (runs_like t₁ used))

      long_nodes : length t₂ ≡ length s
      long_nodes = ap length runs.runs ∙ runs_length t₁ used ∙ w.nodes_long

      sorted_long : length es₂ ≡ length es
      sorted_long = closes.entries_long ∙ w.entries_long

      long_entries : length es₃ ≡ length es
      long_entries = ap length head ∙ length-set es₂ (row_width * 0 + entries_count) total ∙ sorted_long

      -- the sorted runs, by the counts that there were
      in_order : RunsSorted s es₁ es₂ (nodes_used s)
      in_order =
          let u : used ≡ nodes_used s = read ∙ used_same in
          let o : RunsSorted t₁ es₁ es₂ used = closes.in_order (rw (u, sums_same (nodes_used s), w.entries_long) space) in
          runs_like_sorted s t₁ es₁ es₂ (nodes_used s) sums_same (λ k. w.like.same k node_entries (omega arith) (inr (omega arith))) (rw u at o)

      filled-whole : (kind : ℕ) → kind < nodes_count → FillAt blocks s t₁ es₂ kind (column s 0 kind) 0 e (tree_at whole kind)
      filled-whole kind low =
          rw (whole_is kind low)
          (fill_sorted blocks s t₁ es₁ es₂ kind (key_in bs) (length bs) c.cells_are in_order (column s 0 kind) 0 e (recorded kind low)
          (rw (whole_is kind low) at (counted_here kind low)) (rises kind low) (filled_kind kind low))

      few_all : (k : ℕ) → k ≤ nodes_used s → up_to (entries_to s k) ≡ entries_to s k
      few_all k h = omega (arith, entries_most s k (nodes_used s) h, space)

      starts : (k : ℕ) → k < nodes_used s → first_at t₂ (suc k) ≡ entries_to s k
      starts k h =
          let first : first_at t₂ (suc k) ≡ up_to (entries_to t₁ k) =
          rw runs.runs (runs_first t₁ used k (omega (arith, read, used_same)) (omega (arith, w.nodes_long, inside_all))) in
          first ∙ ap up_to (sums_same k) ∙ few_all k (omega arith)

      total_all : total ≡ entries_all whole
      total_all =
          let u : used ≡ nodes_used s = read ∙ used_same in
          runs.sum ∙ ap up_to (ap (entries_to t₁) u ∙ sums_same (nodes_used s)) ∙ few_all (nodes_used s) (omega arith) ∙ total_is

      entry_rows_lem : (i : ℕ) → entry_head ≤ i → get_or es₃ i 0 ≡ get_or es₂ i 0
      entry_rows_lem i h = rw head (get_or-set_other es₂ (row_width * 0 + entries_count) i total 0 (omega arith))

      one_closed : (kind : ℕ) → kind < nodes_count → TreeAt (lent_tables blocks t₂ es₃) kind (column t₂ 0 kind) 0 e (tree_at whole kind)
      one_closed kind low =
          let root_same : column t₂ 0 kind ≡ column s 0 kind = like_all.same 0 kind (omega arith) (inl refl) in
          rw root_same
          (tree_closed blocks s t₁ es₂ t₂ es₃ kind like_all (long_entries ∙ sym sorted_long) entry_rows_lem starts (rw sorted_long space) (column s 0 kind) 0 e (tree_at whole kind)
          (counted_here kind low) (filled-whole kind low))

      all_closed : Closed (lent_tables blocks t₂ es₃) e (trees_of e bs)
      unfolding entries_to
      all_closed =
          let used_all : nodes_used t₂ ≡ nodes_used s = like_all.same 0 nodes_count (omega arith) (inl refl) in
          record {
            five = trees_five e bs;
            stands = one_closed;
            all_rows_lem = used_all ∙ c.counted.rows;
            room = omega (arith, used_all, long_nodes, inside_all, c.nodes_headed);
            all_entries_lem = rw head (get_or-set_same es₂ (row_width * 0 + entries_count) total 0 (omega (arith, sorted_long, c.entries_headed)) ∙ total_all);
            consecutive = record {
              begins = λ h. starts 0 (omega (arith, used_all));
              follows = λ link a h.
                  let e : suc (link - 1) ≡ link = omega arith in
                  let mine : first_at t₂ link ≡ start_at s link = rw e at (starts (link - 1) (omega (arith, used_all))) in
                  let counts : count_at t₂ link ≡ count_at s link = like_all.same link node_entries (omega arith) (inr (omega arith)) in
                  starts link (omega (arith, used_all)) ∙ omega (arith, run_ends s link a);
            };
          }

      -- ── nothing besides ──

      -- a row that is not in use was zeros and is
      row_alone : (k j : ℕ) → nodes_used s < k → j < row_width → column t₂ k j ≡ 0
      row_alone k j past h =
          let runs_same : column t₂ k j ≡ column t₁ k j = rw runs.runs (runs_outside t₁ used k j h (inr (omega (arith, read, used_same)))) in
          let written_same : column t₁ k j ≡ column s k j = elim (eq_or_ne j node_first) [ inl q ↦ rw q (filled_all.beyond.next k past) | inr q ↦ w.like.same k j h (inr q) ] in
          runs_same ∙ written_same ∙ (c.counted.stands.each 0 (omega arith)).clean.zeros k j past h

      all_alone : es ≡ replicate (length es) 0 → TreeAlone t₂ es₃ (trees_of e bs)
      all_alone zeros =
          let zero_at : (i : ℕ) → get_or es i 0 ≡ 0 = λ i. ap (λ (l : List ℕ). get_or l i 0) zeros ∙ zeros_read (length es) i in
          record {
            node_free = λ k j a h. like_all.same k j h (inr (omega arith)) ∙ c.counted.free k j a h;
            node_head_lem = λ j a h. like_all.same 0 j h (inl refl) ∙ c.counted.head_free j a h;
            nodes_rest = λ i h.
                let at : row_width * (i / row_width) + i % row_width ≡ i = omega arith in
                rw at at (row_alone (i / row_width) (i % row_width) (omega (arith, c.counted.rows)) (omega arith));
            entry_head_lem = λ i a h.
                ap (λ (l : List ℕ). get_or l i 0) head
                ∙ get_or-set_other es₂ (row_width * 0 + entries_count) i total 0 (omega arith)
                ∙ in_order.rest i (inl h)
                ∙ filled_all.beyond.outside i (inl h)
                ∙ zero_at i;
            entries_rest = λ i h.
                let past : entry_head + entry_width * all_entries s ≤ i = omega (arith, total_is) in
                entry_rows_lem i (omega arith) ∙ in_order.rest i (inr past) ∙ filled_all.beyond.outside i (inr past) ∙ zero_at i;
          }

-- ── the return ──

pub closed_trees : {blocks s es t₁ es₁ t₂ es₂ es₃ : List ℕ} {n e used total : ℕ} → length es < 2 ^ 64
    → WrittenAll blocks s es t₁ es₁ e 0 n → used ≡ nodes_used t₁ → ClosedRuns t₁ es₁ t₂ es₂ used total
    → es₃ ≡ set es₂ (row_width * 0 + entries_count) total → ClosedTrees (lent_tables blocks s es) (lent_tables blocks t₂ es₃) n e
closed_trees {blocks} {s} {es} {t₁} {es₁} {t₂} {es₂} {es₃} {n} {e} {used} {total} lent w read closes head = record {
  done = λ bs c. all_closed blocks s es n e bs c lent t₁ es₁ w used total t₂ es₂ es₃ read closes head;
  alone = λ bs c zeros. all_alone blocks s es n e bs c lent t₁ es₁ w used total t₂ es₂ es₃ read closes head zeros;
}
