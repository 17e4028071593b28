-- Tables that were filled from a file stand for its index. Assumes nothing.
use mathlib.Core.Path.{◌≡◌, refl, sym, ◌∙◌, ap, ap₂, subst}
use mathlib.Core.Logic.{inl, inr, ⊎_elim}
use mathlib.Core.Bool.{true, false, true≢false, false≢true}
use mathlib.Core.List.{List, [], ◌∷◌, ◌++◌}
use Prim.Native.Nat.{ℕ, zero, suc, ◌+◌, ◌*◌, ◌-◌, ◌/◌, ◌≤◌, ◌<◌, max}
use native.Mathlib.Omega.{arith}
use lib.ListN.{length, get_or, replicate, length-append, length-replicate}
use lib.Seq.{sets, length-sets}
use Rattle.std.specs.Prelude.{Some}
use Rattle.lists.specs.Lists.{All, all_nil, all_cons, pairs_nil, pairs_cons, has, count_from}
use Rattle.lists.proofs.Lists.{all_at, all_map, count_from_length}
use Rattle.lists.proofs.Numbers.{bool_cases, lt_or_le}
use Rattle.lists.proofs.Stores.{get_d_sets_out, sets_before}
use Rattle.history.specs.Lent.{row_width, entry_width, block_head, node_head, entry_head, piece_head}
use Rattle.history.specs.Words.{Block}
use Rattle.history.specs.Tree.{Tree, hole, node, no_block, block_at, node_count, entry_count, entries_in, key_in}
use Rattle.history.specs.Sound.{SoundKinds}
use Rattle.history.specs.Rules.{is_hole, rule23}
use Rattle.history.specs.File.{Nodes, absent, present, File, tree_from, end_of, rule22, trees_with, loaded_from, loaded_ledger}
use Rattle.history.proofs.TreeCounts.{entry_count_in}
use Rattle.history.proofs.RulesLaws.{numbered_decides, rule23_decides}
use Rattle.history.proofs.FileRules.{Rule21, Rule22, rule22_decides}
use Rattle.history.proofs.FileContents.{Entered, rules_enter}
use Rattle.tables.specs.Columns.{block_column, block_base, block_first, head_state, head_end, head_kinds, head_count, head_used, head_last, front_calendar, front_days}
use Rattle.block_table.specs.Blocks.{owner_at, block_of_row, blocks_of, Stored}
use Rattle.block_table.proofs.Blocks.{blocks_at, blocks_key}
use Rattle.history.proofs.ByKind.{set_same}
use Rattle.kind_mask.specs.Masks.{mask_of}
use Rattle.kind_mask.proofs.Masks.{mask_below, mask_kinds}
use Rattle.segment_table.specs.Closed.{first_cell_in, Closed}
use Rattle.segment_test.specs.Test.{lent}
use Rattle.file_scan.specs.Counts.{bytes_in}
use Rattle.layout.specs.Rows.{head_numbers, blocks_numbers, node_head_numbers, node_numbers, tree_numbers, entry_head_numbers, entry_numbers, run_numbers}
use Rattle.file_fill.specs.Fill.{bytes_of_all, first_cell_of, NodesLeft}
use Rattle.file_fill.proofs.FillingTrees.{node_numbers_length, entry_numbers_length}
use Rattle.day_table.proofs.DayLists.{days_none}
use Rattle.calendar_table.proofs.Calendars.{calendar-none}
use Rattle.layout.specs.Tables.{Tables, tables, lengths_of, head_at}
use Rattle.layout.specs.Encodes.{closed_state, Encodes}
use Rattle.layout.specs.Relations.{zeros}
use Rattle.layout.specs.Files.{headed, loaded_head, loaded_rows, LoadedTables}
use Rattle.layout.proofs.Lengths.{lent_same, fit_heads}
use Rattle.layout.proofs.Opening.{get_d_zeros, no_pieces_in}
use Rattle.history.specs.Refusals.{Answer}
use Rattle.file_load.specs.Load.{Ready, Judged, judgement}
use Rattle.file_load.proofs.OneKind.{ReadAs, read_lined}
use Rattle.file_load.proofs.Holding.{HoldsAt, written_holds, holds_left, holds_right, holds_moved, holds_part}
use Rattle.file_load.proofs.Rows.{numbers_length, bytes_length, filled_blocks, filled_stored}
use Rattle.file_load.proofs.Trees.{entries_used_lem, tree_closed}

end_is : {a b : ℕ} → Some a ≡ Some b → a ≡ b
end_is e = cc

-- ── roots ──

-- E is above 0, so there is a root
rooted : (t : Nodes) → 0 < end_of t → is_hole (tree_from t) ≡ false
unfolding tree_from
rooted absent h = absurd (omega arith)
rooted (present low high middle es l r) h = refl

some_node : (T : Tree) → is_hole T ≡ false → 0 < node_count T
unfolding node_count
some_node hole h = absurd (true≢false h)
some_node (node es l r) h = omega arith

-- a known kind alone is a set
one_sound : (kind : ℕ) → kind ≤ 4 → SoundKinds (kind ∷ [])
one_sound kind low = record { some_kind = omega arith; known = all_cons low all_nil; ascending = pairs_cons all_nil pairs_nil }

-- ── numbers ──

-- entries with the same keys
entry_numbers_same : (key key' : ℕ → ℕ) (ks : List ℕ) → All (λ k. key k ≡ key' k) ks → entry_numbers key ks ≡ entry_numbers key' ks
unfolding entry_numbers
entry_numbers_same key key' [] all_nil = refl
entry_numbers_same key key' (k ∷ ks) (all_cons e es) = ap₂ (λ (x : ℕ) (xs : List ℕ). k ∷ x ∷ xs) e (entry_numbers_same key key' ks es)

-- ── what was filled ──

-- Each table after its part of the second pass: the block rows, the head in front of them; the bytes; nodes and entries. What was
-- counted is the file's and has room, and rule 21 holds.
pub record Filled (f : File) (kind n used e : ℕ) (blocks store nodes entries rows headed-rows store' nodes' entries' : List ℕ) : Type 0 where
  pub rows_are : rows ≡ sets blocks (row_width * 1 + block_base) (blocks_numbers 0 f.blocks)
  pub bytes_are : store' ≡ sets store 0 (bytes_of_all f.blocks)
  pub tree_is : NodesLeft rows kind f.nodes nodes entries nodes' entries' (Some e)
  pub head_is : headed-rows ≡ sets rows 0 (loaded_head e kind n used)
  pub count : n ≡ length f.blocks
  pub bytes : used ≡ bytes_in f.blocks
  pub own_kind : kind ≡ f.kind
  pub known_kind : kind ≤ 4
  pub block_room : length f.blocks ≤ (length blocks - block_head) / row_width
  pub node_room : node_count (tree_from f.nodes) ≤ (length nodes - node_head) / row_width
  pub entry_room : entry_count (tree_from f.nodes) ≤ (length entries - entry_head) / entry_width
  pub byte_room : bytes_in f.blocks ≤ length store
  pub rule_21 : Rule21 f.nodes
  pub read_as : All (ReadAs f.kind) f.blocks

module _ {f : File} {kind n used e : ℕ} {blocks store nodes entries b₁ b₂ store' nodes' entries' : List ℕ}
    (F : Filled f kind n used e blocks store nodes entries b₁ b₂ store' nodes' entries') where
  abbrev bs : List Block
  bs = f.blocks

  abbrev T : Tree
  T = tree_from f.nodes

  -- ── the store ──

  store_long : length store' ≡ length store
  store_long = ap length F.bytes_are ∙ length-sets store 0 (bytes_of_all bs)

  store_holds : HoldsAt store' 0 (bytes_of_all bs)
  store_holds = subst (λ (s : List ℕ). HoldsAt s 0 (bytes_of_all bs)) (sym F.bytes_are) (written_holds store 0 (bytes_of_all bs) (omega (arith, bytes_length bs, F.byte_room)))

  -- ── nodes and entries ──

  root_there : is_hole T ≡ false
  root_there = rooted f.nodes F.rule_21.some_tick

  abbrev node_list : List ℕ
  node_list = tree_numbers kind (end_of f.nodes) T

  abbrev entry_list : List ℕ
  entry_list = run_numbers (first_cell_of b₁) T

  nodes_long : length nodes' ≡ length nodes
  nodes_long = ap length F.tree_is.node_rows_lem ∙ length-sets nodes 0 node_list

  entries_long : length entries' ≡ length entries
  entries_long = ap length F.tree_is.entry_rows_lem ∙ length-sets entries 0 entry_list

  node_list_long : length node_list ≡ row_width + row_width * node_count T
  node_list_long =
      length-append (node_head_numbers kind (node_count T)) (node_numbers kind 0 (end_of f.nodes) 0 0 T)
      ∙ omega (arith, node_numbers_length kind 0 (end_of f.nodes) 0 0 T)

  entry_list_long : length entry_list ≡ entry_head + entry_width * entry_count T
  entry_list_long =
      length-append (entry_head_numbers (entry_count T)) (entry_numbers (first_cell_of b₁) (entries_in T))
      ∙ omega (arith, entry_numbers_length (first_cell_of b₁) (entries_in T), entry_count_in T)

  node_fits : row_width * node_count T + row_width ≤ length nodes
  node_fits = omega (arith, F.node_room, some_node T root_there)

  nodes_hold : HoldsAt nodes' 0 node_list
  nodes_hold = subst (λ (s : List ℕ). HoldsAt s 0 node_list) (sym F.tree_is.node_rows_lem) (written_holds nodes 0 node_list (omega (arith, node_list_long, node_fits)))

  entry_fits : entry_head ≤ length entries → entry_head + entry_width * entry_count T ≤ length entries
  entry_fits h = omega (arith, F.entry_room)

  entries_hold : entry_head ≤ length entries → HoldsAt entries' 0 entry_list
  entries_hold h =
      subst (λ (s : List ℕ). HoldsAt s 0 entry_list) (sym F.tree_is.entry_rows_lem) (written_holds entries 0 entry_list (omega (arith, entry_list_long, entry_fits h)))

  -- ── blocks ──

  abbrev head_row : List ℕ
  head_row = head_numbers closed_state e (mask_of (kind ∷ [])) n used 0

  abbrev block_list : List ℕ
  block_list = loaded_head e kind n used ++ blocks_numbers 0 bs

  head_list_long : length (loaded_head e kind n used) ≡ block_head
  unfolding loaded_head
  head_list_long = length-append (replicate block_base 0) head_row ∙ omega (arith, length-replicate {A = ℕ} block_base 0)

  -- the head and the rows behind it were written as one list
  whole : b₂ ≡ sets blocks 0 block_list
  whole =
      let place : row_width * 1 + block_base ≡ 0 + length (loaded_head e kind n used) = omega (arith, head_list_long) in
      F.head_is
      ∙ ap (λ (u : List ℕ). sets u 0 (loaded_head e kind n used)) (F.rows_are ∙ ap (λ (i : ℕ). sets blocks i (blocks_numbers 0 bs)) place)
      ∙ sets_before blocks 0 (loaded_head e kind n used) (blocks_numbers 0 bs)

  loaded_rows_lem : b₂ ≡ sets blocks 0 (loaded_rows (loaded_from f))
  unfolding loaded_rows
  loaded_rows_lem =
      let same : block_list ≡ loaded_head (end_of f.nodes) f.kind (length bs) (length (bytes_of_all bs)) ++ blocks_numbers 0 bs =
      rw ((end_is F.tree_is.ends), F.own_kind, F.count, F.bytes, bytes_length bs) in
      whole ∙ ap (λ (v : List ℕ). sets blocks 0 v) same

  block_list_long : length block_list ≡ block_head + row_width * n
  block_list_long = length-append (loaded_head e kind n used) (blocks_numbers 0 bs) ∙ omega (arith, head_list_long, numbers_length 0 bs, F.count)

  head_long : length b₂ ≡ length blocks
  head_long = ap length whole ∙ length-sets blocks 0 block_list

  module _ (some : 0 < n) where
    block_fits : block_head + row_width * n ≤ length blocks
    block_fits = omega (arith, F.block_room, F.count)

    rows_hold : HoldsAt b₂ 0 block_list
    rows_hold = subst (λ (s : List ℕ). HoldsAt s 0 block_list) (sym whole) (written_holds blocks 0 block_list (omega (arith, block_list_long, block_fits)))

    head_hold : HoldsAt b₂ block_base head_row
    unfolding loaded_head
    head_hold =
        holds_moved (length-replicate {A = ℕ} block_base 0)
        (holds_right (replicate block_base 0) head_row (holds_left (loaded_head e kind n used) (blocks_numbers 0 bs) rows_hold))

    -- no calendar, and no listed day
    front_zero : (i : ℕ) → i < block_base → get_or b₂ i 0 ≡ 0
    unfolding loaded_head
    front_zero i h =
        let z : i ≡ 0 + i = omega arith in
        ap (λ (j : ℕ). get_or b₂ j 0) z
        ∙ (holds_left (replicate block_base 0) head_row (holds_left (loaded_head e kind n used) (blocks_numbers 0 bs) rows_hold)).says i
        (omega (arith, length-replicate {A = ℕ} block_base 0))
        ∙ get_d_zeros block_base i

    -- the head's columns
    head_column : (c : ℕ) → c < row_width → block_column b₂ 0 c ≡ get_or head_row c 0
    head_column c h = let z : row_width * 0 + (block_base + c) ≡ block_base + c = omega arith in rw z (head_hold.says c h)

    row_list : HoldsAt b₂ (row_width * 1 + block_base) (blocks_numbers 0 bs)
    row_list = holds_moved (omega (arith, head_list_long)) (holds_right (loaded_head e kind n used) (blocks_numbers 0 bs) rows_hold)

    blocks_are : blocks_of store' b₂ n ≡ bs
    blocks_are =
        ap (blocks_of store' b₂) F.count
        ∙ filled_blocks b₂ store' bs row_list (all_map read_lined F.read_as) (omega (arith, store_long, F.byte_room)) store_holds

    stored : Stored used b₂ n
    stored =
        let s : Stored (bytes_in bs) b₂ (length bs) = filled_stored b₂ store' bs row_list in
        rw (← F.bytes, ← F.count) at s

    -- the rows are of the file's kind
    owners : (link : ℕ) → 0 < link → link ≤ n → owner_at b₂ link ≡ kind
    unfolding block_of_row
    owners zero a b = absurd (omega arith)
    owners (suc k) a b =
        sym (ap (λ (x : Block). x.kind) (blocks_at store' b₂ n k no_block b))
        ∙ ap (λ (xs : List Block). (block_at xs k).kind) blocks_are
        ∙ (all_at no_block F.read_as k (omega (arith, F.count))).own
        ∙ sym F.own_kind

    -- entries carry the first cells of the table
    keys : (k : ℕ) → first_cell_of b₁ k ≡ first_cell_in b₂ k
    keys k =
        let i = row_width * suc k + (block_base + block_first) in
        sym
        (ap (λ (u : List ℕ). get_or u i 0) F.head_is
        ∙ get_d_sets_out (loaded_head e kind n used) b₁ 0 i (inr (omega (arith, head_list_long))))

    closed : entry_head ≤ length entries → Closed (lent b₂ nodes' entries') (end_of f.nodes) (trees_with kind T)
    closed h =
        tree_closed (lent b₂ nodes' entries') kind (end_of f.nodes) T (first_cell_of b₁) F.known_kind root_there F.rule_21.halves keys nodes_hold (entries_hold h)
        (omega (arith, nodes_long, node_fits)) (omega (arith, entries_long, entry_fits h))

    used_fits : used ≤ length store'
    used_fits = omega (arith, store_long, F.bytes, F.byte_room)

    -- without entries rule 23 is broken
    none_entered : entry_count T ≡ 0 → rule22 (end_of f.nodes) bs ≡ true → rule23 (end_of f.nodes) bs T ≡ true → ⊥
    unfolding has
    none_entered z a b =
        let r : Rule22 (end_of f.nodes) bs = (rule22_decides (end_of f.nodes) bs).yes a in
        let en : Entered bs T = rules_enter f.nodes bs F.rule_21 r b in
        let first : has (get_or (count_from 0 (length bs)) 0 0) (entries_in T) ≡ true = all_at 0 en.entered 0 (rw (count_from_length 0 (length bs)) r.some_block) in
        false≢true (rw (empty (entries_in T) (omega (arith, entry_count_in T))) at first)
      where
        empty : (xs : List ℕ) → length xs ≡ 0 → xs ≡ []
        empty [] h = refl
        empty (x ∷ xs) h = absurd (omega arith)

    -- ── ready to be judged ──

    pub ready : Ready (lent b₂ nodes' entries') kind e n store' T
    ready = record {
      known_kind = F.known_kind;
      owners = owners;
      room = omega (arith, head_long, block_fits);
      stored = record { inside = λ link a b. omega (arith, stored.inside link a b, used_fits) };
      rooted = root_there;
      holds = λ h. rw (end_is F.tree_is.ends) (closed (omega (arith, entries_long)));
      inside = λ h.
          let long : entry_head ≤ length entries = omega (arith, entries_long) in
          let u = entries_used_lem (lent b₂ nodes' entries') kind (end_of f.nodes) T (first_cell_of b₁) F.known_kind root_there F.rule_21.halves keys nodes_hold (entries_hold long) (omega (arith, nodes_long, node_fits)) (omega (arith, entries_long, entry_fits long)) in
          omega (arith, u, entries_long, entry_fits long);
      headless = λ h.
          rw (blocks_are, (end_is F.tree_is.ends))
          (λ a.
          ⊎_elim (λ y. absurd (none_entered (omega (arith, F.entry_room, entries_long)) a y)) (λ y. y) (bool_cases (rule23 (end_of f.nodes) bs T)));
    }

    -- so the judgement is the file's
    pub judged_is : {r : Answer (Unit {0})} → Judged (lent b₂ nodes' entries') e n r → r ≡ judgement (end_of f.nodes) bs T
    judged_is j = j.is kind store' T ready ∙ ap₂ (λ (x : ℕ) (ys : List Block). judgement x ys T) (end_is F.tree_is.ends) blocks_are

    -- ── the index ──

    module _ (pieces : List ℕ) (blocks-live : rule22 (end_of f.nodes) bs ≡ true) (entries_right : rule23 (end_of f.nodes) bs T ≡ true) where
      abbrev t : Tables
      t = tables pieces blocks store nodes entries

      abbrev t' : Tables
      t' = tables (zeros pieces) b₂ store' nodes' entries'

      -- there is an entry, so the entry table has its head
      entries_headed : entry_head ≤ length entries
      entries_headed =
          elim (lt_or_le (length entries) entry_head) [
            | inl short ↦ absurd (none_entered (omega (arith, F.entry_room)) blocks-live entries_right)
            | inr long ↦ long
          ]

      pieces_long : piece_head ≤ length (headed t').pieces
      pieces_long = omega (arith, length-replicate {A = ℕ} (max piece_head (length (zeros pieces))) 0)

      used_is : head_at (headed t') head_used ≡ length (bytes_of_all bs)
      used_is = head_column head_used (omega arith) ∙ F.bytes ∙ sym (bytes_length bs)

      count_is : head_at (headed t') head_count ≡ n
      count_is = head_column head_count (omega arith)

      kinds_is : head_at (headed t') head_kinds ≡ mask_of (kind ∷ [])
      kinds_is = head_column head_kinds (omega arith)

      used_same : head_at (headed t') head_used ≡ used
      used_same = head_column head_used (omega arith)

      encodes : Encodes (headed t') (loaded_ledger (lengths_of (headed t')) (loaded_from f))
      encodes = record {
        lengths = refl;
        heads =
            fit_heads (lengths_of (headed t'))
            (record {
              pieces = pieces_long;
              blocks = omega (arith, head_long, block_fits);
              nodes = omega (arith, nodes_long, node_fits);
              entries = omega (arith, entries_long, entries_headed);
            });
        state = head_column head_state (omega arith);
        end = head_column head_end (omega arith) ∙ (end_is F.tree_is.ends);
        mask = rw kinds_is (mask_below (kind ∷ []));
        kinds = rw kinds_is (ap (λ (k : ℕ). k ∷ []) (sym F.own_kind) ∙ sym (mask_kinds (kind ∷ []) ∙ set_same (kind ∷ []) (one_sound kind F.known_kind)));
        last = head_column head_last (omega arith);
        used = used_is;
        store = rw used_is (sym (holds_part store' 0 (bytes_of_all bs) (omega (arith, bytes_length bs, store_long, F.byte_room)) store_holds));
        count = count_is ∙ F.count;
        blocks = rw count_is (sym blocks_are);
        blocks_stored = rw (used_same, count_is) stored;
        pieces = no_pieces_in (max piece_head (length (zeros pieces))) (omega arith) store' _;
        trees = subst (λ (k : ℕ). Closed (lent b₂ nodes' entries') (end_of f.nodes) (trees_with k T)) F.own_kind (closed entries_headed);
        calendar = calendar-none b₂ (front_zero front_calendar (omega arith));
        days = days_none b₂ (front_zero front_days (omega arith));
      }

      -- the keys are the first cells of the file's blocks: every entry is one of them
      keys_are : All (λ k. first_cell_of b₁ k ≡ key_in bs k) (entries_in T)
      keys_are =
          all_map (λ k h. keys k ∙ sym (blocks_key store' b₂ n k (omega (arith, F.count))) ∙ ap (λ (xs : List Block). key_in xs k) blocks_are)
          ((numbered_decides (length bs) T).yes ((rule23_decides (end_of f.nodes) bs T).yes entries_right).numbers)

      pub loaded : LoadedTables (loaded_from f) t t'
      loaded = record {
        pieces = refl;
        blocks = loaded_rows_lem;
        store = F.bytes_are;
        nodes = F.tree_is.node_rows_lem ∙ ap (λ (k : ℕ). sets nodes 0 (tree_numbers k (end_of f.nodes) T)) F.own_kind;
        entries =
            F.tree_is.entry_rows_lem
            ∙ ap (λ (xs : List ℕ). sets entries 0 (entry_head_numbers (entry_count T) ++ xs)) (entry_numbers_same (first_cell_of b₁) (key_in bs) (entries_in T) keys_are);
        lengths = lent_same (lengths_of t') (lengths_of t) (length-replicate (length pieces) 0) head_long store_long nodes_long entries_long;
        stands = encodes;
      }
