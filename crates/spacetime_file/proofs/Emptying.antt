-- Files that cannot be loaded again: of an empty index, and of one whose blocks all have no life. Assumes nothing.
use mathlib.Core.Path.{◌≡◌, refl, sym, ap, ◌∙◌, subst}
use mathlib.Core.Logic.{⊎_elim}
use mathlib.Core.Bool.{true, false, true≢false}
use mathlib.Core.List.{List, [], ◌∷◌, ◌++◌, flatten, flat_map, append-nil}
use Prim.Native.Nat.{ℕ, ◌+◌, ◌≤◌, ◌<◌}
use native.Mathlib.Omega.{arith}
use lib.ListN.{length, take, drop}
use borrow.Author.Tests.{le-ltb}
use Rattle.lists.specs.Lists.{All, all_nil, all_cons, here, has, count_from, sum_of}
use Rattle.lists.proofs.Lists.{all_mem}
use Rattle.lists.proofs.Numbers.{lt_or_le, bool_cases, decided}
use Rattle.lists.proofs.Counting.{has_decides, all_count_from}
use Rattle.history.specs.Words.{Block, all_kinds, only_kind, own_life}
use Rattle.history.specs.Lent.{Lent, node_rows}
use Rattle.history.specs.Tree.{Tree, block_at, node_count, entries_in}
use Rattle.history.specs.Ledger.{Ledger}
use Rattle.history.specs.Reads.{tree_in, block_by}
use Rattle.history.specs.Refusals.{Answer, accepted, refused}
use Rattle.history.specs.File.{file_of, Read, got, fault, onward, read_file, File, Loaded, load, bytes_of, node_bytes, nodes_of, file_bytes, file_part, file_by, contents, those_with, written, map_tree, place_in, rule20, rule22, ◌>>=◌}
use Rattle.history.specs.Rules.{every, is_hole}
use Rattle.history.specs.Sound.{none_of}
use Rattle.history.proofs.ByKind.{only_length, only_at, own_same, own-lives}
use Rattle.history.proofs.RulesLaws.{numbered_decides, rule23_decides}
use Rattle.history.proofs.TreeCounts.{entry_count_in}
use Rattle.history.proofs.FileReads.{number_cut}
use Rattle.history.proofs.FileRenumbered.{map_tree_same}
use Rattle.history.proofs.FileRules.{rule20_decides, Rule20}
use Rattle.history.proofs.FileIntervals.{tree_from-nodes_of}
use Rattle.history.proofs.FileKept.{entered_lives, written-rule21}
use Rattle.history.proofs.FileLoad.{load_fault, load_room, load_blocks, file_some, file_none, read_written}
use Rattle.history.proofs.FileReloaded.{index_fits}
use Rattle.history.proofs.FileSound.{file_only}
use Rattle.layout.specs.Tables.{Tables, lengths_of}
use Rattle.layout.specs.Files.{WrittenBy, LoadLeaves, LoadedBy, position_of, after_fault}
use Rattle.spacetime_file.specs.Law.{ClosedIn, Lives, EmptyFiles}
use Rattle.spacetime_file.proofs.Closed.{KindIn, kind_in, trees_sound, file_written, file_bytes_lem}
use Rattle.spacetime_file.proofs.Saving.{stands_at}

-- ── faults ──

-- a fault is answered with its number
pub fault_answered : {file : List ℕ} {at : ℕ} {t t' : Tables} {answer : Answer ℕ} (n : ℕ) → load (lengths_of t) file at ≡ fault n → LoadedBy file at t t' answer
    → (answer ≡ refused n) × (t' ≡ after_fault n t)
unfolding position_of
fault_answered {t} {t'} n e d = (d.answered ∙ ap position_of e, subst (λ (r : Read Loaded). LoadLeaves r t t') e d.left)

-- ── no bytes ──

no_part : (t : Tables) (l : Ledger) → ClosedIn t l → (kind : ℕ) → kind ≤ 4 → none_of kind l.now.blocks ≡ true → file_part l kind ≡ []
no_part t l c kind low none =
    let no_node : is_hole (tree_in l kind) ≡ true = ((trees_sound c).each kind low).rooted ∙ none in
    file_none kind l.opening.end l.now.blocks (tree_in l kind) no_node

no_parts : (l : Ledger) {ks : List ℕ} → All (λ kind. file_part l kind ≡ []) ks → flat_map (file_part l) ks ≡ []
unfolding flat_map
no_parts l all_nil = refl
no_parts l (all_cons p ps) = rw (p, no_parts l ps) refl

none-empty : (kind : ℕ) {bs : List Block} → bs ≡ [] → none_of kind bs ≡ true
unfolding every
none-empty kind e = rw e refl

nothing_written : (t : Tables) (l : Ledger) → ClosedIn t l → l.now.blocks ≡ [] → (out out' : List ℕ) (wrote : Answer ℕ) → WrittenBy t out out' wrote
    → (wrote ≡ accepted 0) × (out' ≡ out)
nothing_written t l c none out out' wrote w =
    let no_bytes : file_by l ≡ [] = no_parts l {ks = all_kinds} (all_count_from 0 5 (λ kind from below. no_part t l c kind (omega arith) (none-empty kind none))) in
    let f = file_written c w (rw no_bytes (omega arith)) in
    (f.0 ∙ (rw no_bytes refl), f.1 ∙ (rw no_bytes refl))

read_end : (file : List ℕ) (at : ℕ) → length file ≤ at → read_file file at ≡ fault 17
unfolding read_file ◌>>=◌ onward
read_end file at h = rw (number_cut 1 file at (omega arith)) refl

-- ── blocks of no life alone ──

nil_has : (ks : List ℕ) → those_with [] ks ≡ []
unfolding those_with has
nil_has [] = refl
nil_has (k ∷ ks) = nil_has ks

none_has : (es ks : List ℕ) → es ≡ [] → those_with es ks ≡ []
none_has es ks e = subst (λ (x : List ℕ). those_with x ks ≡ []) (sym e) (nil_has ks)

-- every entry is a block's that has a life
no_entries : (es : List ℕ) (n : ℕ) → All (λ k. k < n) es → ((k : ℕ) → k < n → has k es ≡ false) → es ≡ []
no_entries [] n below none = refl
no_entries (x ∷ xs) n below none =
    let less = all_mem below (here refl) in
    let there = decided (has x (x ∷ xs)) (has_decides x (x ∷ xs)) (here refl) in
    absurd (true≢false (sym there ∙ none x less))

module _ {t : Tables} {l : Ledger} {kind : ℕ} (c : KindIn t l kind) (lifeless : (k : ℕ) → Lives l kind k → ⊥) where
  -- the blocks as the kind sees them
  abbrev bs : List Block
  bs = only_kind kind l.now.blocks

  abbrev tree : Tree
  tree = tree_in l kind

  -- none of them has a life
  dead : (k : ℕ) → k < length bs → (block_at bs k).destroyed ≤ (block_at bs k).created
  dead k less =
      ⊎_elim
      (λ lives.
      let at-k = only_at kind l.now.blocks k in
      let same : (block_by l k).kind ≡ kind = own-lives kind (block_by l k) (own_life kind (block_by l k)).created (rw at-k at lives) in
      let ticks : (block_by l k).created < (block_by l k).destroyed = rw (at-k ∙ own_same kind (block_by l k) same) at lives in
      absurd (lifeless k (record { number = omega (arith, only_length kind l.now.blocks); same_kind = same; ticks = omega arith })))
      (λ h. h) (lt_or_le (block_at bs k).created (block_at bs k).destroyed)

  unlisted : (k : ℕ) → k < length bs → has k (entries_in tree) ≡ false
  unlisted k less =
      entered_lives kind l.opening.end bs tree c.can k less ∙ le-ltb (block_at bs k).created (block_at bs k).destroyed (dead k less)

  no_entry : entries_in tree ≡ []
  no_entry =
      no_entries (entries_in tree) (length bs)
      ((numbered_decides (length bs) tree).yes ((rule23_decides l.opening.end bs tree).yes c.can.rule_23).numbers) unlisted

  none_written : written bs tree ≡ []
  none_written = none_has (entries_in tree) (count_from 0 (length bs)) no_entry

  same_tree : (f : ℕ → ℕ) → map_tree f tree ≡ tree
  same_tree f = map_tree_same f tree (rw no_entry all_nil)

  -- what the file says
  abbrev said : File
  said = record { kind = kind; blocks = []; nodes = nodes_of 0 l.opening.end tree }

  says : contents kind l.opening.end bs tree ≡ said
  unfolding contents
  says = rw (none_written, same_tree (place_in [])) refl

  part_is : file_part l kind ≡ file_of kind l.opening.end bs tree
  part_is = sym (file_only kind l.opening.end l.now.blocks tree c.can)

  file_says : file_part l kind ≡ file_bytes said
  file_says = part_is ∙ file_some kind l.opening.end bs tree c.can.rooted ∙ ap file_bytes says

  lifeless_file : file_part l kind ≡ bytes_of 1 kind ++ (bytes_of 8 0 ++ node_bytes (nodes_of 0 l.opening.end tree))
  unfolding file_bytes flatten flat_map
  lifeless_file =
      file_says
      ∙ ap (λ (xs : List ℕ). bytes_of 1 kind ++ (bytes_of 8 0 ++ xs)) (append-nil (node_bytes (nodes_of 0 l.opening.end tree)))

  -- room for the nodes is room for all
  lifeless_room : (n : Lent) → node_count tree ≤ node_rows n → rule20 n said ≡ true
  unfolding sum_of
  lifeless_room n h =
      decided (rule20 n said) (rule20_decides n said)
      (record {
        blocks = omega arith;
        nodes = rw (tree_from-nodes_of 0 l.opening.end tree) h;
        entries = rw (tree_from-nodes_of 0 l.opening.end tree, entry_count_in tree, no_entry) (omega arith);
        bytes = omega arith;
      })

  lifeless_full : (n : Lent) → node_rows n < node_count tree → rule20 n said ≡ false
  lifeless_full n h =
      ⊎_elim
      (λ e.
      let room : Rule20 n said = (rule20_decides n said).yes e in
      let nodes : node_count tree ≤ node_rows n = rw (tree_from-nodes_of 0 l.opening.end tree) at room.nodes in
      absurd (omega arith))
      (λ e. e) (bool_cases (rule20 n said))

  no_block_lem : (e : ℕ) → rule22 e [] ≡ false
  unfolding rule22
  no_block_lem e = refl

  module _ (n : Lent) (file : List ℕ) (at : ℕ) (e : take (length (file_part l kind)) (drop at file) ≡ file_part l kind) where
    abbrev part : List ℕ
    part = file_of kind l.opening.end bs tree

    lifeless_read : read_file file at ≡ got said (at + length part)
    lifeless_read =
        let same : take (length part) (drop at file) ≡ part = rw part_is at e in
        let s = stands_at file part at (file_bytes_lem kind l.opening.end bs tree c.can.rooted) same in
        subst (λ (p : ℕ). read_file file p ≡ got said (p + length part)) s.place
        (subst (λ (f : List ℕ). read_file f (length s.before) ≡ got said (length s.before + length part)) (sym s.whole)
        (read_written kind l.opening.end bs tree c.can.rooted (index_fits kind l.opening.end bs tree c.can) s.before s.behind
        ∙ ap (λ (f : File). got f (length s.before + length part)) says))

    -- 20
    lifeless_no_room : node_rows n < node_count tree → load n file at ≡ fault 20
    lifeless_no_room h = load_room n file at said _ lifeless_read (lifeless_full n h)

    -- 22
    lifeless_load : node_count tree ≤ node_rows n → load n file at ≡ fault 22
    lifeless_load room =
        load_blocks n file at said _ lifeless_read (lifeless_room n room) (rw (same_tree (place_in (written bs tree))) at (written-rule21 kind l.opening.end bs tree c.can))
        (no_block_lem _)

-- ── all of it ──

pub empty_files : EmptyFiles
unfolding after_fault
empty_files = record {
  no_part = no_part;
  nothing = nothing_written;
  at_end = λ file at t t' answer past d. fault_answered 17 (load_fault (lengths_of t) file at 17 (read_end file at past)) d;
  lifeless = λ t l slices c kind some_block none. lifeless_file (kind_in slices c kind some_block) none;
  refused_22 = λ t l slices c kind some_block none file at same u u' answer room d.
      fault_answered 22 (lifeless_load (kind_in slices c kind some_block) none (lengths_of u) file at same room) d;
  refused_20 = λ t l slices c kind some_block none file at same u u' answer full d.
      fault_answered 20 (lifeless_no_room (kind_in slices c kind some_block) none (lengths_of u) file at same full) d;
}
