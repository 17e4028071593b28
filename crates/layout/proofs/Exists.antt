-- Every sound ledger that fits the lent lengths has tables that stand for it, of numbers of 64 bits and bytes: so refusal 2 is never given for want of
-- an encoding. Assumes nothing.
use mathlib.Core.Path.{◌≡◌, refl, ap, sym, ◌∙◌, subst}
use mathlib.Core.Bool.{true, false, true≢false}
use mathlib.Core.Option.{Option, none, some}
use mathlib.Core.List.{List}
use Prim.Native.Nat.{ℕ, suc, ◌+◌, ◌*◌, ◌<◌}
use native.Mathlib.Omega.{arith}
use lib.ListN.{length, replicate, length-replicate}
use Rattle.lists.specs.Lists.{All, count_from}
use Rattle.lists.proofs.Lists.{all_map}
use Rattle.lists.proofs.Numbers.{and_left}
use Rattle.history.specs.Lent.{row_width}
use Rattle.history.specs.Words.{Block, only_kind}
use Rattle.history.specs.Tree as segment
use Rattle.history.specs.Tree.{entries_in, tree_at}
use Rattle.history.specs.Ledger.{Ledger, is_some}
use Rattle.history.specs.Rules.{numbered, rule23}
use Rattle.history.specs.Sound.{SoundBoard, SoundClosed, Sound, SoundTrees}
use Rattle.history.proofs.RulesLaws.{numbered_decides}
use Rattle.history.proofs.ByKind.{only_length}
use Rattle.tables.specs.Columns.{block_base, block_first}
use Rattle.segment_table.specs.Closed.{first_cell_in, Closed}
use Rattle.layout.specs.Tables.{Tables, tree_tables}
use Rattle.layout.specs.Encodes.{TreesIn}
use Rattle.layout.specs.Law.{Word, Lendable, Encoded, TablesExist}
use Rattle.layout.proofs.Lengths.{Heads, heads_fit}
use Rattle.layout.proofs.ExistsTable.{word_at}
use Rattle.layout.proofs.ExistsBlocks.{block_table, block_next_lem}
use Rattle.layout.proofs.TreeRows.{trees_entries, trees_entries_length, trees_entries_all}
use Rattle.layout.proofs.ExistsTree.{node_table, node_table_length, entry_table, entry_table_length, trees_closed, node_table_words, entry_table_words}
use Rattle.layout.proofs.ExistsBoard.{front_of, head_of, block_rows_of, tables_by, blocks_many, block_room, board_encodes, replicate_all, blocks_few, blocks_fit, board_fits}

-- ── an open index ──

-- the order column is zeros, and so are nodes and entries
pub open_exists : (l : Ledger) → SoundBoard l → Lendable l → l.trees ≡ none → Encoded l
unfolding tables_by
open_exists l s f unfinished =
    record {
      tables = t;
      encodes =
          board_encodes l s f.heads (front_of l s f) nodes entries (length-replicate l.opening.lent.nodes 0) (length-replicate l.opening.lent.entries 0)
          (subst (TreesIn t l) (sym unfinished) unordered);
      fits =
          board_fits l s f (front_of l s f) nodes entries (replicate_all l.opening.lent.nodes (omega arith))
          (replicate_all l.opening.lent.entries (omega arith));
      blank = λ e. record { nodes = zeros l.opening.lent.nodes; entries = zeros l.opening.lent.entries };
    }
  where
    nodes : List ℕ
    nodes = replicate l.opening.lent.nodes 0

    entries : List ℕ
    entries = replicate l.opening.lent.entries 0

    t : Tables
    t = tables_by l s (front_of l s f) nodes entries

    unordered : TreesIn t l none
    unordered =
        record {
          none = λ k h.
              block_next_lem l.opening.lent.blocks (head_of l (front_of l s f)) (block_rows_of l s).rows (block_room l s f.heads) k (omega (arith, blocks_many l s));
        }

    zeros : (n : ℕ) → replicate {A = ℕ} n 0 ≡ replicate (length (replicate {A = ℕ} n 0)) 0
    zeros n = ap (λ (m : ℕ). replicate m 0) (sym (length-replicate n 0))

-- ── a closed index ──

-- by rule 23 every entry is a block's number
numbered_blocks : (end kind : ℕ) (bs : List Block) (tree : segment.Tree) → rule23 end (only_kind kind bs) tree ≡ true → All (λ k. k < length bs) (entries_in tree)
unfolding rule23
numbered_blocks e kind bs tree h =
    (numbered_decides (length bs) tree).yes (rw (only_length kind bs) at (and_left (numbered (length (only_kind kind bs)) tree) _ h))

module _ (l : Ledger) (s : SoundBoard l) (f : Lendable l) where
  -- the rows of the blocks
  abbrev rows_as_blocks : List ℕ
  rows_as_blocks = block_table l.opening.lent.blocks (head_of l (front_of l s f)) (block_rows_of l s).rows

  -- the trees stand in nodes and entries
  pub closed_exists : (trees : List segment.Tree) → SoundClosed l trees → l.trees ≡ some trees → Encoded l
  unfolding tables_by count_from
  closed_exists trees c is =
      record {
        tables = t;
        encodes =
            board_encodes l s f.heads (front_of l s f) nodes entries (node_table_length l.opening.lent.nodes l.opening.end trees)
            (entry_table_length l.opening.lent.entries (first_cell_in rows_as_blocks) (trees_entries trees)) (subst (TreesIn t l) (sym is) closed);
        fits = board_fits l s f (front_of l s f) nodes entries node_words entry_words;
        blank = λ e. let no-trees : true ≡ false = sym (ap is_some is) ∙ e in absurd (true≢false no-trees);
      }
    where
      nodes : List ℕ
      nodes = node_table l.opening.lent.nodes l.opening.end trees

      entries : List ℕ
      entries = entry_table l.opening.lent.entries (first_cell_in rows_as_blocks) (trees_entries trees)

      t : Tables
      t = tables_by l s (front_of l s f) nodes entries

      h : Heads l.opening.lent
      h = heads_fit l.opening.lent f.heads

      closed : Closed (tree_tables t) l.opening.end trees
      closed =
          trees_closed rows_as_blocks l.opening.lent.nodes l.opening.lent.entries l.opening.end trees c.five
          (λ kind low. (c.each kind (omega arith)).rule_21) (omega (arith, c.nodes_fit, h.nodes)) (omega (arith, c.entries_fit, h.entries))

      node_words : All Word nodes
      node_words =
          node_table_words l.opening.lent.nodes l.opening.end trees c.five (omega (arith, s.end_most))
          (omega (arith, c.nodes_fit, f.nodes, h.nodes)) (omega (arith, c.entries_fit, f.entries))

      numbered_words : All Word (trees_entries trees)
      numbered_words =
          trees_entries_all trees
          (λ kind low. all_map (λ k p. omega (arith, blocks_many l s, blocks_few l s f))
          (numbered_blocks l.opening.end kind l.now.blocks (tree_at trees kind) (c.each kind (omega (arith, c.five))).rule_23))

      entry_words : All Word entries
      entry_words =
          entry_table_words l.opening.lent.entries (first_cell_in rows_as_blocks) (trees_entries trees)
          (omega (arith, trees_entries_length trees, c.entries_fit, f.entries)) numbered_words
          (λ k. word_at (blocks_fit l s f (front_of l s f)) (row_width * suc k + (block_base + block_first)))

-- ── every sound ledger ──

pub exists : (l : Ledger) → Sound l → Lendable l → Encoded l
exists l s f = go l.trees refl s.closed
  where
    go : (trees : Option (List segment.Tree)) → l.trees ≡ trees → SoundTrees l trees → Encoded l
    go none is c = open_exists l s.board f is
    go (some trees) is c = closed_exists l s.board f trees c is

-- they are well formed, for every call but finish and for finish
pub tables_exist : TablesExist
tables_exist = record {
  standing = exists;
  formed = λ l s f. record { ledger = l; encodes = (exists l s f).encodes; sound = s };
  for_finish = λ l s f. let e = exists l s.sound f in record { ledger = l; encodes = e.encodes; sound = s; blank = e.blank };
}
