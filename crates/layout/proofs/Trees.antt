-- What the tables of a closed index say of a kind's tree and of the blocks that are live at a tick. Assumes nothing.
use mathlib.Core.Path.{◌≡◌, refl, ◌∙◌}
use mathlib.Core.Bool.{true, cond, false≢true}
use mathlib.Core.Option.{Option, none, some}
use mathlib.Core.List.{List}
use Prim.Native.Nat.{ℕ, ◌<◌, ◌≤◌}
use native.Mathlib.Omega.{arith}
use lib.ListN.{length}
use Rattle.lists.specs.Lists.{All, count}
use Rattle.lists.proofs.Lists.{all_map, all_of_map}
use Rattle.history.specs.Words.{Block, live_of, own_life, only_kind}
use Rattle.history.specs.Tree.{Tree, tree_at, block_at, key_in, entries_in}
use Rattle.history.specs.Find.{path}
use Rattle.history.specs.Rules.{sorted, Apart}
use Rattle.history.specs.Ledger.{Ledger, finished, is_some}
use Rattle.history.specs.Sound.{Sound, SoundTrees, SoundClosed}
use Rattle.history.proofs.RulesLaws.{rule23_decides, numbered_decides}
use Rattle.history.proofs.ByKind.{own-ends, own-live, only_at, only_length, only_key}
use Rattle.history.proofs.FindMet.{path-met}
use Rattle.tables.specs.Columns.{column, head_count}
use Rattle.block_table.proofs.Blocks.{blocks_key}
use Rattle.segment_table.specs.Closed.{TreeAt, Closed, first_cell_in}
use Rattle.layout.specs.Tables.{Tables, head_at, tree_tables}
use Rattle.layout.specs.Encodes.{Encodes, TreesIn}

-- its trees, with what is known of the one of a kind
pub record TreeKnown (t : Tables) (l : Ledger) (kind : ℕ) : Type 0 where
  pub trees : List Tree
  pub is : l.trees ≡ some trees
  -- it stands at the kind's root
  pub stood : TreeAt (tree_tables t) kind (column t.nodes 0 kind) 0 l.opening.end (tree_at trees kind)
  pub some_tick : 0 < l.opening.end
  pub order : sorted (key_in l.now.blocks) (tree_at trees kind) ≡ true
  -- the first cells of the blocks that it lists stand in the block table
  pub keys : All (λ j. key_in l.now.blocks j ≡ first_cell_in t.blocks j) (entries_in (tree_at trees kind))
  -- the way down to a tick meets each live block of the kind once, and no other
  pub met : (tick k : ℕ) → tick < l.opening.end
      → count k (path tick 0 l.opening.end (tree_at trees kind)) ≡ cond (live_of kind tick (block_at l.now.blocks k)) 1 0
  pub apart : Apart l.now.blocks

module _ (t : Tables) (l : Ledger) (e : Encodes t l) (s : Sound l) (kind : ℕ) (low : kind ≤ 4) where
  abbrev bs : List Block
  bs = l.now.blocks

  -- no block of the kind outlives the index
  ends : All (λ (b : Block). b.destroyed ≤ l.opening.end) (only_kind kind bs)
  unfolding only_kind
  ends = all_of_map (own_life kind) (all_map (λ b h. omega (arith, own-ends kind b, h.by_end)) s.board.blocks)

  known : (trees : List Tree) → l.trees ≡ some trees → Closed (tree_tables t) l.opening.end trees → SoundClosed l trees → TreeKnown t l kind
  known trees is closed sound =
      let own = sound.each kind low in
      let tree = tree_at trees kind in
      let rule = (rule23_decides l.opening.end (only_kind kind bs) tree).yes own.rule_23 in
      let numbers : All (λ j. j < length bs) (entries_in tree) = (numbered_decides (length bs) tree).yes (rw (only_length kind bs) at rule.numbers) in
      record {
        trees = trees;
        is = is;
        stood = closed.stands kind (omega arith);
        some_tick = omega (arith, s.board.some_tick);
        order = rw (only_key kind bs) at rule.order;
        keys = all_map (λ j h. rw e.blocks (blocks_key t.store t.blocks (head_at t head_count) j (omega (arith, e.count)))) numbers;
        met = λ tick k before.
            path-met l.opening.end (only_kind kind bs) tree own.rule_21 own.rule_23 ends tick k before
            ∙ rw (only_at kind bs k, own-live kind tick (block_at bs k));
        apart = sound.rule_24;
      }

  pub tree_known : finished l ≡ true → TreeKnown t l kind
  tree_known done = go l.trees refl done e.trees s.closed
    where
      go : (x : Option (List Tree)) → l.trees ≡ x → is_some x ≡ true → TreesIn t l x → SoundTrees l x → TreeKnown t l kind
      go none p q a b = absurd (false≢true q)
      go (some trees) p q a b = known trees p a b
