-- The walk shows rule 24 of a kind's blocks: the tables of a closed index as the laws have them. Assumes nothing.
use mathlib.Core.Path.{◌≡◌, refl, sym, ◌∙◌, ap}
use mathlib.Core.Logic.{◌⊎◌, inl, inr}
use mathlib.Core.Bool.{Bool, true, false, cond}
use mathlib.Core.List.{List, []}
use Prim.Native.Nat.{ℕ, zero, suc, ◌-◌, ◌≤◌, ◌<◌}
use native.Mathlib.Omega.{arith}
use lib.ListN.{length}
use lib.Dec.{leb, ltb, eqb}
use borrow.Author.Tests.{ltb-true}
use Rattle.lists.specs.Lists.{Mem, count}
use Rattle.lists.proofs.Numbers.{lt_or_le, eq_or_ne, and_right, decided}
use Rattle.lists.proofs.Lists.{all_map, all_of_at, pairs_at}
use Rattle.lists.proofs.Counting.{mem_count, not_mem_nil}
use Rattle.history.specs.Words.{Block, line_of, life, live, only_kind, Holds}
use Rattle.history.specs.Tree.{Tree, tree_at, no_block, block_at, key_in, widths}
use Rattle.history.specs.Find.{path}
use Rattle.history.specs.Rules.{halved, rule23, Apart}
use Rattle.history.proofs.RulesLaws.{Rule23, rule23_decides, numbered_decides}
use Rattle.history.proofs.FindMet.{path-met}
use Rattle.history.proofs.TreePath.{live-none}
use Rattle.tables.specs.Columns.{column, nodes_count}
use Rattle.apart_laws.specs.Ticks.{DestroyedBy}
use Rattle.apart_laws.specs.Ruled.{NoneEmpty}
use Rattle.apart_laws.proofs.Parting.{right_law}
use Rattle.slots.specs.declared.Slots.{Slots}
use Rattle.slots.specs.Steps.{slots_of}
use Rattle.block_table.specs.Blocks.{owner_at}
use Rattle.ordering.specs.Apart.{HoldsAt, Clash}
use Rattle.segment_table.specs.Closed.{Tables, first_cell_in}
use Rattle.segment_walk.specs.declared.walk.Node.{Node}
use Rattle.segment_walk.specs.Walking.{root_at}
use Rattle.segment_walk.proofs.Agreeing.{sorted_agree}
use Rattle.segment_test.specs.Test.{lent, owner_in, destroyed_in, BlockRows, ClosedTrees}
use Rattle.segment_test.specs.Parts.{own_destroyed, OwnRows, TreeStands}
use Rattle.segment_test.proofs.Owning.{own-rows}
use Rattle.segment_test.proofs.Ruling.{RuledAt, stands_ruled}
use Rattle.segment_test.proofs.Testing.{closed_stands}
use Rattle.segment_clear.specs.Above.{above-none}
use Rattle.std.specs.Prelude.{Option, Some}
use Rattle.segment_handed.specs.Rows.{row_blocks, Known}
use Rattle.segment_handed.specs.Tree.{Standing, TreeHeld}
use Rattle.segment_handed.specs.Handed.{SoundRows, KindUnshared, HandedOn}
use Rattle.segment_handed.proofs.Rows.{rows-many, rows-own, row_spans, row_reads}
use Rattle.segment_handed.proofs.Halves.{lives-own}

module _ (blocks nodes entries : List ℕ) (kind e n : ℕ) (bs : List Block) (rows : BlockRows blocks n bs)
    (index : ClosedTrees (lent blocks nodes entries) e bs) (low : kind < nodes_count) (sound : SoundRows blocks e n) where
  abbrev t : Tables
  t = lent blocks nodes entries

  abbrev own : List Block
  own = row_blocks blocks n kind

  abbrev tree : Tree
  tree = tree_at index.trees kind

  own_known : OwnRows blocks kind (length own) own
  own_known = rw (rows-many blocks n kind) (rows-own blocks n kind)

  stood : TreeStands t n kind (column nodes 0 kind) 0 e 0 0 tree
  stood =
      let many : n ≡ length bs = sym rows.many in
      let known : BlockRows blocks (length bs) bs = rw many at rows in
      rw many (closed_stands t e bs known index kind low)

  -- what the tables hold is ruled by the rows as blocks, whatever blocks they were said to hold
  ruled : RuledAt t own kind (column nodes 0 kind) 0 e (λ k. false) tree
  ruled = stands_ruled t own kind own_known (column nodes 0 kind) 0 e 0 0 (λ k. false) (λ k h. refl) tree (rw (rows-many blocks n kind) stood)

  rule : Rule23 e own tree
  rule = record { numbers = ruled.numbers; places = ruled.places; order = ruled.order; sums = λ k h. sums k (omega (arith, rows-many blocks n kind)) }
    where
      -- their lives are those that the widths were said to add up to
      sums : (k : ℕ) → k < n → widths k 0 e tree ≡ life (block_at own k)
      sums k h =
          let said = own-rows blocks kind n bs rows in
          let is : widths k 0 e tree ≡ life (block_at (only_kind kind bs) k) =
          ((rule23_decides e (only_kind kind bs) tree).yes (index.each kind low).rule_23).sums k (omega (arith, said.many)) in
          omega (arith, is, said.created k h, said.destroyed k h, (rows-own blocks n kind).created k h, (rows-own blocks n kind).destroyed k h)

  rule_23 : rule23 e own tree ≡ true
  rule_23 = decided (rule23 e own tree) (rule23_decides e own tree) rule

  rule_21 : halved 0 e tree ≡ true
  rule_21 = (index.each kind low).rule_21

  -- a block has no longer life for a kind than it has
  own-ends : (k : ℕ) → own_destroyed blocks kind k ≤ destroyed_in blocks k
  own-ends k = go (eqb (owner_in blocks k) kind)
    where
      go : (u : Bool) → cond u (destroyed_in blocks k) 0 ≤ destroyed_in blocks k
      go true = omega arith
      go false = omega arith

  by_end : DestroyedBy e own
  by_end =
      all_of_at no_block own
      (λ i h. let below : i < n = omega (arith, rows-many blocks n kind) in omega (arith, (rows-own blocks n kind).destroyed i below, own-ends i, sound.by_end i below))

  none-empty : NoneEmpty own
  none-empty =
      all_of_at no_block own
      (λ i h.
      let below : i < n = omega (arith, rows-many blocks n kind) in
      let spans = row_spans blocks n kind i below in
      omega (arith, spans.from, spans.to, sound.filled.filled (suc i) (omega arith) (omega arith)))

  -- the way down to a tick meets blocks of the kind alone
  met_known : (tick k : ℕ) → tick < e → Mem k (path tick 0 e tree) → Known blocks n kind k
  met_known tick k h m = go (lt_or_le k n)
    where
      met : count k (path tick 0 e tree) ≡ cond (live tick (block_at own k)) 1 0
      met = path-met e own tree rule_21 rule_23 by_end tick k h

      alive : (u : Bool) → live tick (block_at own k) ≡ u → cond {A = ℕ} u 1 0 ≡ 1 → tick < (block_at own k).destroyed
      alive true q z = ltb-true tick (block_at own k).destroyed (and_right (leb (block_at own k).created tick) (ltb tick (block_at own k).destroyed) q)
      alive false q z = absurd (omega arith)

      once : count k (path tick 0 e tree) ≡ 1
      once = at_most (live tick (block_at own k)) met
        where
          at_most : (u : Bool) → count k (path tick 0 e tree) ≡ cond u 1 0 → count k (path tick 0 e tree) ≡ 1
          at_most true q = q
          at_most false q = absurd (omega (arith, mem_count m))

      go : (k < n) ⊎ (n ≤ k) → Known blocks n kind k
      go (inl below) = record {
        low = below;
        own = (lives-own blocks kind k (omega (arith, alive (live tick (block_at own k)) refl (sym met ∙ once), (rows-own blocks n kind).destroyed k below))).0;
      }
      go (inr past) =
          let none : count k (path tick 0 e tree) ≡ 0 = met ∙ rw (live-none tick k own (omega (arith, rows-many blocks n kind))) in
          absurd (omega (arith, mem_count m))

  whole : 0 < e → Standing blocks nodes entries n kind (root_at nodes kind e) tree
  whole some = record {
    fits = sound.fits;
    stands = record {
      stood = index.closed.stands kind low;
      ascend = sorted_agree (key_in own) (first_cell_in blocks) tree
          (all_map (λ j h. (rows-own blocks n kind).first j (omega (arith, rows-many blocks n kind))) ((numbered_decides (length own) tree).yes rule.numbers)) rule.order;
      wide = λ _. some;
    };
    known = λ tick k from below m. met_known tick k below m;
  }

  module _ {born slots : Slots} {rest : ℕ} {left : Option ℕ} (held : TreeHeld blocks nodes entries (root_at nodes kind e) (root_at nodes kind e) (root_at nodes kind e) born born slots left)
      (all : left ≡ Some rest) where
    own_apart : 0 < e → Apart own
    own_apart some =
        right_law.apart e own tree (record { rule_21 = rule_21; rule_23 = rule_23; by_end = by_end }) none-empty
        (slots_of born) (slots_of born) (slots_of slots)
        (held.shown rest all n kind tree tree [] (record { all = whole some; inside = omega arith; nodes_above = above-none; known = λ j m. absurd (not_mem_nil m) }) (whole some)
        (record { from = 0; to = 0; stood = stood; wide = λ _. some }))

    -- a place that two blocks of the kind hold is a cell that both hold
    row_holds : (k tick p : ℕ) → k < n → owner_in blocks k ≡ kind → HoldsAt blocks tick p (suc k) → Holds tick (p - line_of kind) (block_at own k)
    row_holds k tick p below is h =
        let reads = row_reads blocks n kind k (record { low = below; own = is }) in
        let line = ap line_of is in
        record {
          born = omega (arith, reads.born, h.born);
          alive = omega (arith, reads.gone, h.alive);
          has = record { from = omega (arith, reads.spans.from, h.from); below = omega (arith, reads.spans.to, h.from, h.below) };
        }

    -- without a tick there is no life
    kind_unshared : KindUnshared blocks kind n
    kind_unshared = record { apart = pair }
      where
        earlier : (j k : ℕ) → j < k → k < n → owner_in blocks j ≡ kind → owner_in blocks k ≡ kind → (tick p : ℕ) → HoldsAt blocks tick p (suc j) → HoldsAt blocks tick p (suc k) → ⊥
        earlier j k h below a b tick p x y =
            pairs_at no_block (own_apart (omega (arith, x.alive, sound.by_end j (omega arith)))) j k h (rw (rows-many blocks n kind) below) tick (p - line_of kind)
            (row_holds j tick p (omega arith) a x) (row_holds k tick p below b y)

        pair : (j k : ℕ) → 0 < j → j ≤ n → 0 < k → k ≤ n → (j ≡ k → ⊥) → owner_at blocks j ≡ kind → owner_at blocks k ≡ kind → Clash blocks j k → ⊥
        pair zero k a b c d ne x y clash = omega arith
        pair (suc j) zero a b c d ne x y clash = omega arith
        pair (suc j) (suc k) a b c d ne x y clash =
            elim (lt_or_le j k) [
              | inl h ↦ earlier j k h (omega arith) x y clash.tick clash.cell clash.one clash.other
              | inr h ↦ earlier k j (strict h) (omega arith) y x clash.tick clash.cell clash.other clash.one
            ]
          where
            strict : k ≤ j → k < j
            strict h = elim (eq_or_ne j k) [ inl q ↦ absurd (ne (ap suc q)) | inr q ↦ omega arith ]

-- ── a walk that came to its end ──

pub handed_told : {blocks nodes entries : List ℕ} {kind e : ℕ} {root : Node} {born slots : Slots} {rest : ℕ} {left : Option ℕ} → root ≡ root_at nodes kind e
    → TreeHeld blocks nodes entries root root root born born slots left → left ≡ Some rest → HandedOn (lent blocks nodes entries) kind e
handed_told {blocks} {nodes} {entries} {kind} {e} is held all = record {
  shown = λ n bs rows index low sound. kind_unshared blocks nodes entries kind e n bs rows index low sound (rw is at held) all;
}
