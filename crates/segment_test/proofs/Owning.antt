-- The blocks as one kind sees them: their rows, their lives, and whether there are any. Assumes nothing.
use mathlib.Core.Path.{◌≡◌, refl, sym, ◌∙◌, ap}
use mathlib.Core.Bool.{Bool, true, false, cond}
use mathlib.Core.List.{List}
use Prim.Native.Nat.{ℕ, ◌<◌}
use lib.ListN.{length}
use borrow.Author.Tests.{ne_eqb}
use Rattle.history.specs.Words.{Block, life, of_kind, own_life, only_kind}
use Rattle.history.specs.Tree.{block_at}
use Rattle.history.proofs.ByKind.{own_same, own_dead, only_length, only_at, only_key}
use Rattle.tables.specs.Columns.{nodes_count}
use Rattle.segment_test.specs.Total.{sum_to}
use Rattle.segment_test.specs.Test.{BlockRows}
use Rattle.segment_test.specs.Parts.{OwnRows}
use Rattle.segment_test.proofs.Sums.{sum_same, sum_only, sum_swap}

-- ── rows ──

own_created_lem : (kind : ℕ) (b : Block) → (own_life kind b).created ≡ cond (of_kind kind b) b.created 0
unfolding own_life
own_created_lem kind b = go (of_kind kind b)
  where
    go : (u : Bool) → (cond {A = Block} u b (record { kind = b.kind; stretch = b.stretch; created = 0; destroyed = 0 })).created ≡ cond u b.created 0
    go true = refl
    go false = refl

own_destroyed_lem : (kind : ℕ) (b : Block) → (own_life kind b).destroyed ≡ cond (of_kind kind b) b.destroyed 0
unfolding own_life
own_destroyed_lem kind b = go (of_kind kind b)
  where
    go : (u : Bool) → (cond {A = Block} u b (record { kind = b.kind; stretch = b.stretch; created = 0; destroyed = 0 })).destroyed ≡ cond u b.destroyed 0
    go true = refl
    go false = refl

pub own-rows : (blocks : List ℕ) (kind n : ℕ) (bs : List Block) → BlockRows blocks n bs → OwnRows blocks kind n (only_kind kind bs)
own-rows blocks kind n bs r = record {
  many = only_length kind bs ∙ r.many;
  first = λ k h. ap (λ (f : ℕ → ℕ). f k) (only_key kind bs) ∙ r.first k h;
  created = λ k h. ap (λ (b : Block). b.created) (only_at kind bs k) ∙ own_created_lem kind (block_at bs k) ∙ rw (r.kinds k h, r.created k h) refl;
  destroyed = λ k h. ap (λ (b : Block). b.destroyed) (only_at kind bs k) ∙ own_destroyed_lem kind (block_at bs k) ∙ rw (r.kinds k h, r.destroyed k h) refl;
}

-- ── lives ──

-- each block has its life for its own kind, and none for another
kind_lives : (b : Block) → b.kind < nodes_count → sum_to (λ kind. life (own_life kind b)) nodes_count ≡ life b
kind_lives b low =
    sum_only (λ kind. life (own_life kind b)) b.kind nodes_count low (λ k h n. own_dead k b (ne_eqb b.kind k (λ q. n (sym q))))
    ∙ ap life (own_same b.kind b refl)

-- so the lives of all kinds add up to those of all blocks
pub all_lives : (bs : List Block) → ((k : ℕ) → k < length bs → (block_at bs k).kind < nodes_count)
    → sum_to (λ kind. sum_to (λ k. life (block_at (only_kind kind bs) k)) (length bs)) nodes_count ≡ sum_to (λ k. life (block_at bs k)) (length bs)
all_lives bs low =
    sum_swap (λ kind k. life (block_at (only_kind kind bs) k)) (length bs) nodes_count
    ∙ sum_same (λ k. sum_to (λ kind. life (block_at (only_kind kind bs) k)) nodes_count) (λ k. life (block_at bs k)) (length bs)
    (λ k h. sum_same (λ kind. life (block_at (only_kind kind bs) k)) (λ kind. life (own_life kind (block_at bs k))) nodes_count (λ kind l. ap life (only_at kind bs k)) ∙ kind_lives (block_at bs k) (low k h))
