-- An index of one kind: its tree among holes, and its blocks as each kind sees them. Assumes nothing.
use mathlib.Core.Path.{◌≡◌, refl, sym, ◌∙◌, ap}
use mathlib.Core.Logic.{inl, inr}
use mathlib.Core.Bool.{true, false}
use mathlib.Core.List.{List}
use Prim.Native.Nat.{ℕ, zero, suc, ◌≤◌, ◌<◌}
use native.Mathlib.Omega.{arith}
use lib.ListN.{length}
use borrow.Author.Tests.{ne_eqb, eqb-true}
use Rattle.lists.specs.Lists.{All, all_nil, all_cons}
use Rattle.lists.proofs.Numbers.{eq_or_ne, decided}
use Rattle.lists.proofs.Lists.{all_at}
use Rattle.history.specs.Words.{Block, line_of, only_kind}
use Rattle.history.specs.Tree.{Tree, hole, tree_at, no_block, block_at, widths}
use Rattle.history.specs.Rules.{is_hole, numbered, placed, sorted, rule23}
use Rattle.history.specs.Sound.{none_of}
use Rattle.history.specs.File.{trees_with, got, many, read_block, give, ◌>>=◌}
use Rattle.history.proofs.RulesLaws.{rule23_decides}
use Rattle.history.proofs.OneTree.{trees_own, trees_other}
use Rattle.history.proofs.ByKind.{own_dead, only_length, only_at, only_same, none_owned, one-owned}
use Rattle.history.proofs.FileYields.{got_value}
use Rattle.file_scan.proofs.Readers.{onward_got, refuse_got}
use Rattle.file_scan.proofs.RowReads.{block_parts}

-- ── its rules, kind by kind ──

module _ (kind e : ℕ) (tree : Tree) {bs : List Block} (all : All (λ (b : Block). b.kind ≡ kind) bs) (low : kind ≤ 4) where
  own_at : (k : ℕ) → k < length bs → (block_at bs k).kind ≡ kind
  own_at k h = all_at no_block all k h

  -- the kind has blocks and a root, no other has
  pub roots_one : 0 < length bs → is_hole tree ≡ false → (k : ℕ) → k ≤ 4 → is_hole (tree_at (trees_with kind tree) k) ≡ none_of k bs
  roots_one some root k small =
      elim (eq_or_ne kind k) [
        | inl q ↦ rw (← q) (ap is_hole (trees_own kind tree low) ∙ root ∙ sym (one-owned kind bs 0 some (own_at 0 some)))
        | inr n ↦ ap is_hole (trees_other kind tree k small n) ∙ sym (none_owned k bs (λ j h q. n (sym (own_at j h) ∙ q)))
      ]

  -- for another kind no block has a life, and no tree has an entry
  rule_other : (k : ℕ) → (kind ≡ k → ⊥) → rule23 e (only_kind k bs) hole ≡ true
  unfolding numbered placed sorted widths
  rule_other k n =
      decided (rule23 e (only_kind k bs) hole) (rule23_decides e (only_kind k bs) hole)
      (record {
        numbers = refl;
        places = refl;
        order = refl;
        sums = λ j h.
            sym (rw (only_at k bs j) (own_dead k (block_at bs j) (ne_eqb (block_at bs j).kind k (λ q. n (sym (own_at j (rw (only_length k bs) at h)) ∙ q)))));
      })

  pub rules_one : rule23 e bs tree ≡ true → (k : ℕ) → k ≤ 4 → rule23 e (only_kind k bs) (tree_at (trees_with kind tree) k) ≡ true
  rules_one rule k small =
      elim (eq_or_ne kind k) [
        | inl q ↦ rw (← q) (rw (trees_own kind tree low, only_same kind all) rule)
        | inr n ↦ rw (trees_other kind tree k small n) (rule_other k n)
      ]

  pub one_rules : ((k : ℕ) → k ≤ 4 → rule23 e (only_kind k bs) (tree_at (trees_with kind tree) k) ≡ true) → rule23 e bs tree ≡ true
  one_rules each = rw (trees_own kind tree low, only_same kind all) at (each kind low)

-- ── its blocks ──

-- a block that was read is of the file's kind, on its line
pub record ReadAs (kind : ℕ) (b : Block) : Type 0 where
  pub own : b.kind ≡ kind
  pub line : line_of b.kind ≤ b.stretch.first

pub read_lined : {kind : ℕ} (b : Block) → ReadAs kind b → line_of b.kind ≤ b.stretch.first
read_lined b r = r.line

block_read : (kind : ℕ) (file : List ℕ) (at : ℕ) {b : Block} {n : ℕ} → read_block kind file at ≡ got b n → ReadAs kind b
block_read kind file at {b} {n} e =
    onward_got _ _ (sym (block_parts kind file at) ∙ e) λ own p e₁ r₁.
    refuse_got 18 _ _ _ _ r₁ λ t r₂.
    onward_got _ _ r₂ λ q p₂ e₂ r₃.
    onward_got _ _ r₃ λ bytes p₃ e₃ r₄.
    rw (← (got_value r₄)) (record { own = eqb-true own kind t; line = omega arith })

pub blocks_read : (kind n : ℕ) (file : List ℕ) (at : ℕ) {bs : List Block} {next : ℕ} → many (read_block kind) n file at ≡ got bs next → All (ReadAs kind) bs
unfolding many ◌>>=◌ give
blocks_read kind zero file at g = rw (← (got_value g)) all_nil
blocks_read kind (suc n) file at g =
    onward_got _ _ g λ y m e₁ r₁.
    onward_got _ _ r₁ λ ys m₂ e₂ r₂.
    rw (← (got_value r₂)) (all_cons (block_read kind file at e₁) (blocks_read kind n file m e₂))
