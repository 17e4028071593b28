-- The tests of rules 20 to 22 decide what document 01 says, and a tree that is written keeps rule 21. Assumes nothing.
use mathlib.Core.Path.{◌≡◌}
use mathlib.Core.Bool.{true, ◌&&◌}
use mathlib.Core.List.{List, map}
use Prim.Native.Nat.{ℕ, ◌<◌, ◌≤◌, ◌^◌, ◌+◌, ◌-◌}
use lib.ListN.{length}
use Rattle.lists.specs.Lists.{All, sum_of}
use Rattle.lists.specs.Tests.{Decides}
use Rattle.lists.proofs.Numbers.{decides_iff, decides_and, decides_leb, decides_ltb, decides_itself}
use Rattle.history.specs.Words.{Block, first_cell, size}
use Rattle.history.specs.Tree.{node_count, entry_count}
use Rattle.history.specs.File.{tree_from, rule20, rule21, rule22, Nodes, end_of, File, placed_in}
use Rattle.history.specs.Rules.{halved, filled, lived}
use Rattle.history.specs.Lent.{Lent, block_rows, node_rows, entry_rows}
use Rattle.history.proofs.RulesLaws.{filled_decides, lived_decides, every_decides}

-- ── 20 ──

-- blocks, nodes, entries and bytes are within the tables
pub record Rule20 (n : Lent) (f : File) : Type 0 where
  pub blocks : length f.blocks ≤ block_rows n
  pub nodes : node_count (tree_from f.nodes) ≤ node_rows n
  pub entries : entry_count (tree_from f.nodes) ≤ entry_rows n
  pub bytes : sum_of (map (λ b. size b.stretch) f.blocks) ≤ n.store

pub rule20_decides : (n : Lent) (f : File) → Decides (rule20 n f) (Rule20 n f)
unfolding rule20
rule20_decides n f =
    decides_iff (rule20 n f)
    (λ z. record { blocks = z.0; nodes = z.1.0; entries = z.1.1.0; bytes = z.1.1.1 })
    (λ r. (r.blocks, (r.nodes, (r.entries, r.bytes))))
    (decides_and _ _ (decides_leb _ _) (decides_and _ _ (decides_leb _ _) (decides_and _ _ (decides_leb _ _) (decides_leb _ _))))

-- ── 21 ──

-- a root from 0 to E, E from 1 to 2^63, halves and mids as they should be
pub record Rule21 (t : Nodes) : Type 0 where
  pub some_tick : 0 < end_of t
  pub end_most : end_of t ≤ 2 ^ 63
  pub places : placed_in 0 (end_of t) t ≡ true
  pub halves : halved 0 (end_of t) (tree_from t) ≡ true

pub rule21_decides : (t : Nodes) → Decides (rule21 t) (Rule21 t)
unfolding rule21
rule21_decides t =
    decides_iff (rule21 t)
    (λ z. record { some_tick = z.0.0; end_most = z.0.1; places = z.1.0; halves = z.1.1 })
    (λ r. ((r.some_tick, r.end_most), (r.places, r.halves)))
    (decides_and _ _ (decides_and _ _ (decides_ltb _ _) (decides_leb _ _)) (decides_and _ _ (decides_itself _) (decides_itself _)))

-- ── 22 ──

-- length above 0, no end above 2^64 − 1, created < destroyed ≤ E
pub record LivingBlock (end : ℕ) (b : Block) : Type 0 where
  pub some_cell : 0 < size b.stretch
  pub no_wrap : first_cell b + size b.stretch ≤ 2 ^ 64 - 1
  pub lives : b.created < b.destroyed
  pub by_end : b.destroyed ≤ end

-- some block, and each living
pub record Rule22 (end : ℕ) (bs : List Block) : Type 0 where
  pub some_block : 0 < length bs
  pub blocks : All (LivingBlock end) bs

living_decides : (end : ℕ) (b : Block) → Decides (filled b && lived end b) (LivingBlock end b)
living_decides end b =
    decides_iff (filled b && lived end b)
    (λ z. record { some_cell = z.0.0; no_wrap = z.0.1; lives = z.1.0; by_end = z.1.1 })
    (λ r. ((r.some_cell, r.no_wrap), (r.lives, r.by_end)))
    (decides_and (filled b) (lived end b) (filled_decides b) (lived_decides end b))

pub rule22_decides : (end : ℕ) (bs : List Block) → Decides (rule22 end bs) (Rule22 end bs)
unfolding rule22
rule22_decides end bs =
    decides_iff (rule22 end bs) (λ z. record { some_block = z.0; blocks = z.1 }) (λ r. (r.some_block, r.blocks))
    (decides_and _ _ (decides_ltb 0 (length bs)) (every_decides (λ b. filled b && lived end b) (living_decides end) bs))
