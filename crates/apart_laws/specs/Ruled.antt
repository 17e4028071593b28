-- What a walk may rest on: a tree with rules 21 and 23, and blocks that are not empty. Definitions alone.
use Rattle.std.specs.Prelude.{◌≡◌, true, List, ℕ, ◌<◌}
use Rattle.lists.specs.Lists.{All}
use Rattle.history.specs.Words.{Block, size}
use Rattle.history.specs.Tree.{Tree}
use Rattle.history.specs.Rules.{halved, rule23}
use Rattle.apart_laws.specs.Ticks.{DestroyedBy}

-- the tree of blocks that are destroyed by the end tick: all of a sound closed index but rule 24
pub record Ruled (end : ℕ) (bs : List Block) (tree : Tree) : Type 0 where
  pub rule_21 : halved 0 end tree ≡ true
  pub rule_23 : rule23 end bs tree ≡ true
  pub by_end : DestroyedBy end bs

-- no block is empty
abbrev pub NoneEmpty : List Block → Type 0
NoneEmpty bs = All (λ (b : Block). 0 < size b.stretch) bs
