-- What find answers: how many it lists and how many nodes it visits, none where the answer is too small; and what it leaves in the answer.
-- Definitions alone.
use Rattle.std.specs.Prelude.{◌≡◌, cond, Option, Some, None, List, ℕ, length, leb}
use Rattle.std.proofs.lemmas.List.Edits.{sets}
use Rattle.history.specs.Tree.{Tree}
use Rattle.history.specs.Find.{path, visited, window}
use Rattle.segment_table.specs.Closed.{first_cell_in}
use Rattle.segment_find.specs.declared.Found.{Found}
use Rattle.segment_walk.specs.Walking.{Rooted}

-- The list goes into the answer from place 0 on, or is too long for it: then nothing changes.
pub record Fills (list : List ℕ) (nodes : ℕ) (answer answer' : List ℕ) (r : Option Found) : Type 0 where
  pub result : r ≡ cond (leb (length list) (length answer)) (Some (record { count = length list; visited = nodes })) None
  pub left : answer' ≡ cond (leb (length list) (length answer)) (sets answer 0 list) answer

-- `find` in the tree of a kind whose end tick is `end`: it lists what the model lists, and visits as many nodes.
pub record Finds (nodes entries : List ℕ) (kind end tick start stop : ℕ) (answer answer' : List ℕ) (r : Option Found) : Type 0 where
  pub lists : (blocks : List ℕ) (tree : Tree) → Rooted blocks nodes entries kind end tree
      → Fills (window (first_cell_in blocks) start stop (path tick 0 end tree)) (visited tick 0 end tree) answer answer' r
