use Rattle.index_read.proofs.Finding.{finding, find_25}
use Rattle.index_read.proofs.find_closed.Goals as goal

pub returns-then-not-has : goal.returns-then-not-has
returns-then-not-has c = find_25 c.kinds.ensures c.has.ensures c.if-not-has.true

pub returns-then-tree-tick : goal.returns-then-tree-tick
returns-then-tree-tick c = search finding

pub returns-then-end-start : goal.returns-then-end-start
returns-then-end-start c = search finding

pub returns-in-Some : goal.returns-in-Some
returns-in-Some c = search finding

pub returns-in-None : goal.returns-in-None
returns-in-None c = search finding
