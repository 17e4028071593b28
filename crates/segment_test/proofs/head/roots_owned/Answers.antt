-- What is said of each kind.
use mathlib.Core.Path.{refl}
use mathlib.Core.Bool.{true, false}
use native.Mathlib.Omega.{arith}
use borrow.Author.Rules.{rules}
use borrow.Author.Tests.{tests}
use Rattle.std.proofs.lemmas.Iterator.{cases_from_all, YieldsList-from_range}
use Rattle.tables.specs.Columns.{nodes_count}
use Rattle.segment_test.proofs.Heading.{Rooted, roots_told}
use Rattle.segment_test.proofs.head.roots_owned.Goals as goal

pub returns : goal.returns
returns c =
    let blocks = c.args.t.now.blocks.now in
    let nodes = c.args.t.now.nodes.now in
    roots_told
    (cases_from_all _ _ _ (Rooted blocks nodes c.args.t.now.n true) (Rooted blocks nodes c.args.t.now.n false) c.all.ensures.ran
    (YieldsList-from_range 0 nodes_count nodes_count refl (omega arith)) (λ x q k. search (rules, tests)) (λ x q k. search (rules, tests)))
