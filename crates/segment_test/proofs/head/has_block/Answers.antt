-- What is said of each block.
use mathlib.Core.Path.{refl}
use native.Mathlib.Omega.{arith}
use borrow.Author.Rules.{rules}
use borrow.Author.Tests.{tests}
use Rattle.std.proofs.lemmas.Iterator.{cases_from_any, YieldsList-from_range}
use Rattle.segment_test.proofs.Heading.{Owns, OwnsNot, has_told}
use Rattle.segment_test.proofs.head.has_block.Goals as goal

pub returns : goal.returns
returns c =
    has_told
    (cases_from_any _ _ _ (Owns c.args.t.now.blocks.now c.args.kind) (OwnsNot c.args.t.now.blocks.now c.args.kind) c.any.ensures.ran
    (YieldsList-from_range 0 c.args.t.now.n c.args.t.now.n refl (omega arith)) (λ x q k. search (rules, tests)) (λ x q k. search (rules, tests)))
