-- `ends_apart::clear_back`: what is said of each row.
use mathlib.Core.Path.{refl}
use Rattle.std.specs.Prelude.{⊤}
use Prim.Native.Nat.{◌-◌}
use borrow.Author.Rules.{rules}
use borrow.Author.Tests.{tests}
use Rattle.std.proofs.lemmas.Iterator.{cases_from_all, YieldsList-from_range}
use Rattle.ends_apart.proofs.Turning.{RowClear, each_below, row_clear, rows_clear}
use Rattle.ends_apart.proofs.clear_back.Goals as goal

pub returns : goal.returns
returns c =
    rows_clear
    (each_below _ _
    (cases_from_all _ _ _ (RowClear c.args.blocks.now c.args.own) (λ _. ⊤) c.all.ensures.ran (YieldsList-from_range c.args.low c.args.k (c.args.k - c.args.low) refl refl)
    (λ x q k. search (rules, tests, row_clear)) (λ x q k. tt)))
