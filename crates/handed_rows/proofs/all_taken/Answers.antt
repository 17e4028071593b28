-- `handed_rows::all_taken`: what is said of each row.
use mathlib.Core.Path.{refl}
use Prim.Native.Nat.{◌-◌}
use borrow.Author.Rules.{rules}
use borrow.Author.Tests.{tests}
use Rattle.std.specs.Prelude.{⊤}
use Rattle.std.proofs.lemmas.Iterator.{cases_from_all, YieldsList-from_range}
use Rattle.ends_apart.proofs.Turning.{each_below}
use Rattle.handed_rows.proofs.Tallying.{RowTaken, row_taken, rows_taken}
use Rattle.handed_rows.proofs.all_taken.Goals as goal

pub returns : goal.returns
returns c =
    rows_taken
    (each_below _ _
    (cases_from_all _ _ _ (RowTaken c.args.blocks.now) (λ _. ⊤) c.all.ensures.ran (YieldsList-from_range 0 c.args.n (c.args.n - 0) refl refl)
    (λ x q k. search (rules, tests, row_taken)) (λ x q k. tt)))
