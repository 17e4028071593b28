-- What is said of each block, in its turn or all together.
use mathlib.Core.Path.{refl}
use mathlib.Core.Bool.{Bool, true, false}
use Prim.Native.Nat.{ℕ}
use native.Mathlib.Omega.{arith}
use borrow.Author.Rules.{rules}
use borrow.Author.Tests.{tests}
use Rattle.std.proofs.lemmas.Iterator.{cases_from_all, YieldsList-from_range}
use Rattle.segment_apart.proofs.Deciding.{Told, clear_told}
use Rattle.segment_apart.proofs.birth.all_clear.Goals as goal

pub returns : goal.returns
returns c =
    let told : Bool → ℕ → Type 0 = Told c.args.claim.now.tables.blocks.now c.args.claim.now.tables.nodes.now c.args.claim.now.tables.entries.now c.args.claim.now.end in
    clear_told
    (cases_from_all _ _ _ (told true) (told false) c.all.ensures.ran (YieldsList-from_range 0 c.args.claim.now.n c.args.claim.now.n refl (omega arith))
    (λ x q k. search (rules, tests)) (λ x q k. search (rules, tests)))
