-- `tables::copy_in`: nothing is copied past the end, and else as many bytes as there is room for.
use mathlib.Core.Path.{◌≡◌, sym, ◌∙◌}
use native.Mathlib.Omega.{arith}
use Rattle.lists.proofs.Stores.{sets-past}
use Rattle.tables.proofs.Past.{sets_more, copied}
use Rattle.tables.proofs.copy_in.Goals as goal

pub returns-then-store-at : goal.returns-then-store-at
returns-then-store-at c = sym (sets-past c.args.bytes.now c.args.store.now c.args.at (omega arith))

pub loop-i-preserved : goal.loop-i-preserved
loop-i-preserved c = rw c.loop-i.invariant (sets_more c.args.store.now c.args.bytes.now c.args.at c.loop-i.i (omega arith))

pub returns : goal.returns
returns c =
    let all : c.loop-i.i ≡ c.min-many.result = omega arith in
    c.loop-i.invariant ∙ copied c.args.store.now c.args.bytes.now c.args.at c.loop-i.i (omega arith)
