use mathlib.Core.Path.{refl}
use native.Mathlib.Omega.{arith}
use Rattle.segment_handed.proofs.Seeing.{seen_none, seen_more, seen_all}
use Rattle.segment_handed.proofs.seen.Goals as goal

pub loop-kind-init : goal.loop-kind-init
loop-kind-init c = rw c.used-rows.ensures seen_none

pub loop-kind-preserved : goal.loop-kind-preserved
loop-kind-preserved c = seen_more c.loop-kind.invariant c.hold_kind.ensures c.in-Some.is

pub returns : goal.returns
returns c = seen_all refl (omega arith) (omega arith) c.loop-kind.invariant
