use mathlib.Core.Path.{refl}
use native.Mathlib.Omega.{arith}
use Rattle.segment_test.proofs.Walking.{walks_none, walks_more, nodes_wrong, nodes_rest}
use Rattle.segment_test.proofs.walk.test_nodes.Goals as goal

pub loop-kind-init : goal.loop-kind-init
loop-kind-init c = rw c.used-rest.ensures walks_none

pub loop-kind-preserved : goal.loop-kind-preserved
loop-kind-preserved c = walks_more c.loop-kind.invariant c.get-root.ensures (c.walk.ensures.stood _ c.in-Some.is)

pub returns-in_default : goal.returns-in_default
returns-in_default c = nodes_wrong refl c.loop-kind.invariant (omega arith) c.get-root.ensures c.walk.ensures c.in_default.is

pub returns : goal.returns
returns c = nodes_rest refl (omega arith) (omega arith) c.loop-kind.invariant
