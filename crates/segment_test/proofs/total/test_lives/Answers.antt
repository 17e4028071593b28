use native.Mathlib.Omega.{arith}
use Rattle.segment_test.proofs.Totalling.{lives_none, lives_more, lives_unrooted, lives_all}
use Rattle.segment_test.proofs.total.test_lives.Goals as goal

pub loop-k-init : goal.loop-k-init
loop-k-init c = lives_none

pub loop-k-preserved : goal.loop-k-preserved
loop-k-preserved c =
    lives_more c.loop-k.invariant c.block-kind.ensures c.get.ensures c.if-get-eq0.false c.block-created.ensures c.block-destroyed.ensures (omega arith) (omega arith)

pub returns-then-get-eq0 : goal.returns-then-get-eq0
returns-then-get-eq0 c = lives_unrooted c.loop-k.invariant c.block-kind.ensures c.get.ensures c.loop-k-test.true c.if-get-eq0.true

pub returns : goal.returns
returns c = lives_all (omega arith) (omega arith) c.loop-k.invariant
