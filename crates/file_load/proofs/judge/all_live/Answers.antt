-- Each turn tests one block.
use Rattle.file_load.proofs.Judging.{live_start, live-not, live_turn, live_all}
use Rattle.file_load.proofs.judge.all_live.Goals as goal

pub loop-k-init : goal.loop-k-init
loop-k-init c = live_start c.args.blocks.now c.args.n c.args.end

pub returns-then-not-lives_at : goal.returns-then-not-lives_at
returns-then-not-lives_at c = live-not _ _ _ c.loop-k.invariant c.if-not-lives_at.ensures c.loop-k-test.true

pub loop-k-preserved : goal.loop-k-preserved
loop-k-preserved c = live_turn _ c.args.n _ c.loop-k.invariant c.if-not-lives_at.ensures

pub returns : goal.returns
returns c = live_all _ _ _ c.loop-k.invariant c.loop-k-test.false
