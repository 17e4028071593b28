-- Each return is one step of the judgement.
use borrow.Author.Tests.{not-true, not-false}
use Rattle.file_load.proofs.Judging.{judge_blocks, judge_entries, judge_shared, judge_none}
use Rattle.file_load.proofs.judge.judge.Goals as goal

pub returns-then-not-all_live : goal.returns-then-not-all_live
returns-then-not-all_live c = judge_blocks _ _ _ c.all_live.ensures c.if-not-all_live.true

pub returns-then-not-found : goal.returns-then-not-found
returns-then-not-found c = judge_entries _ _ _ c.all_live.ensures c.if-not-all_live.false c.test-found.ensures.trees (not-true _ c.if-not-found.true)

pub returns-then-not-found-2 : goal.returns-then-not-found-2
returns-then-not-found-2 c = judge_shared _ _ _ c.all_live.ensures c.if-not-all_live.false c.test-found.ensures.trees (not-false _ c.if-not-found.false) c.test-found.ensures.apart (not-true _ c.if-not-found-2.true)

pub returns : goal.returns
returns c = judge_none _ _ _ c.all_live.ensures c.if-not-all_live.false c.test-found.ensures.trees (not-false _ c.if-not-found.false) c.test-found.ensures.apart (not-false _ c.if-not-found-2.false)
