-- Each return is a step of `proofs/Building`.
use Rattle.std.proofs.lemmas.Result.{err_from_is_err_and}
use Rattle.file_load.proofs.Building.{build_halves, build_judged}
use Rattle.file_load.proofs.build.Goals as goal

pub returns-in_err-end : goal.returns-in_err-end
returns-in_err-end c = let p = err_from_is_err_and c.from_residual.result c.from_residual.ensures.1 in rw (p.1, p.2, ← c.from-kind.ensures) (build_halves _ _ _ _ _ _ _ c.fill_blocks.ensures c.fill_nodes.ensures c.in_err-end.ensures.value)

pub returns : goal.returns
returns c = rw (← c.from-kind.ensures) (build_judged _ _ _ _ _ _ _ c.fill_blocks.ensures c.fill_nodes.ensures c.in_ok-end.ensures.ok_part c.put_head.ensures c.judge.ensures)
