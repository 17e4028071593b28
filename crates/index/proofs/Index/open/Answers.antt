-- `index::Index::open` meets its contract: each return is a step of `opening`, or opens. Assumes nothing.
use native.Mathlib.Omega.{arith}
use Rattle.index.proofs.Opens.{opening, open_done}
use Rattle.index.proofs.Index.open.Goals as goal

pub returns-then-end_tick-eq0 : goal.returns-then-end_tick-eq0
returns-then-end_tick-eq0 c = search opening

pub returns-then-end_tick-gt-MAX_END_TICK : goal.returns-then-end_tick-gt-MAX_END_TICK
returns-then-end_tick-gt-MAX_END_TICK c = search opening

pub returns-then-mask-eq0 : goal.returns-then-mask-eq0
returns-then-mask-eq0 c = search opening

pub returns : goal.returns
returns c =
    open_done _ _ _ c.set_kinds.ensures c.set_end.ensures c.set_state.ensures c.zero-2.ensures c.zero.ensures c.zero-3.ensures
    c.zero-4.ensures c.mask_of-mask.ensures c.if-mask-eq0.false (omega arith) (omega arith)
