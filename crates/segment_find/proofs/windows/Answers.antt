-- `segment_find::windows` meets its contract: each turn and each return is one step of `windowing`. Assumes nothing.
use Rattle.segment_find.proofs.Windowing.{windows_empty, windows_more, windowing}
use Rattle.segment_find.proofs.windows.Goals as goal

pub loop-k-init : goal.loop-k-init
loop-k-init c = search windowing

pub returns-then-room-many : goal.returns-then-room-many
returns-then-room-many c = search windowing

pub loop-k-preserved-then-many-eq0 : goal.loop-k-preserved-then-many-eq0
loop-k-preserved-then-many-eq0 c =
    windows_empty c.loop-k.invariant c.requires c.loop-k-test.true c.in_window-rows.ensures c.if-many-eq0.true

pub loop-k-preserved : goal.loop-k-preserved
loop-k-preserved c =
    windows_more c.loop-k.invariant c.requires c.loop-k-test.true c.in_window-rows.ensures c.if-room-many.false

pub returns : goal.returns
returns c = search windowing
