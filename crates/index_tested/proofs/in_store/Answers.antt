-- `index_tested::in_store` meets its contract: each return is a step of `holding`. Assumes nothing.
use Rattle.index_tested.proofs.Reading.{holding}
use Rattle.index_tested.proofs.in_store.Goals as goal

pub returns-then-room-given : goal.returns-then-room-given
returns-then-room-given c = search holding

pub returns-then-room-given-2 : goal.returns-then-room-given-2
returns-then-room-given-2 c = search holding

pub returns : goal.returns
returns c = search holding
