-- Each return of `operation_at` is a step of the reader.
use Rattle.call_lists.proofs.Reading.{item_no_tick, item_no_first, item_no_length, item_cut, item_whole}
use Rattle.call_lists.proofs.operation_at.Goals as goal

pub returns-in_err-tick : goal.returns-in_err-tick
returns-in_err-tick c = rw c.from_residual.ensures (item_no_tick c.in_err-tick.ensures.given)

pub returns-in_err-first : goal.returns-in_err-first
returns-in_err-first c = rw c.from_residual-in_err-first.ensures (item_no_first c.in_ok-tick.ensures.given c.in_err-first.ensures.given)

pub returns-in_err-length : goal.returns-in_err-length
returns-in_err-length c =
    rw c.from_residual-in_err-length.ensures (item_no_length c.in_ok-tick.ensures.given c.in_ok-first.ensures.given c.in_err-length.ensures.given)

pub returns-in_err-bytes : goal.returns-in_err-bytes
returns-in_err-bytes c =
    rw c.from_residual-in_err-bytes.ensures
    (item_cut c.in_ok-tick.ensures.given c.in_ok-first.ensures.given c.in_ok-length.ensures.given c.in_err-bytes.ensures.given)

pub returns : goal.returns
returns c = item_whole c.in_ok-tick.ensures.given c.in_ok-first.ensures.given c.in_ok-length.ensures.given c.in_ok-bytes.ensures.given
