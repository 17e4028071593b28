-- Each turn asks one query.
use Rattle.std.proofs.Common.{rules}
use Rattle.find_all.proofs.Asking.{turn_first, turn_query, turn_room, turn_inside, turn_end, turn_on}
use Rattle.find_all.proofs.find_all.Goals as goal

pub loop-i-init : goal.loop-i-init
loop-i-init c = search (turn_first, rules)

pub find_one-used-requires : goal.find_one-used-requires
find_one-used-requires c =
    record { i_in_bounds = turn_query c.loop-i.invariant c.loop-i-test.true; i_in_bounds_2 = turn_room c.loop-i.invariant c.loop-i-test.true; used_in_bounds = turn_inside c.loop-i.invariant }

pub loop-i-preserved : goal.loop-i-preserved
loop-i-preserved c = turn_on c.loop-i.invariant c.loop-i-test.true c.find_one-used.auto.numbers c.find_one-used.ensures

pub returns : goal.returns
returns c = turn_end c.loop-i.invariant c.loop-i-test.false
