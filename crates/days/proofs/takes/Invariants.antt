-- `days::takes`: the pairs that are left decide.
use Rattle.std.specs.Prelude.{◌≡◌}
use Rattle.std.specs.Slice.Iter.{chunks_rest, chunks_size}
use Rattle.days.proofs.Taking.{TakesRest}
use Rattle.days.proofs.takes.Given as goal

abbrev pub invariant-loop-pair : goal.invariant-loop-pair
invariant-loop-pair l =
    (goal.iterator-loop-pair).can_next l.pair-iterator ×
    (goal.iterator-loop-pair).is_finite l.pair-iterator ×
    (chunks_size l.pair-iterator ≡ 2) ×
    TakesRest l.list (chunks_rest l.pair-iterator) l.before
