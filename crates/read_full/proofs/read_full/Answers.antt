use Rattle.std.proofs.Common.{rules}
use Rattle.read_full.proofs.Reading.{taken_on}
use Rattle.read_full.proofs.read_full.Goals as goal

pub loop-done-preserved : goal.loop-done-preserved
loop-done-preserved g c = record {
  inside = search rules;
  taken = taken_on _ _ _ _ _ _ _ c.loop-done.invariant.inside c.in_ok-got.ensures.bound.0 c.loop-done.invariant.taken c.in_ok-got.ensures.bytes.0;
}
