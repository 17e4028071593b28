use native.Mathlib.Omega.{arith}
use mathlib.Core.Path.{refl}
use Rattle.fields.proofs.Writing.{eight_long, written_more, written_past, written_all}
use Rattle.fields.proofs.write.put_number.Goals as goal
use Rattle.fields.proofs.write.put_number.Goals.{then-at-i, else-at-i}

pub loop-i-preserved : goal.loop-i-preserved
loop-i-preserved c =
    let long = eight_long c.args.value c.to_le_bytes-bytes.ensures in
    elim c.if-at-i.branch [
      | then-at-i w ↦ rw w.out-is (written_more c.loop-i.invariant (omega (arith, long, c.loop-i-test.true)) refl)
      | else-at-i w ↦ rw w.out-is (written_past c.loop-i.invariant (omega (arith, long, c.loop-i-test.true)) w.if-at-i.false)
    ]

pub returns-after-loop-i : goal.returns-after-loop-i
returns-after-loop-i c =
    let long = eight_long c.args.value c.to_le_bytes-bytes.ensures in
    written_all c.args.value c.loop-i.invariant (omega (arith, long, c.loop-i-test.false)) c.to_le_bytes-bytes.ensures
