-- The block is destroyed at max, or not.
use Rattle.segment_handed.proofs.Holding.{block_held}
use Rattle.segment_handed.proofs.run.hold_block.Goals as goal
use Rattle.segment_handed.proofs.run.hold_block.Goals.{else-row-at-via-then-row-at+else-not-is_paid, else-row-at-via-else-row-at}

pub returns : goal.returns
returns c =
    elim c.else-row-at.branch [
      | else-row-at-via-then-row-at+else-not-is_paid w ↦ block_held c.new-own.ensures (λ z. rw w.if-not-is_paid.false at w.is_paid.ensures) c.count.ensures
      | else-row-at-via-else-row-at w ↦ block_held c.new-own.ensures (λ z. absurd (w.if-row-at.false z)) c.count.ensures
    ]
