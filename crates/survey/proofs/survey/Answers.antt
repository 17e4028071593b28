-- a turn, by what it has learnt; and the four ways out
use native.Mathlib.Omega.{arith}
use Rattle.survey.proofs.Surveying.{survey_turn, survey_end, survey_none, survey_right, survey_stuck}
use Rattle.survey.proofs.survey.Goals as goal
use Rattle.survey.proofs.survey.Goals.{else-loop-seen-test, then-loop-seen-test+in_default, then-loop-seen-test+in-Some+then-not-starts_below, then-loop-seen-test+in-Some+else-not-starts_below+then-next-seen}

pub loop-seen-preserved : goal.loop-seen-preserved
loop-seen-preserved c =
    survey_turn c.saturating_add-end.ensures c.loop-seen.invariant (rw c.in-Some.is at c.search_next.ensures) c.read-piece.ensures c.end-next.ensures c.starts_below.ensures c.if-not-starts_below.false
    (omega arith) (omega arith) c.held_bytes.ensures c.rests_of-rests.ensures c.saturating_add.ensures c.saturating_add-in-loop-seen.ensures

pub returns : goal.returns
returns c =
    elim c.loop-seen-test.branch [
      | else-loop-seen-test w ↦ survey_end c.get-count.ensures c.loop-seen.invariant (omega arith) c.report.ensures
      | then-loop-seen-test+in_default w ↦ survey_none c.get-count.ensures c.loop-seen.invariant (rw w.in_default.is at w.search_next.ensures) c.report.ensures
      | then-loop-seen-test+in-Some+then-not-starts_below w ↦
          survey_right c.get-count.ensures c.loop-seen.invariant (rw w.in-Some.is at w.search_next.ensures) (rw c.saturating_add-end.ensures at w.starts_below.ensures) w.if-not-starts_below.true c.report.ensures
      | then-loop-seen-test+in-Some+else-not-starts_below+then-next-seen w ↦
          survey_stuck c.get-count.ensures c.loop-seen.invariant (rw w.in-Some.is at w.search_next.ensures) w.read-piece.ensures w.end-next.ensures (rw c.saturating_add-end.ensures at w.starts_below.ensures) w.if-not-starts_below.false w.if-next-seen.true
    ]
