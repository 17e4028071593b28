-- Each return is a step.
use Rattle.segment_test.proofs.Testing.{frame_unowned, frame_untiled, frame_rest}
use Rattle.segment_test.proofs.test_frame.Goals as goal

pub returns-then-not-roots_owned : goal.returns-then-not-roots_owned
returns-then-not-roots_owned c = frame_unowned c.roots_owned.ensures c.if-not-roots_owned.true

pub returns-then-not-test_runs : goal.returns-then-not-test_runs
returns-then-not-test_runs c = frame_untiled c.test_runs.ensures c.if-not-test_runs.true

pub returns : goal.returns
returns c =
    frame_rest c.roots_owned.ensures c.if-not-roots_owned.false c.test_runs.ensures c.if-not-test_runs.false
    c.entry_widths.ensures c.test_lives.ensures
