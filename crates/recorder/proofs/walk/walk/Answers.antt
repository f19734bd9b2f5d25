-- `walk::walk`.
-- Assumes nothing.
use Rattle.recorder.proofs.WalkAnswers.{walk_refused, walk_given}
use Rattle.recorder.proofs.walk.walk.Goals as goal

pub returns-in_err-check : goal.returns-in_err-check
returns-in_err-check c = walk_refused _ _ _ _ _ _ _ _ c.from_residual.ensures.1 c.in_err-check.ensures

pub returns : goal.returns
returns c = walk_given _ _ _ _ _ _ c.in_ok-check.ensures c.judge.ensures
